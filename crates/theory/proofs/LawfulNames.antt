-- A text that refusal 4 lets pass: it splits exactly into that many names, well spelled and distinct. Assumes nothing.
use Prim.Native.Nat.{ℕ, zero, suc, ◌≤◌, ◌<◌}
use mathlib.Core.Path.{◌≡◌, refl, sym, ap, ◌∙◌, subst}
use mathlib.Core.Bool.{Bool, true, false, ◌&&◌, ◌||◌, not, true≢false, false≢true}
use mathlib.Core.Option.{Option, none, some}
use mathlib.Core.List.{List, [], ◌∷◌, ◌++◌, append_assoc, append-nil}
use mathlib.Core.Logic.{◌⊎◌, ⊎_elim}
use native.Mathlib.Nat.{eq-or-lt_of_le}
use native.Mathlib.Omega.{arith}
use borrow.Author.Tests.{not-true}
use lib.ListN.{length, get_or, get_or-append}
use Rattle.theory.specs.Names.{same, among, skipped, Distinct}
use Rattle.theory.specs.NameText.{cut_entry, entries_up_to, names_in, well_spelled, lawful_after, bad_name_from, bad_name}
use Rattle.theory.proofs.Forms.{snoc_length, snoc_last}
use Rattle.theory.proofs.Spelling.{same_refl}
use Rattle.theory.proofs.Entries.{cut_first, cut_splits, names_next, skipped_found}

-- the text of some names, each after its length byte
unfoldable pub joined : List (List ℕ) → List ℕ
joined [] = []
joined (x ∷ xs) = length x ∷ (x ++ joined xs)

pub names_joined : (names : List (List ℕ)) → names_in (joined names) ≡ names
unfolding joined names_in entries_up_to
names_joined [] = refl
names_joined (x ∷ xs) =
    names_next (length x ∷ (x ++ joined xs)) (x, joined xs) (cut_first x (joined xs))
    ∙ ap {B = List (List ℕ)} (λ r. x ∷ r) (names_joined xs)

pub joined_snoc : (names : List (List ℕ)) (x : List ℕ) → joined (names ++ (x ∷ [])) ≡ joined names ++ (length x ∷ x)
unfolding joined
joined_snoc [] x = ap {B = List ℕ} (λ r. length x ∷ r) (append-nil x)
joined_snoc (y ∷ ys) x =
    ap {B = List ℕ} (λ r. length y ∷ (y ++ r)) (joined_snoc ys x)
    ∙ ap {B = List ℕ} (λ r. length y ∷ r) (sym (append_assoc y (joined ys) (length x ∷ x)))

-- what refusal 4 does with the next entry of a text
module _ (earlier : List (List ℕ)) (k : ℕ) (text : List ℕ) where
  abbrev lawful_then : List ℕ × List ℕ → Bool → Option ℕ
  lawful_then p b = elim b [ true ↦ bad_name_from (earlier ++ (p.0 ∷ [])) k p.1 | false ↦ some (length earlier) ]

  abbrev cut_then : Option (List ℕ × List ℕ) → Option ℕ
  cut_then o = elim o [
    | none ↦ some (length earlier)
    | some p ↦ elim (lawful_after earlier p.0) [
      | true ↦ bad_name_from (earlier ++ (p.0 ∷ [])) k p.1
      | false ↦ some (length earlier)
    ]
  ]

  pub bad_cut : cut_entry text ≡ none → bad_name_from earlier (suc k) text ≡ some (length earlier)
  unfolding bad_name_from
  bad_cut e = ap cut_then e

  pub bad_unlawful : (p : List ℕ × List ℕ) → cut_entry text ≡ some p → lawful_after earlier p.0 ≡ false →
      bad_name_from earlier (suc k) text ≡ some (length earlier)
  unfolding bad_name_from
  bad_unlawful p e l = ap cut_then e ∙ ap (lawful_then p) l

  pub bad_later : (p : List ℕ × List ℕ) → cut_entry text ≡ some p → lawful_after earlier p.0 ≡ true →
      bad_name_from earlier (suc k) text ≡ bad_name_from (earlier ++ (p.0 ∷ [])) k p.1
  unfolding bad_name_from
  bad_later p e l = ap cut_then e ∙ ap (lawful_then p) l

-- names that an assumption text may hold
pub record Lawful (names : List (List ℕ)) : Type 0 where
  pub spelled : (i : ℕ) → i < length names → well_spelled (get_or names i []) ≡ true
  pub distinct : Distinct names

-- a name is among the names
pub among_at : (names : List (List ℕ)) (i : ℕ) → i < length names → among (get_or names i []) names ≡ true
unfolding among
among_at [] i h = absurd (omega arith)
among_at (y ∷ ys) zero h = ap (λ (b : Bool). b || among y ys) (same_refl y)
among_at (y ∷ ys) (suc i) h = go (same (get_or ys i []) y) (among_at ys i (omega arith))
  where
    go : (b : Bool) → among (get_or ys i []) ys ≡ true → (b || among (get_or ys i []) ys) ≡ true
    go true e = refl
    go false e = e

-- a lawful name is well spelled and none of the earlier ones
lawful_spelled : (earlier : List (List ℕ)) (x : List ℕ) → lawful_after earlier x ≡ true → well_spelled x ≡ true
unfolding lawful_after
lawful_spelled earlier x e = go (well_spelled x) e
  where
    go : (b : Bool) → (b && not (among x (skipped earlier))) ≡ true → b ≡ true
    go true e = refl
    go false e = e

lawful_new : (earlier : List (List ℕ)) (x : List ℕ) → lawful_after earlier x ≡ true → among x earlier ≡ true → ⊥
unfolding lawful_after
lawful_new earlier x e f = go (well_spelled x) e
  where
    go : (b : Bool) → (b && not (among x (skipped earlier))) ≡ true → ⊥
    go true e = true≢false (sym (skipped_found x earlier f) ∙ not-true (among x (skipped earlier)) e)
    go false e = false≢true e

module _ (earlier : List (List ℕ)) (x : List ℕ) where
  -- what stands at a place of the names with one more
  at_old : (i : ℕ) → i < length earlier → get_or (earlier ++ (x ∷ [])) i [] ≡ get_or earlier i []
  at_old i h = get_or-append earlier (x ∷ []) [] i h

  at_new : (i : ℕ) → i ≡ length earlier → get_or (earlier ++ (x ∷ [])) i [] ≡ x
  at_new i e = ap (λ (k : ℕ). get_or (earlier ++ (x ∷ [])) k []) e ∙ snoc_last earlier x []

  last_or_old : (i : ℕ) → i < length (earlier ++ (x ∷ [])) → (i ≡ length earlier) ⊎ (i < length earlier)
  last_or_old i h =
      let least : i ≤ length earlier = omega (arith, snoc_length earlier x) in
      eq-or-lt_of_le least

  -- a lawful name after lawful ones keeps them lawful: it is new, so no two are equal
  lawful_more : Lawful earlier → lawful_after earlier x ≡ true → Lawful (earlier ++ (x ∷ []))
  lawful_more l e =
      record {
        spelled = λ i h. ⊎_elim (λ n. ap well_spelled (at_new i n) ∙ lawful_spelled earlier x e)
            (λ o. ap well_spelled (at_old i o) ∙ l.spelled i o) (last_or_old i h);
        distinct = λ i j hi hj p. ⊎_elim
            (λ ni. ⊎_elim (λ nj. ni ∙ sym nj) (λ oj. absurd (new j oj (sym (at_new i ni) ∙ p ∙ at_old j oj))) (last_or_old j hj))
            (λ oi. ⊎_elim (λ nj. absurd (new i oi (sym (at_new j nj) ∙ sym p ∙ at_old i oi)))
            (λ oj. l.distinct i j oi oj (sym (at_old i oi) ∙ p ∙ at_old j oj)) (last_or_old j hj))
            (last_or_old i hi);
      }
    where
      new : (i : ℕ) → i < length earlier → x ≡ get_or earlier i [] → ⊥
      new i h p = lawful_new earlier x e (ap (λ (y : List ℕ). among y earlier) p ∙ among_at earlier i h)

-- what passes refusal 4 after lawful names is so many names more, lawful together with them, and they are the whole text
pub record Splits (earlier : List (List ℕ)) (k : ℕ) (text : List ℕ) : Type 0 where
  pub count : length (names_in text) ≡ k
  pub lawful : Lawful (earlier ++ names_in text)
  pub whole : joined (names_in text) ≡ text

splits_next : (earlier : List (List ℕ)) (k : ℕ) (text : List ℕ) (p : List ℕ × List ℕ) → cut_entry text ≡ some p →
    Splits (earlier ++ (p.0 ∷ [])) k p.1 → Splits earlier (suc k) text
unfolding joined
splits_next earlier k text p c r =
    record {
      count = ap length (names_next text p c) ∙ ap suc r.count;
      lawful = subst Lawful
          (append_assoc earlier (p.0 ∷ []) (names_in p.1) ∙ ap (λ (names : List (List ℕ)). earlier ++ names) (sym (names_next text p c)))
          r.lawful;
      whole = ap joined (names_next text p c)
          ∙ ap {B = List ℕ} (λ t. length p.0 ∷ (p.0 ++ t)) r.whole
          ∙ sym (cut_splits text p c);
    }

pub good_from : (k : ℕ) (earlier : List (List ℕ)) (text : List ℕ) → Lawful earlier → bad_name_from earlier k text ≡ none →
    Splits earlier k text
unfolding bad_name_from names_in entries_up_to joined
good_from zero earlier [] l e = record { count = refl; lawful = subst Lawful (sym (append-nil earlier)) l; whole = refl }
good_from zero earlier (b ∷ bs) l e = absurd (let z : ◌≡◌ {A = ℕ} 0 1 = cc in omega arith)
good_from (suc k) earlier text l e = cut (cut_entry text) refl (good_from k)
  where
    never : {n : ℕ} → ◌≡◌ {A = Option ℕ} (some n) none → ⊥
    never e = let z : ◌≡◌ {A = ℕ} 0 1 = cc in omega arith

    judged : (p : List ℕ × List ℕ) → cut_entry text ≡ some p → (b : Bool) → lawful_after earlier p.0 ≡ b →
        ((names : List (List ℕ)) (rest : List ℕ) → Lawful names → bad_name_from names k rest ≡ none → Splits names k rest) →
        Splits earlier (suc k) text
    judged p c false f ih = absurd (never (sym (bad_unlawful earlier k text p c f) ∙ e))
    judged p c true f ih =
        splits_next earlier k text p c
        (ih (earlier ++ (p.0 ∷ [])) p.1 (lawful_more earlier p.0 l f) (sym (bad_later earlier k text p c f) ∙ e))

    cut : (o : Option (List ℕ × List ℕ)) → cut_entry text ≡ o →
        ((names : List (List ℕ)) (rest : List ℕ) → Lawful names → bad_name_from names k rest ≡ none → Splits names k rest) →
        Splits earlier (suc k) text
    cut none c ih = absurd (never (sym (bad_cut earlier k text c) ∙ e))
    cut (some p) c ih = judged p c (lawful_after earlier p.0) refl ih

no_names : Lawful []
no_names = record { spelled = λ i h. absurd (omega arith); distinct = λ i j hi hj p. absurd (omega arith) }

pub good_names : (count : ℕ) (text : List ℕ) → bad_name count text ≡ none → Splits [] count text
unfolding bad_name
good_names count text e = good_from count [] text no_names e
