-- How a text splits into entries: the first one and the rest, and what the names that are skipped hold. Assumes nothing.
use Prim.Native.Nat.{ℕ, zero, suc, ◌+◌, ◌-◌, ◌≤◌, ◌<◌}
use mathlib.Core.Path.{◌≡◌, refl, sym, ap, ap₂, ◌∙◌, subst}
use mathlib.Core.Bool.{Bool, true, false, ◌||◌}
use mathlib.Core.Option.{Option, none, some}
use mathlib.Core.List.{List, [], ◌∷◌, ◌++◌}
use native.Mathlib.Omega.{arith}
use borrow.Author.Tests.{leb-true, le-leb, lt-ltb, le-ltb}
use lib.Dec.{leb}
use lib.ListN.{length, get_or, take, drop, take-append-drop, length-append}
use lib.Seq.{length-take-le, take-append_seam, drop-append_seam}
use Rattle.theory.specs.Names.{same, among, reserved, skipped}
use Rattle.theory.specs.NameText.{cut_entry, entries_up_to, names_in, lookup}

-- a text with a first entry is its length byte, its bytes and the rest
pub cut_splits : (text : List ℕ) (p : List ℕ × List ℕ) → cut_entry text ≡ some p → text ≡ length p.0 ∷ (p.0 ++ p.1)
unfolding cut_entry
cut_splits [] p e = cc
cut_splits (n ∷ text) p e = go (leb n (length text)) refl e
  where
    go : (b : Bool) → leb n (length text) ≡ b →
        ◌≡◌ {A = Option (List ℕ × List ℕ)} (elim b [ true ↦ some (take n text, drop n text) | false ↦ none ]) (some p) →
        (n ∷ text) ≡ length p.0 ∷ (p.0 ++ p.1)
    go false b e = cc
    go true b e =
        let q : ◌≡◌ {A = List ℕ × List ℕ} (take n text, drop n text) p = cc in
        subst (λ (p : List ℕ × List ℕ). (n ∷ text) ≡ length p.0 ∷ (p.0 ++ p.1)) q
        (ap₂ {C = List ℕ} (λ m t. m ∷ t) (sym (length-take-le n text (leb-true n (length text) b))) (sym (take-append-drop n text)))

-- and such a text has that first entry
pub cut_first : (x rest : List ℕ) → cut_entry (length x ∷ (x ++ rest)) ≡ some (x, rest)
unfolding cut_entry
cut_first x rest =
    let fits : length x ≤ length (x ++ rest) = omega (arith, length-append x rest) in
    ap {B = Option (List ℕ × List ℕ)}
    (λ (b : Bool). elim b [ true ↦ some (take (length x) (x ++ rest), drop (length x) (x ++ rest)) | false ↦ none ])
    (le-leb (length x) (length (x ++ rest)) fits)
    ∙ ap₂ {C = Option (List ℕ × List ℕ)} (λ u v. some (u, v)) (take-append_seam x rest) (drop-append_seam x rest)

-- the rest is shorter
pub cut_shorter : (text : List ℕ) (p : List ℕ × List ℕ) → cut_entry text ≡ some p → suc (length p.1) ≤ length text
cut_shorter text p e = omega (arith, ap length (cut_splits text p e), length-append p.0 p.1)

-- any room that a text fits in gives the same entries
entries_alike : (j k : ℕ) (text : List ℕ) → length text ≤ j → length text ≤ k → entries_up_to j text ≡ entries_up_to k text
unfolding entries_up_to cut_entry
entries_alike zero zero text h l = refl
entries_alike zero (suc k) [] h l = refl
entries_alike zero (suc k) (b ∷ bs) h l = absurd (omega arith)
entries_alike (suc j) zero [] h l = refl
entries_alike (suc j) zero (b ∷ bs) h l = absurd (omega arith)
entries_alike (suc j) (suc k) text h l = go (cut_entry text) refl (entries_alike j k)
  where
    go : (o : Option (List ℕ × List ℕ)) → cut_entry text ≡ o →
        ((rest : List ℕ) → length rest ≤ j → length rest ≤ k → entries_up_to j rest ≡ entries_up_to k rest) →
        ◌≡◌ {A = List (List ℕ)} (elim o [ none ↦ [] | some p ↦ p.0 ∷ entries_up_to j p.1 ])
        (elim o [ none ↦ [] | some p ↦ p.0 ∷ entries_up_to k p.1 ])
    go none e ih = refl
    go (some p) e ih =
        let shorter : suc (length p.1) ≤ length text = cut_shorter text p e in
        ap {B = List (List ℕ)} (λ r. p.0 ∷ r) (ih p.1 (omega arith) (omega arith))

-- the names of a text are its first entry's bytes and the names of the rest
pub names_next : (text : List ℕ) (p : List ℕ × List ℕ) → cut_entry text ≡ some p → names_in text ≡ p.0 ∷ names_in p.1
unfolding names_in entries_up_to
names_next [] p e = absurd (let z = cut_shorter [] p e in omega arith)
names_next (b ∷ bs) p e =
    let shorter : suc (length p.1) ≤ length (b ∷ bs) = cut_shorter (b ∷ bs) p e in
    ap {B = List (List ℕ)} (λ (o : Option (List ℕ × List ℕ)). elim o [ none ↦ [] | some q ↦ q.0 ∷ entries_up_to (length bs) q.1 ]) e
    ∙ ap {B = List (List ℕ)} (λ r. p.0 ∷ r) (entries_alike (length bs) (length p.1) p.1 (omega arith) (omega arith))

pub names_none : (text : List ℕ) → cut_entry text ≡ none → names_in text ≡ []
unfolding names_in entries_up_to
names_none [] e = refl
names_none (b ∷ bs) e =
    ap {B = List (List ℕ)} (λ (o : Option (List ℕ × List ℕ)). elim o [ none ↦ [] | some q ↦ q.0 ∷ entries_up_to (length bs) q.1 ]) e

-- each entry takes a byte
entries_few : (k : ℕ) (text : List ℕ) → length (entries_up_to k text) ≤ k
unfolding entries_up_to
entries_few zero text = omega arith
entries_few (suc k) text = go (cut_entry text) (entries_few k)
  where
    go : (o : Option (List ℕ × List ℕ)) → ((rest : List ℕ) → length (entries_up_to k rest) ≤ k) →
        length {A = List ℕ} (elim o [ none ↦ [] | some p ↦ p.0 ∷ entries_up_to k p.1 ]) ≤ suc k
    go none ih = omega arith
    go (some p) ih = omega (arith, ih p.1)

pub names_few : (text : List ℕ) → length (names_in text) ≤ length text
unfolding names_in
names_few text = entries_few (length text) text

pub skipped_few : (text : List ℕ) → length (skipped (names_in text)) ≤ length text + length reserved
unfolding skipped
skipped_few text = omega (arith, names_few text, length-append (names_in text) reserved)

-- what is skipped: a name, or a reserved word
among_skipped : (x : List ℕ) (names : List (List ℕ)) → among x (skipped names) ≡ (among x names || among x reserved)
unfolding among skipped
among_skipped x [] = refl
among_skipped x (y ∷ ys) = go (same x y) (among_skipped x ys)
  where
    go : (b : Bool) → among x (skipped ys) ≡ (among x ys || among x reserved) →
        (b || among x (skipped ys)) ≡ ((b || among x ys) || among x reserved)
    go true h = refl
    go false h = h

pub skipped_found : (x : List ℕ) (names : List (List ℕ)) → among x names ≡ true → among x (skipped names) ≡ true
skipped_found x names e = among_skipped x names ∙ ap (λ (b : Bool). b || among x reserved) e

pub skipped_free : (x : List ℕ) (names : List (List ℕ)) → among x names ≡ false → among x (skipped names) ≡ false
unfolding among
skipped_free x names e = among_skipped x names ∙ ap (λ (b : Bool). b || among x reserved) e

-- a number below 64 is looked up in the assumptions' text, any other in the generated one
module _ (assumed generated : List ℕ) (x : ℕ) where
  abbrev held : Bool → List ℕ
  held b = elim b [ true ↦ get_or (names_in assumed) x [] | false ↦ get_or (names_in generated) (x - 64) [] ]

  pub lookup_assumed : x < 64 → lookup assumed generated x ≡ get_or (names_in assumed) x []
  unfolding lookup
  lookup_assumed h = ap held (lt-ltb x 64 h)

  pub lookup_generated : 64 ≤ x → lookup assumed generated x ≡ get_or (names_in generated) (x - 64) []
  unfolding lookup
  lookup_generated h = ap held (le-ltb x 64 h)
