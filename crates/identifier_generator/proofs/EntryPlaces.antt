-- Where an entry of a text stands: what a loop over the entries finds, and that the part there is the entry. Assumes nothing.
use Prim.Native.Nat.{ℕ, zero, suc, ◌+◌, ◌-◌, ◌≤◌, ◌<◌}
use mathlib.Core.Path.{◌≡◌, refl, sym, ap, ap₂, ◌∙◌, subst}
use mathlib.Core.Bool.{Bool, true, false}
use mathlib.Core.Option.{Option, none, some}
use mathlib.Core.List.{List, [], ◌∷◌, ◌++◌}
use native.Mathlib.Omega.{arith}
use borrow.Author.Tests.{lt-ltb, le-ltb}
use denote.Ref.{Bor}
use lib.ListN.{length, get_or, take, drop, length-append, length-drop, get_or-eq_default}
use lib.Seq.{take-append_seam, drop-append_seam, drop-drop}
use Rattle.std.proofs.Common.{Some, None}
use Rattle.std.proofs.Common as std
use Rattle.theory.specs.NameText.{cut_entry, names_in}
use Rattle.theory.proofs.Entries.{cut_splits, names_next, names_none, lookup_assumed, lookup_generated}
use Rattle.identifier_generator.specs.Entry.{entry_size, entry_from, start_of, EntryPart, NamePart}
use Rattle.identifier_generator.proofs.Cursor.{entry_at, size_at}

-- what a step of the loop does to the entry looked for
abbrev first : ℕ → Option (List ℕ × List ℕ) → std.Option (ℕ × ℕ)
first at o = elim o [ none ↦ None | some p ↦ Some (at + 1, at + suc (length p.0)) ]

abbrev later : ℕ → ℕ → Option (List ℕ × List ℕ) → std.Option (ℕ × ℕ)
later at k o = elim o [ none ↦ None | some p ↦ entry_from (at + suc (length p.0)) k p.1 ]

pub missing_at : (at k : ℕ) (text : List ℕ) → cut_entry text ≡ none → entry_from at k text ≡ None
unfolding entry_from
missing_at at zero text e = ap (first at) e
missing_at at (suc k) text e = ap (later at k) e

module _ (text : List ℕ) (at s : ℕ) (e : Some s ≡ entry_size (take (length text - at) (drop at text))) where
  pub held_at : entry_from at 0 (drop at text) ≡ Some (at + 1, at + s)
  unfolding entry_from
  held_at = ap (first at) (entry_at text at s e) ∙ ap (λ (n : ℕ). Some (at + 1, at + n)) (sym (size_at text at s e))

  pub later_at : (k : ℕ) → 0 < k → entry_from at k (drop at text) ≡ entry_from (at + s) (k - 1) (drop (at + s) text)
  unfolding entry_from
  later_at zero g = absurd (omega arith)
  later_at (suc k) g =
      let before : k ≡ suc k - 1 = omega arith in
      ap (later at k) (entry_at text at s e)
      ∙ ap₂ (λ (n j : ℕ). entry_from (at + n) j (drop (at + s) text)) (sym (size_at text at s e)) before

-- the entry's part is x; a missing one is empty
abbrev pub Right : List ℕ → List ℕ → std.Option (ℕ × ℕ) → Type 0
Right text x (Some p) = (p.0 ≤ p.1) × (p.1 ≤ length text) × (take (p.1 - p.0) (drop p.0 text) ≡ x)
Right text x None = x ≡ []

-- the first entry of what stands at a place, and where the next one stands
module _ (text : List ℕ) (at : ℕ) (p : List ℕ × List ℕ) (h : at ≤ length text) (c : cut_entry (drop at text) ≡ some p) where
  cut : drop at text ≡ length p.0 ∷ (p.0 ++ p.1)
  cut = cut_splits (drop at text) p c

  end_within : at + suc (length p.0) ≤ length text
  end_within = omega (arith, length-drop at text, ap length cut, length-append p.0 p.1)

  first_right : Right text p.0 (Some (at + 1, at + suc (length p.0)))
  first_right =
      let size : at + suc (length p.0) - (at + 1) ≡ length p.0 = omega arith in (
        omega arith,
        end_within,
        ap₂ take size (sym (drop-drop 1 at text) ∙ ap (drop 1) cut) ∙ take-append_seam p.0 p.1,
      )

  next_is : drop (at + suc (length p.0)) text ≡ p.1
  next_is = sym (drop-drop (suc (length p.0)) at text) ∙ ap (drop (suc (length p.0))) cut ∙ drop-append_seam p.0 p.1

-- no entry, no name
no_name : (text : List ℕ) (k : ℕ) → cut_entry text ≡ none → get_or (names_in text) k [] ≡ []
no_name text k e = ap (λ (names : List (List ℕ)). get_or names k []) (names_none text e) ∙ get_or-eq_default [] [] {n = k} (omega arith)

-- what is found is the name looked for
pub entry_right : (k at : ℕ) (text : List ℕ) → at ≤ length text →
    Right text (get_or (names_in (drop at text)) k []) (entry_from at k (drop at text))
unfolding entry_from
entry_right zero at text h = go (cut_entry (drop at text)) refl
  where
    go : (o : Option (List ℕ × List ℕ)) → cut_entry (drop at text) ≡ o → Right text (get_or (names_in (drop at text)) 0 []) (first at o)
    go none c = no_name (drop at text) 0 c
    go (some p) c =
        subst (λ (names : List (List ℕ)). Right text (get_or names 0 []) (Some (at + 1, at + suc (length p.0))))
        (sym (names_next (drop at text) p c)) (first_right text at p h c)
entry_right (suc k) at text h = go (cut_entry (drop at text)) refl (entry_right k)
  where
    go : (o : Option (List ℕ × List ℕ)) → cut_entry (drop at text) ≡ o →
        ((n : ℕ) (t : List ℕ) → n ≤ length t → Right t (get_or (names_in (drop n t)) k []) (entry_from n k (drop n t))) →
        Right text (get_or (names_in (drop at text)) (suc k) []) (later at k o)
    go none c ih = no_name (drop at text) (suc k) c
    go (some p) c ih =
        let end = at + suc (length p.0) in
        subst (λ (names : List (List ℕ)). Right text (get_or names (suc k) []) (entry_from (at + suc (length p.0)) k p.1))
        (sym (names_next (drop at text) p c))
        (subst (λ (t : List ℕ). Right text (get_or (names_in t) k []) (entry_from (at + suc (length p.0)) k t)) (next_is text at p h c)
        (ih end text (end_within text at p h c)))

pub found_right : (text : List ℕ) (k : ℕ) {r : std.Option (ℕ × ℕ)} → r ≡ entry_from 0 k text → Right text (get_or (names_in text) k []) r
found_right text k e = subst (Right text (get_or (names_in text) k [])) (sym e) (entry_right k 0 text (omega arith))

-- a name below 64 is an entry of the assumption text, any other one of the generated text
module _ (assumed generated : Bor (List ℕ)) (x : ℕ) where
  abbrev starts : Bool → ℕ × ℕ
  starts b =
      elim b [
        | true ↦ start_of assumed.ref_ptr assumed.ref_ptr (entry_from 0 x assumed.now)
        | false ↦ start_of generated.ref_ptr assumed.ref_ptr (entry_from 0 (x - 64) generated.now)
      ]

  pub name_assumed : {r : Bor (List ℕ)} → x < 64 → EntryPart assumed x assumed r → NamePart assumed generated x r
  name_assumed h p =
      record {
        bytes = p.bytes ∙ sym (lookup_assumed assumed.now generated.now x h);
        start = p.start ∙ ap starts (sym (lt-ltb x 64 h));
      }

  pub name_generated : {r : Bor (List ℕ)} → 64 ≤ x → EntryPart generated (x - 64) assumed r → NamePart assumed generated x r
  name_generated h p =
      record {
        bytes = p.bytes ∙ sym (lookup_generated assumed.now generated.now x h);
        start = p.start ∙ ap starts (sym (le-ltb x 64 h));
      }
