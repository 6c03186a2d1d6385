-- The walk over the names of a text that looks for the first faulty one. Assumes nothing.
use Prim.Native.Nat.{ℕ, suc, ◌+◌, ◌-◌, ◌≤◌, ◌<◌}
use mathlib.Core.Path.{◌≡◌, refl, sym, ap, ap₂, ◌∙◌}
use mathlib.Core.Bool.{true, false}
use mathlib.Core.Option.{none, some}
use mathlib.Core.List.{List, [], ◌∷◌, ◌++◌}
use native.Mathlib.Numerals.{add-one}
use native.Mathlib.Omega.{arith}
use lib.ListN.{length, take, drop, length-drop, drop_of_length-le}
use lib.Seq.{take-add, take-append_seam}
use Rattle.std.proofs.Common.{Some, None}
use Rattle.theory.specs.NameText.{cut_entry, entries_up_to, names_in, lawful_after, bad_name_from, bad_name}
use Rattle.theory.proofs.Forms.{snoc_length}
use Rattle.theory.proofs.Entries.{cut_splits}
use Rattle.theory.proofs.LawfulNames.{joined, names_joined, joined_snoc, bad_cut, bad_unlawful, bad_later}
use Rattle.identifier_generator.specs.Entry.{entry_size}
use Rattle.identifier_generator.proofs.Cursor.{some_at, none_at, end_inside, bytes_at, entry_at, size_at}

-- the front of the text up to `at` is `place` lawful names, so the test goes on with the rest
pub record Passed (text : List ℕ) (count at place : ℕ) : Type 0 where
  pub inside : at ≤ length text
  pub within : place ≤ count
  pub whole : joined (names_in (take at text)) ≡ take at text
  pub placed : length (names_in (take at text)) ≡ place
  pub onward : bad_name count text ≡ bad_name_from (names_in (take at text)) (count - place) (drop at text)

pub none_passed : (text : List ℕ) (count : ℕ) → Passed text count 0 0
unfolding bad_name joined names_in entries_up_to
none_passed text count =
    let all : count ≡ count - 0 = omega arith in
    record {
      inside = omega arith;
      within = omega arith;
      whole = refl;
      placed = refl;
      onward = ap (λ (k : ℕ). bad_name_from [] k text) all;
    }

-- no name is left to be tested: text that is left is surplus
no_more : (earlier : List (List ℕ)) (text : List ℕ) → 0 < length text → bad_name_from earlier 0 text ≡ some (length earlier)
unfolding bad_name_from
no_more earlier [] h = absurd (omega arith)
no_more earlier (b ∷ bs) h = refl

module _ {text : List ℕ} {count at place : ℕ} (p : Passed text count at place) where
  -- all names are passed: the text must be too
  pub surplus : count ≤ place → at < length text → some count ≡ bad_name count text
  surplus l h =
      let none_left : count - place ≡ 0 = omega (arith, p.within) in
      let counted : place ≡ count = omega (arith, p.within) in
      sym (p.onward ∙ ap (λ (k : ℕ). bad_name_from (names_in (take at text)) k (drop at text)) none_left
      ∙ no_more (names_in (take at text)) (drop at text) (omega (arith, length-drop at text)) ∙ ap some (p.placed ∙ counted))

  pub all_passed : count ≤ place → length text ≤ at → none ≡ bad_name count text
  unfolding bad_name_from
  all_passed l h =
      let none_left : count - place ≡ 0 = omega (arith, p.within) in
      sym (p.onward ∙ ap₂ (bad_name_from (names_in (take at text))) none_left (drop_of_length-le text h))

  module _ (more : place < count) where
    onward_next : bad_name count text ≡ bad_name_from (names_in (take at text)) (suc (count - (place + 1))) (drop at text)
    onward_next =
        let one : count - place ≡ suc (count - (place + 1)) = omega (arith, p.within) in
        p.onward ∙ ap (λ (k : ℕ). bad_name_from (names_in (take at text)) k (drop at text)) one

    pub cut_fault : None ≡ entry_size (take (length text - at) (drop at text)) → some place ≡ bad_name count text
    cut_fault e =
        sym (onward_next
        ∙ bad_cut (names_in (take at text)) (count - (place + 1)) (drop at text) (none_at text at e)
        ∙ ap some p.placed)

    module _ (s : ℕ) (e : Some s ≡ entry_size (take (length text - at) (drop at text))) where
      abbrev next_name : List ℕ
      next_name = bytes_at text at s

      cut_is : cut_entry (drop at text) ≡ some (next_name, drop (at + s) text)
      cut_is = entry_at text at s e

      -- the front grows by the entry
      front_more : take (at + s) text ≡ take at text ++ (length next_name ∷ next_name)
      front_more =
          take-add at s text
          ∙ ap (λ (t : List ℕ). take at text ++ t)
          (ap₂ take (size_at text at s e) (cut_splits (drop at text) (next_name, drop (at + s) text) cut_is)
          ∙ ap {B = List ℕ} (λ t. length next_name ∷ t) (take-append_seam next_name (drop (at + s) text)))

      names_more : names_in (take (at + s) text) ≡ names_in (take at text) ++ (next_name ∷ [])
      names_more =
          ap names_in
          (front_more ∙ ap (λ (t : List ℕ). t ++ (length next_name ∷ next_name)) (sym p.whole)
          ∙ sym (joined_snoc (names_in (take at text)) next_name))
          ∙ names_joined (names_in (take at text) ++ (next_name ∷ []))

      pub unlawful_fault : false ≡ lawful_after (names_in (take at text)) next_name → some place ≡ bad_name count text
      unlawful_fault f =
          sym (onward_next
          ∙ bad_unlawful (names_in (take at text)) (count - (place + 1)) (drop at text) (next_name, drop (at + s) text) cut_is (sym f)
          ∙ ap some p.placed)

      pub one_more : true ≡ lawful_after (names_in (take at text)) next_name → Passed text count (at + s) (place + 1)
      one_more f =
          record {
            inside = end_inside text at s e p.inside;
            within = omega arith;
            whole = ap joined names_more ∙ joined_snoc (names_in (take at text)) next_name
                ∙ ap (λ (t : List ℕ). t ++ (length next_name ∷ next_name)) p.whole ∙ sym front_more;
            placed = ap length names_more ∙ snoc_length (names_in (take at text)) next_name ∙ ap suc p.placed ∙ sym (add-one place);
            onward = onward_next
                ∙ bad_later (names_in (take at text)) (count - (place + 1)) (drop at text) (next_name, drop (at + s) text) cut_is (sym f)
                ∙ ap (λ (names : List (List ℕ)). bad_name_from names (count - (place + 1)) (drop (at + s) text)) (sym names_more);
          }

-- what the check goes by in that walk
pub ruleset name_steps = (surplus, all_passed, cut_fault, unlawful_fault, some_at, end_inside)
