-- The assumptions of a file: theory's cut of them by where the code finds their end, and the goal behind them. Assumes nothing.
use Prim.Native.Nat.{ℕ, zero, suc, ◌+◌, ◌-◌, ◌≤◌, ◌<◌}
use mathlib.Core.Path.{◌≡◌, refl, ap, ◌∙◌}
use mathlib.Core.Bool.{Bool, true, false}
use mathlib.Core.Option.{Option, none, some}
use mathlib.Core.List.{List, [], ◌∷◌, ◌++◌}
use native.Mathlib.Omega.{arith}
use borrow.Author.Tests.{ltb-true, ltb-false}
use lib.Dec.{ltb}
use lib.ListN.{length, get_or, take, drop, length-drop}
use lib.Seq.{drop-drop}
use Rattle.theory.specs.File.{little_endian, cut_bytes, cut_number}
use Rattle.theory.specs.File.{Assumptions, cut_assumptions}
use Rattle.std.specs.Prelude.{None, Some}
use Rattle.std.specs.Prelude as rust
use Rattle.house_sections.specs.Held.{entry_bytes, indices_from, text_from, entries_end}
use Rattle.house_sections.proofs.Cutting.{bytes_fit, bytes_cut, number_fits}

-- one assumption in front of n more, from what each cut came to
module _ (n : ℕ) where
  abbrev whole : ℕ × List ℕ → ℕ × List ℕ → List ℕ × List ℕ → Option Assumptions → Option Assumptions
  whole index size name o =
      elim o [
        | none ↦ none
        | some more ↦ some (record {
          indices = index.0 ∷ more.indices;
          text = size.0 ∷ (name.0 ++ more.text);
          rest = more.rest;
        })
      ]

  abbrev after_name : ℕ × List ℕ → ℕ × List ℕ → Option (List ℕ × List ℕ) → Option Assumptions
  after_name index size o = elim o [ none ↦ none | some name ↦ whole index size name (cut_assumptions n name.1) ]

  abbrev after_size : ℕ × List ℕ → Option (ℕ × List ℕ) → Option Assumptions
  after_size index o = elim o [ none ↦ none | some size ↦ after_name index size (cut_bytes size.0 size.1) ]

  abbrev after_index : Option (ℕ × List ℕ) → Option Assumptions
  after_index o = elim o [ none ↦ none | some index ↦ after_size index (cut_number 1 index.1) ]

  -- too short for an index and a length byte
  short_cut : (bs : List ℕ) → length bs < 3 → cut_assumptions (suc n) bs ≡ none
  unfolding cut_assumptions cut_number cut_bytes
  short_cut [] h = refl
  short_cut (a ∷ []) h = refl
  short_cut (a ∷ b ∷ []) h = refl
  short_cut (a ∷ b ∷ c ∷ r) h = absurd (omega arith)

  -- an index and a length byte, which is a number of one byte
  sized : (a b c : ℕ) (r : List ℕ) →
      cut_assumptions (suc n) (a ∷ b ∷ c ∷ r) ≡ after_name (little_endian (a ∷ b ∷ []), c ∷ r) (c, r) (cut_bytes c r)
  unfolding cut_assumptions little_endian
  sized a b c r =
      let index : ℕ × List ℕ = (little_endian (a ∷ b ∷ []), c ∷ r) in
      let one : little_endian (c ∷ []) ≡ c = omega arith in
      ap after_index (number_fits 2 (a ∷ b ∷ c ∷ r) (omega arith))
      ∙ ap (after_size index) (number_fits 1 (c ∷ r) (omega arith))
      ∙ ap (λ (k : ℕ). after_name index (k, r) (cut_bytes k r)) one

  -- too short for the name
  name_cut : (bs : List ℕ) → 3 ≤ length bs → length bs < entry_bytes bs → cut_assumptions (suc n) bs ≡ none
  name_cut [] h l = absurd (omega arith)
  name_cut (a ∷ []) h l = absurd (omega arith)
  name_cut (a ∷ b ∷ []) h l = absurd (omega arith)
  name_cut (a ∷ b ∷ c ∷ r) h l =
      sized a b c r ∙ ap (after_name (little_endian (a ∷ b ∷ []), c ∷ r) (c, r)) (bytes_cut c r (omega arith))

  abbrev joined_to : List ℕ → Option Assumptions → Option Assumptions
  joined_to bs o =
      elim o [
        | none ↦ none
        | some more ↦ some (record {
          indices = little_endian (take 2 bs) ∷ more.indices;
          text = take (get_or bs 2 0 + 1) (drop 2 bs) ++ more.text;
          rest = more.rest;
        })
      ]

  entry_cut : (bs : List ℕ) → 3 ≤ length bs → entry_bytes bs ≤ length bs →
      cut_assumptions (suc n) bs ≡ joined_to bs (cut_assumptions n (drop (entry_bytes bs) bs))
  entry_cut [] h l = absurd (omega arith)
  entry_cut (a ∷ []) h l = absurd (omega arith)
  entry_cut (a ∷ b ∷ []) h l = absurd (omega arith)
  entry_cut (a ∷ b ∷ c ∷ r) h l =
      let index : ℕ × List ℕ = (little_endian (a ∷ b ∷ []), c ∷ r) in
      let behind : suc (suc (suc c)) ≡ c + 3 = omega arith in
      let text : suc c ≡ c + 1 = omega arith in
      sized a b c r
      ∙ ap (after_name index (c, r)) (bytes_fit c r (omega arith))
      ∙ ap (λ (k : ℕ). elim (cut_assumptions n (drop k (a ∷ b ∷ c ∷ r))) [
        | none ↦ none
        | some more ↦ some (record {
          indices = little_endian (a ∷ b ∷ []) ∷ more.indices;
          text = c ∷ (take c r ++ more.text);
          rest = more.rest;
        })
      ]) behind
      ∙ ap (λ (k : ℕ). elim (cut_assumptions n (drop (c + 3) (a ∷ b ∷ c ∷ r))) [
        | none ↦ none
        | some more ↦ some (record {
          indices = little_endian (a ∷ b ∷ []) ∷ more.indices;
          text = take k (c ∷ r) ++ more.text;
          rest = more.rest;
        })
      ]) text

-- what the end tells of the assumptions
abbrev pub up_to_end : rust.Option ℕ → ℕ → ℕ → List ℕ → Option Assumptions
up_to_end None at n bs = none
up_to_end (Some place) at n bs = some (record { indices = indices_from n bs; text = text_from n bs; rest = drop (place - at) bs })

-- an end is no earlier than the start, and inside the bytes
abbrev pub Inside : rust.Option ℕ → ℕ → List ℕ → Type 0
Inside None at bs = Unit {0}
Inside (Some place) at bs = (at ≤ place) × (place ≤ at + length bs)

abbrev pub Ended : ℕ → ℕ → List ℕ → rust.Option ℕ → Type 0
Ended n at bs e = Inside e at bs × (cut_assumptions n bs ≡ up_to_end e at n bs)

-- an end behind the first assumption is one of all
later_end : (n at : ℕ) (bs : List ℕ) (e : rust.Option ℕ) → 3 ≤ length bs → entry_bytes bs ≤ length bs →
    Ended n (at + entry_bytes bs) (drop (entry_bytes bs) bs) e → Ended (suc n) at bs e
unfolding indices_from text_from
later_end n at bs None h l d = (tt, entry_cut n bs h l ∙ ap (joined_to n bs) d.1)
later_end n at bs (Some place) h l d =
    let long = length-drop (entry_bytes bs) bs in
    let far : at ≤ place = omega (arith, d.0.0) in
    let near : place ≤ at + length bs = omega (arith, d.0.1) in
    let rest : entry_bytes bs + (place - (at + entry_bytes bs)) ≡ place - at = omega (arith, d.0.0) in (
      (far, near),
      entry_cut n bs h l
          ∙ ap (joined_to n bs) d.1
          ∙ ap {B = Option Assumptions}
          (λ (r : List ℕ). some (record { indices = indices_from (suc n) bs; text = text_from (suc n) bs; rest = r }))
          (drop-drop (place - (at + entry_bytes bs)) (entry_bytes bs) bs ∙ ap (λ (k : ℕ). drop k bs) rest),
    )

-- no assumption ends where it starts
no_more : (at : ℕ) (bs : List ℕ) → cut_assumptions 0 bs ≡ up_to_end (Some at) at 0 bs
unfolding cut_assumptions indices_from text_from
no_more at bs =
    let here : 0 ≡ at - at = omega arith in
    ap {B = Option Assumptions} (λ (k : ℕ). some (record { indices = []; text = []; rest = drop k bs })) here

pub ended : (n at : ℕ) (bs : List ℕ) → Ended n at bs (entries_end at n bs)
unfolding entries_end
ended zero at bs = ((omega arith, omega arith), no_more at bs)
ended (suc n) at bs = index (ltb (length bs) 3) refl (ended n (at + entry_bytes bs) (drop (entry_bytes bs) bs))
  where
    name : (t : Bool) → ltb (length bs) (entry_bytes bs) ≡ t → 3 ≤ length bs →
        Ended n (at + entry_bytes bs) (drop (entry_bytes bs) bs) (entries_end (at + entry_bytes bs) n (drop (entry_bytes bs) bs)) →
        Ended (suc n) at bs (elim t [ true ↦ None | false ↦ entries_end (at + entry_bytes bs) n (drop (entry_bytes bs) bs) ])
    name true e h d = (tt, name_cut n bs h (ltb-true (length bs) (entry_bytes bs) e))
    name false e h d =
        later_end n at bs (entries_end (at + entry_bytes bs) n (drop (entry_bytes bs) bs)) h (ltb-false (length bs) (entry_bytes bs) e) d

    index : (t : Bool) → ltb (length bs) 3 ≡ t →
        Ended n (at + entry_bytes bs) (drop (entry_bytes bs) bs) (entries_end (at + entry_bytes bs) n (drop (entry_bytes bs) bs)) →
        Ended (suc n) at bs (elim t [
          | true ↦ None
          | false ↦ elim (ltb (length bs) (entry_bytes bs)) [
            | true ↦ None
            | false ↦ entries_end (at + entry_bytes bs) n (drop (entry_bytes bs) bs)
          ]
        ])
    index true e d = (tt, short_cut n bs (ltb-true (length bs) 3 e))
    index false e d = name (ltb (length bs) (entry_bytes bs)) refl (ltb-false (length bs) 3 e) d
