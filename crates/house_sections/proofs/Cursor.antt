-- The assumptions from a place of a file on, as the loops over them meet them. Assumes nothing.
use Prim.Native.Nat.{ℕ, suc, ◌+◌, ◌-◌, ◌*◌, ◌≤◌, ◌<◌}
use mathlib.Core.Path.{◌≡◌, refl, ap, ap₂, ◌∙◌, subst}
use mathlib.Core.Bool.{Bool, true, false}
use mathlib.Core.List.{List, ◌∷◌, ◌++◌}
use native.Mathlib.Omega.{arith}
use borrow.Author.Tests.{ltb-false, le-ltb, lt-ltb}
use lib.Dec.{ltb}
use lib.ListN.{length, get_or, take, drop, length-drop}
use lib.Seq.{get_or-drop, drop-drop}
use Rattle.theory.specs.File.{little_endian}
use Rattle.std.specs.Prelude.{Option, None}
use Rattle.house_sections.specs.Held.{numbers_from, entry_bytes, indices_from, text_from, entries_end, Whole}

-- n + 1 assumptions from the tests of the first
module _ (at n : ℕ) (bs : List ℕ) where
  abbrev later : Option ℕ
  later = entries_end (at + entry_bytes bs) n (drop (entry_bytes bs) bs)

  abbrev by_name : Bool → Option ℕ
  by_name t = elim t [ true ↦ None | false ↦ later ]

  abbrev by_index : Bool → Option ℕ
  by_index t = elim t [ true ↦ None | false ↦ by_name (ltb (length bs) (entry_bytes bs)) ]

  ends_by : entries_end at (suc n) bs ≡ by_index (ltb (length bs) 3)
  unfolding entries_end
  ends_by = refl

  index_short : length bs < 3 → entries_end at (suc n) bs ≡ None
  index_short h = ends_by ∙ ap by_index (lt-ltb (length bs) 3 h)

  name_short : 3 ≤ length bs → length bs < entry_bytes bs → entries_end at (suc n) bs ≡ None
  name_short h l =
      ends_by ∙ ap by_index (le-ltb (length bs) 3 h) ∙ ap by_name (lt-ltb (length bs) (entry_bytes bs) l)

  goes_on : 3 ≤ length bs → entry_bytes bs ≤ length bs → entries_end at (suc n) bs ≡ later
  goes_on h l = ends_by ∙ ap by_index (le-ltb (length bs) 3 h) ∙ ap by_name (le-ltb (length bs) (entry_bytes bs) l)

  -- whole assumptions have a whole first one
  whole_first : Whole (entries_end at (suc n) bs) → (3 ≤ length bs) × (entry_bytes bs ≤ length bs)
  whole_first w = index (ltb (length bs) 3) refl (subst Whole ends_by w)
    where
      name : (t : Bool) → ltb (length bs) (entry_bytes bs) ≡ t → Whole (by_name t) → entry_bytes bs ≤ length bs
      name true e w = absurd w
      name false e w = ltb-false (length bs) (entry_bytes bs) e

      index : (t : Bool) → ltb (length bs) 3 ≡ t → Whole (by_index t) → (3 ≤ length bs) × (entry_bytes bs ≤ length bs)
      index true e w = absurd w
      index false e w = (ltb-false (length bs) 3 e, name (ltb (length bs) (entry_bytes bs)) refl w)

-- the assumption at a place: its size, and the bytes behind it
module _ (file : List ℕ) (at : ℕ) where
  abbrev pub size_at : ℕ
  size_at = get_or file (at + 2) 0 + 3

  size_is : entry_bytes (drop at file) ≡ size_at
  size_is = ap (λ (b : ℕ). b + 3) (get_or-drop at file 2 0)

  behind_is : drop (entry_bytes (drop at file)) (drop at file) ≡ drop (at + size_at) file
  behind_is = drop-drop (entry_bytes (drop at file)) at file ∙ ap (λ (k : ℕ). drop (at + k) file) size_is

  module _ (left : ℕ) (more : 0 < left) where
    one_less : left ≡ suc (left - 1)
    one_less = omega arith

    pub index_missing : length file - at < 3 → entries_end at left (drop at file) ≡ None
    index_missing h =
        ap (λ (n : ℕ). entries_end at n (drop at file)) one_less
        ∙ index_short at (left - 1) (drop at file) (omega (arith, length-drop at file))

    pub name_missing : 3 ≤ length file - at → length file - at < size_at → entries_end at left (drop at file) ≡ None
    name_missing h l =
        ap (λ (n : ℕ). entries_end at n (drop at file)) one_less
        ∙ name_short at (left - 1) (drop at file) (omega (arith, length-drop at file)) (omega (arith, length-drop at file, size_is))

    pub entry_passed : 3 ≤ length file - at → size_at ≤ length file - at →
        entries_end at left (drop at file) ≡ entries_end (at + size_at) (left - 1) (drop (at + size_at) file)
    entry_passed h l =
        ap (λ (n : ℕ). entries_end at n (drop at file)) one_less
        ∙ goes_on at (left - 1) (drop at file) (omega (arith, length-drop at file)) (omega (arith, length-drop at file, size_is))
        ∙ ap₂ (λ (k : ℕ) (bs : List ℕ). entries_end (at + k) (left - 1) bs) size_is behind_is

    pub next_index : indices_from left (drop at file) ≡
        little_endian (take 2 (drop at file)) ∷ indices_from (left - 1) (drop (at + size_at) file)
    unfolding indices_from
    next_index =
        ap (λ (n : ℕ). indices_from n (drop at file)) one_less
        ∙ ap (λ (bs : List ℕ). little_endian (take 2 (drop at file)) ∷ indices_from (left - 1) bs) behind_is

    pub next_name_lem : text_from left (drop at file) ≡
        take (get_or file (at + 2) 0 + 1) (drop (at + 2) file) ++ text_from (left - 1) (drop (at + size_at) file)
    unfolding text_from
    next_name_lem =
        ap (λ (n : ℕ). text_from n (drop at file)) one_less
        ∙ ap₂ (λ (xs ys : List ℕ). xs ++ ys)
        (ap₂ (λ (b : ℕ) (bs : List ℕ). take (b + 1) bs) (get_or-drop at file 2 0) (drop-drop 2 at file))
        (ap (text_from (left - 1)) behind_is)

    -- of whole assumptions the first is inside the file, and the rest are whole
    module _ (whole : Whole (entries_end at left (drop at file))) where
      both_fit : (3 ≤ length (drop at file)) × (entry_bytes (drop at file) ≤ length (drop at file))
      both_fit =
          whole_first at (left - 1) (drop at file) (subst Whole (ap (λ (n : ℕ). entries_end at n (drop at file)) one_less) whole)

      pub three_inside : 3 ≤ length file - at
      three_inside = omega (arith, both_fit.0, length-drop at file)

      pub entry_inside : size_at ≤ length file - at
      entry_inside = omega (arith, both_fit.1, length-drop at file, size_is)

      pub rest_whole : Whole (entries_end (at + size_at) (left - 1) (drop (at + size_at) file))
      rest_whole = subst Whole (entry_passed three_inside entry_inside) whole

-- the next word of the formulas
pub next_word : (file : List ℕ) (i count : ℕ) → i < count →
    numbers_from 4 (count - i) (drop (2 + 4 * i) file) ≡
    little_endian (take 4 (drop (2 + 4 * i) file)) ∷ numbers_from 4 (count - (i + 1)) (drop (2 + 4 * (i + 1)) file)
unfolding numbers_from
next_word file i count h =
    let one : count - i ≡ suc (count - (i + 1)) = omega arith in
    let place : 2 + 4 * i + 4 ≡ 2 + 4 * (i + 1) = omega arith in
    ap (λ (n : ℕ). numbers_from 4 n (drop (2 + 4 * i) file)) one
    ∙ ap (λ (bs : List ℕ). little_endian (take 4 (drop (2 + 4 * i) file)) ∷ numbers_from 4 (count - (i + 1)) bs)
    (drop-drop 4 (2 + 4 * i) file ∙ ap (λ (k : ℕ). drop k file) place)
