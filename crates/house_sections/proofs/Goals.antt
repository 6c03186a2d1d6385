-- The goal behind the assumptions: the code's tests of it, and theory's cut of the last section. Assumes nothing.
use Prim.Native.Nat.{ℕ, ◌+◌, ◌-◌}
use mathlib.Core.Path.{◌≡◌, refl, sym, ap, ◌∙◌}
use mathlib.Core.Bool.{Bool, true, false}
use mathlib.Core.Option.{Option, none, some}
use mathlib.Core.List.{List, [], ◌∷◌}
use native.Mathlib.Omega.{arith}
use borrow.Author.Tests.{eqb-true, eq-eqb, ne_eqb}
use lib.Dec.{eqb}
use lib.ListN.{length, take, drop, length-drop}
use lib.Seq.{drop-drop}
use Rattle.theory.specs.File.{little_endian, cut_bytes, cut_number, cut_numbers, cut_count, cut_section, goal_count, Assumptions}
use Rattle.theory.specs.File.{File, cut_goals}
use Rattle.std.specs.Prelude.{None, Some}
use Rattle.std.specs.Prelude as rust
use Rattle.std.specs.Bool.{then_some}
use Rattle.house_sections.specs.Held.{numbers_from, goal_in}
use Rattle.house_sections.proofs.Cutting.{numbers_fit, count_lawful, count_unlawful}

-- the tests one after the other
module _ (bs : List ℕ) where
  abbrev by_count : Bool → rust.Option ℕ
  by_count t = elim t [ false ↦ None | true ↦ Some (little_endian (take 2 (drop 2 bs))) ]

  abbrev by_length : Bool → rust.Option ℕ
  by_length t = elim t [ false ↦ None | true ↦ by_count (eqb (little_endian (take 2 bs)) 1) ]

module _ (file : List ℕ) (at : ℕ) where
  pub other_length : (length file - at ≡ 4 → ⊥) → None ≡ goal_in (drop at file)
  unfolding goal_in
  other_length h =
      sym (ap (by_length (drop at file)) (ne_eqb (length (drop at file)) 4 (λ e. h (sym (length-drop at file) ∙ e))))

  module _ (h : length file - at ≡ 4) (n : ℕ) (e : n ≡ little_endian (take 2 (drop at file))) where
    four : eqb (length (drop at file)) 4 ≡ true
    four = eq-eqb (length (drop at file)) 4 (length-drop at file ∙ h)

    pub counted_goal : (goal : ℕ) → goal ≡ little_endian (take 2 (drop (at + 2) file)) →
        then_some (eqb n 1) goal ≡ goal_in (drop at file)
    unfolding goal_in
    counted_goal goal g =
        by_test (eqb n 1)
        ∙ ap (λ (k : ℕ). by_count (drop at file) (eqb k 1)) e
        ∙ sym (ap (by_length (drop at file)) four)
      where
        by_test : (t : Bool) → then_some t goal ≡ by_count (drop at file) t
        by_test true = ap Some (g ∙ ap (λ (bs : List ℕ). little_endian (take 2 bs)) (sym (drop-drop 2 at file)))
        by_test false = refl

-- the file that a goal makes of the sections before it
abbrev pub file_with : List ℕ → Assumptions → rust.Option ℕ → Option File
file_with words more None = none
file_with words more (Some goal) = some (record { words = words; indices = more.indices; text = more.text; goals = goal ∷ [] })

module _ (words : List ℕ) (indices text : List ℕ) where
  abbrev assumed : List ℕ → Assumptions
  assumed rest = record { indices = indices; text = text; rest = rest }

  abbrev by_section : Option (List ℕ × List ℕ) → Option File
  by_section o =
      elim o [
        | none ↦ none
        | some goals ↦ elim (eqb (length goals.1) 0) [
          | true ↦ some (record { words = words; indices = indices; text = text; goals = goals.0 })
          | false ↦ none
        ]
      ]

  abbrev by_numbers : Option (ℕ × List ℕ) → Option (List ℕ × List ℕ)
  by_numbers o = elim o [ none ↦ none | some p ↦ cut_numbers 2 p.0 p.1 ]

  -- two bytes of count, and then as many numbers
  module _ (a b : ℕ) (bs : List ℕ) where
    abbrev count : ℕ
    count = little_endian (a ∷ b ∷ [])

    section_other : eqb count 1 ≡ false → cut_section goal_count 2 (a ∷ b ∷ bs) ≡ none
    unfolding cut_section goal_count
    section_other e = ap by_numbers (count_unlawful goal_count (a ∷ b ∷ bs) (omega arith) e)

    section_one : eqb count 1 ≡ true → cut_section goal_count 2 (a ∷ b ∷ bs) ≡ cut_numbers 2 1 bs
    unfolding cut_section goal_count
    section_one e =
        ap by_numbers (count_lawful goal_count (a ∷ b ∷ bs) (omega arith) e)
        ∙ ap (λ (k : ℕ). cut_numbers 2 k bs) (eqb-true count 1 e)

    goals_other : eqb count 1 ≡ false → cut_goals words (assumed (a ∷ b ∷ bs)) ≡ none
    unfolding cut_goals
    goals_other e = ap by_section (section_other e)

    goals_one : eqb count 1 ≡ true → cut_goals words (assumed (a ∷ b ∷ bs)) ≡ by_section (cut_numbers 2 1 bs)
    unfolding cut_goals
    goals_one e = ap by_section (section_one e)

  -- a last section that is no goal alone
  other_section : (a b : ℕ) (bs : List ℕ) → by_section (cut_numbers 2 1 bs) ≡ none → cut_goals words (assumed (a ∷ b ∷ bs)) ≡ none
  other_section a b bs h = go (eqb (little_endian (a ∷ b ∷ [])) 1) refl
    where
      go : (t : Bool) → eqb (little_endian (a ∷ b ∷ [])) 1 ≡ t → cut_goals words (assumed (a ∷ b ∷ bs)) ≡ none
      go true e = goals_one a b bs e ∙ h
      go false e = goals_other a b bs e

  -- bytes after the end
  abbrev by_end : List ℕ → Bool → Option File
  by_end goals t = elim t [ true ↦ some (record { words = words; indices = indices; text = text; goals = goals }) | false ↦ none ]

  surplus : (c d e : ℕ) (r : List ℕ) → by_section (cut_numbers 2 1 (c ∷ d ∷ e ∷ r)) ≡ none
  surplus c d e r =
      ap by_section (numbers_fit 2 1 (c ∷ d ∷ e ∷ r) (omega arith))
      ∙ ap (by_end (numbers_from 2 1 (c ∷ d ∷ e ∷ r))) (ne_eqb (length (e ∷ r)) 0 (λ q. omega arith))

  pub goals_cut : (rest : List ℕ) → cut_goals words (assumed rest) ≡ file_with words (assumed rest) (goal_in rest)
  unfolding cut_goals cut_section cut_count cut_numbers cut_number cut_bytes goal_in
  goals_cut [] = refl
  goals_cut (a ∷ []) = refl
  goals_cut (a ∷ b ∷ []) = other_section a b [] refl
  goals_cut (a ∷ b ∷ c ∷ []) = other_section a b (c ∷ []) refl
  goals_cut (a ∷ b ∷ c ∷ d ∷ []) = go (eqb (little_endian (a ∷ b ∷ [])) 1) refl
    where
      go : (t : Bool) → eqb (little_endian (a ∷ b ∷ [])) 1 ≡ t →
          cut_goals words (assumed (a ∷ b ∷ c ∷ d ∷ [])) ≡
          file_with words (assumed (a ∷ b ∷ c ∷ d ∷ [])) (by_count (a ∷ b ∷ c ∷ d ∷ []) t)
      go true e = goals_one a b (c ∷ d ∷ []) e
      go false e = goals_other a b (c ∷ d ∷ []) e
  goals_cut (a ∷ b ∷ c ∷ d ∷ e ∷ r) =
      other_section a b (c ∷ d ∷ e ∷ r) (surplus c d e r)
      ∙ sym (ap (λ (t : Bool). file_with words (assumed (a ∷ b ∷ c ∷ d ∷ e ∷ r)) (by_length (a ∷ b ∷ c ∷ d ∷ e ∷ r) t))
      (ne_eqb (length (a ∷ b ∷ c ∷ d ∷ e ∷ r)) 4 (λ q. omega arith)))
