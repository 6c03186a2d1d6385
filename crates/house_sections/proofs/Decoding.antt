-- The tests of a whole file in the code's order, each with what `decoded` then is. Assumes nothing.
use Prim.Native.Nat.{ℕ, ◌+◌, ◌-◌, ◌*◌, ◌≤◌, ◌<◌}
use mathlib.Core.Path.{◌≡◌, refl, sym, ap, ap₂, ◌∙◌, subst}
use mathlib.Core.Bool.{Bool, true, false}
use mathlib.Core.Option.{Option, none, some}
use mathlib.Core.List.{List}
use native.Mathlib.Omega.{arith}
use borrow.Author.Tests.{le-leb, lt-leb, leb-true, leb-false}
use lib.Dec.{leb}
use lib.ListN.{length, take, drop, length-drop}
use lib.Seq.{drop-drop}
use Rattle.theory.specs.File.{little_endian, cut_numbers, cut_section, formula_count, assumption_count}
use Rattle.theory.specs.File.{Assumptions, cut_assumptions, File, cut_goals, cut_rules, decoded}
use Rattle.std.specs.Prelude.{None, Some}
use Rattle.std.specs.Prelude as rust
use Rattle.house_sections.specs.Held.{numbers_from, indices_from, text_from, entries_end, goal_in, held_by}
use Rattle.house_sections.proofs.Cutting.{numbers_fit, numbers_cut, count_cut, count_lawful, count_unlawful}
use Rattle.house_sections.proofs.Entries.{up_to_end, Inside, ended}
use Rattle.house_sections.proofs.Goals.{file_with, goals_cut}

-- 14
pub bad_file : (bs : List ℕ) → decoded bs ≡ none → held_by None bs ≡ decoded bs
unfolding held_by
bad_file bs e = sym e

-- what each section came to
abbrev after_formulas : Option (List ℕ × List ℕ) → Option File
after_formulas o = elim o [ none ↦ none | some p ↦ cut_rules p.0 p.1 ]

abbrev by_size : List ℕ → Bool → Option File
by_size bs t = elim t [ false ↦ none | true ↦ after_formulas (cut_section formula_count 4 bs) ]

abbrev after_count : Option (ℕ × List ℕ) → Option (List ℕ × List ℕ)
after_count o = elim o [ none ↦ none | some p ↦ cut_numbers 4 p.0 p.1 ]

abbrev after_assumptions : List ℕ → Option Assumptions → Option File
after_assumptions words o = elim o [ none ↦ none | some more ↦ cut_goals words more ]

abbrev after_many : List ℕ → Option (ℕ × List ℕ) → Option File
after_many words o = elim o [ none ↦ none | some p ↦ after_assumptions words (cut_assumptions p.0 p.1) ]

pub too_long : (bs : List ℕ) → 32768 < length bs → decoded bs ≡ none
unfolding decoded
too_long bs h = ap (by_size bs) (lt-leb (length bs) 32768 h)

module _ (bs : List ℕ) (small : length bs ≤ 32768) where
  decoded_is : decoded bs ≡ after_formulas (cut_section formula_count 4 bs)
  unfolding decoded
  decoded_is = ap (by_size bs) (le-leb (length bs) 32768 small)

  pub no_count : length bs < 2 → decoded bs ≡ none
  unfolding cut_section
  no_count h = decoded_is ∙ ap (λ (o : Option (ℕ × List ℕ)). after_formulas (after_count o)) (count_cut formula_count bs h)

  module _ (n : ℕ) (two : 2 ≤ length bs) (is : n ≡ little_endian (take 2 bs)) where
    pub many_formulas : 4096 < n → decoded bs ≡ none
    unfolding cut_section formula_count
    many_formulas h =
        decoded_is ∙ ap (λ (o : Option (ℕ × List ℕ)). after_formulas (after_count o))
        (count_unlawful formula_count bs two (ap (λ (k : ℕ). leb k 4096) (sym is) ∙ lt-leb n 4096 h))

    module _ (few : n ≤ 4096) where
      counted_is : decoded bs ≡ after_formulas (cut_numbers 4 n (drop 2 bs))
      unfolding cut_section formula_count
      counted_is =
          decoded_is ∙ ap (λ (o : Option (ℕ × List ℕ)). after_formulas (after_count o))
          (count_lawful formula_count bs two (ap (λ (k : ℕ). leb k 4096) (sym is) ∙ le-leb n 4096 few))
          ∙ ap (λ (k : ℕ). after_formulas (cut_numbers 4 k (drop 2 bs))) (sym is)

      -- the words, where they are there
      words_is : 2 + 4 * n ≤ length bs → decoded bs ≡ cut_rules (numbers_from 4 n (drop 2 bs)) (drop (4 + 4 * n - 2) bs)
      words_is h =
          let behind : 2 + 4 * n ≡ 4 + 4 * n - 2 = omega arith in
          counted_is ∙ ap after_formulas (numbers_fit 4 n (drop 2 bs) (omega (arith, length-drop 2 bs)))
          ∙ ap (cut_rules (numbers_from 4 n (drop 2 bs))) (drop-drop (4 * n) 2 bs ∙ ap (λ (k : ℕ). drop k bs) behind)

      -- the words are cut, or the count of the assumptions is
      pub cut_formulas : length bs < 4 + 4 * n → decoded bs ≡ none
      unfolding cut_rules
      cut_formulas h = go (leb (2 + 4 * n) (length bs)) refl
        where
          go : (t : Bool) → leb (2 + 4 * n) (length bs) ≡ t → decoded bs ≡ none
          go true e =
              words_is (leb-true (2 + 4 * n) (length bs) e)
              ∙ ap (after_many (numbers_from 4 n (drop 2 bs)))
              (count_cut assumption_count (drop (4 + 4 * n - 2) bs) (omega (arith, length-drop (4 + 4 * n - 2) bs)))
          go false e =
              counted_is ∙ ap after_formulas
              (numbers_cut 4 n (drop 2 bs) (omega (arith, length-drop 2 bs, leb-false (2 + 4 * n) (length bs) e)))

      module _ (m : ℕ) (inside : 4 + 4 * n ≤ length bs) (many : m ≡ little_endian (take 2 (drop (4 + 4 * n - 2) bs))) where
        abbrev words : List ℕ
        words = numbers_from 4 n (drop 2 bs)

        room : 2 ≤ length (drop (4 + 4 * n - 2) bs)
        room = omega (arith, length-drop (4 + 4 * n - 2) bs)

        pub many_assumptions : 64 < m → decoded bs ≡ none
        unfolding cut_rules assumption_count
        many_assumptions h =
            words_is (omega arith) ∙ ap (after_many words)
            (count_unlawful assumption_count (drop (4 + 4 * n - 2) bs) room (ap (λ (k : ℕ). leb k 64) (sym many) ∙ lt-leb m 64 h))

-- the counts of both sections stand there and are lawful
pub record Counted (bs : List ℕ) (n m : ℕ) : Type 0 where
  pub small : length bs ≤ 32768
  pub two : 2 ≤ length bs
  pub formulas : n ≡ little_endian (take 2 bs)
  pub few_formulas : n ≤ 4096
  pub inside : 4 + 4 * n ≤ length bs
  pub assumptions : m ≡ little_endian (take 2 (drop (4 + 4 * n - 2) bs))
  pub few_assumptions : m ≤ 64

module _ (bs : List ℕ) (n m : ℕ) (k : Counted bs n m) where
  abbrev formula_words : List ℕ
  formula_words = numbers_from 4 n (drop 2 bs)

  abbrev entries : List ℕ
  entries = drop (4 + 4 * n) bs

  rules_is : decoded bs ≡ after_assumptions formula_words (cut_assumptions m entries)
  unfolding cut_rules assumption_count
  rules_is =
      let behind : 4 + 4 * n - 2 + 2 ≡ 4 + 4 * n = omega arith in
      words_is bs k.small n k.two k.formulas k.few_formulas (omega (arith, k.inside))
      ∙ ap (after_many formula_words)
      (count_lawful assumption_count (drop (4 + 4 * n - 2) bs)
      (room bs k.small n k.two k.formulas k.few_formulas m k.inside k.assumptions)
      (ap (λ (j : ℕ). leb j 64) (sym k.assumptions) ∙ le-leb m 64 k.few_assumptions))
      ∙ ap₂ (λ (j : ℕ) (r : List ℕ). after_assumptions formula_words (cut_assumptions j r)) (sym k.assumptions)
      (drop-drop 2 (4 + 4 * n - 2) bs ∙ ap (λ (j : ℕ). drop j bs) behind)

  -- what stands behind the assumptions, by where they end
  end_is : (x : rust.Option ℕ) → x ≡ entries_end (4 + 4 * n) m entries →
      decoded bs ≡ after_assumptions formula_words (up_to_end x (4 + 4 * n) m entries)
  end_is x e =
      rules_is ∙ ap (after_assumptions formula_words)
      ((ended m (4 + 4 * n) entries).1 ∙ ap (λ (y : rust.Option ℕ). up_to_end y (4 + 4 * n) m entries) (sym e))

  pub cut_assumptions_lem : None ≡ entries_end (4 + 4 * n) m entries → decoded bs ≡ none
  cut_assumptions_lem e = end_is None e

  module _ (at : ℕ) (e : Some at ≡ entries_end (4 + 4 * n) m entries) where
    end_inside : (4 + 4 * n ≤ at) × (at ≤ 4 + 4 * n + length entries)
    end_inside =
        subst (λ (x : rust.Option ℕ). Inside x (4 + 4 * n) entries) (sym e) (ended m (4 + 4 * n) entries).0

    pub at_inside : at ≤ length bs
    at_inside = omega (arith, end_inside.1, k.inside, length-drop (4 + 4 * n) bs)

    abbrev before : Assumptions
    before = record { indices = indices_from m entries; text = text_from m entries; rest = drop at bs }

    goals_is : decoded bs ≡ file_with formula_words before (goal_in (drop at bs))
    goals_is =
        let behind : 4 + 4 * n + (at - (4 + 4 * n)) ≡ at = omega (arith, end_inside.0) in
        end_is (Some at) e
        ∙ ap (λ (r : List ℕ). cut_goals formula_words (record {
          indices = indices_from m entries;
          text = text_from m entries;
          rest = r;
        }))
        (drop-drop (at - (4 + 4 * n)) (4 + 4 * n) bs ∙ ap (λ (j : ℕ). drop j bs) behind)
        ∙ goals_cut formula_words (indices_from m entries) (text_from m entries) (drop at bs)

    pub no_goal : None ≡ goal_in (drop at bs) → decoded bs ≡ none
    no_goal g = goals_is ∙ ap (file_with formula_words before) (sym g)

    pub is_held : (goal : ℕ) → Some goal ≡ goal_in (drop at bs) →
        held_by (Some (record { formulas = n; assumptions = m; goal = goal })) bs ≡ decoded bs
    unfolding held_by
    is_held goal g = sym (goals_is ∙ ap (file_with formula_words before) (sym g))
