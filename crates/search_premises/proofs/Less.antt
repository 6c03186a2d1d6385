-- A lighter goal makes the question smaller, whatever level it is asked at. Assumes nothing.
use Prim.Native.Nat.{ℕ, ◌<◌}
use mathlib.Core.Path.{◌≡◌}
use mathlib.Core.List.{[]}
use Rattle.theory.specs.Form.{form}
use Rattle.theory.specs.Premise.{asked, forms_of}
use Rattle.theory.specs.Weight.{weight}
use Rattle.theory.specs.Meter as M
use Rattle.theory.specs.Search.{goal_up}
use Rattle.theory.proofs.Size.{goal_down, half_down}
use Rattle.meter.specs.declared.State.{State}
use Rattle.meter.specs.declared.Sequent.{Sequent}
use Rattle.meter.specs.declared.Limits.{Limits}
use Rattle.search_laws.specs.Reading.{Lent, book, kind_at, left_at, right_at, seq_of}
use Rattle.search_laws.specs.Keeping.{Rep}
use Rattle.search_laws.specs.Meaning.{weigh}
use Rattle.search_laws.proofs.Right.{and_parts}
use Rattle.search_laws.proofs.Halves.{or_parts}
use Rattle.search_laws.proofs.FallsRight.{and_lighter, or_lighter}
use Rattle.search_premises.specs.Asked.{weigh_goal}

module _ {m : Limits} {x : Lent} {s : State} {q : Sequent} (rep : Rep m x s q) where
  lighter_right : (g : ℕ) → weight (form (book x.words s.formulas) g) < weight (form (book x.words s.formulas) q.goal) →
      weigh_goal x.words s.formulas x.records q g < weigh M.by_right x.words s.formulas x.records q
  unfolding weigh_goal weigh asked goal_up
  lighter_right g l = goal_down (forms_of (book x.words s.formulas) (seq_of x.records q).unordered)
      (forms_of (book x.words s.formulas) (seq_of x.records q).ordered) (form (book x.words s.formulas) q.goal)
      (form (book x.words s.formulas) g) l

  lighter_half : (g : ℕ) → weight (form (book x.words s.formulas) g) < weight (form (book x.words s.formulas) q.goal) →
      weigh_goal x.words s.formulas x.records q g < weigh M.by_search x.words s.formulas x.records q
  unfolding weigh_goal weigh asked goal_up
  lighter_half g l = half_down (forms_of (book x.words s.formulas) (seq_of x.records q).unordered)
      (forms_of (book x.words s.formulas) (seq_of x.records q).ordered) (form (book x.words s.formulas) q.goal)
      (form (book x.words s.formulas) g) l

  -- a half of a goal, by right from right or from search
  pub and_left_less : {g : ℕ} → kind_at x.words q.goal ≡ 3 → g ≡ left_at x.words q.goal →
      (weigh_goal x.words s.formulas x.records q g < weigh M.by_right x.words s.formulas x.records q) × (g < s.formulas)
  and_left_less e eg = rw eg (lighter_right _ (and_lighter rep e).0, (and_parts [] rep e).0)

  pub and_right_less : {g : ℕ} → kind_at x.words q.goal ≡ 3 → g ≡ right_at x.words q.goal →
      (weigh_goal x.words s.formulas x.records q g < weigh M.by_right x.words s.formulas x.records q) × (g < s.formulas)
  and_right_less e eg = rw eg (lighter_right _ (and_lighter rep e).1, (and_parts [] rep e).1)

  pub or_left_less : {g : ℕ} → kind_at x.words q.goal ≡ 4 → g ≡ left_at x.words q.goal →
      (weigh_goal x.words s.formulas x.records q g < weigh M.by_search x.words s.formulas x.records q) × (g < s.formulas)
  or_left_less e eg = rw eg (lighter_half _ (or_lighter rep e).0, (or_parts [] rep e).0)

  pub or_right_less : {g : ℕ} → kind_at x.words q.goal ≡ 4 → g ≡ right_at x.words q.goal →
      (weigh_goal x.words s.formulas x.records q g < weigh M.by_search x.words s.formulas x.records q) × (g < s.formulas)
  or_right_less e eg = rw eg (lighter_half _ (or_lighter rep e).1, (or_parts [] rep e).1)
