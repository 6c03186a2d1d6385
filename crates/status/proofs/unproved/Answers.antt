-- `unproved`: a closed goal is settled; of an open one its negation tells. Assumes nothing.
use Prim.Native.Nat.{ℕ}
use mathlib.Core.Path.{◌≡◌, refl, sym, ap, ◌∙◌, subst}
use mathlib.Core.Option.{none}
use lib.ListN.{length, replicate, length-replicate}
use Rattle.theory.specs.Call.{refusal}
use Rattle.theory.specs.Status.{first_claim}
use Rattle.context.specs.Area.{zeroed}
use Rattle.status.specs.Whole.{inquiry_of}
use Rattle.status.proofs.Second.{marks_ask, goal_open, goal_closed}
use Rattle.status.proofs.unproved.Goals as goal

pub open_goal-requires : goal.open_goal-requires
open_goal-requires c =
    let a = c.args in
    let m = marks_ask a.words.now a.count a.goal a.terms.now a.work.now a.steps c.requires.passed in record {
      sizes = m.0;
      good = m.1;
      work = c.requires.work;
    }

pub search_negation-requires : goal.search_negation-requires
search_negation-requires c =
    let a = c.args in
    let zero = c.open_goal.ensures.work in
    let long = ap length zero ∙ length-replicate (length a.work.now) zeroed in record {
      passed = subst (λ (n : ℕ). refusal (first_claim (inquiry_of a.words.now a.count a.goal a.terms.now n a.steps)) ≡ none)
          (sym long) c.requires.passed;
      work = zero ∙ ap (λ (n : ℕ). replicate n zeroed) (sym long);
    }

pub returns-then-open_goal : goal.returns-then-open_goal
returns-then-open_goal c =
    let a = c.args in
    let long = ap length c.open_goal.ensures.work ∙ length-replicate (length a.work.now) zeroed in
    let e = c.search_negation.ensures in record {
      result = goal_open a.words.now a.count a.goal a.terms.now a.work.now a.steps c.requires.passed
          (sym c.if-open_goal.true ∙ c.open_goal.ensures.result) _ long e.result;
      kept = e.kept;
      work = e.work ∙ ap
          (λ (n : ℕ). replicate n zeroed) long;
    }

pub returns : goal.returns
returns c =
    let a = c.args in record {
      result = goal_closed a.words.now a.count a.goal a.terms.now a.work.now a.steps c.requires.passed
          (sym c.if-open_goal.false ∙ c.open_goal.ensures.result);
      kept = refl;
      work = c.open_goal.ensures.work;
    }
