-- `solvable_status`: what is left after each outcome of the first search is what theory's status leaves. Assumes nothing.
use Prim.Native.Nat.{ℕ}
use mathlib.Core.Path.{refl, ap, ◌∙◌}
use mathlib.Core.List.{List}
use native.Mathlib.Omega.{arith}
use lib.ListN.{length, take, replicate}
use Rattle.std.specs.Prelude.{Ok}
use Rattle.theory.specs.NameText.{padded}
use Rattle.status.proofs.Whole.{answered_as, carried, proved_solvable, not_answered, failed_asks, failed_answered}
use Rattle.status.proofs.solvable_status.Goals as goal
use Rattle.status.proofs.solvable_status.Goals.{in-Proved, in-Unprovable}

pub returns-in_err-search_goal : goal.returns-in_err-search_goal
returns-in_err-search_goal c =
    let a = c.args in
    answered_as (not_answered a.words.now a.count a.goal a.terms.now a.work.now a.steps c.search_goal.ensures
    c.in_err-search_goal.field-0.0 c.in_err-search_goal.was) (carried c.from_residual.ensures) refl refl refl

pub unproved-status-requires : goal.unproved-status-requires
unproved-status-requires c =
    let a = c.args in
    let asks = failed_asks a.words.now a.count a.goal a.terms.now a.work.now a.steps c.search_goal.ensures
    (c.in_ok-search_goal.was ∙ ap Ok c.in-Unprovable.is) in record { passed = asks.0; work = asks.1 }

pub returns : goal.returns
returns c =
    let a = c.args in
    let kept : List ℕ → List ℕ = λ v. padded (length v) (take a.count v) in
    let zeros : List ℕ → List ℕ = λ v. replicate (length v) 0 in
    elim c.match-branch-2.branch [
      | in-Proved w ↦ answered_as
          (proved_solvable a.words.now a.count a.goal a.terms.now a.work.now a.steps c.search_goal.ensures
          (c.in_ok-search_goal.was ∙ ap Ok w.in-Proved.is))
          w.status-is (c.clean.ensures.words ∙ ap kept w.words-is) (c.clean.ensures.terms ∙ ap zeros w.terms-is) w.work-is
      | in-Unprovable w ↦
          let s = w.unproved-status.ensures in
          answered_as
          (failed_answered a.words.now a.count a.goal a.terms.now a.work.now a.steps c.search_goal.ensures
          (c.in_ok-search_goal.was ∙ ap Ok w.in-Unprovable.is) w.unproved-status.new.words w.unproved-status.new.terms s.result
          (record { room = omega (arith, w.unproved-status.auto); given = s.kept; numbers = omega (arith, w.unproved-status.auto) })
          s.work)
          w.status-is (c.clean.ensures.words ∙ ap kept w.words-is) (c.clean.ensures.terms ∙ ap zeros w.terms-is) w.work-is
    ]
