-- `test_file` makes theory's tests in the order of the sections. Assumes nothing.
use mathlib.Core.Path.{sym, ◌∙◌}
use mathlib.Core.Logic.{inl, inr}
use Rattle.house_sections.proofs.Decoding.{bad_file, too_long, no_count, many_formulas, cut_formulas, many_assumptions}
use Rattle.house_sections.proofs.Decoding.{Counted, cut_assumptions_lem, at_inside, no_goal, is_held}
use Rattle.house_sections.proofs.test_file.Goals as goal
use Rattle.house_sections.proofs.test_file.Goals.{Else-assumptions-gt-MOST_ASSUMPTIONS}

-- both counts are tested
counted : (c : Else-assumptions-gt-MOST_ASSUMPTIONS) →
    Counted c.args.file.now c.number_at-formulas.result c.number_at-assumptions.result
counted c = record {
  small = c.if-file-gt-MOST_BYTES.false;
  two = c.if-file-lt2.false;
  formulas = c.number_at-formulas.ensures.result;
  few_formulas = c.if-formulas-gt-MOST_FORMULAS.false;
  inside = c.if-file-first.false;
  assumptions = c.number_at-assumptions.ensures.result;
  few_assumptions = c.if-assumptions-gt-MOST_ASSUMPTIONS.false;
}

pub returns-then-file-gt-MOST_BYTES-clause-held : goal.returns-then-file-gt-MOST_BYTES-clause-held
returns-then-file-gt-MOST_BYTES-clause-held c =
    let file = c.args.file.now in
    bad_file file (elim c.then-file-gt-MOST_BYTES.either [ inl h ↦ too_long file h | inr h ↦ no_count file h.0 h.1 ])

pub returns-then-formulas-gt-MOST_FORMULAS-clause-held : goal.returns-then-formulas-gt-MOST_FORMULAS-clause-held
returns-then-formulas-gt-MOST_FORMULAS-clause-held c =
    let file = c.args.file.now in
    let small = c.if-file-gt-MOST_BYTES.false in
    let two = c.if-file-lt2.false in
    let formulas = c.number_at-formulas in
    bad_file file (elim c.then-formulas-gt-MOST_FORMULAS.either [
      | inl h ↦ many_formulas file small formulas.result two formulas.ensures.result h
      | inr h ↦ cut_formulas file small formulas.result two formulas.ensures.result h.0 h.1
    ])

pub returns-then-assumptions-gt-MOST_ASSUMPTIONS-clause-held : goal.returns-then-assumptions-gt-MOST_ASSUMPTIONS-clause-held
returns-then-assumptions-gt-MOST_ASSUMPTIONS-clause-held c =
    let file = c.args.file.now in
    let formulas = c.number_at-formulas in
    let assumptions = c.number_at-assumptions in
    bad_file file
    (many_assumptions file c.if-file-gt-MOST_BYTES.false formulas.result c.if-file-lt2.false formulas.ensures.result
    c.if-formulas-gt-MOST_FORMULAS.false
    assumptions.result c.if-file-first.false assumptions.ensures.result c.if-assumptions-gt-MOST_ASSUMPTIONS.true)

pub returns-in_err-end-clause-held : goal.returns-in_err-end-clause-held
returns-in_err-end-clause-held c =
    let file = c.args.file.now in
    rw c.from_residual.ensures (bad_file file (cut_assumptions_lem file c.number_at-formulas.result c.number_at-assumptions.result
    (counted (goal.at.returns-in_err-end-clause-held c).Else-assumptions-gt-MOST_ASSUMPTIONS) c.in_err-end.ensures))

pub goal_at-requires : goal.goal_at-requires
goal_at-requires c =
    at_inside c.args.file.now c.number_at-formulas.result c.number_at-assumptions.result
    (counted (goal.at.goal_at-requires c).Else-assumptions-gt-MOST_ASSUMPTIONS)
    c.in_ok-end.end (sym c.in_ok-end.was ∙ c.entries_end.ensures)

pub returns-in_err-goal-clause-held : goal.returns-in_err-goal-clause-held
returns-in_err-goal-clause-held c =
    let file = c.args.file.now in
    rw c.from_residual-in_err-goal.ensures (bad_file file (no_goal file c.number_at-formulas.result c.number_at-assumptions.result
    (counted (goal.at.returns-in_err-goal-clause-held c).Else-assumptions-gt-MOST_ASSUMPTIONS)
    c.in_ok-end.end (sym c.in_ok-end.was ∙ c.entries_end.ensures) c.in_err-goal.ensures))

pub returns-clause-held : goal.returns-clause-held
returns-clause-held c =
    is_held c.args.file.now c.number_at-formulas.result c.number_at-assumptions.result
    (counted (goal.at.returns-clause-held c).Else-assumptions-gt-MOST_ASSUMPTIONS)
    c.in_ok-end.end (sym c.in_ok-end.was ∙ c.entries_end.ensures)
    c.in_ok-goal.goal (sym c.in_ok-goal.was ∙ c.goal_at.ensures)
