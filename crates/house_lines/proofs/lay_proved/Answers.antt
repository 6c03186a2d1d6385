-- `lay_proved` lays six lines one behind the other. Assumes nothing.
use Rattle.theory.specs.Text.{bytes}
use Rattle.house_text.proofs.Laying.{laid_as, laid_then, laid_stops}
use Rattle.house_lines.proofs.Pieces.{proved_pieces}
use Rattle.house_lines.proofs.lay_proved.Goals as goal

pub returns-in_err-after_verdict : goal.returns-in_err-after_verdict
unfolding bytes
returns-in_err-after_verdict c =
    let args = c.args in
    rw c.from_residual.ensures (laid_as (proved_pieces args.used.steps args.used.indices args.used.formulas args.used.terms args.text.now)
    (laid_stops c.in_err-after_verdict.ensures _))

pub returns-in_err-after_steps : goal.returns-in_err-after_steps
unfolding bytes
returns-in_err-after_steps c =
    let args = c.args in
    rw c.from_residual-in_err-after_steps.ensures
    (laid_as (proved_pieces args.used.steps args.used.indices args.used.formulas args.used.terms args.text.now)
    (laid_then c.in_ok-after_verdict.ensures (laid_stops c.in_err-after_steps.ensures _)))

pub returns-in_err-after_names : goal.returns-in_err-after_names
unfolding bytes
returns-in_err-after_names c =
    let args = c.args in
    rw c.from_residual-in_err-after_names.ensures
    (laid_as (proved_pieces args.used.steps args.used.indices args.used.formulas args.used.terms args.text.now)
    (laid_then c.in_ok-after_verdict.ensures (laid_then c.in_ok-after_steps.ensures (laid_stops c.in_err-after_names.ensures _))))

pub returns-in_err-after_formulas : goal.returns-in_err-after_formulas
unfolding bytes
returns-in_err-after_formulas c =
    let args = c.args in
    rw c.from_residual-in_err-after_formulas.ensures
    (laid_as (proved_pieces args.used.steps args.used.indices args.used.formulas args.used.terms args.text.now)
    (laid_then c.in_ok-after_verdict.ensures (laid_then c.in_ok-after_steps.ensures (laid_then c.in_ok-after_names.ensures
    (laid_stops c.in_err-after_formulas.ensures _)))))

pub returns-in_err-after_terms : goal.returns-in_err-after_terms
unfolding bytes
returns-in_err-after_terms c =
    let args = c.args in
    rw c.from_residual-in_err-after_terms.ensures
    (laid_as (proved_pieces args.used.steps args.used.indices args.used.formulas args.used.terms args.text.now)
    (laid_then c.in_ok-after_verdict.ensures (laid_then c.in_ok-after_steps.ensures (laid_then c.in_ok-after_names.ensures
    (laid_then c.in_ok-after_formulas.ensures (laid_stops c.in_err-after_terms.ensures _))))))

pub returns : goal.returns
unfolding bytes
returns c =
    let args = c.args in
    laid_as (proved_pieces args.used.steps args.used.indices args.used.formulas args.used.terms args.text.now)
    (laid_then c.in_ok-after_verdict.ensures (laid_then c.in_ok-after_steps.ensures (laid_then c.in_ok-after_names.ensures
    (laid_then c.in_ok-after_formulas.ensures (laid_then c.in_ok-after_terms.ensures (c.lay_line-2.ensures))))))
