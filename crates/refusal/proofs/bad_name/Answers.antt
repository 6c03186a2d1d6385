-- `bad_name` has passed lawful names up to `at`. Assumes nothing.
use mathlib.Core.Path.{sym, ◌∙◌}
use native.Mathlib.Omega.{arith}
use Rattle.identifier_generator.proofs.Cursor.{end_inside}
use Rattle.refusal.proofs.NameWalk.{none_passed, one_more}
use Rattle.refusal.proofs.bad_name.Goals as goal

pub loop-place-init : goal.loop-place-init
loop-place-init c =
    none_passed c.args.text.now c.args.count

pub overflow_add-end : goal.overflow_add-end
overflow_add-end c =
    let sized = sym c.in-Some.is ∙ c.entry_size.ensures in
    omega (arith, end_inside c.args.text.now c.loop-place.at c.in-Some.size sized c.loop-place.invariant.inside)

pub loop-place-preserved : goal.loop-place-preserved
loop-place-preserved c =
    one_more c.loop-place.invariant (omega arith) c.in-Some.size (sym c.in-Some.is ∙ c.entry_size.ensures)
    (sym c.if-not-lawful.false ∙ c.lawful.ensures)
