-- `lay` has laid the bytes before `i`. Assumes nothing.
use native.Mathlib.Omega.{arith}
use Rattle.house_text.proofs.Laying.{laid_nothing, laid_next, laid_whole, laid_short}
use Rattle.house_text.proofs.lay.Goals as goal

pub loop-i-init : goal.loop-i-init
loop-i-init c =
    laid_nothing c.args.buf.now c.args.at

pub returns-in_err-next : goal.returns-in_err-next
returns-in_err-next c =
    let turn = c.loop-i in
    rw c.from_residual.ensures (laid_short c.args.text.now turn.i turn.invariant (omega arith) c.in_err-next.ensures)

pub loop-i-preserved : goal.loop-i-preserved
loop-i-preserved c =
    let turn = c.loop-i in
    laid_next c.args.text.now turn.i turn.invariant (omega arith) c.in_ok-next.ensures

pub returns : goal.returns
returns c =
    laid_whole c.args.text.now c.loop-i.i c.loop-i.invariant (omega arith)
