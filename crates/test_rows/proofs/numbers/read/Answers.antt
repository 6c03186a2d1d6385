-- `read`: what is left to read is the same from the loop's place as from its start. Assumes nothing.
use Rattle.std.proofs.Common.{rules, arith}
use Rattle.test_rows.proofs.Laying.{laid_step, laid_end}
use Rattle.test_rows.proofs.numbers.read.Goals as goal

pub loop-i-preserved : goal.loop-i-preserved
loop-i-preserved g c =
    let l = c.loop-i in
    let a = c.args in
    let step = laid_step g.T.Number.value_at g.T.Number.BYTES a.list.now a.n l.i l.next l.numbers (omega arith) in
    (search rules, cc (step, l.invariant.1, c.at.ensures, c.BYTES.ensures, c.after-next.ensures.result))

pub returns : goal.returns
returns g c =
    let l = c.loop-i in
    let a = c.args in
    cc (laid_end g.T.Number.value_at g.T.Number.BYTES a.list.now a.n l.i l.next l.numbers (omega arith), l.invariant.1)
