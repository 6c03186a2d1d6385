-- `read`: what is left to read is the same from the loop's place as from its start. Assumes nothing.
use Rattle.std.proofs.Common.{◌≡◌, ◌-◌, length}
use Rattle.test_rows.specs.Bytes.{laid}
use Rattle.test_rows.proofs.numbers.read.Given as goal

abbrev pub invariant-loop-i : goal.invariant-loop-i
invariant-loop-i g l =
    (length l.numbers ≡ length l.initial.numbers) ×
    (laid g.T.Number.value_at g.T.Number.BYTES l.list (l.n - l.i) l.i l.next l.numbers
    ≡ laid g.T.Number.value_at g.T.Number.BYTES l.list l.n 0 l.at l.initial.numbers)
