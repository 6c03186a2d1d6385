-- `skip`: the position never passes the end. Assumes nothing.
use Rattle.std.proofs.Common.{◌≤◌, length}
use Rattle.test_rows.proofs.skip.Given as goal

abbrev pub invariant-loop : goal.invariant-loop
invariant-loop l = l.next ≤ length l.list
