-- `checksum`: both sums stay below 65,521. Assumes nothing.
use Rattle.std.proofs.Common.{◌<◌}
use Rattle.test_runs.proofs.writer.checksum.Given as goal

abbrev pub invariant-loop-b : goal.invariant-loop-b
invariant-loop-b l = (l.low < 65521) × (l.high < 65521)
