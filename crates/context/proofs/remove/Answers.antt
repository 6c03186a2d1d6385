-- `remove` moves the records behind the place one down. Assumes nothing.
use native.Mathlib.Omega.{arith}
use Rattle.context.specs.Area.{removed, shifts}
use Rattle.context.proofs.remove.Goals as goal

pub returns-clause-work : goal.returns-clause-work
unfolding removed shifts
returns-clause-work c =
    grind arith
