-- `copy_up` meets its contract: the library's copy of the unordered records, and of the ordered ones. Assumes nothing.
use native.Mathlib.Omega.{arith}
use Rattle.context.specs.Area.{raised, copies}
use Rattle.context.proofs.copy_up.Goals as goal

pub returns : goal.returns
unfolding raised copies
returns c =
    grind arith
