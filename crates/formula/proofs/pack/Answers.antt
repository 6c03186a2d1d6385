-- `pack`: the three fields side by side. Assumes nothing.
use native.Mathlib.Nat.{le_trans}
use lib.Dec.{lit≤}
use lib.Bits.{mask_lt}
use Rattle.formula.proofs.Packed.{packed}
use Rattle.formula.proofs.pack.Goals as goal

pub overflow_cast-k : goal.overflow_cast-k
overflow_cast-k c =
    record { fits = le_trans (mask_lt c.number.result 4) (lit≤ tt) }

pub overflow_cast-l : goal.overflow_cast-l
overflow_cast-l c =
    record { fits = le_trans (mask_lt c.args.left 14) (lit≤ tt) }

pub overflow_cast-r : goal.overflow_cast-r
overflow_cast-r c =
    record { fits = le_trans (mask_lt c.args.right 14) (lit≤ tt) }

pub returns : goal.returns
returns c =
    rw (← c.number.ensures) (packed c.number.result c.args.left c.args.right)
