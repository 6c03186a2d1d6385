-- `digit` keeps the power of the digits it has passed. Assumes nothing.
use native.Mathlib.Omega.{arith}
use Rattle.identifier_generator.proofs.Powers.{power_positive, passed}
use Rattle.identifier_generator.proofs.digit.Goals as goal
use Rattle.identifier_generator.proofs.digit.Goals.{then-k-ge-DIGITS-via-then-k-ge-DIGITS, then-k-ge-DIGITS-via-else-k-ge-DIGITS+then-i-power}

pub returns-then-k-ge-DIGITS : goal.returns-then-k-ge-DIGITS
returns-then-k-ge-DIGITS c =
    elim c.then-k-ge-DIGITS.branch [
      | then-k-ge-DIGITS-via-then-k-ge-DIGITS w ↦ passed c.args.i 13 c.args.k (omega arith) (omega arith)
      | then-k-ge-DIGITS-via-else-k-ge-DIGITS+then-i-power w ↦ passed c.args.i c.loop-passed._passed c.args.k (omega arith) (omega arith)
    ]

pub nonzero_div-result : goal.nonzero_div-result
nonzero_div-result c =
    omega (arith, power_positive c.loop-passed._passed)
