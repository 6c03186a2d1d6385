-- `left_of`: the field of 14 bits at bit 4. Assumes nothing.
use native.Mathlib.Omega.{arith}
use Rattle.theory.proofs.Fields.{take_field}
use Rattle.formula.proofs.left_of.Goals as goal

pub overflow_cast-result : goal.overflow_cast-result
overflow_cast-result c =
    omega (arith, take_field 4 14 c.args.packed)

pub returns : goal.returns
returns c =
    take_field 4 14 c.args.packed
