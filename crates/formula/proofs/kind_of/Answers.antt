-- `kind_of`: the mask of four ones is the remainder by 16. Assumes nothing.
use mathlib.Core.Path.{ap, ◌∙◌}
use native.Mathlib.Nat.{le_trans}
use lib.Dec.{lit≤}
use lib.Bits.{and_mask, mask_lt}
use Rattle.formula.specs.Kinds.{kind_named}
use Rattle.formula.proofs.kind_of.Goals as goal

pub overflow_cast-packed : goal.overflow_cast-packed
overflow_cast-packed c =
    record { fits = le_trans (mask_lt c.args.packed 4) (lit≤ tt) }

pub returns : goal.returns
returns c =
    c.from.ensures ∙ ap kind_named (and_mask c.args.packed 4)
