-- `lay_leaf` lays a letter and a number. Assumes nothing.
use mathlib.Core.Option.{some}
use Rattle.theory.specs.Text.{decimal}
use Rattle.house_text.specs.Laid.{joined}
use Rattle.house_text.proofs.Laying.{laid_then, laid_stops}
use Rattle.house_text.proofs.lay_leaf.Goals as goal

pub returns-in_err-next : goal.returns-in_err-next
unfolding joined
returns-in_err-next c =
    rw c.from_residual.ensures (laid_stops c.in_err-next.ensures (some (decimal c.args.symbol)))

pub returns : goal.returns
unfolding joined
returns c =
    laid_then c.in_ok-next.ensures c.lay_decimal.ensures
