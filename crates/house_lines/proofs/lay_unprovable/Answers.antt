-- `lay_unprovable` lays two lines. Assumes nothing.
use Rattle.theory.specs.Text.{bytes}
use Rattle.house_text.proofs.Laying.{laid_as, laid_then, laid_stops}
use Rattle.house_lines.proofs.Pieces.{unprovable_pieces}
use Rattle.house_lines.proofs.lay_unprovable.Goals as goal

pub returns-in_err-next : goal.returns-in_err-next
unfolding bytes
returns-in_err-next c =
    let args = c.args in
    rw c.from_residual.ensures (laid_as (unprovable_pieces args.steps) (laid_stops c.in_err-next.ensures _))

pub returns : goal.returns
unfolding bytes
returns c =
    let args = c.args in
    laid_as (unprovable_pieces args.steps) (laid_then c.in_ok-next.ensures (c.lay_counted.ensures))
