-- `lay_counted` lays what is counted, its number and a newline. Assumes nothing.
use Rattle.house_text.proofs.Laying.{laid_as, laid_then, laid_stops}
use Rattle.house_lines.proofs.Pieces.{counted_pieces}
use Rattle.house_lines.proofs.lay_counted.Goals as goal

pub returns-in_err-next : goal.returns-in_err-next
returns-in_err-next c =
    let args = c.args in
    rw c.from_residual.ensures (laid_as (counted_pieces args.what.now args.n) (laid_stops (laid_stops c.in_err-next.ensures _) _))

pub returns-in_err-end : goal.returns-in_err-end
returns-in_err-end c =
    let args = c.args in
    rw c.from_residual-in_err-end.ensures
    (laid_as (counted_pieces args.what.now args.n) (laid_stops (laid_then c.in_ok-next.ensures c.in_err-end.ensures) _))

pub returns : goal.returns
returns c =
    let args = c.args in
    laid_as (counted_pieces args.what.now args.n) (laid_then (laid_then c.in_ok-next.ensures c.in_ok-end.ensures) c.lay-2.ensures)
