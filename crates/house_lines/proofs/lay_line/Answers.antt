-- `lay_line` lays a text and a newline. Assumes nothing.
use Rattle.theory.specs.Text.{bytes}
use Rattle.house_text.proofs.Laying.{laid_as, laid_then, laid_stops}
use Rattle.house_lines.proofs.Pieces.{line_pieces}
use Rattle.house_lines.proofs.lay_line.Goals as goal

pub returns-in_err-next : goal.returns-in_err-next
unfolding bytes
returns-in_err-next c =
    let args = c.args in
    rw c.from_residual.ensures (laid_as (line_pieces args.text.now) (laid_stops c.in_err-next.ensures _))

pub returns : goal.returns
unfolding bytes
returns c =
    let args = c.args in
    laid_as (line_pieces args.text.now) (laid_then c.in_ok-next.ensures (c.lay-2.ensures))
