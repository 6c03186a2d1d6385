-- `lay_byte` lays a byte where it has room. Assumes nothing.
use native.Mathlib.Omega.{arith}
use Rattle.house_text.proofs.Laying.{laid_byte, laid_no_byte}
use Rattle.house_text.proofs.lay_byte.Goals as goal

pub returns-then-buf-at : goal.returns-then-buf-at
returns-then-buf-at c =
    laid_no_byte c.args.buf.now c.args.at c.args.b (omega arith)

pub returns : goal.returns
returns c =
    laid_byte c.args.buf.now c.args.at c.args.b (omega arith)
