-- `lay_decimal` lays the digits before the last one and then that one. The measure is the number. Assumes nothing.
use native.Mathlib.Omega.{arith}
use Rattle.house_text.proofs.Laying.{laid_digit, laid_digits, digits_stop}
use Rattle.house_text.proofs.+lay_decimal.Goals as goal

pub returns-then-n-lt10 : goal.returns-then-n-lt10
returns-then-n-lt10 t c =
    laid_digit c.args.n (omega arith) c.lay_byte.ensures

pub returns-in_err-next : goal.returns-in_err-next
returns-in_err-next t c =
    rw c.from_residual.ensures (digits_stop c.args.n c.if-n-lt10.false c.requires c.in_err-next.ensures)

pub returns : goal.returns
returns t c =
    laid_digits c.args.n c.if-n-lt10.false c.requires c.in_ok-next.ensures c.lay_byte-2.ensures
