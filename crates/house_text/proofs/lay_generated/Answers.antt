-- `lay_generated` has laid the letters before `j`. Assumes nothing.
use mathlib.Core.Path.{ap}
use mathlib.Core.Option.{some}
use mathlib.Core.List.{[], ◌∷◌}
use native.Mathlib.Omega.{arith}
use Rattle.theory.specs.Names.{spell}
use Rattle.house_text.proofs.Laying.{laid_nothing, laid_as, laid_next, laid_short}
use Rattle.house_text.proofs.lay_generated.Goals as goal

pub loop-j-init : goal.loop-j-init
loop-j-init c =
    laid_nothing c.args.buf.now c.args.at

pub returns-in_err-next : goal.returns-in_err-next
returns-in_err-next c =
    let turn = c.loop-j in
    let byte = laid_as (ap (λ b. some (b ∷ [])) c.letter.ensures) c.in_err-next.ensures in
    rw c.from_residual.ensures (laid_short (spell c.args.g) turn.j turn.invariant (omega (arith, c.letter_count-j-end.ensures)) byte)

pub loop-j-preserved : goal.loop-j-preserved
loop-j-preserved c =
    let turn = c.loop-j in
    let byte = laid_as (ap (λ b. some (b ∷ [])) c.letter.ensures) c.in_ok-next.ensures in
    laid_next (spell c.args.g) turn.j turn.invariant (omega (arith, c.letter_count-j-end.ensures)) byte
