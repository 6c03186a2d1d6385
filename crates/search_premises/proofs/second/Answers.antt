-- `second` meets its contract: a charge that passes a limit, or the second premise of rule 4. Assumes nothing.
use native.Mathlib.Omega.{arith}
use mathlib.Core.Path.{refl}
use Rattle.meter.proofs.Laws.{carried}
use Rattle.search_laws.proofs.Charge.{passes}
use Rattle.search_premises.proofs.Makes.{tested, prepares_short, second_on}
use Rattle.search_premises.proofs.second.Goals as goal

pub returns-in_err-charge : goal.returns-in_err-charge
returns-in_err-charge c =
    rw (carried c.from_residual.ensures) (prepares_short (tested c.in_err-charge.ensures))

pub replace-next-requires : goal.replace-next-requires
replace-next-requires c =
    let p = passes (tested c.in_ok-charge.ensures) in let r = c.requires.represented in omega (arith, r.rooms, r.seats.fits)

pub spend-requires : goal.spend-requires
spend-requires c =
    let p = passes (tested c.in_ok-charge.ensures) in let r = c.requires.represented in
    omega (arith, r.rooms.most_formulas, r.rooms.most_terms)

pub returns : goal.returns
returns c =
    second_on c.requires.represented c.requires.nested c.requires.proof (tested c.in_ok-charge.ensures) refl c.term_at.ensures
    c.put.ensures c.formula_at.ensures c.right_at-c.ensures c.replace-next.ensures.work c.replace-next.ensures.result c.spend.ensures
