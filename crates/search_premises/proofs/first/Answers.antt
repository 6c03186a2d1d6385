-- `first` meets its contract: a charge that passes a limit, or the first premise of rule 4. Assumes nothing.
use native.Mathlib.Omega.{arith}
use mathlib.Core.Path.{refl}
use Rattle.meter.proofs.Laws.{carried}
use Rattle.search_laws.proofs.Charge.{passes}
use Rattle.search_premises.proofs.Makes.{tested, prepares_short, nested_room, first_on}
use Rattle.search_premises.proofs.first.Goals as goal

pub returns-in_err-charge : goal.returns-in_err-charge
returns-in_err-charge c =
    rw (carried c.from_residual.ensures) (λ taken e h. prepares_short (tested c.in_err-charge.ensures))

pub arrow-requires : goal.arrow-requires
arrow-requires c =
    nested_room c.requires.represented c.requires.nested refl c.formula_at-a.ensures c.left_at-goal.ensures c.right_at.ensures
    c.right_at-2.ensures

pub composed-requires : goal.composed-requires
composed-requires c =
    let p = passes (tested c.in_ok-charge.ensures) in let r = c.requires.represented in omega (arith, r.rooms.most_terms)

pub overflow_add-at-2 : goal.overflow_add-at-2
overflow_add-at-2 c =
    let p = passes (tested c.in_ok-charge.ensures) in let r = c.requires.represented in omega (arith, r.rooms.most_terms)

pub replace-next-requires : goal.replace-next-requires
replace-next-requires c =
    let p = passes (tested c.in_ok-charge.ensures) in let r = c.requires.represented in omega (arith, r.rooms, r.seats.fits)

pub spend-requires : goal.spend-requires
spend-requires c =
    let p = passes (tested c.in_ok-charge.ensures) in let r = c.requires.represented in
    omega (arith, r.rooms.most_formulas, r.rooms.most_terms)

pub returns : goal.returns
returns c =
    first_on c.requires.represented c.requires.nested refl c.formula_at-a.ensures c.left_at-goal.ensures c.right_at.ensures
    c.right_at-2.ensures (tested c.in_ok-charge.ensures) c.arrow.ensures c.term_at.ensures c.composed.ensures
    c.replace-next.ensures.work c.replace-next.ensures.result c.spend.ensures
