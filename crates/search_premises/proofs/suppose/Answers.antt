-- `suppose` meets its contract: a charge that passes a limit, or a formula supposed a level up. Assumes nothing.
use native.Mathlib.Omega.{arith}
use borrow.Author.Rules.{rules}
use Rattle.meter.proofs.Laws.{carried}
use Rattle.search_laws.proofs.Charge.{passes}
use Rattle.search_premises.specs.Prepared.{supposes}
use Rattle.search_premises.proofs.Makes.{tested, supposes_short}
use Rattle.search_premises.proofs.suppose.Goals as goal

pub returns-in_err-charge : goal.returns-in_err-charge
returns-in_err-charge c =
    rw (carried c.from_residual.ensures) (supposes_short (tested c.in_err-charge.ensures))

pub copy_up-requires : goal.copy_up-requires
copy_up-requires c =
    let p = passes (tested c.in_ok-charge.ensures) in omega arith

pub push-next-requires : goal.push-next-requires
push-next-requires c =
    let p = passes (tested c.in_ok-charge.ensures) in rw c.up.ensures (omega arith)

pub spend-requires : goal.spend-requires
spend-requires c =
    let p = passes (tested c.in_ok-charge.ensures) in omega arith

pub returns : goal.returns
returns c =
    supposes (tested c.in_ok-charge.ensures) c.put.ensures (search rules) (search rules) c.spend.ensures
