-- `next_two` meets its contract: few names are skipped. Assumes nothing.
use native.Mathlib.Omega.{arith}
use Rattle.search_left.proofs.LeftMakes.{near}
use Rattle.search_left.proofs.Setting.next_two.Goals as goal

pub overflow_add-first : goal.overflow_add-first
overflow_add-first c =
    let t = c.args.self.now in
    omega (arith, near t.names.now t.few _ c.fresh-first.ensures)

pub fresh-second-requires : goal.fresh-second-requires
fresh-second-requires c =
    let t = c.args.self.now in
    omega (arith, near t.names.now t.few _ c.fresh-first.ensures)

pub returns-clause-near : goal.returns-clause-near
returns-clause-near c =
    let t = c.args.self.now in
    omega (arith, near t.names.now t.few _ c.fresh-first.ensures, near t.names.now t.few _ c.fresh-second.ensures)
