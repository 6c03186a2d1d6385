-- `nested` meets its contract: both kinds are tested. Assumes nothing.
use Rattle.std.proofs.Common.{rules}
use Rattle.search_left.proofs.Nests.{nested_other, nested_from}
use Rattle.search_left.proofs.nested.Goals as goal

pub returns-then-eq : goal.returns-then-eq
returns-then-eq c =
    let a = c.args in
    nested_from a.words.now a.work.now a.sequent.level a.i c.formula_at-a.ensures c.left_at-from.ensures c.kind_at.ensures
    (record { yes = λ e. search rules; no = λ e z. search rules }) c.if-eq.true c.kind_at-then-eq.ensures
    (record { yes = λ e. search rules; no = λ e z. search rules })

pub returns-else-eq : goal.returns-else-eq
returns-else-eq c =
    let a = c.args in
    nested_other a.words.now a.work.now a.sequent.level a.i c.formula_at-a.ensures c.left_at-from.ensures c.kind_at.ensures
    (record { yes = λ e. search rules; no = λ e z. search rules }) c.if-eq.false
