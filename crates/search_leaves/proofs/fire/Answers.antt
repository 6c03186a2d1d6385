-- Rule 2 by its outcome: nothing fires, a shortage, or all that fire. Assumes nothing.
use native.Mathlib.Omega.{arith}
use mathlib.Core.Path.{sym, ◌∙◌}
use Rattle.meter.proofs.Laws.{carried}
use Rattle.search_laws.specs.Turning.{turns_on, turns_missed, turns_try}
use Rattle.search_laws.proofs.Settle.{settle_try, settle_short, settle_goes}
use Rattle.search_leaves.proofs.Fall.{count_few, may_fire, may_spend}
use Rattle.search_leaves.proofs.fire.Goals as goal

pub returns-then-c-eq0 : goal.returns-then-c-eq0
returns-then-c-eq0 c =
    λ taken.
    turns_try (settle_try taken c.requires.represented c.requires.absent.1 c.count_fires-c.ensures c.if-c-eq0.true
    c.requires.absent.0)

pub overflow_add-end : goal.overflow_add-end
overflow_add-end c =
    omega (arith, count_few c.requires.represented c.count_fires-c.ensures)

pub returns-in_err-charge : goal.returns-in_err-charge
returns-in_err-charge c =
    λ taken.
    let e = carried c.from_residual.ensures in
    rw e (turns_missed (settle_short taken c.requires.represented c.requires.absent.1 c.count_fires-c.ensures c.if-c-eq0.false
    c.requires.absent.0 (record { is = sym c.in_err-charge.was ∙ c.charge.ensures })))

pub fire_all-q1-requires : goal.fire_all-q1-requires
fire_all-q1-requires c =
    may_fire c.requires.represented c.requires.absent.0 c.count_fires-c.ensures
    (record { is = sym c.in_ok-charge.was ∙ c.charge.ensures })

pub spend-requires : goal.spend-requires
spend-requires c =
    may_spend c.requires.represented c.count_fires-c.ensures (record { is = sym c.in_ok-charge.was ∙ c.charge.ensures })

pub returns : goal.returns
returns c =
    λ taken.
    turns_on (settle_goes taken c.requires.represented c.requires.absent.1 c.count_fires-c.ensures c.if-c-eq0.false
    c.requires.absent.0 (record { is = sym c.in_ok-charge.was ∙ c.charge.ensures }) c.spend.ensures c.fire_all-q1.ensures)
