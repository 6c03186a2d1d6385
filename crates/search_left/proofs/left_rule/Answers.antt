-- `left_rule` meets its contract: each kind of the last formula by its law. Assumes nothing.
use Rattle.theory.specs.NameText.{names_in}
use Rattle.theory.specs.Names.{skipped}
use Rattle.meter.proofs.Laws.{carried}
use Rattle.search_left.proofs.Charged.{push_room}
use Rattle.search_left.proofs.LeftTurns.{last_of, last_is, drop_on, abort_on, abort_missed, split_on, settle_on}
use Rattle.search_left.proofs.left_rule.Goals as goal

pub returns-in-True : goal.returns-in-True
returns-in-True c =
    let last = last_of c.requires.some c.top-at.ensures c.formula_at-a.ensures c.term_at-x.ensures in
    drop_on (skipped (names_in c.args.setting.now.names.now)) c.requires.represented
    (last_is last c.kind_at.ensures c.in-True.is) c.pop.ensures

pub returns-in_err-close-in-False : goal.returns-in_err-close-in-False
returns-in_err-close-in-False c =
    let last = last_of c.requires.some c.top-at.ensures c.formula_at-a.ensures c.term_at-x.ensures in
    let e = carried c.from_residual.ensures in
    rw e (abort_missed (skipped (names_in c.args.setting.now.names.now)) c.requires.represented
    (last_is last c.kind_at.ensures c.in-False.is) c.close.ensures c.in_err-close-in-False.was)

pub returns-in_ok-close-in-False : goal.returns-in_ok-close-in-False
returns-in_ok-close-in-False c =
    let last = last_of c.requires.some c.top-at.ensures c.formula_at-a.ensures c.term_at-x.ensures in
    abort_on (skipped (names_in c.args.setting.now.names.now)) c.requires.represented
    (last_is last c.kind_at.ensures c.in-False.is) c.close.ensures c.in_ok-close-in-False.was

pub left_and-requires : goal.left_and-requires
left_and-requires c =
    let last = last_of c.requires.some c.top-at.ensures c.formula_at-a.ensures c.term_at-x.ensures in
    record { represented = c.requires.represented; last = last_is last c.kind_at.ensures c.in-And.is }

pub returns-in-Or : goal.returns-in-Or
returns-in-Or c =
    let last = last_of c.requires.some c.top-at.ensures c.formula_at-a.ensures c.term_at-x.ensures in
    split_on (skipped (names_in c.args.setting.now.names.now)) c.requires.represented (last_is last c.kind_at.ensures c.in-Or.is)

pub left_impl-requires : goal.left_impl-requires
left_impl-requires c =
    let last = last_of c.requires.some c.top-at.ensures c.formula_at-a.ensures c.term_at-x.ensures in
    record {
      represented = c.requires.represented;
      last = last_is last c.kind_at.ensures c.in-Impl.is;
    }

pub append-requires : goal.append-requires
append-requires c =
    push_room c.requires.represented c.requires.some c.pop-in_default.ensures

pub returns-in_default : goal.returns-in_default
returns-in_default c =
    let last = last_of c.requires.some c.top-at.ensures c.formula_at-a.ensures c.term_at-x.ensures in
    let d = c.in_default in
    settle_on (skipped (names_in c.args.setting.now.names.now)) c.requires.represented
    c.pop-in_default.ensures c.append.ensures.work c.append.ensures.result
    last c.kind_at.ensures d.not-True d.not-False d.not-And d.not-Or d.not-Impl
