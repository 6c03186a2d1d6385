-- `and_impl` meets its contract: a charge that passes a limit, or A→(B→C) in the place of (A∧B)→C. Assumes nothing.
use native.Mathlib.Omega.{arith}
use Rattle.theory.specs.NameText.{names_in}
use Rattle.theory.specs.Names.{skipped}
use Rattle.meter.proofs.Laws.{carried}
use Rattle.search_left.proofs.Charged.{tested_ok, tested_err, push_room}
use Rattle.search_left.proofs.LeftMakes.{curry_short, curry_room, curry_in, curry_on}
use Rattle.search_left.proofs.and_impl.Goals as goal

pub returns-in_err-charge : goal.returns-in_err-charge
returns-in_err-charge c =
    let e = carried c.from_residual.ensures in
    rw e (curry_short (skipped (names_in c.args.setting.now.names.now)) c.requires.represented c.next_two-first.ensures.first
    c.next_two-first.ensures.second c.requires.last
    (tested_err c.charge.ensures c.in_err-charge.was))

pub arrow-requires : goal.arrow-requires
arrow-requires c =
    let r = curry_in (skipped (names_in c.args.setting.now.names.now)) c.requires.represented
    c.next_two-first.ensures.first c.next_two-first.ensures.second c.requires.last
    (tested_ok c.charge.ensures c.in_ok-charge.was) c.left_at-i.ensures c.left_at-l.ensures c.right_at.ensures c.right_at-2.ensures in
    (r.1, r.2)

pub arrow-requires-2 : goal.arrow-requires-2
arrow-requires-2 c =
    let r = curry_in (skipped (names_in c.args.setting.now.names.now)) c.requires.represented
    c.next_two-first.ensures.first c.next_two-first.ensures.second c.requires.last
    (tested_ok c.charge.ensures c.in_ok-charge.was) c.left_at-i.ensures c.left_at-l.ensures c.right_at.ensures c.right_at-2.ensures in
    let o = curry_room (skipped (names_in c.args.setting.now.names.now)) c.requires.represented c.next_two-first.ensures.first
    c.next_two-first.ensures.second c.requires.last
    (tested_ok c.charge.ensures c.in_ok-charge.was) in
    (r.0, omega arith)

pub curried-requires : goal.curried-requires
curried-requires c =
    let o = curry_room (skipped (names_in c.args.setting.now.names.now)) c.requires.represented c.next_two-first.ensures.first
    c.next_two-first.ensures.second c.requires.last
    (tested_ok c.charge.ensures c.in_ok-charge.was) in
    (omega arith, o.2, o.3)

pub push-q1-requires : goal.push-q1-requires
push-q1-requires c =
    push_room c.requires.represented c.requires.last.last.some c.pop-rest.ensures

pub spend-requires : goal.spend-requires
spend-requires c =
    let o = curry_room (skipped (names_in c.args.setting.now.names.now)) c.requires.represented c.next_two-first.ensures.first
    c.next_two-first.ensures.second c.requires.last
    (tested_ok c.charge.ensures c.in_ok-charge.was) in
    (o.0, o.1)

pub returns : goal.returns
returns c =
    curry_on (skipped (names_in c.args.setting.now.names.now)) c.requires.represented
    c.next_two-first.ensures.first c.next_two-first.ensures.second c.requires.last
    (tested_ok c.charge.ensures c.in_ok-charge.was) c.left_at-i.ensures c.left_at-l.ensures c.right_at.ensures c.right_at-2.ensures
    c.arrow.ensures c.arrow-2.ensures c.curried.ensures c.pop-rest.ensures
    c.push-q1.ensures.work c.push-q1.ensures.result c.spend.ensures
