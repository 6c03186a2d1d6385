-- `or_impl` meets its contract: a charge that passes a limit, or A→C and B→C in the place of (A∨B)→C. Assumes nothing.
use native.Mathlib.Omega.{arith}
use mathlib.Core.Path.{refl}
use Rattle.theory.specs.NameText.{names_in}
use Rattle.theory.specs.Names.{skipped}
use Rattle.meter.proofs.Laws.{carried}
use Rattle.search_left.proofs.Charged.{tested_ok, tested_err, push_room, push_room_more}
use Rattle.search_left.proofs.LeftMakes.{sides_short, sides_room, sides_in, sides_on}
use Rattle.search_left.proofs.or_impl.Goals as goal

pub returns-in_err-charge : goal.returns-in_err-charge
returns-in_err-charge c =
    let e = carried c.from_residual.ensures in
    rw e (sides_short (skipped (names_in c.args.setting.now.names.now)) c.requires.represented c.next_two-first.ensures.first
    c.next_two-first.ensures.second c.requires.last
    (tested_err c.charge.ensures c.in_err-charge.was))

pub arrow-requires : goal.arrow-requires
arrow-requires c =
    let r = sides_in (skipped (names_in c.args.setting.now.names.now)) c.requires.represented
    c.next_two-first.ensures.first c.next_two-first.ensures.second c.requires.last
    (tested_ok c.charge.ensures c.in_ok-charge.was) c.left_at-i.ensures c.right_at-c.ensures c.right_at-r.ensures c.left_at.ensures in
    (r.0, r.2)

pub arrow-requires-2 : goal.arrow-requires-2
arrow-requires-2 c =
    let r = sides_in (skipped (names_in c.args.setting.now.names.now)) c.requires.represented
    c.next_two-first.ensures.first c.next_two-first.ensures.second c.requires.last
    (tested_ok c.charge.ensures c.in_ok-charge.was) c.left_at-i.ensures c.right_at-c.ensures c.right_at-r.ensures c.left_at.ensures in
    (r.1, r.2)

pub composed-requires : goal.composed-requires
composed-requires c =
    let o = sides_room (skipped (names_in c.args.setting.now.names.now)) c.requires.represented c.next_two-first.ensures.first
    c.next_two-first.ensures.second c.requires.last
    (tested_ok c.charge.ensures c.in_ok-charge.was) in
    (omega arith, o.2)

pub composed-requires-2 : goal.composed-requires-2
composed-requires-2 c =
    let o = sides_room (skipped (names_in c.args.setting.now.names.now)) c.requires.represented c.next_two-first.ensures.first
    c.next_two-first.ensures.second c.requires.last
    (tested_ok c.charge.ensures c.in_ok-charge.was) in
    (omega arith, o.3)

pub push-q1-requires : goal.push-q1-requires
push-q1-requires c =
    push_room c.requires.represented c.requires.last.last.some c.pop-rest.ensures

pub push-q2-requires : goal.push-q2-requires
push-q2-requires c =
    let st = c.args.state in
    let q = c.args.sequent in
    push_room_more c.requires.represented (tested_ok c.charge.ensures c.in_ok-charge.was) refl c.requires.last.last.some
    c.pop-rest.ensures c.push-q1.ensures.result

pub spend-requires : goal.spend-requires
spend-requires c =
    let o = sides_room (skipped (names_in c.args.setting.now.names.now)) c.requires.represented c.next_two-first.ensures.first
    c.next_two-first.ensures.second c.requires.last
    (tested_ok c.charge.ensures c.in_ok-charge.was) in
    (o.0, o.1)

pub returns : goal.returns
returns c =
    sides_on (skipped (names_in c.args.setting.now.names.now))
    c.requires.represented c.next_two-first.ensures.first
    c.next_two-first.ensures.second c.requires.last
    (tested_ok c.charge.ensures c.in_ok-charge.was) c.left_at-i.ensures c.right_at-c.ensures c.right_at-r.ensures c.left_at.ensures
    c.arrow.ensures c.arrow-2.ensures
    c.composed.ensures c.composed-2.ensures c.pop-rest.ensures c.push-q1.ensures.work
    c.push-q1.ensures.result
    c.push-q2.ensures.work c.push-q2.ensures.result c.spend.ensures
