-- `left_and` meets its contract: a charge that passes a limit, or both halves in the place of A∧B. Assumes nothing.
use native.Mathlib.Omega.{arith}
use Rattle.meter.proofs.Laws.{carried}
use Rattle.search_left.proofs.Charged.{tested_ok, tested_err, push_room, push_room_more, spend_room}
use Rattle.search_left.proofs.LeftTurns.{and_short, and_on}
use mathlib.Core.Path.{refl}
use Rattle.search_left.proofs.left_and.Goals as goal

pub returns-in_err-charge : goal.returns-in_err-charge
returns-in_err-charge c =
    λ taken. let e = carried c.from_residual.ensures in
    rw e (and_short taken c.requires.represented c.requires.last (tested_err c.charge.ensures c.in_err-charge.was))

pub push-q1-requires : goal.push-q1-requires
push-q1-requires c =
    push_room c.requires.represented c.requires.last.some c.pop-rest.ensures

pub push-q2-requires : goal.push-q2-requires
push-q2-requires c =
    push_room_more c.requires.represented (tested_ok c.charge.ensures c.in_ok-charge.was) refl c.requires.last.some
    c.pop-rest.ensures c.push-q1.ensures.result

pub spend-requires : goal.spend-requires
spend-requires c =
    let r = spend_room c.requires.represented (tested_ok c.charge.ensures c.in_ok-charge.was) in omega arith

pub returns : goal.returns
returns c =
    λ taken. and_on taken c.requires.represented c.requires.last (tested_ok c.charge.ensures c.in_ok-charge.was) c.put_all.ensures
    c.pop-rest.ensures c.left_at.ensures c.push-q1.ensures.work c.push-q1.ensures.result
    c.right_at.ensures c.push-q2.ensures.work c.push-q2.ensures.result c.spend.ensures
