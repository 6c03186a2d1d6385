-- `write_alone` writes by the case that the index and the room fall under. Assumes nothing.
use native.Mathlib.Omega.{arith}
use lib.ListN.{length}
use Rattle.theory.specs.Names.{spell}
use Rattle.theory.proofs.Fitted.{alone_late, alone_no_room, alone_fits}
use Rattle.identifier_generator.proofs.Handing.{hands_nothing, hands_text}
use Rattle.identifier_generator.proofs.write_alone.Goals as goal
use Rattle.identifier_generator.proofs.write_alone.Goals.{then-i-gt-LAST_INDEX, else-i-gt-LAST_INDEX+then-buf-count}

pub returns-else-buf-count : goal.returns-else-buf-count
returns-else-buf-count c =
    let args = c.args in
    let room = length args.buf.now in
    hands_text (spell args.i) room (alone_fits args.i room (omega arith) (omega arith))
    c.letter_count-count.ensures c.spell_into.ensures

pub returns : goal.returns
returns c =
    let args = c.args in
    let room = length args.buf.now in
    let zeros = c.fill.ensures.after (λ y e. e) in
    elim c.if-i-gt-LAST_INDEX.branch [
      | then-i-gt-LAST_INDEX w ↦ rw w.refusal-is (hands_nothing 7 room (alone_late args.i room (omega arith)) zeros)
      | else-i-gt-LAST_INDEX+then-buf-count w ↦ rw w.refusal-is
          (hands_nothing 12 room (alone_no_room args.i room (omega arith) (omega arith)) zeros)
    ]
