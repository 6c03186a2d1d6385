-- `write` hands the written front back. Assumes nothing.
use mathlib.Core.Path.{refl}
use Rattle.identifier_generator.proofs.Handing.{front_is_part, part_inside}
use Rattle.house_text.proofs.WholeText.{written_front}
use Rattle.house_text.proofs.write.Goals as goal

pub slice_bounds-result-end : goal.slice_bounds-result-end
slice_bounds-result-end c =
    part_inside (written_front _) c.in_ok-n.ensures.written

pub returns-clause-written : goal.returns-clause-written
returns-clause-written c =
    let hands = c.in_ok-n.ensures.written in
    record {
      front_is = refl;
      part_is = front_is_part (written_front _) hands;
      number_is = hands.number_is;
    }
