-- `name_alone` hands the written front back. Assumes nothing.
use mathlib.Core.Path.{refl}
use lib.ListN.{length}
use Rattle.theory.proofs.Fitted.{alone_front}
use Rattle.identifier_generator.proofs.Handing.{front_is_part, part_inside}
use Rattle.identifier_generator.proofs.name_alone.Goals as goal

pub slice_bounds-result-end : goal.slice_bounds-result-end
slice_bounds-result-end c =
    part_inside (alone_front c.args.i (length c.args.buf.now)) c.in_ok-n.ensures

pub returns : goal.returns
returns c =
    let args = c.args in
    let written = c.in_ok-n.ensures in
    record {
      front_is = refl;
      part_is = front_is_part (alone_front args.i (length args.buf.now)) written;
      number_is = written.number_is;
    }
