-- `mark`: none of the two bits stood, so that the sum has the mark there. Assumes nothing.
use Prim.Native.Nat.{◌%◌}
use Rattle.refusal.proofs.MarkLaws.{sum_fits, sum_is}
use Rattle.refusal.proofs.marks.mark.Goals as goal

pub overflow_add-marks : goal.overflow_add-marks
overflow_add-marks c =
    rw (c.mark_of.ensures, c.shift_of.ensures) record {
      fits = sum_fits c.args.marks.now c.args.symbol c.args.kind c.requires.given c.requires.free (c.fits-marks (c.args.symbol % 4096));
    }

pub returns : goal.returns
returns c =
    rw (c.mark_of.ensures, c.shift_of.ensures)
    (sum_is c.args.marks.now c.args.symbol c.args.kind c.requires.given c.requires.free)
