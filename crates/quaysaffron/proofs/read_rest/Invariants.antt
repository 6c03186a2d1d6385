-- `read_rest` has read the bytes before `done`. The measure is what is left of the buffer. Assumes nothing.
use Rattle.std.proofs.Common.{length, ◌-◌, ◌≡◌, ◌≤◌}
use Rattle.std.specs.Prelude.{take, slice_range}
use Rattle.std.specs.Io.KnownBytes.{Consumes}
use Rattle.quaysaffron.proofs.read_rest.Given as goal

abbrev pub invariant-loop-done : goal.invariant-loop-done
invariant-loop-done g l = record {
  kept : take l.start l.buf ≡ take l.start l.initial.buf;
  inside : l.start ≤ l.done;
  room : l.done ≤ length l.buf;
  long : length l.buf ≡ length l.initial.buf;
  bytes : Consumes (g.R.Read.remaining l.initial.from) (g.R.Read.remaining l.from) (slice_range l.buf l.start l.done);
}

abbrev pub decreases-loop-done : goal.decreases-loop-done
decreases-loop-done g l = length l.initial.buf - l.done
