-- `entries_end` has passed whole assumptions up to `at`. Assumes nothing.
use Prim.Native.Nat.{◌-◌, ◌≤◌}
use mathlib.Core.Path.{◌≡◌}
use lib.ListN.{length, drop}
use Rattle.house_sections.specs.Held.{entries_end}
use Rattle.house_sections.proofs.entries_end.Given as goal

abbrev pub invariant-loop : goal.invariant-loop
invariant-loop l = (l.at ≤ length l.file) ×
    (entries_end l.from l.count (drop l.from l.file) ≡ entries_end l.at (l.count - l.counter) (drop l.at l.file))
