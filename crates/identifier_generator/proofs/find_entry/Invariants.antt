-- `find_entry` has passed the entries before the one looked for. Assumes nothing.
use Prim.Native.Nat.{◌-◌, ◌≤◌}
use mathlib.Core.Path.{◌≡◌}
use lib.ListN.{length, drop}
use Rattle.identifier_generator.specs.Entry.{entry_from}
use Rattle.identifier_generator.proofs.find_entry.Given as goal

abbrev pub invariant-loop-passed : goal.invariant-loop-passed
invariant-loop-passed l =
    (l.at ≤ length l.text) × (entry_from 0 l.k l.text ≡ entry_from l.at (l.k - l._passed) (drop l.at l.text))
