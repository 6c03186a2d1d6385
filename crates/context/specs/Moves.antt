-- Sequents after the code's small moves. Assumes nothing.
use Rattle.std.specs.Prelude.{ℕ, ◌+◌, ◌-◌}
use Rattle.meter.specs.Moves.{together}
use Rattle.meter.specs.declared.Sequent.{Sequent}

-- a level's part of the work area: as many records as both contexts of a sequent may hold
abbrev pub stretch : ℕ
stretch = together

abbrev pub upped : Sequent → ℕ → Sequent
upped q g = record { level = q.level + 1; unordered = q.unordered; ordered = q.ordered; goal = g }

abbrev pub pushed : Sequent → Sequent
pushed q = record { level = q.level; unordered = q.unordered; ordered = q.ordered + 1; goal = q.goal }

abbrev pub popped : Sequent → Sequent
popped q = record { level = q.level; unordered = q.unordered; ordered = q.ordered - 1; goal = q.goal }

abbrev pub appended : Sequent → Sequent
appended q = record { level = q.level; unordered = q.unordered + 1; ordered = q.ordered; goal = q.goal }

abbrev pub without : Sequent → Sequent
without q = record { level = q.level; unordered = q.unordered - 1; ordered = q.ordered; goal = q.goal }
