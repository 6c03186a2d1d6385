-- `number_at` has read the last bytes. Assumes nothing.
use Prim.Native.Nat.{◌-◌}
use lib.ListN.{length}
use Rattle.house_sections.proofs.Numbers.{Read}
use Rattle.house_sections.proofs.number_at.Given as goal

abbrev pub invariant-loop-byte : goal.invariant-loop-byte
invariant-loop-byte g l = Read l.file l.at g.row.WIDTH l.number (g.row.WIDTH - length l.yielded)
