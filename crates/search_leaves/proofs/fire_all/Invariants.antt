-- For whatever the walk may start from, it has come down to position i. Assumes nothing.
use Prim.Native.Nat.{ℕ}
use Rattle.meter.specs.declared.Limits.{Limits}
use Rattle.search_laws.proofs.Firing.{FallenTo}
use Rattle.search_leaves.proofs.Fall.{Start}
use Rattle.search_leaves.proofs.fire_all.Given as goal

abbrev pub invariant-loop-i : goal.invariant-loop-i
invariant-loop-i l =
    (m : Limits) (nf base : ℕ) → Start m l.words nf base l.initial.work l.initial.p l.end → FallenTo m l.words nf base
    l.initial.terms l.initial.work l.initial.p l.i l.n l.terms l.work l.p
