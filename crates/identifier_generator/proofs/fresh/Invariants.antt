-- `fresh` has passed only indices that are taken. The measure is the way to the fresh index. Assumes nothing.
use Prim.Native.Nat.{◌≤◌, ◌-◌}
use Rattle.theory.specs.Names.{skipped, fresh}
use Rattle.theory.specs.NameText.{names_in}
use Rattle.identifier_generator.proofs.fresh.Given as goal

abbrev pub invariant-loop-next : goal.invariant-loop-next
invariant-loop-next l = (l.i ≤ l.next) × (l.next ≤ fresh (skipped (names_in l.text)) l.i)

abbrev pub decreases-loop-next : goal.decreases-loop-next
decreases-loop-next l = fresh (skipped (names_in l.text)) l.i - l.next
