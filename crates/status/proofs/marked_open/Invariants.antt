-- `marked_open` goes down with the same answer; what is passed has handed its mark to its parts. Assumes nothing.
use Rattle.status.proofs.Marked.{Going}
use Rattle.status.proofs.marked_open.Given as goal

abbrev pub invariant-loop-i : goal.invariant-loop-i
invariant-loop-i l = Going l.words l.count l.from l.initial.work l.work l.i
