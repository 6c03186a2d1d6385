-- `assume` has written the assumptions before `i`. Assumes nothing.
use Rattle.call.proofs.Seating.{Seating}
use Rattle.call.proofs.assume.Given as goal

abbrev pub invariant-loop-i : goal.invariant-loop-i
invariant-loop-i l = Seating l.assumed l.goal l.initial.terms l.initial.work l.terms l.work l.sequent l.i
