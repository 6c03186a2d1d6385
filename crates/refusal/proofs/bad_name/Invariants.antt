-- `bad_name` has passed lawful names up to `at`. Assumes nothing.
use Rattle.refusal.proofs.NameWalk.{Passed}
use Rattle.refusal.proofs.bad_name.Given as goal

abbrev pub invariant-loop-place : goal.invariant-loop-place
invariant-loop-place l = Passed l.text l.count l.at l.place
