-- `fill_indices` has copied the indices of i assumptions. Assumes nothing.
use Rattle.house_sections.proofs.Walking.{Indices}
use Rattle.house_sections.proofs.fill_indices.Given as goal

abbrev pub invariant-loop-i : goal.invariant-loop-i
invariant-loop-i l = Indices l.file l.from l.count l.initial.indices l.at l.i l.indices
