-- `fill_names` has copied the names before `at`. Assumes nothing.
use Rattle.house_sections.proofs.Walking.{Names}
use Rattle.house_sections.proofs.fill_names.Given as goal

abbrev pub invariant-loop : goal.invariant-loop
invariant-loop l = Names l.file l.from l.count l.initial.text l.at l.filled l.counter l.text
