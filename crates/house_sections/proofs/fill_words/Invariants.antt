-- `fill_words` has copied i words. Assumes nothing.
use Rattle.house_sections.proofs.Walking.{Words}
use Rattle.house_sections.proofs.fill_words.Given as goal

abbrev pub invariant-loop-i : goal.invariant-loop-i
invariant-loop-i l = Words l.file l.count l.initial.words l.i l.words
