-- `spell_into` has written the letters before `j`. Assumes nothing.
use lib.ListN.{length}
use Rattle.theory.specs.Names.{spell}
use Rattle.theory.specs.NameText.{padded}
use Rattle.identifier_generator.proofs.Filling.{Filled}
use Rattle.identifier_generator.proofs.spell_into.Given as goal

abbrev pub invariant-loop-j : goal.invariant-loop-j
invariant-loop-j l = Filled (padded (length l.initial.buf) (spell l.i)) (length l.initial.buf) l.j l.buf
