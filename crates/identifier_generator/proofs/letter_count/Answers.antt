-- `letter_count` is the length of the spelling. Assumes nothing.
use mathlib.Core.Path.{sym}
use Rattle.theory.proofs.Spelling.{spell_length}
use Rattle.identifier_generator.proofs.letter_count.Goals as goal

pub returns : goal.returns
returns c =
    sym (spell_length c.args.i)
