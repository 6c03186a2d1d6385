-- `spells` compares letter by letter. Assumes nothing.
use mathlib.Core.Path.{sym, ◌∙◌}
use borrow.Author.Tests.{ne_eqb}
use Rattle.std.proofs.Common.{rules, tests}
use Rattle.std.proofs.lemmas.Iterator.{YieldsList-from_slice}
use Rattle.std.proofs.lemmas.Iterator.Consumers.{YieldsList-from_enumerate}
use Rattle.std.proofs.lemmas.Iterator.Search.{all_from_yields_List}
use Rattle.theory.specs.Names.{spell}
use Rattle.theory.proofs.Spelling.{differ_length}
use Rattle.identifier_generator.proofs.Passing.{letter_is, all_letters}
use Rattle.identifier_generator.proofs.spells.Goals as goal

pub returns-then-letter_count-name : goal.returns-then-letter_count-name
returns-then-letter_count-name c =
    let name = c.args.name.now in
    all_from_yields_List (letter_is (spell c.args.i)) _ _ _ c.all.ensures.ran
    (YieldsList-from_enumerate (YieldsList-from_slice name cc) (cc)) (λ x b q k. search (rules, tests))
    ∙ all_letters (spell c.args.i) name (sym c.letter_count.ensures ∙ c.if-letter_count-name.true)

pub returns-else-letter_count-name : goal.returns-else-letter_count-name
returns-else-letter_count-name c =
    ne_eqb _ _ c.if-letter_count-name.false
    ∙ sym (differ_length (spell c.args.i) c.args.name.now (λ e. c.if-letter_count-name.false (c.letter_count.ensures ∙ e)))
