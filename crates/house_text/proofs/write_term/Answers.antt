-- `write_term` clears what lies behind the text, or all. Assumes nothing.
use Rattle.theory.specs.NameText.{names_in}
use Rattle.house_text.proofs.WholeText.{hands_laid}
use Rattle.house_text.proofs.write_term.Goals as goal

pub returns-clause-written : goal.returns-clause-written
returns-clause-written c =
    let d = c.args.draft in
    rw c.ok_or.ensures.value
    (hands_laid d.words.now d.terms.now (names_in d.names.now) d.root c.args.buf.now c.lay_term-end.result c.lay_term-end.ensures
    (rw (c.unwrap_or.ensures) at c.clear_from.ensures))
