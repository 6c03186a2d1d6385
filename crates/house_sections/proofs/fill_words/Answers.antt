-- `fill_words` has copied i words. Assumes nothing.
use native.Mathlib.Omega.{arith}
use Rattle.house_sections.proofs.Walking.{word_copied, words_copied}
use Rattle.house_sections.proofs.fill_words.Goals as goal

pub loop-i-preserved : goal.loop-i-preserved
loop-i-preserved c =
    word_copied c.args.file.now c.args.count c.args.words.now c.loop-i.i c.loop-i.words
    c.number_at.result c.loop-i.invariant (omega arith) (omega arith) c.number_at.ensures.result

pub returns : goal.returns
returns c =
    words_copied c.args.file.now c.args.count c.args.words.now c.loop-i.i c.loop-i.words
    c.loop-i.invariant (omega arith)
