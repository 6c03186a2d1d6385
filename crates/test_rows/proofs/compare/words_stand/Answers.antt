-- `words_stand`: laying what is left from the loop's place is laying all. Assumes nothing.
use Rattle.std.proofs.Common.{sym, ◌∙◌, arith}
use Rattle.std.proofs.lemmas.List.{get_or-take, length-take-le}
use Rattle.test_rows.specs.Bytes.{word_at}
use Rattle.test_rows.proofs.Laying.{laid_same, laid_end}
use Rattle.test_rows.proofs.compare.words_stand.Goals as goal

pub loop-word-preserved : goal.loop-word-preserved
loop-word-preserved c =
    let l = c.loop-word in
    let a = c.args in
    let long = length-take-le c.min.result a.words.now (omega arith) in
    let stands = sym (get_or-take c.min.result a.words.now l.word-index 0 (omega (arith, long))) ∙ c.if-word.false ∙ c.word.ensures in
    cc (laid_same word_at 4 a.list.now a.n l.word-index l.next a.words.now 0 (omega (arith, long)) stands)

pub returns : goal.returns
returns c =
    let l = c.loop-word in
    let a = c.args in
    let long = length-take-le c.min.result a.words.now (omega arith) in
    λ _. sym l.invariant ∙ laid_end word_at 4 a.list.now a.n l.word-index l.next a.words.now (omega (arith, long))
