-- `words_stand`: laying what is left from the loop's place is laying all. Assumes nothing.
use Rattle.std.proofs.Common.{◌≡◌, ◌-◌}
use Rattle.test_rows.specs.Bytes.{word_at, laid}
use Rattle.test_rows.proofs.compare.words_stand.Given as goal

abbrev pub invariant-loop-word : goal.invariant-loop-word
invariant-loop-word l =
    laid word_at 4 l.list (l.n - l.word-index) l.word-index l.next l.words ≡ laid word_at 4 l.list l.n 0 l.at l.words
