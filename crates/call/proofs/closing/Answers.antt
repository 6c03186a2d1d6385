-- `closing`: each clear, and then the numbers. Assumes nothing.
use Prim.Native.Nat.{ℕ}
use mathlib.Core.Path.{ap, ◌∙◌}
use lib.ListN.{length, take}
use Rattle.theory.specs.NameText.{padded}
use Rattle.call.proofs.closing.Goals as goal

pub returns : goal.returns
returns c =
    let a = c.args in
    let words = ap (λ (n : ℕ). padded (length a.words.now) (take n a.words.now)) c.words_kept.ensures in
    let numbers = ap (λ (n : ℕ). padded (length a.terms.now) (take n a.terms.now)) c.numbers_kept.ensures in record {
      result = c.outcome_for.ensures;
      words = c.clear.ensures ∙ words;
      terms = c.clear-2.ensures ∙ numbers;
      work = c.clear-3.ensures;
    }
