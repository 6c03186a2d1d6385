-- The tests 1 to 5, the first two taken off: what is left refuses as the whole does. Assumes nothing.
use mathlib.Core.Path.{◌≡◌}
use mathlib.Core.Bool.{true}
use mathlib.Core.Option.{none}
use Rattle.theory.specs.Form.{bad_word}
use Rattle.theory.specs.Refusal.{fault_at, or_else, unless}
use Rattle.theory.specs.Call.{Claim, right_sizes, given_words, refusal}
use Rattle.call.specs.Lent.{later_refusal}

module _ (x : Claim) (sizes : right_sizes x ≡ true) where
  pub words_pass : bad_word (given_words x) ≡ none →
      later_refusal x.count x.assumed x.text x.goal ≡ refusal x
  unfolding later_refusal refusal or_else fault_at unless
  words_pass e = rw (sizes, e)
