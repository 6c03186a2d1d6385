-- `test_claim`: the sizes, the words, and then what is left. Assumes nothing.
use Rattle.std.proofs.Common.{rules}
use Rattle.theory.specs.Refusal.{or_else, fault_at, unless}
use Rattle.theory.specs.Call.{right_sizes, given_words, refusal}
use Rattle.call.specs.Lent.{later_refusal}
use Rattle.call.proofs.test_claim.Goals as goal

pub returns-then-not-right_sizes : goal.returns-then-not-right_sizes
unfolding refusal right_sizes or_else fault_at unless
returns-then-not-right_sizes c = search rules

pub returns-in-Some : goal.returns-in-Some
unfolding refusal right_sizes given_words or_else fault_at unless
returns-in-Some c = search rules

pub returns : goal.returns
unfolding refusal right_sizes given_words later_refusal or_else fault_at unless
returns c = search rules
