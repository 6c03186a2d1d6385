-- What comes back, as theory's status and as its numbers. Assumes nothing.
use Rattle.std.specs.Prelude.{Result, Ok, Err}
use Rattle.theory.specs.Call.{Numbers}
use Rattle.theory.specs.Status as S
use Rattle.theory.specs.Status.{settled, ran_short, rejected}
use Rattle.refusal.specs.Table.{refusal_of}
use Rattle.call.specs.declared.NoAnswer.{NoAnswer}
use Rattle.call.specs.declared.NoAnswer.TheVariants.{Short, Refused}
use Rattle.call.specs.Outcomes as Outcomes
use Rattle.call.specs.Outcomes.{lack_of}
use Rattle.status.specs.declared.Status.{Status}
use Rattle.status.specs.declared.Status.TheVariants.{Solvable, Unsolvable, Unknown}

-- what comes back
abbrev pub Answer : Type 0
Answer = Result Status NoAnswer

-- the status of theory's that an answer is
unfoldable pub status_of : Answer → S.Status
status_of (Ok Solvable) = settled S.Solvable
status_of (Ok Unsolvable) = settled S.Unsolvable
status_of (Ok Unknown) = settled S.Unknown
status_of (Err (Short l n)) = ran_short (lack_of l) n
status_of (Err (Refused r)) = rejected (refusal_of r).fault (refusal_of r).place

-- the paper's number and values for each case: "a verdict comes with no other number"
unfoldable pub numbers_of : Answer → Numbers
numbers_of (Ok verdict) = record { number = 0; place = 0; root = 0; steps = 0; indices = 0; formulas = 0; terms = 0 }
numbers_of (Err missing) = Outcomes.numbers_of (Err missing)
