-- What the public call owes: its outcome with its numbers, and what each lent slice holds afterwards, as theory's definition of the
-- whole call has them. Assumes nothing.
use Rattle.std.specs.Prelude.{ℕ, ◌≡◌, List}
use Rattle.theory.specs.Call.{Claim, numbers, records_after, called}
use Rattle.context.specs.Area.{Rec, zeroed}
use Rattle.call.specs.Outcomes.{Outcome, outcome_of, numbers_of}

-- o is the outcome of the claim x with the work records w, its numbers are document 01's, and f, t and w1 are its words, term numbers and
-- records afterwards
pub record Called (x : Claim) (w : List Rec) (o : Outcome) (f t : List ℕ) (w1 : List Rec) : Type 0 where
  pub outcome : outcome_of o ≡ (called x).outcome
  pub numbers : numbers_of o ≡ numbers (called x).outcome
  pub words : f ≡ (called x).words
  pub terms : t ≡ (called x).terms
  pub records : w1 ≡ records_after zeroed (called x) w
