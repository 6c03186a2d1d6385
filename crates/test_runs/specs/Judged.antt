-- What the search of a row is, and what is asked of the lent words and numbers after a call. Assumes nothing.
use Rattle.std.specs.Prelude.{ℕ, List, length}
use Rattle.context.specs.Area.{Rec}
use Rattle.call.specs.Outcomes.{Outcome}
use Rattle.call.specs.Lent.{claim_of}
use Rattle.call.specs.Whole.{Called}
use Rattle.test_rows.specs.Bytes.{Are}
use Rattle.test_runs.specs.declared.search.Rest.{Rest}

-- the outcome and the slices are those of the definition of the whole call, for the list's count, names, goal and steps
pub record Asked (assumed f t : List ℕ) (w : List Rec) (o : Outcome) (f1 t1 : List ℕ) (w1 : List Rec) : Type 0 where
  pub count : ℕ
  pub names : List ℕ
  pub goal : ℕ
  pub steps : ℕ
  pub whole : Called (claim_of f count assumed names goal t (length w) steps) w o f1 t1 w1

-- from the rest's places on, words and numbers are its value
abbrev pub RestHolds : Rest → List ℕ → List ℕ → Type 0
RestHolds x f t = Are f x.words x.value × Are t x.numbers x.value
