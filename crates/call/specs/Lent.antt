-- The claim that a call's lent values make, the last of its refusals, and its limits. Assumes nothing.
use Rattle.std.specs.Prelude.{ℕ, ◌/◌, List, length}
use Rattle.std.proofs.Math.Option.{Option}
use Rattle.theory.specs.NameText.{bad_name}
use Rattle.theory.specs.Layout.{node_width}
use Rattle.theory.specs.Refusal.{BadAssumption, BadNames, BadGoal, Refused, fault_at, or_else, bad_assumption, bad_goal, highest_level}
use Rattle.theory.specs.Call.{Claim, or_zero}
use Rattle.meter.specs.declared.Limits.{Limits}

abbrev pub claim_of : List ℕ → ℕ → List ℕ → List ℕ → ℕ → List ℕ → ℕ → ℕ → Claim
claim_of f count assumed names goal t records steps = record {
  words = f;
  count = count;
  assumed = assumed;
  text = names;
  goal = goal;
  terms = t;
  records = records;
  step_limit = steps;
}

-- the tests 3 to 5, in that order
unfoldable pub later_refusal : ℕ → List ℕ → List ℕ → ℕ → Option Refused
later_refusal count assumed names goal =
    or_else (fault_at BadAssumption (bad_assumption count assumed))
    (or_else (fault_at BadNames (bad_name (length assumed) names)) (fault_at BadGoal (bad_goal count goal)))

-- the limits of a formula slice of so many words, a term slice of so many numbers and a work area of so many records
abbrev pub limits_for : ℕ → ℕ → ℕ → ℕ → Limits
limits_for room numbers records steps = record {
  steps = steps;
  formulas = room;
  terms = numbers / node_width;
  levels = or_zero (highest_level records);
}
