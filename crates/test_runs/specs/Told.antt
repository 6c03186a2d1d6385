-- The numbers that come back, in document 01's order. Assumes nothing.
use Rattle.std.specs.Prelude.{Result, Ok, Err}
use Rattle.theory.specs.Call.{Numbers}
use Rattle.call.specs.Outcomes.{numbers_of}
use Rattle.call.specs.declared.NoAnswer.{NoAnswer}
use Rattle.status.specs.declared.Status.{Status}
use Rattle.status.specs.declared.Status.TheVariants.{Solvable, Unsolvable, Unknown}
use Rattle.test_runs.specs.declared.numbers.Call.{Call}
use Rattle.test_runs.specs.declared.numbers.TheConstants.{NO_CALL}

-- of the search
abbrev pub call_of : Numbers → Call
call_of n = record {
  number = n.number;
  place = n.place;
  root = n.root;
  steps = n.steps;
  indices = n.indices;
  formulas = n.formulas;
  terms = n.terms;
}

-- of the status, its verdict in the root's place
abbrev pub told : Result Status NoAnswer → Call
told (Ok Solvable) = record NO_CALL { root = 1 }
told (Ok Unsolvable) = record NO_CALL { root = 2 }
told (Ok Unknown) = record NO_CALL { root = 3 }
told (Err e) = call_of (numbers_of (Err e))
