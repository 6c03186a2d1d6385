-- What comes back, as theory's outcome and as its numbers, and what stays of the slices after an answer. Assumes nothing.
use Rattle.std.specs.Prelude.{ℕ, ◌*◌, ◌≤◌, Result, Ok, Err}
use Rattle.theory.specs.Layout.{node_width}
use Rattle.theory.specs.Refusal.{fault_number}
use Rattle.theory.specs.Meter as M
use Rattle.theory.specs.Call as C
use Rattle.theory.specs.Call.{Numbers, proved, unprovable, shortage, refused}
use Rattle.meter.specs.declared.Limit.{Limit}
use Rattle.meter.specs.declared.Limit.TheVariants.{Steps, Names, Formulas, Terms, Contexts, Levels}
use Rattle.meter.specs.declared.Missed.TheVariants.{Failed, Short as Lacks}
use Rattle.meter.specs.Moves.{Answer, number_of}
use Rattle.refusal.specs.Table.{refusal_of}
use Rattle.call.specs.declared.Verdict.{Verdict}
use Rattle.call.specs.declared.Verdict.TheVariants.{Proved, Unprovable}
use Rattle.call.specs.declared.NoAnswer.{NoAnswer}
use Rattle.call.specs.declared.NoAnswer.TheVariants.{Short, Refused}

-- what comes back
abbrev pub Outcome : Type 0
Outcome = Result Verdict NoAnswer

-- theory's name of a limit
unfoldable pub lack_of : Limit → M.Lack
lack_of Steps = M.Steps
lack_of Names = M.Names
lack_of Formulas = M.Formulas
lack_of Terms = M.Terms
lack_of Contexts = M.Contexts
lack_of Levels = M.Levels

-- the outcome of theory's call that an outcome is
unfoldable pub outcome_of : Outcome → C.Outcome
outcome_of (Ok (Proved r s)) = proved r s.steps s.indices s.formulas s.terms
outcome_of (Ok (Unprovable s)) = unprovable s.steps s.indices s.formulas s.terms
outcome_of (Err (Short l n)) = shortage (lack_of l) n
outcome_of (Err (Refused r)) = refused (refusal_of r).fault (refusal_of r).place

-- the paper's number and values for each case
unfoldable pub numbers_of : Outcome → Numbers
numbers_of (Ok (Proved r s)) = record {
  number = 0;
  place = 0;
  root = r;
  steps = s.steps;
  indices = s.indices;
  formulas = s.formulas;
  terms = s.terms;
}
numbers_of (Ok (Unprovable s)) = record {
  number = 0;
  place = 0;
  root = 0;
  steps = s.steps;
  indices = s.indices;
  formulas = s.formulas;
  terms = s.terms;
}
numbers_of (Err (Short l n)) = record { number = number_of l; place = 0; root = 0; steps = n; indices = 0; formulas = 0; terms = 0 }
numbers_of (Err (Refused r)) = record {
  number = fault_number (refusal_of r).fault;
  place = (refusal_of r).place;
  root = 0;
  steps = 0;
  indices = 0;
  formulas = 0;
  terms = 0;
}

-- the numbers of the nodes that stay are no more than a term slice may have
abbrev pub keeps : Answer → Type 0
keeps (Ok found) = found.state.terms ≤ 16384
keeps (Err missed) = Unit {0}

-- how many formula words and term numbers stay: those below the fills, or those that were given
unfoldable pub words_kept : ℕ → Answer → ℕ
words_kept count (Ok found) = found.state.formulas
words_kept count (Err missed) = count

unfoldable pub numbers_kept : Answer → ℕ
numbers_kept (Ok found) = found.state.terms * node_width
numbers_kept (Err missed) = 0

-- "Proved returns root, steps, generated indices used, formula fill, term fill. Unprovable returns steps and indices, with fills equal to
-- the given count and 0"; a shortage returns its limit and steps
unfoldable pub outcome_for : ℕ → Answer → Outcome
outcome_for count (Ok found) = Ok (Proved found.node found.state)
outcome_for count (Err (Failed s)) = Ok (Unprovable (record { steps = s.steps; indices = s.indices; formulas = count; terms = 0 }))
outcome_for count (Err (Lacks l s)) = Err (Short l s.steps)
