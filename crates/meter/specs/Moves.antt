-- States after the code's small moves, the limits as theory has them, and what a charge answers. Assumes nothing.
use Rattle.std.specs.Prelude.{ℕ, ◌+◌, Result, Ok, Err}
use Rattle.std.proofs.Math.Option.{Option, none, some}
use Rattle.theory.specs.Meter as M
use Rattle.meter.specs.declared.State.{State}
use Rattle.meter.specs.declared.Limits.{Limits}
use Rattle.meter.specs.declared.Limit.{Limit}
use Rattle.meter.specs.declared.Limit.TheVariants.{Steps, Names, Formulas, Terms, Contexts, Levels}
use Rattle.meter.specs.declared.Found.{Found}
use Rattle.meter.specs.declared.Missed.{Missed}
use Rattle.meter.specs.declared.Missed.TheVariants.{Short}

-- generated indices, skipped ones included
abbrev pub most : ℕ
most = 4096

-- records over both contexts of a sequent
abbrev pub together : ℕ
together = 256

-- what a judgement answers
abbrev pub Answer : Type 0
Answer = Result Found Missed

abbrev pub stepped : State → State
stepped s = record { steps = s.steps + 1; indices = s.indices; formulas = s.formulas; terms = s.terms }

abbrev pub spent : State → ℕ → ℕ → ℕ → State
spent s u nf nt = record { steps = s.steps; indices = u; formulas = s.formulas + nf; terms = s.terms + nt }

abbrev pub returned : State → State → State
returned s s1 = record { steps = s1.steps; indices = s1.indices; formulas = s.formulas; terms = s.terms }

abbrev pub limits_of : Limits → M.Limits
limits_of m = record {
  steps = M.up_to m.steps;
  names = M.up_to most;
  formulas = M.up_to m.formulas;
  terms = M.up_to m.terms;
  contexts = M.up_to together;
  levels = M.up_to m.levels;
}

-- the limit that runs short
unfoldable pub limit_of : M.Lack → Limit
limit_of M.Steps = Steps
limit_of M.Names = Names
limit_of M.Formulas = Formulas
limit_of M.Terms = Terms
limit_of M.Contexts = Contexts
limit_of M.Levels = Levels

-- the table's numbers
abbrev pub number_of : Limit → ℕ
number_of Steps = 6
number_of Names = 7
number_of Formulas = 8
number_of Terms = 9
number_of Contexts = 10
number_of Levels = 11

-- what a charge answers: it is let through, or a limit runs short with what was used before
unfoldable pub charged : Option M.Lack → State → Result (Unit {0}) Missed
charged none s = Ok tt
charged (some l) s = Err (Short (limit_of l) s)
