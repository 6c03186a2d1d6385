-- What the tests say, as theory's refusals, and their numbers and places in document 01's table. Assumes nothing.
use Rattle.std.specs.Prelude.{ℕ}
use Rattle.std.specs.declared.result.Result.{Result}
use Rattle.std.specs.declared.result.Result.TheVariants.{Ok, Err}
use Rattle.std.proofs.Math.Option.{Option, none, some}
use Rattle.theory.specs.Refusal as R
use Rattle.theory.specs.Refusal.{Refused, fault_number}
use Rattle.refusal.specs.declared.Refusal.{Refusal}
use Rattle.refusal.specs.declared.Refusal.TheVariants.{Sizes, BadFormula, BadAssumption, BadNames, BadGoal, BadTerm}

-- each refusal of the tests as theory's
abbrev pub refusal_of : Refusal → Refused
refusal_of Sizes = record { fault = R.Sizes; place = 0 }
refusal_of (BadFormula i) = record { fault = R.BadFormula; place = i }
refusal_of (BadAssumption i) = record { fault = R.BadAssumption; place = i }
refusal_of (BadNames i) = record { fault = R.BadNames; place = i }
refusal_of (BadGoal i) = record { fault = R.BadGoal; place = i }
refusal_of (BadTerm i) = record { fault = R.BadTerm; place = i }

-- and each answer of a test of several rows
abbrev pub refused_by : Result (Unit {0}) Refusal → Option Refused
refused_by (Ok x) = none
refused_by (Err r) = some (refusal_of r)

-- its number in document 01's table, 0 where nothing is refused, and its place
abbrev pub number_in : Option Refused → ℕ
number_in none = 0
number_in (some r) = fault_number r.fault

abbrev pub place_in : Option Refused → ℕ
place_in none = 0
place_in (some r) = r.place
