-- The numbers of document 01's table. Assumes nothing.
use Prim.Native.Nat.{◌<◌}
use mathlib.Core.Path.{◌≡◌, refl}
use mathlib.Core.Option.{Option, none, some}
use native.Mathlib.Omega.{arith}
use Rattle.theory.specs.Refusal.{Fault, Sizes, BadFormula, BadAssumption, BadNames, BadGoal, NoRoom, BadTerm, BadFile, fault_number}
use Rattle.theory.specs.Refusal.{Refused}
use Rattle.refusal.specs.Table.{number_in}

-- 0 is no refusal's number
fault_number_lem : (f : Fault) → 0 < fault_number f
unfolding fault_number
fault_number_lem Sizes = omega arith
fault_number_lem BadFormula = omega arith
fault_number_lem BadAssumption = omega arith
fault_number_lem BadNames = omega arith
fault_number_lem BadGoal = omega arith
fault_number_lem NoRoom = omega arith
fault_number_lem BadTerm = omega arith
fault_number_lem BadFile = omega arith

-- so a number 0 says that nothing is refused
pub none_refused : (o : Option Refused) → number_in o ≡ 0 → o ≡ none
none_refused none e = refl
none_refused (some r) e = absurd (omega (arith, fault_number_lem r.fault))
