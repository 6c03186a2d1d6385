-- What a charge's answer says of what it lacks. Assumes nothing.
use Rattle.std.specs.Prelude.{Result, Ok, Err, IsErr, IsErrAnd}
use Rattle.std.proofs.lemmas.Result.{err_from_is_err_and}
use borrow.Author.Rules.{rules}
use native.Mathlib.Omega.{arith}
use mathlib.Core.Path.{◌≡◌, refl, sym, ap, ◌∙◌}
use mathlib.Core.Option.{Option, none, some}
use Rattle.theory.specs.Meter.{Lack}
use Rattle.meter.specs.declared.State.{State}
use Rattle.meter.specs.declared.Missed.{Missed}
use Rattle.meter.specs.declared.Missed.TheVariants.{Short}
use Rattle.meter.specs.Moves.{limit_of, charged}

charged_none : (s : State) → charged none s ≡ Ok tt
unfolding charged
charged_none s = refl

charged_some : (l : Lack) (s : State) → charged (some l) s ≡ Err (Short (limit_of l) s)
unfolding charged
charged_some l s = refl

-- a charge that is let through lacks nothing
pub let_through : {o : Option Lack} (s : State) {z : Unit {0}} → charged o s ≡ Ok z → o ≡ none
let_through {o = none} s e = refl
let_through {o = some l} s e = absurd (search (rules, sym (charged_some l s) ∙ e))

-- any other lacks what its answer says, with what was used before
pub record Lacks (o : Option Lack) (s : State) (e : Missed) : Type 0 where
  pub lack : Lack
  pub is : o ≡ some lack
  pub says : e ≡ Short (limit_of lack) s

pub refused : {o : Option Lack} {s : State} {e : Missed} → charged o s ≡ Err e → Lacks o s e
refused {o = none} {s} h = absurd (search (rules, sym (charged_none s) ∙ h))
refused {o = some l} {s} {e} h = record { lack = l; is = refl; says = grind (arith, charged_some l s) }

-- what a question mark hands on is the same refusal
pub carried : {A : Type 0} {e : Missed} {r : Result A Missed} → IsErr r × IsErrAnd r (λ x. x ≡ e) → r ≡ Err e
carried {r = r} h = let found = err_from_is_err_and r h.1 in found.1 ∙ ap Err found.2
