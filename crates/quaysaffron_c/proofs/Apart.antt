-- Nothing of an answer is lost in what is told: two outcomes, or two statuses, that are told alike are the same. Assumes nothing.
use Prim.Native.Nat.{ℕ, ◌-◌}
use mathlib.Core.Path.{◌≡◌, refl, sym, ap, ◌∙◌}
use mathlib.Core.List.{List, [], ◌∷◌}
use lib.ListN.{get_or}
use Rattle.theory.specs.Meter.{Lack, Steps, Names, Formulas, Terms, Contexts, Levels}
use Rattle.theory.specs.Refusal.{Fault, Sizes, BadFormula, BadAssumption, BadNames, BadGoal, NoRoom, BadTerm, BadFile}
use Rattle.theory.specs.Refusal.{fault_number, lack_number}
use Rattle.theory.specs.Call.{Outcome, proved, unprovable, shortage, refused, numbers}
use Rattle.theory.specs.Status.{Status, settled, ran_short, rejected, Solvable, Unsolvable, Unknown, status_numbers}
use Rattle.quaysaffron_c.specs.Told.{outcome_kind, status_kind, outcome_answer, status_answer}

-- the shortage and the fault of a number in document 01's table
lack_at : ℕ → Lack
lack_at n = get_or (Steps ∷ Names ∷ Formulas ∷ Terms ∷ Contexts ∷ Levels ∷ []) (n - 6) Steps

lack_at_lem : (l : Lack) → lack_at (lack_number l) ≡ l
unfolding lack_number lack_at
lack_at_lem Steps = refl
lack_at_lem Names = refl
lack_at_lem Formulas = refl
lack_at_lem Terms = refl
lack_at_lem Contexts = refl
lack_at_lem Levels = refl

early : List Fault
early = Sizes ∷ BadFormula ∷ BadAssumption ∷ BadNames ∷ BadGoal ∷ []

fault_in : ℕ → Fault
fault_in n = get_or early (n - 1) (get_or (NoRoom ∷ BadTerm ∷ BadFile ∷ []) (n - 12) Sizes)

fault_in_lem : (f : Fault) → fault_in (fault_number f) ≡ f
unfolding fault_number fault_in early
fault_in_lem Sizes = refl
fault_in_lem BadFormula = refl
fault_in_lem BadAssumption = refl
fault_in_lem BadNames = refl
fault_in_lem BadGoal = refl
fault_in_lem NoRoom = refl
fault_in_lem BadTerm = refl
fault_in_lem BadFile = refl

-- an entry of an array
at : List ℕ → ℕ → ℕ
at a i = get_or a i 0

-- the outcome of an answer, by its kind; the first stands for no kind
outcome_in : List ℕ → Outcome
outcome_in a =
    let none = unprovable 0 0 0 0 in
    get_or
    (none ∷ proved (at a 3) (at a 4) (at a 5) (at a 6) (at a 7) ∷ unprovable (at a 4) (at a 5) (at a 6) (at a 7)
    ∷ shortage (lack_at (at a 1)) (at a 4) ∷ refused (fault_in (at a 1)) (at a 2) ∷ [])
    (at a 0) none

outcome_in_lem : (o : Outcome) → outcome_in (outcome_answer o) ≡ o
unfolding outcome_in at outcome_kind numbers
outcome_in_lem (proved r n u f t) = refl
outcome_in_lem (unprovable n u f t) = refl
outcome_in_lem (shortage l n) = ap (λ (v : Lack). shortage v n) (lack_at_lem l)
outcome_in_lem (refused f i) = ap (λ (v : Fault). refused v i) (fault_in_lem f)

pub outcomes_apart : (o p : Outcome) → outcome_answer o ≡ outcome_answer p → o ≡ p
outcomes_apart o p e = sym (outcome_in_lem o) ∙ ap outcome_in e ∙ outcome_in_lem p

status_in : List ℕ → Status
status_in a =
    let none = settled Unknown in
    get_or
    (none ∷ none ∷ none ∷ ran_short (lack_at (at a 1)) (at a 4) ∷ rejected (fault_in (at a 1)) (at a 2) ∷ settled Solvable
    ∷ settled Unsolvable ∷ [])
    (at a 0) none

status_in_lem : (s : Status) → status_in (status_answer s) ≡ s
unfolding status_in at status_kind status_numbers numbers
status_in_lem (settled Solvable) = refl
status_in_lem (settled Unsolvable) = refl
status_in_lem (settled Unknown) = refl
status_in_lem (ran_short l n) = ap (λ (v : Lack). ran_short v n) (lack_at_lem l)
status_in_lem (rejected f i) = ap (λ (v : Fault). rejected v i) (fault_in_lem f)

pub statuses_apart : (s t : Status) → status_answer s ≡ status_answer t → s ≡ t
statuses_apart s t e = sym (status_in_lem s) ∙ ap status_in e ∙ status_in_lem t
