-- What is told is theory's: the kind and the numbers of an outcome and of a status. Assumes nothing.
use Prim.Native.Nat.{ℕ}
use mathlib.Core.Path.{◌≡◌, refl, ap, ap₂, ◌∙◌}
use mathlib.Core.List.{List}
use lib.ListN.{get_or}
use Rattle.std.proofs.Common.{Result, Ok, Err}
use Rattle.theory.specs.Call.{Claim, Numbers}
use Rattle.theory.specs.Status.{Inquiry}
use Rattle.context.specs.Area.{Rec}
use Rattle.call.specs.declared.Verdict.TheVariants.{Proved, Unprovable}
use Rattle.call.specs.declared.NoAnswer.{NoAnswer}
use Rattle.call.specs.declared.NoAnswer.TheVariants.{Short, Refused}
use Rattle.call.specs.Outcomes.{Outcome, outcome_of, numbers_of}
use Rattle.call.specs.Whole.{Called}
use Rattle.status.specs.declared.Status.{Status}
use Rattle.status.specs.declared.Status.TheVariants.{Solvable, Unsolvable, Unknown}
use Rattle.status.specs.Answers as A
use Rattle.status.specs.Answers.{status_of}
use Rattle.status.specs.Whole.{Answered}
use Rattle.quaysaffron_c.specs.Told.{Kind, outcome_kind, status_kind, kind_of, verdict_of, in_order, Searched, Settled}

-- the prover's outcome has the kind of theory's
kind_as : (o : Outcome) → kind_of o ≡ outcome_kind (outcome_of o)
unfolding outcome_of outcome_kind
kind_as (Ok (Proved r used)) = refl
kind_as (Ok (Unprovable used)) = refl
kind_as (Err (Short l n)) = refl
kind_as (Err (Refused r)) = refl

-- and the status has
verdict_as : (s : Result Status NoAnswer) → verdict_of s ≡ status_kind (status_of s)
unfolding status_of status_kind
verdict_as (Ok Solvable) = refl
verdict_as (Ok Unsolvable) = refl
verdict_as (Ok Unknown) = refl
verdict_as (Err (Short l n)) = refl
verdict_as (Err (Refused r)) = refl

-- the number in an answer is that of the numbers
number_told : (kind : Kind) (n : Numbers) {m : Numbers} {k : ℕ} {a : List ℕ} → k ≡ get_or a 1 0 → a ≡ in_order kind n → n ≡ m → k ≡ m.number
number_told kind n k a e = k ∙ ap (λ (l : List ℕ). get_or l 1 0) a ∙ ap (λ (v : Numbers). v.number) e

-- an outcome of the call, told, is the call's answer
pub searched_told : {x : Claim} {w v : List Rec} {o : Outcome} {k : ℕ} {a f t : List ℕ} → Called x w o f t v → k ≡ get_or a 1 0 →
    a ≡ in_order (kind_of o) (numbers_of o) → Searched x w k a f t v
searched_told {x} {o = o} c k a = record {
  number = number_told _ _ k a c.numbers;
  answer = a ∙ ap₂ in_order (kind_as o ∙ ap outcome_kind c.outcome) c.numbers;
  words = c.words;
  terms = c.terms;
  records = c.records;
}

-- a status, told, is the status' answer
pub settled_told : {x : Inquiry} {w v : List Rec} {s : Result Status NoAnswer} {k : ℕ} {a f t : List ℕ} → Answered x w s f t v →
    k ≡ get_or a 1 0 → a ≡ in_order (verdict_of s) (A.numbers_of s) → Settled x w k a f t v
settled_told {x} {s = s} c k a = record {
  number = number_told _ _ k a c.numbers;
  answer = a ∙ ap₂ in_order (verdict_as s ∙ ap status_kind c.status) c.numbers;
  words = c.words;
  terms = c.terms;
  records = c.records;
}
