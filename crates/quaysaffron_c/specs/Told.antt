-- What another language is told: the kind of an answer and its numbers in a lent array, the number of a refusal or a shortage as the
-- result, and what the lent slices hold. Assumes nothing.
use Rattle.std.specs.Prelude.{ℕ, ◌≡◌, List, [], ◌∷◌, Result, Ok, Err}
use Rattle.std.specs.declared.option.Option as code
use Rattle.std.specs.declared.option.Option.TheVariants.{None, Some}
use Rattle.std.proofs.Math.Option.{Option, none, some}
use Rattle.theory.specs.Refusal as R
use Rattle.theory.specs.Call.{Claim, Numbers, Outcome, proved, unprovable, shortage, refused, numbers, records_after, called}
use Rattle.theory.specs.Status as S
use Rattle.theory.specs.Status.{Inquiry, Status, settled, ran_short, rejected, status_numbers, asked}
use Rattle.refusal.specs.declared.Refusal.{Refusal}
use Rattle.refusal.specs.Table.{refusal_of, number_in, place_in}
use Rattle.context.specs.Area.{Rec, zeroed}
use Rattle.call.specs.declared.NoAnswer.{NoAnswer}
use Rattle.call.specs.declared.NoAnswer.TheVariants as OfCall
use Rattle.call.specs.declared.Verdict.TheVariants as OfSearch
use Rattle.call.specs.Outcomes as CallOutcome
use Rattle.status.specs.declared.Status as StatusAnswer
use Rattle.status.specs.declared.Status.TheVariants as OfStatus
use Rattle.status.specs.Whole.{records_left}

-- no number of document 01's tells Proved from Unprovable, or one verdict from another; the kind does
pub data Kind : Type 0 where
  Proved : Kind
  Unprovable : Kind
  Short : Kind
  Refused : Kind
  Solvable : Kind
  Unsolvable : Kind
  Unknown : Kind

-- 0 is no kind, so that an array of zeros is no answer
abbrev pub kind_number : Kind → ℕ
kind_number Proved = 1
kind_number Unprovable = 2
kind_number Short = 3
kind_number Refused = 4
kind_number Solvable = 5
kind_number Unsolvable = 6
kind_number Unknown = 7

unfoldable pub outcome_kind : Outcome → Kind
outcome_kind (proved r n u f t) = Proved
outcome_kind (unprovable n u f t) = Unprovable
outcome_kind (shortage l n) = Short
outcome_kind (refused f i) = Refused

unfoldable pub status_kind : Status → Kind
status_kind (settled S.Solvable) = Solvable
status_kind (settled S.Unsolvable) = Unsolvable
status_kind (settled S.Unknown) = Unknown
status_kind (ran_short l n) = Short
status_kind (rejected f i) = Refused

-- the kinds of the prover's and the status' own answers
abbrev pub failure_kind : NoAnswer → Kind
failure_kind (OfCall.Short l n) = Short
failure_kind (OfCall.Refused r) = Refused

abbrev pub kind_of : CallOutcome.Outcome → Kind
kind_of (Ok (OfSearch.Proved r s)) = Proved
kind_of (Ok (OfSearch.Unprovable s)) = Unprovable
kind_of (Err why) = failure_kind why

abbrev pub verdict_of : Result StatusAnswer.Status NoAnswer → Kind
verdict_of (Ok OfStatus.Solvable) = Solvable
verdict_of (Ok OfStatus.Unsolvable) = Unsolvable
verdict_of (Ok OfStatus.Unknown) = Unknown
verdict_of (Err why) = failure_kind why

-- a kind, and the numbers that come with it, as another language finds them in an array
abbrev pub in_order : Kind → Numbers → List ℕ
in_order k n =
    kind_number k ∷ n.number ∷ n.place ∷ n.root ∷ n.steps ∷ n.indices ∷ n.formulas ∷ n.terms ∷ []

abbrev pub outcome_answer : Outcome → List ℕ
outcome_answer o = in_order (outcome_kind o) (numbers o)

abbrev pub status_answer : Status → List ℕ
status_answer s = in_order (status_kind s) (status_numbers s)

-- the claim x with the work records w comes to the number k and the answer a; f, t and w1 are its words, term numbers and records
-- afterwards
pub record Searched (x : Claim) (w : List Rec) (k : ℕ) (a f t : List ℕ) (w1 : List Rec) : Type 0 where
  pub number : k ≡ (numbers (called x).outcome).number
  pub answer : a ≡ outcome_answer (called x).outcome
  pub words : f ≡ (called x).words
  pub terms : t ≡ (called x).terms
  pub records : w1 ≡ records_after zeroed (called x) w

-- the inquiry x with the work records w comes to the number k and the answer a; f, t and w1 are its words, term numbers and records
-- afterwards
pub record Settled (x : Inquiry) (w : List Rec) (k : ℕ) (a f t : List ℕ) (w1 : List Rec) : Type 0 where
  pub number : k ≡ (status_numbers (asked x).status).number
  pub answer : a ≡ status_answer (asked x).status
  pub words : f ≡ (asked x).words
  pub terms : t ≡ (asked x).terms
  pub records : w1 ≡ records_left (asked x) w

-- a refusal of the tests, if there is one
abbrev pub refused_in : code.Option Refusal → Option R.Refused
refused_in None = none
refused_in (Some r) = some (refusal_of r)

-- a test refuses with this number and at this place, or passes with 0 and 0
pub record Tests (r : Option R.Refused) (number place : ℕ) : Type 0 where
  pub number_is : number ≡ number_in r
  pub place_is : place ≡ place_in r
