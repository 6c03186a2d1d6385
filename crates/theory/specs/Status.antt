-- The status of a formula (`get_prop_solvable_status`), as two searches and a verdict. Assumes nothing.
use Rattle.std.specs.Prelude.{ℕ, suc, ◌+◌, Bool, true, false, ◌||◌, not, List, [], ◌∷◌, ◌++◌, length, drop, replicate, leb, eqb}
use Rattle.theory.specs.Form.{Form, top, bot, leaf, and, or, imp, form, word, is_bot, is_imp}
use Rattle.theory.specs.NameText.{padded}
use Rattle.theory.specs.Meter.{Lack, Formulas}
use Rattle.theory.specs.Refusal.{Fault}
use Rattle.theory.specs.Call.{Claim, given_words, given_book, Outcome, proved, unprovable, shortage, refused, Numbers, numbers, called}

-- "ForAll, Exists or free symbol": "symbols from 8,192 up carry free parameters"
unfoldable pub open_leaf : ℕ → ℕ → Bool
open_leaf k s = not (eqb k 2) || leb 8192 s

-- one of them occurs
unfoldable pub open_form : Form → Bool
open_form top = false
open_form bot = false
open_form (leaf k s) = open_leaf k s
open_form (and A B) = open_form A || open_form B
open_form (or A B) = open_form A || open_form B
open_form (imp A B) = open_form A || open_form B

pub data Verdict : Type 0 where
  Solvable : Verdict
  Unsolvable : Verdict
  Unknown : Verdict

-- "a verdict comes with no other number"; "a shortage in either search is now returned by its number with that search's steps" (request
-- 5); 1, 2 and 5 are as for the search
pub data Status : Type 0 where
  settled : Verdict → Status
  ran_short : Lack → ℕ → Status
  rejected : Fault → ℕ → Status

-- the numbers that come back: none with a verdict, those of a shortage or of a refusal else
unfoldable pub status_numbers : Status → Numbers
status_numbers (settled v) = record { number = 0; place = 0; root = 0; steps = 0; indices = 0; formulas = 0; terms = 0 }
status_numbers (ran_short l n) = numbers (shortage l n)
status_numbers (rejected f i) = numbers (refused f i)

-- by the second search: "proved is Unsolvable"; "Unknown means that both searches ended without a proof", and a shortage is returned
-- (request 5). It is never refused (`CallClaims.second_taken`)
unfoldable pub refuted : Outcome → Status
refuted (proved r n u f t) = settled Unsolvable
refuted (unprovable n u f t) = settled Unknown
refuted (shortage l n) = ran_short l n
refuted (refused f i) = rejected f i

-- the status by the first search's outcome, whether the goal is open, and the second search's outcome
unfoldable pub judged : Outcome → Bool → Outcome → Status
judged (proved r n u f t) is_open second = settled Solvable
judged (unprovable n u f t) is_open second = elim is_open [ false ↦ settled Unsolvable | true ↦ refuted second ]
judged (shortage l n) is_open second = ran_short l n
judged (refused f i) is_open second = rejected f i

-- what the status is lent: a claim without assumptions
pub record Inquiry : Type 0 where
  pub words : List ℕ
  pub count : ℕ
  pub goal : ℕ
  pub terms : List ℕ
  pub records : ℕ
  pub step_limit : ℕ

unfoldable pub first_claim : Inquiry → Claim
first_claim x = record {
  words = x.words;
  count = x.count;
  assumed = [];
  text = [];
  goal = x.goal;
  terms = x.terms;
  records = x.records;
  step_limit = x.step_limit;
}

-- "append False and goal→False .. and search anew with fresh limits"
unfoldable pub second_claim : Inquiry → Claim
second_claim x = record {
  words = given_words (first_claim x) ++ (word is_bot ∷ word (is_imp x.goal x.count) ∷ drop (x.count + 2) x.words);
  count = x.count + 2;
  assumed = [];
  text = [];
  goal = suc x.count;
  terms = x.terms;
  records = x.records;
  step_limit = x.step_limit;
}

-- "no room for these 2 words is a shortage 8 of the second search", in which no step was entered
unfoldable pub second_outcome : Inquiry → Outcome
second_outcome x = elim (leb (x.count + 2) (length x.words)) [ true ↦ (called (second_claim x)).outcome | false ↦ shortage Formulas 0 ]

unfoldable pub goal_is_open : Inquiry → Bool
goal_is_open x = open_form (form (given_book (first_claim x)) x.goal)

-- the status, and what the slices hold afterwards; cleared: every work record is zero, else each is as it was
pub record Asked : Type 0 where
  pub status : Status
  pub words : List ℕ
  pub terms : List ℕ
  pub cleared : Bool

-- "In the end added words, term nodes and work records are zero"
unfoldable pub cleaned_up : Inquiry → Status → Asked
cleaned_up x s = record {
  status = s;
  words = padded (length x.words) (given_words (first_claim x));
  terms = replicate (length x.terms) 0;
  cleared = true;
}

-- a refused input changes nothing
unfoldable pub left_by : Inquiry → Status → Asked
left_by x (settled v) = cleaned_up x (settled v)
left_by x (ran_short l n) = cleaned_up x (ran_short l n)
left_by x (rejected f i) = record { status = rejected f i; words = x.words; terms = x.terms; cleared = false }

-- the call
unfoldable pub asked : Inquiry → Asked
asked x = left_by x (judged (called (first_claim x)).outcome (goal_is_open x) (second_outcome x))
