-- The whole call of the search: what it is lent, its refusals 1 to 5, its limits, its answer, and what each lent slice holds afterwards.
-- Assumes nothing.
use Rattle.std.specs.Prelude.{ℕ, suc, ◌/◌, Bool, true, false, ◌&&◌, List, map, length, take, replicate}
use Rattle.std.proofs.Math.Option.{Option, none, some}
use Rattle.theory.specs.Form.{Book, shape, word, bad_word}
use Rattle.theory.specs.NameText.{names_in, bad_name, padded}
use Rattle.theory.specs.Layout.{node_width, in_numbers}
use Rattle.theory.specs.Meter.{up_to, Limits, Lack, Steps, Answer, found, failed, short, unfinished}
use Rattle.theory.specs.Search.{prove}
use Rattle.theory.specs.Refusal.{Fault, Sizes, BadFormula, BadAssumption, BadNames, BadGoal, Refused, fault_at, or_else, unless}
use Rattle.theory.specs.Refusal.{formula_sizes, term_sizes, work_sizes, highest_level, bad_assumption, bad_goal, fault_number, lack_number}

-- what a call is lent: formula words and how many are given, assumption indices, their names' text, the goal's index, term numbers,
-- the number of work records, and the step limit
pub record Claim : Type 0 where
  pub words : List ℕ
  pub count : ℕ
  pub assumed : List ℕ
  pub text : List ℕ
  pub goal : ℕ
  pub terms : List ℕ
  pub records : ℕ
  pub step_limit : ℕ

unfoldable pub right_sizes : Claim → Bool
right_sizes x =
    formula_sizes (length x.words) x.count && (term_sizes (length x.terms) && work_sizes x.records x.step_limit)

-- the given words: what stands above the count is not looked at
unfoldable pub given_words : Claim → List ℕ
given_words x = take x.count x.words

-- "1 to 5 are tested in that order"
unfoldable pub refusal : Claim → Option Refused
refusal x =
    or_else (fault_at Sizes (unless (right_sizes x)))
    (or_else (fault_at BadFormula (bad_word (given_words x)))
    (or_else (fault_at BadAssumption (bad_assumption x.count x.assumed))
    (or_else (fault_at BadNames (bad_name (length x.assumed) x.text))
    (fault_at BadGoal (bad_goal x.count x.goal)))))

unfoldable pub or_zero : Option ℕ → ℕ
or_zero none = 0
or_zero (some n) = n

-- "At most 4,096 generated indices (skipped ones included), the slices' room for nodes, 256 records over both contexts of a sequent
-- after a rule, and levels 0 to 63"
unfoldable pub search_limits : Claim → Limits
search_limits x = record {
  steps = up_to x.step_limit;
  names = up_to 4096;
  formulas = up_to (length x.words);
  terms = up_to (length x.terms / node_width);
  contexts = up_to 256;
  levels = up_to (or_zero (highest_level x.records));
}

unfoldable pub given_book : Claim → Book
given_book x = map shape (given_words x)

-- the search of a claim: the step limit bounds its depth, so that it is never unfinished
unfoldable pub searched : Claim → Answer
searched x = prove (search_limits x) (names_in x.text) (suc x.step_limit) (given_book x) x.assumed x.goal

-- "Proved returns root, steps, generated indices used, formula fill, term fill. Unprovable returns steps and indices, with fills equal
-- to the given count and 0"; a shortage returns its steps, a refused input its place
pub data Outcome : Type 0 where
  proved : ℕ → ℕ → ℕ → ℕ → ℕ → Outcome
  unprovable : ℕ → ℕ → ℕ → ℕ → Outcome
  shortage : Lack → ℕ → Outcome
  refused : Fault → ℕ → Outcome

-- the numbers that come back: the table's number (0 for Proved and Unprovable), the place, and the five values
pub record Numbers : Type 0 where
  pub number : ℕ
  pub place : ℕ
  pub root : ℕ
  pub steps : ℕ
  pub indices : ℕ
  pub formulas : ℕ
  pub terms : ℕ

unfoldable pub numbers : Outcome → Numbers
numbers (proved r n u f t) = record { number = 0; place = 0; root = r; steps = n; indices = u; formulas = f; terms = t }
numbers (unprovable n u f t) = record { number = 0; place = 0; root = 0; steps = n; indices = u; formulas = f; terms = t }
numbers (shortage l n) = record { number = lack_number l; place = 0; root = 0; steps = n; indices = 0; formulas = 0; terms = 0 }
numbers (refused f i) = record { number = fault_number f; place = i; root = 0; steps = 0; indices = 0; formulas = 0; terms = 0 }

-- the outcome, and what the slices hold afterwards; cleared: every work record is zero, else each is as it was
pub record After : Type 0 where
  pub outcome : Outcome
  pub words : List ℕ
  pub terms : List ℕ
  pub cleared : Bool

-- the work area afterwards, whatever a record is
unfoldable pub records_after : {R : Type 0} → R → After → List R → List R
records_after zero x rs = elim x.cleared [ true ↦ replicate (length rs) zero | false ↦ rs ]

-- after Unprovable or a shortage: "all above the given count and above 0", and every work record, zero
unfoldable pub given_back : Claim → Outcome → After
given_back x o = record {
  outcome = o;
  words = padded (length x.words) (given_words x);
  terms = replicate (length x.terms) 0;
  cleared = true;
}

-- "1 to 5 .. change nothing"
unfoldable pub unchanged : Claim → Refused → After
unchanged x r = record { outcome = refused r.fault r.place; words = x.words; terms = x.terms; cleared = false }

-- "all formula words and term nodes above the fills are zero"; an unfinished search does not occur
unfoldable pub answered : Claim → Answer → After
answered x (found t s) = record {
  outcome = proved t s.steps s.used (length s.words) (length s.nodes);
  words = padded (length x.words) (map word s.words);
  terms = padded (length x.terms) (in_numbers s.nodes);
  cleared = true;
}
answered x (failed u n m) = given_back x (unprovable n u x.count 0)
answered x (short l n) = given_back x (shortage l n)
answered x unfinished = given_back x (shortage Steps x.step_limit)

-- the call
unfoldable pub called : Claim → After
called x = elim (refusal x) [ none ↦ answered x (searched x) | some r ↦ unchanged x r ]
