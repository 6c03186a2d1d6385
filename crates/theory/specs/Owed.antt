-- What is owed after a call, and claims that differ in room alone: the words of the whole call's theorems. Assumes nothing.
use Rattle.std.specs.Prelude.{ℕ, ◌*◌, ◌%◌, ◌≤◌, ◌<◌, ◌≡◌, true, false, ◌⊎◌, [], T, length, get_or}
use Rattle.std.proofs.Math.Option.{none, some}
use Rattle.theory.specs.Form.{Form, bot, imp, form, bad_word, Good}
use Rattle.theory.specs.Names.{Distinct}
use Rattle.theory.specs.NameText.{names_in, bad_name}
use Rattle.theory.specs.Written.{AllIn}
use Rattle.theory.specs.Term.{Term, Derives}
use Rattle.theory.specs.Layout.{node_width}
use Rattle.theory.specs.Refusal.{Fault, Sizes, BadFormula, BadAssumption, BadNames, BadGoal, NoRoom, BadTerm, BadFile, bad_assumption}
use Rattle.theory.specs.Call.{Claim, right_sizes, given_words, given_book, Outcome, proved, unprovable, shortage, refused, Numbers}
use Rattle.theory.specs.Call.{After, called}
use Rattle.theory.specs.File.{File}
use Rattle.theory.specs.Status.{Solvable, Unsolvable, Unknown, Status, settled, ran_short, rejected, Inquiry, first_claim}
use Rattle.theory.specs.Status.{second_outcome, goal_is_open}

-- what a claim has that passes 1 to 5
pub record Passes (x : Claim) : Type 0 where
  pub sizes : T (right_sizes x)
  pub few_words : length x.words ≤ 16384
  pub given : x.count ≤ length x.words
  pub counted : length (given_words x) ≡ x.count
  pub whole_nodes : length x.terms % node_width ≡ 0
  pub few_terms : length x.terms ≤ 16384 * node_width
  pub records : x.records ≡ 16384
  pub few_steps : x.step_limit ≤ 1000000
  pub words : bad_word (given_words x) ≡ none
  pub good : Good (given_book x)
  pub book : length (given_book x) ≡ x.count
  pub few : length x.assumed ≤ 64
  pub ins : AllIn (given_book x) x.assumed
  pub names : bad_name (length x.assumed) x.text ≡ none
  pub named : length (names_in x.text) ≡ length x.assumed
  pub distinct : Distinct (names_in x.text)
  pub goal : x.goal < length (given_book x)

-- what a refused claim breaks, the tests before it having passed: the fault, and its place (0 for 1 and 5)
abbrev pub Faulty : Claim → Fault → ℕ → Type 0
Faulty x Sizes i = (right_sizes x ≡ false) × (i ≡ 0)
Faulty x BadFormula i = T (right_sizes x) × (bad_word (given_words x) ≡ some i)
Faulty x BadAssumption i = T (right_sizes x) × (bad_word (given_words x) ≡ none) × (bad_assumption x.count x.assumed ≡ some i)
Faulty x BadNames i =
    T (right_sizes x) × (bad_word (given_words x) ≡ none) × (bad_assumption x.count x.assumed ≡ none) ×
    (bad_name (length x.assumed) x.text ≡ some i)
Faulty x BadGoal i =
    T (right_sizes x) × (bad_word (given_words x) ≡ none) × (bad_assumption x.count x.assumed ≡ none) ×
    (bad_name (length x.assumed) x.text ≡ none) × (x.count ≤ x.goal) × (i ≡ 0)
Faulty x NoRoom i = ⊥
Faulty x BadTerm i = ⊥
Faulty x BadFile i = ⊥

-- the call is refused with 2, at word i or at one below it
pub record RefusedUpTo (x : Claim) (i : ℕ) : Type 0 where
  pub place : ℕ
  pub not_above : place ≤ i
  pub outcome : (called x).outcome ≡ refused BadFormula place

-- "all formula words and term nodes above the fills are zero, and every work record is zero"
pub record ZeroAbove (a : After) (f t : ℕ) : Type 0 where
  pub words : (i : ℕ) → f ≤ i → get_or a.words i 0 ≡ 0
  pub terms : (i : ℕ) → t * node_width ≤ i → get_or a.terms i 0 ≡ 0
  pub records : a.cleared ≡ true

-- the same formulas, assumptions, names and goal, lent at least as much, within row 1
pub record Grown (x y : Claim) : Type 0 where
  pub words : given_words x ≡ given_words y
  pub count : x.count ≡ y.count
  pub assumed : x.assumed ≡ y.assumed
  pub text : x.text ≡ y.text
  pub goal : x.goal ≡ y.goal
  pub formulas : length x.words ≤ length y.words
  pub terms : length x.terms ≤ length y.terms
  pub records : x.records ≤ y.records
  pub steps : x.step_limit ≤ y.step_limit
  pub sizes : T (right_sizes y)

-- the numbers of an outcome are within what was lent
abbrev pub FitIn : Claim → Outcome → Type 0
FitIn x (proved r n u f t) =
    (n ≤ x.step_limit) × (u ≤ 4096) × (x.count ≤ f) × (f ≤ length x.words) × (r < t) × (t * node_width ≤ length x.terms)
FitIn x (unprovable n u f t) = (n ≤ x.step_limit) × (u ≤ 4096) × (f ≡ x.count) × (t ≡ 0)
FitIn x (shortage l n) = n ≤ x.step_limit
FitIn x (refused f i) = Unit {0}

-- the same of the numbers that come back, whatever the outcome: steps, indices and fills
pub record Lent (x : Claim) (n : Numbers) : Type 0 where
  pub steps : n.steps ≤ x.step_limit
  pub indices : n.indices ≤ 4096
  pub formulas : n.formulas ≤ length x.words
  pub terms : n.terms * node_width ≤ length x.terms

-- Proved or Unprovable
pub data Decided : Outcome → Type 0 where
  is_proved : {r n u f t : ℕ} → Decided (proved r n u f t)
  is_unprovable : {n u f t : ℕ} → Decided (unprovable n u f t)

-- "ended without a proof": Unprovable, whatever its numbers
pub data Unproved : Outcome → Type 0 where
  no_proof : {n u f t : ℕ} → Unproved (unprovable n u f t)

-- a second search of the status is made: the first ended without a proof, and the goal is open
abbrev pub SearchesAgain : Inquiry → Type 0
SearchesAgain x = Unproved (called (first_claim x)).outcome × T (goal_is_open x)

-- no term of any size derives the formula from no assumptions
abbrev pub Underivable : Form → Type 0
Underivable A = (s : Term) → Derives [] s A → ⊥

-- the formula that a status is asked for
abbrev pub asks_for : Inquiry → Form
asks_for x = form (given_book (first_claim x)) x.goal

-- what a status says of the goal, which no assumption helps to prove
abbrev pub Says : Inquiry → Status → Type 0
Says x (settled Solvable) = (s : Term) × Derives [] s (asks_for x)
Says x (settled Unsolvable) =
    Underivable (asks_for x) × (T (goal_is_open x) → (s : Term) × Derives [] s (imp (asks_for x) bot))
Says x (settled Unknown) = Underivable (asks_for x) × Underivable (imp (asks_for x) bot) × T (goal_is_open x)
Says x (ran_short l n) =
    ((called (first_claim x)).outcome ≡ shortage l n) ⊎ (SearchesAgain x × Underivable (asks_for x) × (second_outcome x ≡ shortage l n))
Says x (rejected f i) = (called (first_claim x)).outcome ≡ refused f i

-- the counts of a file that decodes
pub record Bounds (x : File) : Type 0 where
  pub words : length x.words ≤ 4096
  pub indices : length x.indices ≤ 64
  pub goals : length x.goals ≡ 1
