-- What every judgement asks of the lent lists, what it leaves alone, and what an answer leaves well-formed. Assumes nothing.
use Rattle.std.specs.Prelude.{ℕ, ◌+◌, ◌-◌, ◌*◌, ◌≤◌, ◌<◌, ◌≡◌, List, length, get_or, take, T, Ok, Err}
use Rattle.theory.specs.Form.{good_word}
use Rattle.theory.specs.Layout.{node_width}
use Rattle.theory.specs.Meter.{Entry}
use Rattle.meter.specs.declared.State.{State}
use Rattle.meter.specs.declared.Sequent.{Sequent}
use Rattle.meter.specs.declared.Limits.{Limits}
use Rattle.meter.specs.declared.Missed.{Missed}
use Rattle.meter.specs.declared.Missed.TheVariants.{Failed, Short}
use Rattle.meter.specs.Moves.{Answer, most}
use Rattle.context.specs.Moves.{stretch}
use Rattle.context.specs.Area.{Rec, zeroed, formula_at, term_at}
use Rattle.search_laws.specs.Reading.{Lent, unordered_in, ordered_in, seq_of}

-- a list of the same length with the same first n elements; d stands for what is out of range
pub record Same {A : Type 0} (d : A) (n : ℕ) (xs ys : List A) : Type 0 where
  pub long : length ys ≡ length xs
  pub at : (i : ℕ) → i < n → get_or ys i d ≡ get_or xs i d

-- the words below the fill pass 2
abbrev pub Laid : List ℕ → ℕ → Type 0
Laid f n = (i : ℕ) → i < n → T (good_word (take i f) (get_or f i 0))

-- the limits are those of a call, and the lent lists have room for them
pub record Rooms (m : Limits) (x : Lent) : Type 0 where
  pub most_steps : m.steps ≤ 1000000
  pub most_formulas : m.formulas ≤ 16384
  pub most_terms : m.terms ≤ 16384
  pub most_levels : m.levels < 256
  pub most_records : length x.records ≤ 65536
  pub words_room : m.formulas ≤ length x.words
  pub numbers_room : m.terms * node_width ≤ length x.numbers
  pub records_room : (m.levels + 1) * stretch ≤ length x.records

pub record Within (m : Limits) (s : State) : Type 0 where
  pub in_steps : s.steps ≤ m.steps
  pub in_indices : s.indices ≤ most
  pub in_formulas : s.formulas ≤ m.formulas
  pub in_terms : s.terms ≤ m.terms

-- a record in use refers to words and nodes below the fills
pub record Inside (nf nt : ℕ) (w : List Rec) (i : ℕ) : Type 0 where
  pub formula_in : formula_at w i < nf
  pub term_in : term_at w i < nt

-- the stretch of the sequent's level holds the contexts us and os
pub record Seats (m : Limits) (nf nt : ℕ) (w : List Rec) (q : Sequent) (us os : List Entry) : Type 0 where
  pub level_in : q.level ≤ m.levels
  pub fits : q.unordered + q.ordered ≤ stretch
  pub goal_in : q.goal < nf
  pub unordered_inside : (i : ℕ) → i < q.unordered → Inside nf nt w (q.level * stretch + i)
  pub ordered_inside : (i : ℕ) → i < q.ordered → Inside nf nt w (q.level * stretch + stretch - 1 - i)
  pub unordered_is : unordered_in w q.level q.unordered ≡ us
  pub ordered_is : ordered_in w q.level q.ordered ≡ os

-- what every judgement asks
pub record Rep (m : Limits) (x : Lent) (s : State) (q : Sequent) : Type 0 where
  pub rooms : Rooms m x
  pub within : Within m s
  pub laid : Laid x.words s.formulas
  pub seats : Seats m s.formulas s.terms x.records q (seq_of x.records q).unordered (seq_of x.records q).ordered

-- what a call leaves alone: words and nodes below the fills, records of the levels below l
pub record Frame (x : Lent) (nf nt l : ℕ) (y : Lent) : Type 0 where
  pub words : Same 0 nf x.words y.words
  pub numbers : Same 0 (nt * node_width) x.numbers y.numbers
  pub records : Same zeroed (l * stretch) x.records y.records

-- what has been used where there is no term, and by any answer
abbrev pub missed_at : Missed → State
missed_at (Failed s) = s
missed_at (Short l s) = s

abbrev pub state_of : Answer → State
state_of (Ok f) = f.state
state_of (Err e) = missed_at e

-- what was found lies below the fills, which have grown
pub record Grown (y : Lent) (s : State) (i : ℕ) (s1 : State) : Type 0 where
  pub laid : Laid y.words s1.formulas
  pub formulas_up : s.formulas ≤ s1.formulas
  pub terms_up : s.terms ≤ s1.terms
  pub root_in : i < s1.terms

abbrev pub After : Lent → State → Answer → Type 0
After y s (Ok f) = Grown y s f.node f.state
After y s (Err e) = Unit {0}

-- what every caller may go on with
pub record Kept (m : Limits) (x : Lent) (s : State) (q : Sequent) (r : Answer) (y : Lent) : Type 0 where
  pub frame : Frame x s.formulas s.terms q.level y
  pub within : Within m (state_of r)
  pub after : After y s r
