-- What the status owes: its answer with its numbers, and what each lent slice holds afterwards, as theory's definition of the status has
-- them; and what is left to ask where the first search failed. Assumes nothing.
use Rattle.std.specs.Prelude.{ℕ, ◌≡◌, true, false, List, length, replicate}
use Rattle.theory.specs.Status as S
use Rattle.theory.specs.Status.{Inquiry, Asked, settled, refuted, second_outcome, goal_is_open, asked, status_numbers}
use Rattle.context.specs.Area.{Rec, zeroed}
use Rattle.status.specs.Answers.{Answer, status_of, numbers_of}

-- the inquiry that a call's lent values make
abbrev pub inquiry_of : List ℕ → ℕ → ℕ → List ℕ → ℕ → ℕ → Inquiry
inquiry_of f count goal t records steps = record {
  words = f;
  count = count;
  goal = goal;
  terms = t;
  records = records;
  step_limit = steps;
}

-- the work records afterwards: all zero, or as they were
unfoldable pub records_left : Asked → List Rec → List Rec
records_left a w = elim a.cleared [ true ↦ replicate (length w) zeroed | false ↦ w ]

-- the status where the first search failed: closed, it is settled; open, the second search tells
unfoldable pub failed_status : Inquiry → S.Status
failed_status x = elim (goal_is_open x) [ false ↦ settled S.Unsolvable | true ↦ refuted (second_outcome x) ]

-- s is the answer to the inquiry x with the work records w, its numbers are document 01's, and f, t and w1 are its words, term numbers
-- and records afterwards
pub record Answered (x : Inquiry) (w : List Rec) (s : Answer) (f t : List ℕ) (w1 : List Rec) : Type 0 where
  pub status : status_of s ≡ (asked x).status
  pub numbers : numbers_of s ≡ status_numbers (asked x).status
  pub words : f ≡ (asked x).words
  pub terms : t ≡ (asked x).terms
  pub records : w1 ≡ records_left (asked x) w
