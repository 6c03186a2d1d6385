-- What the code of one rule has done when the next judgement is asked: the test of its charge, and what it made and moved. Assumes nothing.
use Rattle.std.specs.Prelude.{ℕ, ◌+◌, ◌≤◌, ◌≡◌, List, ◌++◌, length, Result}
use Rattle.theory.specs.Form.{Book}
use Rattle.theory.specs.Term.{Node}
use Rattle.theory.specs.Meter as M
use Rattle.theory.specs.Meter.{lacking, count}
use Rattle.meter.specs.declared.State.{State}
use Rattle.meter.specs.declared.Sequent.{Sequent}
use Rattle.meter.specs.declared.Limits.{Limits}
use Rattle.meter.specs.declared.Missed.{Missed}
use Rattle.meter.specs.Moves.{most, limits_of, charged}
use Rattle.context.specs.Moves.{stretch}
use Rattle.search_laws.specs.Reading.{Lent, book, seq_of, Shows}
use Rattle.search_laws.specs.Keeping.{Rep, Frame}

-- the code's test of a charge at the state s answered r
pub record Tested (m : Limits) (r : Result (Unit {0}) Missed) (s : State) (u f t c l : ℕ) : Type 0 where
  pub is : r ≡ charged (lacking (limits_of m) u f t c l) s

-- what a charge that passes no limit shows
pub record Passes (m : Limits) (u f t c l : ℕ) : Type 0 where
  pub indices : u ≤ most
  pub formulas : f ≤ m.formulas
  pub terms : t ≤ m.terms
  pub contexts : c ≤ stretch
  pub levels : l ≤ m.levels

-- the code has made what one charge pays for: indices up to u, words ws, nodes ns; Q comes next
pub record Made (m : Limits) (x : Lent) (s : State) (q : Sequent) (u : ℕ) (ws : Book) (ns : List Node) (Q : M.Sequent) (x1 : Lent)
    (s1 : State) (q1 : Sequent) : Type 0 where
  pub rep : Rep m x1 s1 q1
  pub frame : Frame x s.formulas s.terms q1.level x1
  pub formulas_up : s.formulas ≤ s1.formulas
  pub terms_up : s.terms ≤ s1.terms
  pub level_up : q.level ≤ q1.level
  pub next : Q ≡ seq_of x1.records q1
  pub books : book x1.words s1.formulas ≡ book x.words s.formulas ++ ws
  pub shows : (S : M.State) → Shows x s S → Shows x1 s1
      (record { words = S.words ++ ws; nodes = S.nodes ++ ns; used = u; steps = S.steps })
  pub room : (S : M.State) → Shows x s S → Passes m u (length S.words + length ws) (length S.nodes + length ns) (count Q) Q.level

-- the lists hold Q, which comes next at the same state
pub record Moved (m : Limits) (x : Lent) (s : State) (q : Sequent) (Q : M.Sequent) (x1 : Lent) (q1 : Sequent) : Type 0 where
  pub rep : Rep m x1 s q1
  pub frame : Frame x s.formulas s.terms q1.level x1
  pub level_up : q.level ≤ q1.level
  pub next : Q ≡ seq_of x1.records q1

-- the conclusion's own sequent is still there after a premise a level up
pub record Back (m : Limits) (x : Lent) (s : State) (q : Sequent) (s2 : State) (y : Lent) : Type 0 where
  pub rep : Rep m y s2 q
  pub frame : Frame x s.formulas s.terms (q.level + 1) y
  pub formulas_up : s.formulas ≤ s2.formulas
  pub terms_up : s.terms ≤ s2.terms
  pub seq : seq_of y.records q ≡ seq_of x.records q
