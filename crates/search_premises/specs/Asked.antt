-- What a premise asked a level up comes to: a limit that its charge passes, or the answer of right or left. Assumes nothing.
use Rattle.std.specs.Prelude.{ℕ, ◌+◌, ◌<◌, List, [], Ok, Err}
use Rattle.theory.specs.Form.{form}
use Rattle.theory.specs.Weight.{weight}
use Rattle.theory.specs.Premise.{asked, size_of}
use Rattle.theory.specs.Meter as M
use Rattle.theory.specs.Search.{goal_up}
use Rattle.meter.specs.declared.State.{State}
use Rattle.meter.specs.declared.Sequent.{Sequent}
use Rattle.meter.specs.declared.Limits.{Limits}
use Rattle.meter.specs.declared.Limit.{Limit}
use Rattle.meter.specs.declared.Missed.{Missed}
use Rattle.meter.specs.declared.Missed.TheVariants.{Failed, Short}
use Rattle.meter.specs.Moves.{Answer, returned}
use Rattle.context.specs.Area.{Rec}
use Rattle.search_laws.specs.Reading.{Lent, book, seq_of}
use Rattle.search_laws.specs.Meaning.{Meets}
use Rattle.search_laws.specs.Making.{Tested, Made}
use Rattle.search_laws.specs.Trying.{TriesAt}
use Rattle.search_laws.specs.Records.{top_formula}
use Rattle.search_premises.specs.Prepared.{Half}

-- the measure of the goal g, the contexts as they are
unfoldable pub weigh_goal : List ℕ → ℕ → List Rec → Sequent → ℕ → ℕ
weigh_goal f n w q g = size_of (asked (book f n) M.by_right (goal_up (seq_of w q) g))

-- the goal g by right, at the same state
pub data Raised (m : Limits) (taken : List (List ℕ)) (x : Lent) (s : State) (q : Sequent) (g : ℕ) : Answer → Lent → Type 0 where
  raised_lacks : {l : Limit} →
      Tested m (Err (Short l s)) s s.indices s.formulas s.terms (q.unordered + q.ordered) (q.level + 1) →
      Raised m taken x s q g (Err (Short l s)) x
  raised_asks : {r : Answer} {x1 y : Lent} {q1 : Sequent} → Made m x s q s.indices [] [] (goal_up (seq_of x.records q) g) x1 s q1 →
      q.level < q1.level → Meets M.by_right m taken x1 s q1 r y → Raised m taken x s q g r y

-- the last ordered record is heavier than the formula a
pub record HalfOf (x : Lent) (s : State) (q : Sequent) (a : ℕ) : Type 0 where
  pub some : 0 < q.ordered
  pub inside : a < s.formulas
  pub lighter : weight (form (book x.words s.formulas) a) < weight (form (book x.words s.formulas) (top_formula x q))

-- the half b of a disjunction by left, under the name a
pub data Branched (m : Limits) (taken : List (List ℕ)) (x : Lent) (s : State) (q : Sequent) (b a : ℕ) : Answer → Lent → Type 0 where
  lacks : {e : Missed} {y : Lent} → Half m x s q b a (Err e) y → Branched m taken x s q b a (Err e) y
  asks : {r : Answer} {x1 y : Lent} {s1 : State} {q1 : Sequent} → Half m x s q b a (Ok (s1, q1)) x1 →
      Meets M.by_left m taken x1 s1 q1 r y → Branched m taken x s q b a r y

-- the answer of a try, with the formulas and terms given back where it failed
abbrev pub given_back : State → Answer → Answer
given_back s (Ok f) = Ok f
given_back s (Err (Failed s1)) = Err (Failed (returned s s1))
given_back s (Err (Short l s1)) = Err (Short l s1)

-- rule 4 at position i: both its premises; who asks for them gives back
pub record Attempted (m : Limits) (taken : List (List ℕ)) (x : Lent) (s : State) (q : Sequent) (i : ℕ) (r : Answer) (y : Lent) : Type 0
  where
    pub is : TriesAt m taken x s q i (given_back s r) y
