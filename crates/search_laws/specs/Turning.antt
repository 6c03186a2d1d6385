-- What one rule of left, one rule of search and one turn of left come to in the code. Assumes nothing.
use Rattle.std.specs.Prelude.{ℕ, ◌<◌, ◌≡◌, List, Result, Ok, Err}
use Rattle.theory.specs.Form.{look}
use Rattle.theory.specs.Meter as M
use Rattle.theory.specs.Meter.{limited}
use Rattle.theory.specs.Search.{halves}
use Rattle.meter.specs.declared.State.{State}
use Rattle.meter.specs.declared.Sequent.{Sequent}
use Rattle.meter.specs.declared.Limits.{Limits}
use Rattle.meter.specs.declared.Found.{Found}
use Rattle.meter.specs.declared.Missed.{Missed}
use Rattle.meter.specs.declared.Next.{Next}
use Rattle.meter.specs.declared.Next.TheVariants.{Go, End, Split, Try}
use Rattle.meter.specs.Moves.{Answer, limits_of}
use Rattle.context.specs.Area.{formula_at, top_place}
use Rattle.search_laws.specs.Reading.{Lent, kind_at, seq_of}
use Rattle.search_laws.specs.Keeping.{Rep}
use Rattle.search_laws.specs.Meaning.{asks, Meets, Goes, Gives, weigh, GoesOn}

-- the tries of search: its rules 3 to 5
abbrev pub tries : Limits → List (List ℕ) → M.Sequent → ℕ → M.State → M.Answer
tries m taken Q d S = halves (limited (limits_of m)) taken (asks m taken d) Q S (look S.words Q.goal)

-- judgement j, its entry counted, goes on by left with a smaller sequent
pub record GoesLeft (j : M.Judgement) (m : Limits) (taken : List (List ℕ)) (x : Lent) (s : State) (q : Sequent) (y : Lent) (s1 : State)
    (q1 : Sequent) : Type 0 where
  pub rep : Rep m y s1 q1
  pub carries : (r : Answer) (z : Lent) → Meets M.by_left m taken y s1 q1 r z → Goes j m taken x s q r z
  pub less : weigh M.by_left y.words s1.formulas y.records q1 < weigh j x.words s.formulas x.records q

-- the last ordered record is a disjunction
pub record Splits (x : Lent) (q : Sequent) : Type 0 where
  pub some : 0 < q.ordered
  pub kind : kind_at x.words (formula_at x.records (top_place q)) ≡ 4

-- nothing is ordered, and search comes to its tries
pub record Tries (m : Limits) (taken : List (List ℕ)) (x : Lent) (s : State) (q : Sequent) : Type 0 where
  pub none : q.ordered ≡ 0
  pub carries : (r : Answer) (z : Lent) → Gives (tries m taken (seq_of x.records q)) m x s q r z → Goes M.by_search m taken x s q r z

-- what one rule of judgement j comes to, its entry counted
pub data Turns (m : Limits) (taken : List (List ℕ)) (x : Lent) (s : State) (q : Sequent) : M.Judgement → Result Next Missed → Lent →
    Type 0 where
  turns_on : {j : M.Judgement} {y : Lent} {s1 : State} {q1 : Sequent} → GoesLeft j m taken x s q y s1 q1 → Turns m taken x s q j
      (Ok (Go s1 q1)) y
  turns_end : {j : M.Judgement} {y : Lent} {f : Found} → Goes j m taken x s q (Ok f) y → Turns m taken x s q j (Ok (End f)) y
  turns_missed : {j : M.Judgement} {y : Lent} {e : Missed} → Goes j m taken x s q (Err e) y → Turns m taken x s q j (Err e) y
  turns_split : Splits x q → Turns m taken x s q M.by_left (Ok (Split s q)) x
  turns_try : Tries m taken x s q → Turns m taken x s q M.by_search (Ok (Try s q)) x

-- left comes to the two premises of a disjunction, or to the tries of search, at state s1
pub record Splitting (m : Limits) (taken : List (List ℕ)) (x : Lent) (s : State) (q : Sequent) (s1 : State) : Type 0 where
  pub rep : Rep m x s1 q
  pub is : Splits x q
  pub fill : s1.formulas ≡ s.formulas
  pub carries : (r : Answer) (z : Lent) → Goes M.by_left m taken x s1 q r z → Meets M.by_left m taken x s q r z

pub record Trying (m : Limits) (taken : List (List ℕ)) (x : Lent) (s : State) (q : Sequent) (s1 : State) : Type 0 where
  pub rep : Rep m x s1 q
  pub none : q.ordered ≡ 0
  pub fill : s1.formulas ≡ s.formulas
  pub carries : (r : Answer) (z : Lent) → Gives (tries m taken (seq_of x.records q)) m x s1 q r z → Meets M.by_left m taken x s q r z

-- what one turn of left comes to
pub data Turned (m : Limits) (taken : List (List ℕ)) (x : Lent) (s : State) (q : Sequent) : Result Next Missed → Lent → Type 0 where
  turned_on : {y : Lent} {s1 : State} {q1 : Sequent} → GoesOn m taken x s q y s1 q1 → Turned m taken x s q (Ok (Go s1 q1)) y
  turned_end : {y : Lent} {f : Found} → Meets M.by_left m taken x s q (Ok f) y → Turned m taken x s q (Ok (End f)) y
  turned_missed : {y : Lent} {e : Missed} → Meets M.by_left m taken x s q (Err e) y → Turned m taken x s q (Err e) y
  turned_split : {s1 : State} → Splitting m taken x s q s1 → Turned m taken x s q (Ok (Split s1 q)) x
  turned_try : {s1 : State} → Trying m taken x s q s1 → Turned m taken x s q (Ok (Try s1 q)) x
