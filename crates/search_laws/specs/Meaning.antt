-- What an answer of the code says of the search as written, what a call means, and the measure of the cycle. Assumes nothing.
use Rattle.std.specs.Prelude.{ℕ, ◌≤◌, ◌<◌, ◌≡◌, List, Ok, Err}
use Rattle.theory.specs.World.{Tree}
use Rattle.theory.specs.Premise.{asked, size_of}
use Rattle.theory.specs.Meter as M
use Rattle.theory.specs.Meter.{limited}
use Rattle.theory.specs.Search.{rule, run}
use Rattle.meter.specs.declared.State.{State}
use Rattle.meter.specs.declared.Sequent.{Sequent}
use Rattle.meter.specs.declared.Limits.{Limits}
use Rattle.meter.specs.declared.Limit.{Limit}
use Rattle.meter.specs.declared.Found.{Found}
use Rattle.meter.specs.declared.Missed.TheVariants.{Failed, Short}
use Rattle.meter.specs.Moves.{Answer, limits_of, limit_of}
use Rattle.context.specs.Area.{Rec}
use Rattle.search_laws.specs.Reading.{Lent, book, seq_of, Shows}
use Rattle.search_laws.specs.Keeping.{Rep, Kept}

-- the code's answer and lists say theory's answer; a failure's tree of worlds is not in the lists
pub data Says (y : Lent) : Answer → M.Answer → Type 0 where
  says_found : {f : Found} {S : M.State} → Shows y f.state S → Says y (Ok f) (M.found f.node S)
  says_failed : {s : State} {u n : ℕ} (K : Tree) → u ≡ s.indices → n ≡ s.steps → Says y (Err (Failed s)) (M.failed u n K)
  says_short : {k : Limit} {n : ℕ} {s : State} (l : M.Lack) → k ≡ limit_of l → n ≡ s.steps → Says y (Err (Short k s)) (M.short l n)

-- from some depth on the computation C comes to one answer, which r and y say
pub record Comes (y : Lent) (r : Answer) (C : ℕ → M.Answer) : Type 0 where
  pub answer : M.Answer
  pub depth : ℕ
  pub settles : (d : ℕ) → depth ≤ d → C d ≡ answer
  pub says : Says y r answer

-- the search as written under the code's limits, as the premises of a rule ask it
abbrev pub asks : Limits → List (List ℕ) → ℕ → M.Ask M.Answer
asks m taken d j Q S = run (limited (limits_of m)) taken d j Q S

-- from these lists judgement j comes to the answer r and the lists y, as the search as written says
pub record Meets (j : M.Judgement) (m : Limits) (taken : List (List ℕ)) (x : Lent) (s : State) (q : Sequent) (r : Answer)
    (y : Lent) : Type 0 where
  pub means : (S : M.State) → Shows x s S → Comes y r (λ d. asks m taken d j (seq_of x.records q) S)
  pub kept : Kept m x s q r y

-- the same after the entry's step was counted
pub record Goes (j : M.Judgement) (m : Limits) (taken : List (List ℕ)) (x : Lent) (s : State) (q : Sequent) (r : Answer)
    (y : Lent) : Type 0 where
  pub means : (S : M.State) → Shows x s S → Comes y r (λ d. rule (limited (limits_of m)) taken (asks m taken d) j (seq_of x.records q) S)
  pub kept : Kept m x s q r y

-- the same of a part of a rule: what theory computes at each depth from each state that the lists show
pub record Gives (C : ℕ → M.State → M.Answer) (m : Limits) (x : Lent) (s : State) (q : Sequent) (r : Answer) (y : Lent) : Type 0 where
  pub means : (S : M.State) → Shows x s S → Comes y r (λ d. C d S)
  pub kept : Kept m x s q r y

-- the measure: Dyckhoff's size of the sequent that the slices hold
unfoldable pub weigh : M.Judgement → List ℕ → ℕ → List Rec → Sequent → ℕ
weigh j f n w q = size_of (asked (book f n) j (seq_of w q))

-- left goes on by left: what the rest means, the whole means
pub record Onward (m : Limits) (taken : List (List ℕ)) (x : Lent) (s : State) (q : Sequent) (x1 : Lent) (s1 : State) (q1 : Sequent) : Type 0
  where
    pub rep : Rep m x1 s1 q1
    pub carries : (r : Answer) (y : Lent) → Meets M.by_left m taken x1 s1 q1 r y → Meets M.by_left m taken x s q r y
    pub falls : weigh M.by_left x1.words s1.formulas x1.records q1 ≤ weigh M.by_left x.words s.formulas x.records q

-- a turn that goes on by left makes the sequent smaller
pub record GoesOn (m : Limits) (taken : List (List ℕ)) (x : Lent) (s : State) (q : Sequent) (x1 : Lent) (s1 : State) (q1 : Sequent) : Type 0
  where
    pub on : Onward m taken x s q x1 s1 q1
    pub less : weigh M.by_left x1.words s1.formulas x1.records q1 < weigh M.by_left x.words s.formulas x.records q
