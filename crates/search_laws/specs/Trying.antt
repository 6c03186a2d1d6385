-- Rule 4 at one position: what theory does there, and what the code's try of it comes to. Assumes nothing.
use Rattle.std.specs.Prelude.{ℕ, suc, ◌+◌, ◌*◌, ◌-◌, ◌≡◌, List, [], ◌∷◌, ◌++◌, length, Ok, Err}
use Rattle.theory.specs.Form.{look}
use Rattle.theory.specs.Term.{by, app, search4}
use Rattle.theory.specs.World.{Seen, failed_second}
use Rattle.theory.specs.Meter as M
use Rattle.theory.specs.Meter.{limited, charge, attempt}
use Rattle.theory.specs.Search.{entry, nest, try_at}
use Rattle.meter.specs.declared.State.{State}
use Rattle.meter.specs.declared.Sequent.{Sequent}
use Rattle.meter.specs.declared.Limits.{Limits}
use Rattle.meter.specs.declared.Missed.TheVariants.{Failed, Short}
use Rattle.meter.specs.Moves.{Answer, limits_of}
use Rattle.context.specs.Moves.{stretch}
use Rattle.search_laws.specs.Tables.{from}
use Rattle.search_laws.specs.Reading.{Lent, entry_at, unordered_in, seq_of, Shows}
use Rattle.search_laws.specs.Meaning.{Comes, asks, Gives}
use Rattle.search_laws.specs.Making.{Back}

-- what follows a try that failed, at each depth
abbrev pub Next : Type 0
Next = ℕ → Seen → M.State → M.Answer

-- unordered record i of a sequent, those before it and those after it
abbrev pub record_at : Lent → Sequent → ℕ → M.Entry
record_at x q i = entry_at x.records (q.level * stretch + i)

abbrev pub records_before : Lent → Sequent → ℕ → List M.Entry
records_before x q i = unordered_in x.records q.level i

abbrev pub records_from : Lent → Sequent → ℕ → List M.Entry
records_from x q i = from (λ j. entry_at x.records (q.level * stretch + j)) i (q.unordered - i)

-- the try at position i
abbrev pub trying : Limits → List (List ℕ) → Lent → Sequent → ℕ → Next → Seen → ℕ → M.State → M.Answer
trying m taken x q i next seen d S =
    try_at (limited (limits_of m)) taken (asks m taken d) (seq_of x.records q) (records_before x q i) (record_at x q i)
    (records_from x q (suc i))
    (next d) seen S (nest S.words (look S.words (record_at x q i).formula))

-- the second premise's sequent: C in the place of (A→B)→C
unfoldable pub second_next : Lent → Sequent → ℕ → ℕ → ℕ → M.Sequent
second_next x q i c n = record {
  unordered = records_before x q i ++ records_from x q (suc i);
  ordered = entry c n ∷ [];
  goal = q.goal;
  level = suc q.level;
}

-- what is left of the try when its first premise is found at node t; S is the state before the try
unfoldable pub second_try : Limits → List (List ℕ) → Lent → Sequent → ℕ → ℕ → Next → Seen → M.State → ℕ → ℕ → M.State → M.Answer
second_try m taken x q i c next seen S d t S2 =
    charge (limits_of m) S2.used [] (by search4 (app (record_at x q i).proof t ∷ [])) (second_next x q i c (length S2.nodes)) S2 λ S3.
    attempt S (asks m taken d M.by_left (second_next x q i c (length S2.nodes)) S3) (λ u S4. M.found u S4)
    (λ k S4. next d (failed_second seen k) S4)

-- a failed try hands on to what follows it, with more seen
pub record HandsOn (next : Next) (S : M.State) (s1 : State) (C : ℕ → M.Answer) : Type 0 where
  pub seen : Seen
  pub carries : (r : Answer) (z : Lent) →
      Comes z r (λ d. next d seen (record { words = S.words; nodes = S.nodes; used = s1.indices; steps = s1.steps })) → Comes z r C

-- the sequent is still there, and formulas and terms are given back
pub record Past (m : Limits) (x : Lent) (s : State) (q : Sequent) (s1 : State) (y : Lent) : Type 0 where
  pub back : Back m x s q s1 y
  pub formulas : s1.formulas ≡ s.formulas
  pub terms : s1.terms ≡ s.terms

-- what a try at position i comes to
abbrev pub Tried : Limits → List (List ℕ) → Lent → State → Sequent → ℕ → Answer → Lent → Type 0
Tried m taken x s q i (Ok f) y = (next : Next) (seen : Seen) → Gives (trying m taken x q i next seen) m x s q (Ok f) y
Tried m taken x s q i (Err (Short l s1)) y = (next : Next) (seen : Seen) →
    Gives (trying m taken x q i next seen) m x s q (Err (Short l s1)) y
Tried m taken x s q i (Err (Failed s1)) y = Past m x s q s1 y × ((next : Next) (seen : Seen) (S : M.State) → Shows x s S →
    HandsOn next S s1 (λ d. trying m taken x q i next seen d S))

pub record TriesAt (m : Limits) (taken : List (List ℕ)) (x : Lent) (s : State) (q : Sequent) (i : ℕ) (r : Answer) (y : Lent) : Type 0 where
  pub is : Tried m taken x s q i r y

-- what the second premise of a try comes to; s is the state before the try, s2 the one after its first premise, found at node t
abbrev pub Finished : Limits → List (List ℕ) → Lent → State → State → Sequent → ℕ → ℕ → ℕ → Answer → Lent → Type 0
Finished m taken x s s2 q i c t (Ok f) y = (next : Next) (seen : Seen) (S : M.State) →
    Gives (λ d S2. second_try m taken x q i c next seen S d t S2) m x s2 q (Ok f) y
Finished m taken x s s2 q i c t (Err (Short l s1)) y = (next : Next) (seen : Seen) (S : M.State) →
    Gives (λ d S2. second_try m taken x q i c next seen S d t S2) m x s2 q (Err (Short l s1)) y
Finished m taken x s s2 q i c t (Err (Failed s1)) y = Past m x s q s1 y × ((next : Next) (seen : Seen) (S S2 : M.State) → Shows x s2 S2 →
    HandsOn next S s1 (λ d. second_try m taken x q i c next seen S d t S2))

pub record Finishes (m : Limits) (taken : List (List ℕ)) (x : Lent) (s s2 : State) (q : Sequent) (i c t : ℕ) (r : Answer) (y : Lent) :
    Type 0 where
  pub is : Finished m taken x s s2 q i c t r y
