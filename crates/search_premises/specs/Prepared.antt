-- What is there when a premise is asked a level up, or the limit that its charge passes; the premises of the rules. Assumes nothing.
use Rattle.std.specs.Prelude.{ℕ, suc, ◌+◌, ◌*◌, ◌<◌, ◌≤◌, ◌≡◌, List, [], ◌∷◌, ◌++◌, set, Result, Ok, Err}
use Rattle.theory.specs.Form.{Book, is_imp}
use Rattle.theory.specs.Term.{Node, by, ident, fn, app, right_impl, left_or, search4, six_of}
use Rattle.theory.specs.Meter as M
use Rattle.theory.specs.Search.{name, push_up, entry}
use Rattle.meter.specs.declared.State.{State}
use Rattle.meter.specs.declared.Sequent.{Sequent}
use Rattle.meter.specs.declared.Limits.{Limits}
use Rattle.meter.specs.declared.Limit.{Limit}
use Rattle.meter.specs.declared.Missed.{Missed}
use Rattle.meter.specs.declared.Missed.TheVariants.{Short}
use Rattle.meter.specs.Moves.{spent}
use Rattle.proof_term.specs.Put.{put_node}
use Rattle.context.specs.Moves.{stretch, popped, upped, pushed}
use Rattle.context.specs.Area.{Rec, rec, raised, push_place}
use Rattle.search_laws.specs.Reading.{Lent, kind_at, left_at, right_at, seq_of}
use Rattle.search_laws.specs.Making.{Tested, Made}
use Rattle.search_laws.specs.Parts.{or_next}
use Rattle.search_laws.specs.Trying.{records_before, records_from, second_next}
use Rattle.search_laws.specs.Records.{others, formula_of, term_of, premise_of, middle_of, end_of}
use Rattle.search_laws.specs.Pieces.{composed}

-- a premise's state and sequent, or the limit that its charge passes
abbrev pub Premise : Type 0
Premise = Result (State × Sequent) Missed

-- a charge of indices up to u, fills of nf words and nt nodes and c records, for words ws, nodes ns and the sequent Q, a level up
pub data Prepared (m : Limits) (x : Lent) (s : State) (q : Sequent) (u nf nt c : ℕ) (ws : Book) (ns : List Node) (Q : M.Sequent) :
    Premise → Lent → Type 0 where
  lacks : {l : Limit} → Tested m (Err (Short l s)) s u nf nt c (q.level + 1) →
      Prepared m x s q u nf nt c ws ns Q (Err (Short l s)) x
  ready : {y : Lent} {s1 : State} {q1 : Sequent} → Tested m (Ok tt) s u nf nt c (q.level + 1) → Made m x s q u ws ns Q y s1 q1 →
      q.level < q1.level →
      Prepared m x s q u nf nt c ws ns Q (Ok (s1, q1)) y

-- a work area of n records has room for the sequent and for a level above it, as far as the limits go
pub record Seated (m : Limits) (n : ℕ) (s : State) (q : Sequent) : Type 0 where
  pub fits : q.unordered + q.ordered ≤ stretch
  pub level_in : q.level ≤ m.levels
  pub most_levels : m.levels < 256
  pub most_formulas : m.formulas ≤ 16384
  pub most_terms : m.terms ≤ 16384
  pub most_records : n ≤ 65536
  pub records_room : (m.levels + 1) * stretch ≤ n
  pub in_terms : s.terms ≤ m.terms

-- formula a is supposed under the name of index v for the goal g, a level above the sequent q: the charge, and what is written
pub data Supposed (m : Limits) (t : List ℕ) (w : List Rec) (s : State) (q : Sequent) (g a v : ℕ) : Premise → List ℕ → List Rec → Type 0
  where
    supposes_not : {l : Limit} →
        Tested m (Err (Short l s)) s (v + 1) s.formulas (s.terms + 1) (q.unordered + q.ordered + 1) (q.level + 1) →
        Supposed m t w s q g a v (Err (Short l s)) t w
    supposes : {s1 : State} {q1 : Sequent} {t1 : List ℕ} {w1 : List Rec} →
        Tested m (Ok tt) s (v + 1) s.formulas (s.terms + 1) (q.unordered + q.ordered + 1) (q.level + 1) →
        t1 ≡ put_node t s.terms (six_of (ident (name v))) → w1 ≡ set (raised w q) (push_place (upped q g)) (rec a s.terms) →
        q1 ≡ pushed (upped q g) → s1 ≡ spent s (v + 1) 0 1 → Supposed m t w s q g a v (Ok (s1, q1)) t1 w1

-- right Impl: the body under the name a
abbrev pub body_next : Lent → State → Sequent → M.Sequent
body_next x s q = push_up (seq_of x.records q) (entry (left_at x.words q.goal) s.terms ∷ []) (right_at x.words q.goal)

abbrev pub Body : Limits → Lent → State → Sequent → ℕ → Premise → Lent → Type 0
Body m x s q a =
    Prepared m x s q (a + 1) s.formulas (s.terms + 1) (q.unordered + q.ordered + 1) [] (by right_impl (ident (name a) ∷ []))
    (body_next x s q)

-- left Or: the half b under the name a
abbrev pub half_next : Lent → State → Sequent → ℕ → M.Sequent
half_next x s q b = or_next (seq_of x.records q) (others x q) b s.terms

abbrev pub Half : Limits → Lent → State → Sequent → ℕ → ℕ → Premise → Lent → Type 0
Half m x s q b a =
    Prepared m x s q (a + 1) s.formulas (s.terms + 1) ((popped q).unordered + (popped q).ordered + 1) []
    (by left_or (ident (name a) ∷ [])) (half_next x s q b)

-- nothing is ordered, and unordered record i is (A→B)→C
pub record Nested (x : Lent) (q : Sequent) (i : ℕ) : Type 0 where
  pub none : q.ordered ≡ 0
  pub here : i < q.unordered
  pub arrow : kind_at x.words (formula_of x q i) ≡ 5
  pub inner : kind_at x.words (premise_of x q i) ≡ 5

-- rule 4: the first premise, under the names a and b
abbrev pub first_next : Lent → State → Sequent → ℕ → M.Sequent
first_next x s q i = record {
  unordered = records_before x q i ++ records_from x q (suc i);
  ordered = entry s.formulas (4 + s.terms) ∷ [];
  goal = premise_of x q i;
  level = suc q.level;
}

abbrev pub First : Limits → Lent → State → Sequent → ℕ → ℕ → ℕ → Premise → Lent → Type 0
First m x s q i a b =
    Prepared m x s q (b + 1) (s.formulas + 1) (s.terms + 5) (q.unordered + q.ordered) (is_imp (middle_of x q i) (end_of x q i) ∷ [])
    (by search4 (composed s.terms a (fn (name b) s.terms) (term_of x q i) s.formulas)) (first_next x s q i)

-- rule 4: the second premise, when the first is found at node j
abbrev pub Second : Limits → Lent → State → Sequent → ℕ → ℕ → Premise → Lent → Type 0
Second m x s q i j =
    Prepared m x s q s.indices s.formulas (s.terms + 1) (q.unordered + q.ordered) []
    (by search4 (app (term_of x q i) j ∷ [])) (second_next x q i (end_of x q i) s.terms)
