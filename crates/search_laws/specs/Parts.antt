-- The parts of theory's rules that the code enters on its own: what is left of a rule after its first premise. Assumes nothing.
use Rattle.std.specs.Prelude.{ℕ, suc, List, [], ◌∷◌, length}
use Rattle.theory.specs.Term.{node, by, ident, pair, fn, inl, inr, case, right_and, right_impl, left_or, search3}
use Rattle.theory.specs.Names.{fresh}
use Rattle.theory.specs.World.{Tree, graft, Seen, so_far}
use Rattle.theory.specs.Meter as M
use Rattle.theory.specs.Meter.{limited, charge, and_then, attempt}
use Rattle.theory.specs.Search.{name, goal_up, entry, close, bare, positions}
use Rattle.meter.specs.declared.State.{State}
use Rattle.meter.specs.declared.Sequent.{Sequent}
use Rattle.meter.specs.declared.Limits.{Limits}
use Rattle.meter.specs.Moves.{Answer, limits_of}
use Rattle.search_laws.specs.Reading.{Lent, seq_of}
use Rattle.search_laws.specs.Meaning.{asks, Gives}

-- right And: the pair, when both premises are found
unfoldable pub and_end : Limits → ℕ → ℕ → ℕ → M.State → M.Answer
and_end m i d u S = close (limited (limits_of m)) (node right_and (pair i u)) S

-- right And: the second premise b, when the first is found at node i
unfoldable pub and_second : Limits → List (List ℕ) → M.Sequent → ℕ → ℕ → ℕ → M.State → M.Answer
and_second m taken Q b d i S =
    charge (limits_of m) S.used [] [] (goal_up Q b) S λ S1. and_then (asks m taken d M.by_right (goal_up Q b) S1) (and_end m i d)

-- right Impl: the function of name x, when its body is found
unfoldable pub impl_end : Limits → ℕ → ℕ → ℕ → M.State → M.Answer
impl_end m x d t S = close (limited (limits_of m)) (node right_impl (fn x t)) S

-- left Or: the sequent of a premise, with n:A in the place of the last record
unfoldable pub or_next : M.Sequent → List M.Entry → ℕ → ℕ → M.Sequent
or_next Q os a n = record { unordered = Q.unordered; ordered = entry a n ∷ os; goal = Q.goal; level = suc Q.level }

-- left Or: the Case of the term h, when both premises are found
unfoldable pub or_end : Limits → ℕ → ℕ → ℕ → ℕ → ℕ → ℕ → M.State → M.Answer
or_end m h x i y d u S = close (limited (limits_of m)) (node left_or (case h x i y u)) S

-- left Or: the second premise b, when the first is found at node i under the name x
unfoldable pub or_second : Limits → List (List ℕ) → M.Sequent → List M.Entry → ℕ → ℕ → ℕ → ℕ → ℕ → M.State → M.Answer
or_second m taken Q os b h x d i S =
    let y : ℕ = fresh taken S.used in
    let Q1 : M.Sequent = or_next Q os b (length S.nodes) in
    charge (limits_of m) (suc y) [] (by left_or (ident (name y) ∷ [])) Q1 S λ S1.
    and_then (asks m taken d M.by_left Q1 S1) (or_end m h x i (name y) d)

-- rule 3: the ends of its two halves
unfoldable pub inl_end : Limits → ℕ → ℕ → M.State → M.Answer
inl_end m d t S = close (limited (limits_of m)) (node search3 (inl t)) S

unfoldable pub inr_end : Limits → ℕ → ℕ → M.State → M.Answer
inr_end m d t S = close (limited (limits_of m)) (node search3 (inr t)) S

-- rule 4 from its first position on, after what was seen
unfoldable pub ranging : Limits → List (List ℕ) → M.Sequent → Seen → ℕ → M.State → M.Answer
ranging m taken Q seen d S = positions (limited (limits_of m)) taken (asks m taken d) Q [] Q.unordered seen S

-- rule 3: the second half b, when the first failed with the tree K; and then rule 4
unfoldable pub half_second : Limits → List (List ℕ) → M.Sequent → ℕ → Tree → ℕ → M.State → M.Answer
half_second m taken Q b K d S =
    charge (limits_of m) S.used [] [] (goal_up Q b) S λ S1.
    attempt S (asks m taken d M.by_right (goal_up Q b) S1) (inr_end m d)
    (λ l S2. ranging m taken Q (so_far (graft (graft (bare S.words Q) K) l)) d S2)

-- these two from given lists, whatever was seen of worlds before
pub record Ranges (m : Limits) (taken : List (List ℕ)) (x : Lent) (s : State) (q : Sequent) (r : Answer) (y : Lent) : Type 0 where
  pub gives : (seen : Seen) → Gives (λ d S. ranging m taken (seq_of x.records q) seen d S) m x s q r y

pub record Seconds (m : Limits) (taken : List (List ℕ)) (b : ℕ) (x : Lent) (s : State) (q : Sequent) (r : Answer) (y : Lent) : Type 0 where
  pub gives : (K : Tree) → Gives (λ d S. half_second m taken (seq_of x.records q) b K d S) m x s q r y
