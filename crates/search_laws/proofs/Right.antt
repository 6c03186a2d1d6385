-- The ways through right: True, And with its two premises, and what is left to left. Assumes nothing.
use Rattle.std.specs.Prelude.{Ok, Err}
use Prim.Native.Nat.{ℕ, ◌+◌, ◌<◌, ◌≤◌}
use mathlib.Core.Path.{◌≡◌, refl, sym, ap, ap₂, ◌∙◌, subst}
use mathlib.Core.List.{List, []}
use native.Mathlib.Omega.{arith}
use native.Mathlib.Numerals.{add-one}
use Rattle.theory.specs.Form.{Shape, is_and, shape_of, right_of}
use Rattle.theory.specs.Term.{pair, unit, right_true, right_and}
use Rattle.theory.specs.Meter as M
use Rattle.theory.specs.Meter.{limited, count, charge, and_then}
use Rattle.theory.specs.Search.{goal_up, on_right, rule}
use Rattle.meter.specs.declared.State.{State}
use Rattle.meter.specs.declared.Sequent.{Sequent}
use Rattle.meter.specs.declared.Limits.{Limits}
use Rattle.meter.specs.declared.Found.{Found}
use Rattle.meter.specs.declared.Missed.{Missed}
use Rattle.meter.specs.Moves.{Answer, limits_of}
use Rattle.context.specs.Moves.{upped}
use Rattle.context.specs.Area.{Rec, raised}
use Rattle.search_laws.specs.Reading.{Lent, lent, kind_at, left_at, right_at, shape_at, seq_of, Shows, put_nodes}
use Rattle.search_laws.specs.Keeping.{Rep}
use Rattle.search_laws.specs.Meaning.{asks, Meets, Goes, Gives}
use Rattle.search_laws.specs.Parts.{and_end, and_second}
use Rattle.search_laws.specs.Closing.{Closes}
use Rattle.search_laws.specs.Making.{Made, Tested}
use Rattle.search_laws.proofs.Areas.{area_start, area_up}
use Rattle.search_laws.proofs.Write.{words_none}
use Rattle.search_laws.proofs.Charge.{passes}
use Rattle.search_laws.proofs.Making.{made_of, count_seq}
use Rattle.search_laws.proofs.Branch.{gives_as, goes_by, gives_asked, gives_close}
use Rattle.search_laws.proofs.Branch.{gives_short, gives_lost, gives_found, back_found}
use Rattle.search_laws.proofs.Look.{shape_as, look_at, children, fits16, spent_none, by_kind}

-- the same sequent a level up with another goal: no words, no nodes
pub up_made : {m : Limits} {x : Lent} {s : State} {q q1 : Sequent} {w1 : List Rec} {g : ℕ} → Rep m x s q →
    Tested m (Ok tt) s s.indices s.formulas s.terms (q.unordered + q.ordered) (q.level + 1) → g < s.formulas →
    w1 ≡ raised x.records q → q1 ≡ upped q g →
    Made m x s q s.indices [] [] (goal_up (seq_of x.records q) g) (lent x.words x.numbers w1) s q1
unfolding goal_up put_nodes
up_made {m} {x} {s} {q} {q1} {w1} {g} rep t h ew eq =
    let p = passes t in
    subst (λ (v : Sequent). Made m x s q s.indices [] [] (goal_up (seq_of x.records q) g) (lent x.words x.numbers w1) s v)
    (sym eq)
    (subst (λ (v : List Rec). Made m x s q s.indices [] [] (goal_up (seq_of x.records q) g) (lent x.words x.numbers v) s
    (upped q g)) (sym ew)
    (made_of right_and s.indices [] (goal_up (seq_of x.records q) g) rep words_none refl tt (spent_none s) rep.within.in_indices
    (omega (arith, rep.within.in_formulas)) (omega (arith, rep.within.in_terms))
    (area_up (area_start (q.level + 1) rep (omega arith) (omega arith)) g (omega arith) (omega (arith, p.levels)) (omega arith) refl refl)
    (omega arith)
    refl refl refl (omega arith)))

-- no level is left for it, or another limit is passed
pub up_short : {m : Limits} {x : Lent} {s : State} {q : Sequent} {e : Missed} → Rep m x s q → (g : ℕ)
    (k : ℕ → M.State → M.State → M.Answer) →
    Tested m (Err e) s s.indices s.formulas s.terms (q.unordered + q.ordered) (q.level + 1) →
    Gives (λ d S. charge (limits_of m) s.indices [] [] (goal_up (seq_of x.records q) g) S (k d S)) m x s q (Err e) x
unfolding goal_up count
up_short {m} {x} {s} {q} rep g k t =
    gives_short [] [] (goal_up (seq_of x.records q) g) k t (omega arith) (omega arith) (sym (count_seq x.records q))
    (add-one q.level) rep.within

-- right goes by the goal's shape
pub right_by : {m : Limits} (taken : List (List ℕ)) {x : Lent} {s : State} {q : Sequent} → Rep m x s q → {sh : Shape} →
    shape_at x.words q.goal ≡ sh → (S : M.State) → Shows x s S → (d : ℕ) →
    rule (limited (limits_of m)) taken (asks m taken d) M.by_right (seq_of x.records q) S ≡
    on_right (limited (limits_of m)) taken (asks m taken d) (seq_of x.records q) S sh
unfolding rule
right_by {m} taken {x} {s} {q} rep {sh} e S shows d =
    ap (on_right (limited (limits_of m)) taken (asks m taken d) (seq_of x.records q) S) (look_at shows rep.seats.goal_in e)

module _ {m : Limits} (taken : List (List ℕ)) {x : Lent} {s : State} {q : Sequent} (rep : Rep m x s q) where
  pub right_true_lem : {r : Answer} {t1 : List ℕ} → kind_at x.words q.goal ≡ 0 → Closes m x.numbers s unit r t1 →
      Goes M.by_right m taken x s q r (lent x.words t1 x.records)
  unfolding on_right shape_of
  right_true_lem k c = goes_by (right_by taken rep (shape_as x.words q.goal k)) (gives_close right_true rep (fits16 unit tt tt) c)

  -- the kinds that right leaves to left
  else_by : (k l r : ℕ) → (k ≡ 0 → ⊥) → (k ≡ 3 → ⊥) → (k ≡ 5 → ⊥) → (Q : M.Sequent) (S : M.State) (d : ℕ) →
      on_right (limited (limits_of m)) taken (asks m taken d) Q S (shape_of k l r) ≡ asks m taken d M.by_left Q S
  unfolding on_right
  else_by k l r a b c Q S d = by_kind
      (λ sh. on_right (limited (limits_of m)) taken (asks m taken d) Q S sh ≡ asks m taken d M.by_left Q S) k l r
      (λ z. absurd (a z)) (λ z. refl) (λ z. absurd (b z)) (λ z. refl) (λ z. absurd (c z)) (λ n. refl)

  pub right_else_lem : {r : Answer} {y : Lent} → (kind_at x.words q.goal ≡ 0 → ⊥) → (kind_at x.words q.goal ≡ 3 → ⊥) →
      (kind_at x.words q.goal ≡ 5 → ⊥) → Meets M.by_left m taken x s q r y → Goes M.by_right m taken x s q r y
  right_else_lem a b c p =
      let f : List ℕ = x.words in
      goes_by (λ S sh d. right_by taken rep (shape_as f q.goal refl) S sh d
      ∙ else_by (kind_at f q.goal) (left_at f q.goal) (right_at f q.goal) a b c (seq_of x.records q) S d) (gives_asked p)

  -- the two premises of And have a level's charge each
  module _ (e : kind_at x.words q.goal ≡ 3) where
    and_shape : shape_at x.words q.goal ≡ is_and (left_at x.words q.goal) (right_at x.words q.goal)
    unfolding shape_of
    and_shape = shape_as x.words q.goal e

    pub and_parts : (left_at x.words q.goal < s.formulas) × (right_at x.words q.goal < s.formulas)
    and_parts = let b = children rep rep.seats.goal_in and_shape in let g = rep.seats.goal_in in (omega arith, omega arith)

    and_by : (S : M.State) → Shows x s S → (d : ℕ) →
        rule (limited (limits_of m)) taken (asks m taken d) M.by_right (seq_of x.records q) S ≡
        charge (limits_of m) s.indices [] [] (goal_up (seq_of x.records q) (left_at x.words q.goal)) S
        (λ S1. and_then (asks m taken d M.by_right (goal_up (seq_of x.records q) (left_at x.words q.goal)) S1)
        (and_second m taken (seq_of x.records q) (right_at x.words q.goal) d))
    unfolding on_right and_second and_end
    and_by S sh d = right_by taken rep and_shape S sh d
        ∙ ap (λ (u : ℕ). charge (limits_of m) u [] [] (goal_up (seq_of x.records q) (left_at x.words q.goal)) S
        (λ S1. and_then (asks m taken d M.by_right (goal_up (seq_of x.records q) (left_at x.words q.goal)) S1)
        (and_second m taken (seq_of x.records q) (right_at x.words q.goal) d))) sh.used

    pub right_and_short : {e : Missed} → Tested m (Err e) s s.indices s.formulas s.terms (q.unordered + q.ordered) (q.level + 1) →
        Goes M.by_right m taken x s q (Err e) x
    right_and_short t = goes_by and_by (up_short rep (left_at x.words q.goal) _ t)

    module _ {x1 y : Lent} {q1 : Sequent}
        (mk : Made m x s q s.indices [] [] (goal_up (seq_of x.records q) (left_at x.words q.goal)) x1 s q1) where
      pub right_and_lost : {e : Missed} → Meets M.by_right m taken x1 s q1 (Err e) y → Goes M.by_right m taken x s q (Err e) y
      right_and_lost p = goes_by and_by (gives_lost mk _ p)

      -- the first premise is found, and what is left of the rule gives r
      pub right_and_then : {f : Found} {r : Answer} {z : Lent} → q.level < q1.level →
          Meets M.by_right m taken x1 s q1 (Ok f) y →
          Gives (λ d S. and_second m taken (seq_of y.records q) (right_at y.words q.goal) d f.node S) m y f.state q r z →
          Goes M.by_right m taken x s q r z
      right_and_then {f} up p g =
          let back = back_found mk rep up p.kept in
          goes_by and_by (gives_found mk (and_second m taken (seq_of x.records q) (right_at x.words q.goal)) rep up p
          (gives_as _ (λ S sh d. ap₂ (λ (Q : M.Sequent) (w : ℕ). and_second m taken Q (right_of w) d f.node S) (sym back.seq)
          (sym (back.frame.words.at q.goal rep.seats.goal_in))) g))

-- what is left of And after its first premise i; b is the second premise's goal
module _ {m : Limits} (taken : List (List ℕ)) {x : Lent} {s : State} {q : Sequent} (rep : Rep m x s q) (b i : ℕ) where
  second_by : (S : M.State) → Shows x s S → (d : ℕ) → and_second m taken (seq_of x.records q) b d i S ≡
      charge (limits_of m) s.indices [] [] (goal_up (seq_of x.records q) b) S
      (λ S1. and_then (asks m taken d M.by_right (goal_up (seq_of x.records q) b) S1) (and_end m i d))
  unfolding and_second
  second_by S sh d = ap (λ (u : ℕ). charge (limits_of m) u [] [] (goal_up (seq_of x.records q) b) S
      (λ S1. and_then (asks m taken d M.by_right (goal_up (seq_of x.records q) b) S1) (and_end m i d))) sh.used

  pub and_second_short : {e : Missed} → Tested m (Err e) s s.indices s.formulas s.terms (q.unordered + q.ordered) (q.level + 1) →
      Gives (λ d S. and_second m taken (seq_of x.records q) b d i S) m x s q (Err e) x
  and_second_short t = gives_as _ second_by (up_short rep b _ t)

  module _ {x1 y : Lent} {q1 : Sequent} (mk : Made m x s q s.indices [] [] (goal_up (seq_of x.records q) b) x1 s q1) where
    pub and_second_lost : {e : Missed} → Meets M.by_right m taken x1 s q1 (Err e) y →
        Gives (λ d S. and_second m taken (seq_of x.records q) b d i S) m x s q (Err e) y
    and_second_lost p = gives_as _ second_by (gives_lost mk _ p)

    pub and_second_found : {f : Found} {r : Answer} {t1 : List ℕ} → i < s.terms → q.level < q1.level →
        Meets M.by_right m taken x1 s q1 (Ok f) y → Closes m y.numbers f.state (pair i f.node) r t1 →
        Gives (λ d S. and_second m taken (seq_of x.records q) b d i S) m x s q r (lent y.words t1 y.records)
    unfolding and_end
    and_second_found h up p c =
        let back = back_found mk rep up p.kept in
        let few : s.terms ≤ 16384 = omega (arith, rep.within.in_terms, rep.rooms.most_terms) in
        gives_as _ second_by (gives_found mk (and_end m i) rep up p
        (gives_close right_and back.rep (fits16 (pair i _)
        (omega (arith, few), omega (arith, p.kept.after.root_in, p.kept.within.in_terms, rep.rooms.most_terms)) tt) c))
