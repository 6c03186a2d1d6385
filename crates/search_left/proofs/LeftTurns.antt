-- One rule of left, as the code does it: what it comes to, from what each of its calls left. Assumes nothing.
use Prim.Native.Nat.{ℕ, ◌+◌, ◌<◌}
use mathlib.Core.Path.{◌≡◌, refl, sym, ap, ap₂, ◌∙◌, subst}
use mathlib.Core.List.{List, [], ◌∷◌, ◌++◌}
use lib.ListN.{set}
use Rattle.std.specs.Prelude.{Ok, Err}
use Rattle.theory.specs.Term.{fst, snd, unit, app, abort}
use Rattle.theory.specs.Meter as M
use Rattle.theory.specs.Search.{go_on}
use Rattle.formula.specs.declared.Kind.{Kind}
use Rattle.formula.specs.declared.Kind.TheVariants.{True, False, And, Or, Impl}
use Rattle.formula.specs.Kinds.{kind_named, number_of}
use Rattle.formula.proofs.KindLaws.{is_kind, not_kind}
use Rattle.meter.specs.declared.State.{State}
use Rattle.meter.specs.declared.Sequent.{Sequent}
use Rattle.meter.specs.declared.Limits.{Limits}
use Rattle.meter.specs.declared.Found.{Found}
use Rattle.meter.specs.declared.Missed.{Missed}
use Rattle.meter.specs.declared.Next.TheVariants.{Go, End, Split}
use Rattle.meter.specs.Moves.{Answer, spent}
use Rattle.context.specs.Moves.{pushed, popped, appended}
use Rattle.context.specs.Area.{Rec, rec, formula_at, term_at, push_place, append_place, top_place}
use Rattle.search_laws.specs.Reading.{Lent, lent, kind_at, left_at, right_at, seq_of, put_nodes}
use Rattle.search_laws.specs.Keeping.{Rep}
use Rattle.search_laws.specs.Closing.{Closes}
use Rattle.search_laws.specs.Making.{Moved, Tested}
use Rattle.search_laws.specs.Meaning.{Goes}
use Rattle.search_laws.specs.Turning.{Turns, turns_on, turns_end, turns_missed, turns_split}
use Rattle.search_laws.specs.Records.{top_formula, top_term, top_entry, others, from_of, to_of}
use Rattle.search_laws.proofs.Left.{drop_moved, settle_moved, left_true_lem, left_false_lem, left_leaf_lem}
use Rattle.search_laws.proofs.Left.{left_and_short, left_and_made, left_and_lem}
use Rattle.search_laws.proofs.LeftImpl.{left_false_impl, left_wait}
use Rattle.search_laws.proofs.LeftImpl.{left_true_impl_short, left_true_impl_made, left_true_impl}
use Rattle.search_laws.proofs.FallsLeft.{drop_falls, settle_falls, left_and_falls, left_true_impl_falls}
use Rattle.search_left.specs.Last.{Last, LastFrom}

-- the last record as the code reads it, and its kind
pub last_of : {x : Lent} {q : Sequent} {i a t : ℕ} → 0 < q.ordered → i ≡ top_place q → a ≡ formula_at x.records i →
    t ≡ term_at x.records i → Last x q (kind_at x.words a) a t
last_of {x} some ei ea et = record {
  some = some;
  formula = ea ∙ ap (formula_at x.records) ei;
  term = et ∙ ap (term_at x.records) ei;
  kind = refl;
}

pub last_is : {x : Lent} {q : Sequent} {n a t : ℕ} {g k : Kind} → Last x q n a t → g ≡ kind_named n → g ≡ k →
    Last x q (number_of k) a t
last_is l eg ek = record { some = l.some; formula = l.formula; term = l.term; kind = l.kind ∙ is_kind (sym eg ∙ ek) }

pub last_from : {x : Lent} {q : Sequent} {a t i : ℕ} {g k : Kind} → Last x q 5 a t → i ≡ left_at x.words a →
    g ≡ kind_named (kind_at x.words i) → g ≡ k → LastFrom x q (number_of k) a t
last_from {x} l ei eg ek = record { last = l; from = ap (kind_at x.words) (sym ei) ∙ is_kind (sym eg ∙ ek) }

module _ {m : Limits} (taken : List (List ℕ)) {x : Lent} {s : State} {q : Sequent} (rep : Rep m x s q) {a t : ℕ} where
  pub kind_last : {k : ℕ} → Last x q k a t → kind_at x.words (top_formula x q) ≡ k
  kind_last l = ap (kind_at x.words) (sym l.formula) ∙ l.kind

  -- an implication and what it goes from
  pub kind_from : {k : ℕ} → LastFrom x q k a t → kind_at x.words (from_of x q) ≡ k
  kind_from l = ap (λ (i : ℕ). kind_at x.words (left_at x.words i)) (sym l.last.formula) ∙ l.from

  -- True is dropped
  pub drop_on : Last x q 0 a t → {q1 : Sequent} → q1 ≡ popped q → Turns m taken x s q M.by_left (Ok (Go s q1)) x
  drop_on l eq = let mv = drop_moved taken rep l.some eq in turns_on (record {
    rep = mv.rep;
    carries = λ r z. left_true_lem taken rep l.some (kind_last l) eq;
    less = drop_falls taken rep l.some mv;
  })

  -- False ends, or there is no room for its node
  module _ (l : Last x q 1 a t) where
    false_goes : {r : Answer} {t1 : List ℕ} → Closes m x.numbers s (abort t) r t1 →
        Goes M.by_left m taken x s q r (lent x.words t1 x.records)
    false_goes {r} {t1} c = left_false_lem taken rep l.some (kind_last l) (subst (λ (i : ℕ). Closes m x.numbers s (abort i) r t1) l.term c)

    pub abort_on : {r : Answer} {f : Found} {t1 : List ℕ} → Closes m x.numbers s (abort t) r t1 → r ≡ Ok f →
        Turns m taken x s q M.by_left (Ok (End f)) (lent x.words t1 x.records)
    abort_on {t1 = t1} c e = turns_end (false_goes (subst (λ (r : Answer). Closes m x.numbers s (abort t) r t1) e c))

    pub abort_missed : {r : Answer} {e : Missed} {t1 : List ℕ} → Closes m x.numbers s (abort t) r t1 → r ≡ Err e →
        Turns m taken x s q M.by_left (Err e) (lent x.words t1 x.records)
    abort_missed {t1 = t1} c e = turns_missed (false_goes (subst (λ (r : Answer). Closes m x.numbers s (abort t) r t1) e c))

  pub split_on : Last x q 4 a t → Turns m taken x s q M.by_left (Ok (Split s q)) x
  split_on l = turns_split (record { some = l.some; kind = kind_last l })

  -- a leaf goes to the unordered context
  module _ {w1 : List Rec} {q1 q2 : Sequent} (eq : q1 ≡ popped q) (ew : w1 ≡ set x.records (append_place q1) (rec a t))
      (eq2 : q2 ≡ appended q1) where
    settled : {k : ℕ} → Last x q k a t →
        Moved m x s q (go_on (seq_of x.records q) ((seq_of x.records q).unordered ++ (top_entry x q ∷ [])) (others x q))
        (lent x.words x.numbers w1) q2
    settled l = settle_moved taken rep l.some eq
        (ew ∙ ap₂ (λ (i v : ℕ). set x.records (append_place q1) (rec i v)) l.formula l.term) eq2

    pub settle_on : {n : ℕ} {g : Kind} → Last x q n a t → g ≡ kind_named n → (g ≡ True → ⊥) → (g ≡ False → ⊥) → (g ≡ And → ⊥) →
        (g ≡ Or → ⊥) → (g ≡ Impl → ⊥) → Turns m taken x s q M.by_left (Ok (Go s q2)) (lent x.words x.numbers w1)
    unfolding kind_named
    settle_on {g = g} l eg a0 a1 a3 a4 a5 =
        let mv = settled l in
        let e : g ≡ kind_named (kind_at x.words (top_formula x q)) = eg ∙ ap kind_named (sym (kind_last l)) in
        turns_on (record {
          rep = mv.rep;
          carries = λ r z. left_leaf_lem taken rep l.some (not_kind 0 (λ z. a0 (e ∙ z))) (not_kind 1 (λ z. a1 (e ∙ z)))
              (not_kind 3 (λ z. a3 (e ∙ z))) (not_kind 4 (λ z. a4 (e ∙ z))) (not_kind 5 (λ z. a5 (e ∙ z))) mv;
          less = settle_falls taken rep l.some mv;
        })

    -- leaf→C and (A→B)→C wait there
    pub wait_on : {i : ℕ} {g : Kind} → Last x q 5 a t → i ≡ left_at x.words a → g ≡ kind_named (kind_at x.words i) → (g ≡ True → ⊥) →
        (g ≡ False → ⊥) → (g ≡ And → ⊥) → (g ≡ Or → ⊥) → Turns m taken x s q M.by_left (Ok (Go s q2)) (lent x.words x.numbers w1)
    unfolding kind_named
    wait_on {i} {g} l ei eg a0 a1 a3 a4 =
        let mv = settled l in
        let from : LastFrom x q (kind_at x.words i) a t = record { last = l; from = ap (kind_at x.words) (sym ei) } in
        let e : g ≡ kind_named (kind_at x.words (from_of x q)) = eg ∙ ap kind_named (sym (kind_from from)) in
        turns_on (record {
          rep = mv.rep;
          carries = λ r z. left_wait taken rep l.some (kind_last l) (not_kind 0 (λ z. a0 (e ∙ z))) (not_kind 1 (λ z. a1 (e ∙ z)))
              (not_kind 3 (λ z. a3 (e ∙ z))) (not_kind 4 (λ z. a4 (e ∙ z))) mv;
          less = settle_falls taken rep l.some mv;
        })

  -- False→C is dropped
  pub drop_impl_on : LastFrom x q 1 a t → {q1 : Sequent} → q1 ≡ popped q → Turns m taken x s q M.by_left (Ok (Go s q1)) x
  drop_impl_on l eq = let mv = drop_moved taken rep l.last.some eq in turns_on (record {
    rep = mv.rep;
    carries = λ r z. left_false_impl taken rep l.last.some (kind_last l.last) (kind_from l) eq;
    less = drop_falls taken rep l.last.some mv;
  })

  -- A∧B
  module _ (l : Last x q 3 a t) where
    pub and_short : {e : Missed} → Tested m (Err e) s s.indices s.formulas (s.terms + 2) (q.unordered + q.ordered + 1) q.level →
        Turns m taken x s q M.by_left (Err e) x
    and_short e = turns_missed (left_and_short taken rep l.some (kind_last l) e)

    pub and_on : Tested m (Ok tt) s s.indices s.formulas (s.terms + 2) (q.unordered + q.ordered + 1) q.level →
        {t1 : List ℕ} {w1 w2 : List Rec} {s1 : State} {q1 q2 q3 : Sequent} {b c : ℕ} →
        t1 ≡ put_nodes x.numbers s.terms (fst t ∷ snd t ∷ []) →
        q1 ≡ popped q → b ≡ left_at x.words a → w1 ≡ set x.records (push_place q1) (rec b s.terms) → q2 ≡ pushed q1 →
        c ≡ right_at x.words a → w2 ≡ set w1 (push_place q2) (rec c (s.terms + 1)) → q3 ≡ pushed q2 → s1 ≡ spent s s.indices 0 2 →
        Turns m taken x s q M.by_left (Ok (Go s1 q3)) (lent x.words t1 w2)
    and_on e {t1} {w1} {w2} {s1} {q1} {q2} {q3} et eq eb ew eq2 ec ew2 eq3 es =
        let k = kind_last l in
        let et2 : t1 ≡ put_nodes x.numbers s.terms (fst (top_term x q) ∷ snd (top_term x q) ∷ []) =
        et ∙ ap (λ (i : ℕ). put_nodes x.numbers s.terms (fst i ∷ snd i ∷ [])) l.term in
        let ew3 : w1 ≡ set x.records (push_place q1) (rec (left_at x.words (top_formula x q)) s.terms) =
        ew ∙ ap (λ (i : ℕ). set x.records (push_place q1) (rec i s.terms)) (eb ∙ ap (left_at x.words) l.formula) in
        let ew4 : w2 ≡ set w1 (push_place q2) (rec (right_at x.words (top_formula x q)) (s.terms + 1)) =
        ew2 ∙ ap (λ (i : ℕ). set w1 (push_place q2) (rec i (s.terms + 1))) (ec ∙ ap (right_at x.words) l.formula) in
        let mk = left_and_made taken rep l.some k e eq et2 ew3 eq2 ew4 eq3 es in
        turns_on (record {
          rep = mk.rep;
          carries = λ r z. left_and_lem taken rep l.some k mk;
          less = left_and_falls taken rep l.some k mk;
        })

  -- True→C
  module _ (l : LastFrom x q 0 a t) where
    pub true_short : {e : Missed} → Tested m (Err e) s s.indices s.formulas (s.terms + 2) (q.unordered + q.ordered) q.level →
        Turns m taken x s q M.by_left (Err e) x
    true_short e = turns_missed (left_true_impl_short taken rep l.last.some (kind_last l.last) (kind_from l) e)

    pub true_on : Tested m (Ok tt) s s.indices s.formulas (s.terms + 2) (q.unordered + q.ordered) q.level →
        {t1 : List ℕ} {w1 : List Rec} {s1 : State} {q1 q2 : Sequent} {c : ℕ} →
        t1 ≡ put_nodes x.numbers s.terms (unit ∷ app t s.terms ∷ []) →
        q1 ≡ popped q → c ≡ right_at x.words a → w1 ≡ set x.records (push_place q1) (rec c (s.terms + 1)) → q2 ≡ pushed q1 →
        s1 ≡ spent s s.indices 0 2 → Turns m taken x s q M.by_left (Ok (Go s1 q2)) (lent x.words t1 w1)
    true_on e {t1} {w1} {s1} {q1} {q2} et eq ec ew eq2 es =
        let k = kind_last l.last in
        let et2 : t1 ≡ put_nodes x.numbers s.terms (unit ∷ app (top_term x q) s.terms ∷ []) =
        et ∙ ap (λ (i : ℕ). put_nodes x.numbers s.terms (unit ∷ app i s.terms ∷ [])) l.last.term in
        let ew3 : w1 ≡ set x.records (push_place q1) (rec (to_of x q) (s.terms + 1)) =
        ew ∙ ap (λ (i : ℕ). set x.records (push_place q1) (rec i (s.terms + 1))) (ec ∙ ap (right_at x.words) l.last.formula) in
        let mk = left_true_impl_made taken rep l.last.some k (kind_from l) e eq et2 ew3 eq2 es in
        turns_on (record {
          rep = mk.rep;
          carries = λ r z. left_true_impl taken rep l.last.some k (kind_from l) mk;
          less = left_true_impl_falls taken rep l.last.some k (kind_from l) mk;
        })
