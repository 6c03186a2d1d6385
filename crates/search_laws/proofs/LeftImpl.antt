-- The ways of left through an implication A→C that need no new formula: by the shape of A. Assumes nothing.
use Rattle.std.specs.Prelude.{Ok, Err}
use Prim.Native.Nat.{ℕ, ◌+◌, ◌-◌, ◌<◌, ◌≤◌}
use mathlib.Core.Path.{◌≡◌, refl, ap, ◌∙◌}
use mathlib.Core.List.{List, [], ◌∷◌, ◌++◌}
use native.Mathlib.Omega.{arith}
use native.Mathlib.Numerals.{add-one}
use lib.ListN.{length, set, length-append}
use Rattle.theory.specs.Form.{Shape, is_imp, shape_of, Below}
use Rattle.theory.specs.Term.{by, app, unit, true_impl}
use Rattle.theory.specs.Meter as M
use Rattle.theory.specs.Meter.{limited, count, charge}
use Rattle.theory.specs.Search.{entry, go_on, on_left, on_impl, rule}
use Rattle.meter.specs.declared.State.{State}
use Rattle.meter.specs.declared.Sequent.{Sequent}
use Rattle.meter.specs.declared.Limits.{Limits}
use Rattle.meter.specs.declared.Missed.{Missed}
use Rattle.meter.specs.Moves.{Answer, spent, limits_of}
use Rattle.context.specs.Moves.{pushed, popped}
use Rattle.context.specs.Area.{Rec, rec, push_place}
use Rattle.search_laws.specs.Reading.{Lent, lent, kind_at, left_at, right_at, shape_at, entry_at, seq_of, Shows, put_nodes}
use Rattle.search_laws.specs.Keeping.{Rep}
use Rattle.search_laws.specs.Meaning.{asks, Meets, Goes}
use Rattle.search_laws.specs.Making.{Made, Moved, Tested}
use Rattle.search_laws.specs.Records.{top_formula, top_term, top_entry, others, from_of, to_of}
use Rattle.search_laws.proofs.Seat.{unordered_length, ordered_length}
use Rattle.search_laws.proofs.Areas.{fields, area_push}
use Rattle.search_laws.proofs.Write.{words_none}
use Rattle.search_laws.proofs.Charge.{passes}
use Rattle.search_laws.proofs.Making.{made_of}
use Rattle.search_laws.proofs.Moving.{gives_moved}
use Rattle.search_laws.proofs.Branch.{goes_by, gives_short, gives_on}
use Rattle.search_laws.proofs.Look.{shape_as, look_at, children, fits16, by_kind}
use Rattle.search_laws.proofs.Left.{top_inside, left_by_lem, area_top, drop_moved}

-- left goes on with these records last
abbrev pub next_by : Lent → Sequent → List M.Entry → M.Sequent
next_by x q es = go_on (seq_of x.records q) (seq_of x.records q).unordered (es ++ others x q)

-- how many records that makes
pub next_count : (x : Lent) (q : Sequent) (es : List M.Entry) → count (next_by x q es) ≡ q.unordered + (q.ordered - 1) + length es
unfolding go_on count
next_count x q es =
    omega (
      arith,
      length-append es (others x q),
      unordered_length x.records q.level q.unordered,
      ordered_length x.records q.level (q.ordered - 1),
    )

module _ {m : Limits} (taken : List (List ℕ)) {x : Lent} {s : State} {q : Sequent} (rep : Rep m x s q) (some : 0 < q.ordered)
    (e : kind_at x.words (top_formula x q) ≡ 5) where
  impl_shape : shape_at x.words (top_formula x q) ≡ is_imp (from_of x q) (to_of x q)
  unfolding shape_of
  impl_shape = shape_as x.words (top_formula x q) e

  pub ends_in : (from_of x q < s.formulas) × (to_of x q < s.formulas)
  ends_in = let b = children rep (top_inside taken rep some).formula_in impl_shape in
      let g = (top_inside taken rep some).formula_in in (omega arith, omega arith)

  pub impl_by : {sh : Shape} → shape_at x.words (from_of x q) ≡ sh → (S : M.State) → Shows x s S → (d : ℕ) →
      rule (limited (limits_of m)) taken (asks m taken d) M.by_left (seq_of x.records q) S ≡
      on_impl (limited (limits_of m)) taken (asks m taken d) (seq_of x.records q) S (top_entry x q) (others x q) (from_of x q)
      (to_of x q) sh
  unfolding on_left
  impl_by a S sh d = left_by_lem taken rep some impl_shape S sh d
      ∙ ap (on_impl (limited (limits_of m)) taken (asks m taken d) (seq_of x.records q) S (top_entry x q) (others x q) (from_of x q)
      (to_of x q))
      (look_at sh ends_in.0 a)

  -- the children of A
  pub from_below : {sh : Shape} → shape_at x.words (from_of x q) ≡ sh → Below (from_of x q) sh
  from_below a = children rep ends_in.0 a

  -- False→C is dropped
  pub left_false_impl : {q1 : Sequent} {r : Answer} {y : Lent} → kind_at x.words (from_of x q) ≡ 1 → q1 ≡ popped q →
      Meets M.by_left m taken x s q1 r y → Goes M.by_left m taken x s q r y
  unfolding on_impl shape_of
  left_false_impl k eq p = goes_by (impl_by (shape_as x.words (from_of x q) k)) (gives_moved (drop_moved taken rep some eq) p)

  -- leaf→C and (A→B)→C wait in the unordered context
  wait_by : (k l r : ℕ) → (k ≡ 0 → ⊥) → (k ≡ 1 → ⊥) → (k ≡ 3 → ⊥) → (k ≡ 4 → ⊥) → (Q : M.Sequent) (S : M.State) (e : M.Entry)
      (os : List M.Entry) (i c d : ℕ) → on_impl (limited (limits_of m)) taken (asks m taken d) Q S e os i c (shape_of k l r) ≡
      asks m taken d M.by_left (go_on Q (Q.unordered ++ (e ∷ [])) os) S
  unfolding on_impl
  wait_by k l r a b c f Q S e os i g d = by_kind (λ sh. on_impl (limited (limits_of m)) taken (asks m taken d) Q S e os i g sh ≡
      asks m taken d M.by_left (go_on Q (Q.unordered ++ (e ∷ [])) os) S) k l r
      (λ z. absurd (a z)) (λ z. absurd (b z)) (λ z. absurd (c z)) (λ z. absurd (f z)) (λ z. refl) (λ n. refl)

  pub left_wait : {x1 y : Lent} {q1 : Sequent} {r : Answer} → (kind_at x.words (from_of x q) ≡ 0 → ⊥) →
      (kind_at x.words (from_of x q) ≡ 1 → ⊥) → (kind_at x.words (from_of x q) ≡ 3 → ⊥) → (kind_at x.words (from_of x q) ≡ 4 → ⊥) →
      Moved m x s q (go_on (seq_of x.records q) ((seq_of x.records q).unordered ++ (top_entry x q ∷ [])) (others x q)) x1 q1 →
      Meets M.by_left m taken x1 s q1 r y → Goes M.by_left m taken x s q r y
  left_wait a b c f mv p =
      let i : ℕ = from_of x q in
      goes_by (λ S sh d. impl_by (shape_as x.words i refl) S sh d
      ∙ wait_by (kind_at x.words i) (left_at x.words i) (right_at x.words i) a b c f (seq_of x.records q) S (top_entry x q)
      (others x q) i
      (to_of x q) d) (gives_moved mv p)

  -- True→C: Unit, Application, and C is pushed
  module _ (k : kind_at x.words (from_of x q) ≡ 0) where
    abbrev pub true_next : M.Sequent
    true_next = next_by x q (entry (to_of x q) (s.terms + 1) ∷ [])

    true_by : (S : M.State) → Shows x s S → (d : ℕ) →
        rule (limited (limits_of m)) taken (asks m taken d) M.by_left (seq_of x.records q) S ≡
        charge (limits_of m) s.indices [] (by true_impl (unit ∷ app (top_term x q) s.terms ∷ [])) true_next S
        (λ S1. asks m taken d M.by_left true_next S1)
    unfolding on_impl shape_of entry_at
    true_by S sh d = impl_by (shape_as x.words (from_of x q) k) S sh d ∙ rw (sh.many, sh.used, add-one)

    pub left_true_impl_short : {e : Missed} → Tested m (Err e) s s.indices s.formulas (s.terms + 2) (q.unordered + q.ordered) q.level →
        Goes M.by_left m taken x s q (Err e) x
    unfolding go_on
    left_true_impl_short t =
        goes_by true_by (gives_short [] (by true_impl (unit ∷ app (top_term x q) s.terms ∷ [])) true_next _ t (omega arith) refl
        (omega (arith, next_count x q (entry (to_of x q) (s.terms + 1) ∷ []))) refl rep.within)

    pub left_true_impl_made : {t1 : List ℕ} {w1 : List Rec} {s1 : State} {q1 q2 : Sequent} →
        Tested m (Ok tt) s s.indices s.formulas (s.terms + 2) (q.unordered + q.ordered) q.level → q1 ≡ popped q →
        t1 ≡ put_nodes x.numbers s.terms (unit ∷ app (top_term x q) s.terms ∷ []) →
        w1 ≡ set x.records (push_place q1) (rec (to_of x q) (s.terms + 1)) → q2 ≡ pushed q1 → s1 ≡ spent s s.indices 0 2 →
        Made m x s q s.indices [] (by true_impl (unit ∷ app (top_term x q) s.terms ∷ [])) true_next (lent x.words t1 w1) s1 q2
    unfolding go_on
    left_true_impl_made {t1} {w1} {s1} {q1} {q2} t eq et ew eq2 es =
        let p = passes t in
        let h = fields eq in
        let h2 = fields eq2 in
        let few : (s.formulas + 0 ≤ 65536) × (s.terms + 2 ≤ 65536) = omega (arith, p, rep.rooms) in
        let below : top_term x q < s.terms = (top_inside taken rep some).term_in in
        made_of true_impl s.indices (unit ∷ app (top_term x q) s.terms ∷ []) true_next rep words_none et
        (fits16 unit tt tt, (fits16 (app (top_term x q) s.terms) (omega arith) tt, tt)) es p.indices (omega (arith, p.formulas))
        p.terms
        (area_push (area_top taken rep some q2.level (omega arith) (omega arith) eq) (to_of x q) (s.terms + 1) (omega (arith, ends_in))
        (omega arith) few (omega (arith, p.contexts)) (omega arith) ew eq2)
        (omega arith) refl refl (omega arith) (omega arith)

    pub left_true_impl : {x1 y : Lent} {s1 : State} {q1 : Sequent} {r : Answer} →
        Made m x s q s.indices [] (by true_impl (unit ∷ app (top_term x q) s.terms ∷ [])) true_next x1 s1 q1 →
        Meets M.by_left m taken x1 s1 q1 r y → Goes M.by_left m taken x s q r y
    left_true_impl mk p = goes_by true_by (gives_on mk p)
