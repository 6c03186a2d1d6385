-- The ways through left that make one turn: what is dropped, what ends, what goes to the unordered context, and And. Assumes nothing.
use Rattle.std.specs.Prelude.{Ok, Err}
use Prim.Native.Nat.{ℕ, ◌+◌, ◌-◌, ◌*◌, ◌<◌, ◌≤◌}
use mathlib.Core.Path.{◌≡◌, refl, ap, ◌∙◌, subst}
use mathlib.Core.List.{List, [], ◌∷◌, ◌++◌}
use native.Mathlib.Omega.{arith}
use native.Mathlib.Numerals.{add-one}
use lib.ListN.{set}
use Rattle.theory.specs.Form.{Shape, is_and, shape_of}
use Rattle.theory.specs.Term.{by, fst, snd, abort, left_false, left_and}
use Rattle.theory.specs.Meter as M
use Rattle.theory.specs.Meter.{limited, count, charge}
use Rattle.theory.specs.Search.{entry, go_on, on_left, pop_left, rule}
use Rattle.meter.specs.declared.State.{State}
use Rattle.meter.specs.declared.Sequent.{Sequent}
use Rattle.meter.specs.declared.Limits.{Limits}
use Rattle.meter.specs.declared.Missed.{Missed}
use Rattle.meter.specs.Moves.{Answer, spent, limits_of}
use Rattle.context.specs.Moves.{stretch, pushed, popped, appended}
use Rattle.context.specs.Area.{Rec, rec, push_place, append_place, top_place}
use Rattle.search_laws.specs.Tables.{downto}
use Rattle.search_laws.specs.Reading.{Lent, lent, kind_at, left_at, right_at, shape_at, entry_at, ordered_in, seq_of, Shows, put_nodes}
use Rattle.search_laws.specs.Keeping.{Inside, Rep}
use Rattle.search_laws.specs.Meaning.{asks, Meets, Goes}
use Rattle.search_laws.specs.Closing.{Closes}
use Rattle.search_laws.specs.Making.{Made, Moved, Tested}
use Rattle.search_laws.specs.Records.{top_formula, top_term, top_entry, others}
use Rattle.search_laws.proofs.Seat.{unordered_length, ordered_length, ordered_pop, top_in}
use Rattle.search_laws.proofs.Areas.{fields, Area, area_start, area_pop, area_push, area_append}
use Rattle.search_laws.proofs.Write.{words_none}
use Rattle.search_laws.proofs.Charge.{passes}
use Rattle.search_laws.proofs.Making.{made_of}
use Rattle.search_laws.proofs.Moving.{moved_of, gives_moved}
use Rattle.search_laws.proofs.Branch.{goes_by, gives_asked, gives_close, gives_short, gives_on}
use Rattle.search_laws.proofs.Look.{shape_as, look_at, children, fits16, by_kind}

-- left with nothing left asks search
pub left_empty_lem : {m : Limits} {taken : List (List ℕ)} {x y : Lent} {s : State} {q : Sequent} {r : Answer} → q.ordered ≡ 0 →
    Meets M.by_search m taken x s q r y → Goes M.by_left m taken x s q r y
unfolding rule pop_left ordered_in downto
left_empty_lem {m} {taken} {x} {s = s} {q} e p = goes_by
    (λ S sh d. ap (λ (n : ℕ). pop_left (limited (limits_of m)) taken (asks m taken d) (seq_of x.records q) S
    (downto (λ i. entry_at x.records (q.level * stretch + stretch - 1 - i)) n)) e) (gives_asked p)

module _ {m : Limits} (taken : List (List ℕ)) {x : Lent} {s : State} {q : Sequent} (rep : Rep m x s q) (some : 0 < q.ordered) where
  pub top_inside : Inside s.formulas s.terms x.records (top_place q)
  top_inside = top_in rep.seats some

  -- left goes by the shape of the last record's formula
  pub left_by_lem : {sh : Shape} → shape_at x.words (top_formula x q) ≡ sh → (S : M.State) → Shows x s S → (d : ℕ) →
      rule (limited (limits_of m)) taken (asks m taken d) M.by_left (seq_of x.records q) S ≡
      on_left (limited (limits_of m)) taken (asks m taken d) (seq_of x.records q) S (top_entry x q) (others x q) sh
  unfolding rule pop_left entry_at
  left_by_lem e S sh d =
      ap (pop_left (limited (limits_of m)) taken (asks m taken d) (seq_of x.records q) S)
      (ordered_pop x.records q some (omega (arith, rep.seats.fits)))
      ∙ ap (on_left (limited (limits_of m)) taken (asks m taken d) (seq_of x.records q) S (top_entry x q) (others x q))
      (look_at sh top_inside.formula_in e)

  -- the area without the last record
  pub area_top : {nf nt : ℕ} (l : ℕ) {q1 : Sequent} → s.formulas ≤ nf → s.terms ≤ nt → q1 ≡ popped q →
      Area m nf nt l x.records x.records q1 (seq_of x.records q).unordered (others x q)
  area_top {nf} {nt} l hf ht eq =
      area_pop eq (subst (λ (o : List M.Entry). Area m nf nt l x.records x.records q (seq_of x.records q).unordered o)
      (ordered_pop x.records q some (omega (arith, rep.seats.fits))) (area_start l rep hf ht))

  -- the record is dropped
  pub drop_moved : {q1 : Sequent} → q1 ≡ popped q →
      Moved m x s q (go_on (seq_of x.records q) (seq_of x.records q).unordered (others x q)) x q1
  unfolding go_on
  drop_moved {q1} eq =
      let h = fields eq in
      moved_of (go_on (seq_of x.records q) (seq_of x.records q).unordered (others x q)) rep
      (area_top q1.level (omega arith) (omega arith) eq) (omega arith) refl refl (omega arith) (omega arith)

  -- the record goes to the unordered context
  pub settle_moved : {w1 : List Rec} {q1 q2 : Sequent} → q1 ≡ popped q →
      w1 ≡ set x.records (append_place q1) (rec (top_formula x q) (top_term x q)) → q2 ≡ appended q1 →
      Moved m x s q (go_on (seq_of x.records q) ((seq_of x.records q).unordered ++ (top_entry x q ∷ [])) (others x q))
      (lent x.words x.numbers w1) q2
  unfolding go_on entry_at entry
  settle_moved {w1} {q1} {q2} eq ew eq2 =
      let h = fields eq in
      let h2 = fields eq2 in
      let few : (s.formulas ≤ 65536) × (s.terms ≤ 65536) = omega (arith, rep.within, rep.rooms) in
      moved_of (go_on (seq_of x.records q) ((seq_of x.records q).unordered ++ (top_entry x q ∷ [])) (others x q)) rep
      (area_append (area_top q2.level (omega arith) (omega arith) eq) (top_formula x q) (top_term x q) top_inside.formula_in
      top_inside.term_in few (omega (arith, rep.seats.fits)) (omega arith) ew eq2)
      (omega arith) refl refl (omega arith) (omega arith)

  pub left_true_lem : {q1 : Sequent} {r : Answer} {y : Lent} → kind_at x.words (top_formula x q) ≡ 0 → q1 ≡ popped q →
      Meets M.by_left m taken x s q1 r y → Goes M.by_left m taken x s q r y
  unfolding on_left shape_of
  left_true_lem k eq p = goes_by (left_by_lem (shape_as x.words (top_formula x q) k)) (gives_moved (drop_moved eq) p)

  pub left_false_lem : {r : Answer} {t1 : List ℕ} → kind_at x.words (top_formula x q) ≡ 1 → Closes m x.numbers s
      (abort (top_term x q)) r t1 →
      Goes M.by_left m taken x s q r (lent x.words t1 x.records)
  unfolding on_left shape_of entry_at
  left_false_lem k c = goes_by (left_by_lem (shape_as x.words (top_formula x q) k))
      (gives_close left_false rep
      (fits16 (abort (top_term x q)) (omega (arith, top_inside.term_in, rep.within.in_terms, rep.rooms.most_terms)) tt) c)

  -- a leaf: what is none of the other kinds
  leaf_by : (k l r : ℕ) → (k ≡ 0 → ⊥) → (k ≡ 1 → ⊥) → (k ≡ 3 → ⊥) → (k ≡ 4 → ⊥) → (k ≡ 5 → ⊥) → (Q : M.Sequent) (S : M.State) (e : M.Entry)
      (os : List M.Entry) (d : ℕ) → on_left (limited (limits_of m)) taken (asks m taken d) Q S e os (shape_of k l r) ≡
      asks m taken d M.by_left (go_on Q (Q.unordered ++ (e ∷ [])) os) S
  unfolding on_left
  leaf_by k l r a b c f g Q S e os d = by_kind (λ sh. on_left (limited (limits_of m)) taken (asks m taken d) Q S e os sh ≡
      asks m taken d M.by_left (go_on Q (Q.unordered ++ (e ∷ [])) os) S) k l r
      (λ z. absurd (a z)) (λ z. absurd (b z)) (λ z. absurd (c z)) (λ z. absurd (f z)) (λ z. absurd (g z)) (λ n. refl)

  pub left_leaf_lem : {x1 y : Lent} {q1 : Sequent} {r : Answer} → (kind_at x.words (top_formula x q) ≡ 0 → ⊥) →
      (kind_at x.words (top_formula x q) ≡ 1 → ⊥) → (kind_at x.words (top_formula x q) ≡ 3 → ⊥) →
      (kind_at x.words (top_formula x q) ≡ 4 → ⊥) → (kind_at x.words (top_formula x q) ≡ 5 → ⊥) →
      Moved m x s q (go_on (seq_of x.records q) ((seq_of x.records q).unordered ++ (top_entry x q ∷ [])) (others x q)) x1 q1 →
      Meets M.by_left m taken x1 s q1 r y → Goes M.by_left m taken x s q r y
  left_leaf_lem a b c f g mv p = let i : ℕ = top_formula x q in goes_by
      (λ S sh d. left_by_lem (shape_as x.words i refl) S sh d ∙ leaf_by (kind_at x.words i) (left_at x.words i)
      (right_at x.words i) a b c f g
      (seq_of x.records q) S (top_entry x q) (others x q) d) (gives_moved mv p)

  -- And: both halves are pushed, the second last
  module _ (e : kind_at x.words (top_formula x q) ≡ 3) where
    and_shape : shape_at x.words (top_formula x q) ≡ is_and (left_at x.words (top_formula x q)) (right_at x.words (top_formula x q))
    unfolding shape_of
    and_shape = shape_as x.words (top_formula x q) e

    pub and_parts : (left_at x.words (top_formula x q) < s.formulas) × (right_at x.words (top_formula x q) < s.formulas)
    and_parts = let b = children rep top_inside.formula_in and_shape in let g = top_inside.formula_in in (omega arith, omega arith)

    abbrev pub and_next : M.Sequent
    and_next = go_on (seq_of x.records q) (seq_of x.records q).unordered
        (entry (right_at x.words (top_formula x q)) (s.terms + 1) ∷ entry (left_at x.words (top_formula x q)) s.terms ∷ others x q)

    and_by : (S : M.State) → Shows x s S → (d : ℕ) →
        rule (limited (limits_of m)) taken (asks m taken d) M.by_left (seq_of x.records q) S ≡
        charge (limits_of m) s.indices [] (by left_and (fst (top_term x q) ∷ snd (top_term x q) ∷ [])) and_next S
        (λ S1. asks m taken d M.by_left and_next S1)
    unfolding on_left entry_at
    and_by S sh d = left_by_lem and_shape S sh d ∙ rw (sh.many, sh.used, add-one)

    pub left_and_short : {e : Missed} → Tested m (Err e) s s.indices s.formulas (s.terms + 2) (q.unordered + q.ordered + 1) q.level →
        Goes M.by_left m taken x s q (Err e) x
    unfolding go_on count
    left_and_short t =
        let a = unordered_length x.records q.level q.unordered in
        let b = ordered_length x.records q.level (q.ordered - 1) in
        goes_by and_by (gives_short [] (by left_and (fst (top_term x q) ∷ snd (top_term x q) ∷ [])) and_next _ t (omega arith) refl
        (omega arith) (omega arith) rep.within)

    pub left_and_made : {t1 : List ℕ} {w1 w2 : List Rec} {s1 : State} {q1 q2 q3 : Sequent} →
        Tested m (Ok tt) s s.indices s.formulas (s.terms + 2) (q.unordered + q.ordered + 1) q.level → q1 ≡ popped q →
        t1 ≡ put_nodes x.numbers s.terms (fst (top_term x q) ∷ snd (top_term x q) ∷ []) →
        w1 ≡ set x.records (push_place q1) (rec (left_at x.words (top_formula x q)) s.terms) → q2 ≡ pushed q1 →
        w2 ≡ set w1 (push_place q2) (rec (right_at x.words (top_formula x q)) (s.terms + 1)) → q3 ≡ pushed q2 →
        s1 ≡ spent s s.indices 0 2 →
        Made m x s q s.indices [] (by left_and (fst (top_term x q) ∷ snd (top_term x q) ∷ [])) and_next (lent x.words t1 w2) s1 q3
    unfolding go_on
    left_and_made {t1} {w1} {w2} {s1} {q1} {q2} {q3} t eq et ew eq2 ew2 eq3 es =
        let p = passes t in
        let h = fields eq in
        let h2 = fields eq2 in
        let h3 = fields eq3 in
        let few : (s.formulas + 0 ≤ 65536) × (s.terms + 2 ≤ 65536) = omega (arith, p, rep.rooms) in
        let narrow : top_term x q < 65536 = omega (arith, top_inside.term_in) in
        let i : ℕ = top_formula x q in
        made_of left_and s.indices (fst (top_term x q) ∷ snd (top_term x q) ∷ []) and_next rep words_none et
        (fits16 (fst (top_term x q)) narrow tt, (fits16 (snd (top_term x q)) narrow tt, tt)) es p.indices (omega (arith, p.formulas))
        p.terms
        (area_push (area_push (area_top q3.level (omega arith) (omega arith) eq) (left_at x.words i) s.terms
        (omega (arith, and_parts))
        (omega arith) few (omega (arith, p.contexts)) (omega arith) ew eq2) (right_at x.words i) (s.terms + 1)
        (omega (arith, and_parts))
        (omega arith) few (omega (arith, p.contexts)) (omega arith) ew2 eq3)
        (omega arith) refl refl (omega arith) (omega arith)

    pub left_and_lem : {x1 y : Lent} {s1 : State} {q1 : Sequent} {r : Answer} →
        Made m x s q s.indices [] (by left_and (fst (top_term x q) ∷ snd (top_term x q) ∷ [])) and_next x1 s1 q1 →
        Meets M.by_left m taken x1 s1 q1 r y → Goes M.by_left m taken x s q r y
    left_and_lem mk p = goes_by and_by (gives_on mk p)
