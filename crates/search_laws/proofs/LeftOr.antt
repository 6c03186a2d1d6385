-- The way of left through Or: a name, its Ident and the first half a level up; the same for the second; the Case. Assumes nothing.
use Rattle.std.specs.Prelude.{Ok, Err}
use Prim.Native.Nat.{ℕ, ◌+◌, ◌-◌, ◌<◌, ◌≤◌}
use mathlib.Core.Path.{◌≡◌, refl, sym, ap, ap₂, ◌∙◌}
use mathlib.Core.List.{List, [], ◌∷◌}
use native.Mathlib.Omega.{arith}
use native.Mathlib.Numerals.{add-one}
use lib.ListN.{set}
use Rattle.theory.specs.Form.{is_or, shape_of}
use Rattle.theory.specs.Term.{by, ident, case, left_or}
use Rattle.theory.specs.Names.{fresh}
use Rattle.theory.specs.Meter as M
use Rattle.theory.specs.Meter.{limited, count, charge, and_then}
use Rattle.theory.specs.Search.{name, on_left, rule}
use Rattle.meter.specs.declared.State.{State}
use Rattle.meter.specs.declared.Sequent.{Sequent}
use Rattle.meter.specs.declared.Limits.{Limits}
use Rattle.meter.specs.declared.Found.{Found}
use Rattle.meter.specs.declared.Missed.{Missed}
use Rattle.meter.specs.Moves.{Answer, most, spent, limits_of}
use Rattle.context.specs.Moves.{upped, pushed, popped}
use Rattle.context.specs.Area.{Rec, rec, raised, push_place}
use Rattle.search_laws.specs.Reading.{Lent, lent, kind_at, left_at, right_at, shape_at, entry_at, ordered_in, seq_of, Shows, put_nodes}
use Rattle.search_laws.specs.Keeping.{Rep}
use Rattle.search_laws.specs.Meaning.{asks, Meets, Goes, Gives}
use Rattle.search_laws.specs.Making.{Tested, Made, Back}
use Rattle.search_laws.specs.Closing.{Closes}
use Rattle.search_laws.specs.Parts.{or_next, or_end, or_second}
use Rattle.search_laws.specs.Records.{top_formula, top_term, others}
use Rattle.search_laws.proofs.Seat.{unordered_length, ordered_length, ordered_pop}
use Rattle.search_laws.proofs.Areas.{fields, area_up, area_push}
use Rattle.search_laws.proofs.Write.{words_none}
use Rattle.search_laws.proofs.Charge.{passes}
use Rattle.search_laws.proofs.Making.{made_of}
use Rattle.search_laws.proofs.Branch.{gives_as, goes_by, gives_close, gives_short, gives_lost, gives_found, back_found}
use Rattle.search_laws.proofs.Look.{shape_as, children, fits16}
use Rattle.search_laws.proofs.Left.{top_inside, left_by_lem, area_top}

-- one premise: the half a in the place of the last record, under the name x
module _ {m : Limits} (taken : List (List ℕ)) {x : Lent} {s : State} {q : Sequent} (rep : Rep m x s q) (some : 0 < q.ordered) {g : ℕ}
    (eg : g ≡ fresh taken s.indices) where
  abbrev pub half_next : ℕ → M.Sequent
  half_next a = or_next (seq_of x.records q) (others x q) a s.terms

  module _ {q1 : Sequent} (eq : q1 ≡ popped q) where
    pub half_short : (a : ℕ) (k : ℕ → M.State → M.State → M.Answer) {e : Missed} →
        Tested m (Err e) s (g + 1) s.formulas (s.terms + 1) (q1.unordered + q1.ordered + 1) (q1.level + 1) →
        Gives (λ d S. charge (limits_of m) (g + 1) [] (by left_or (ident (name g) ∷ [])) (half_next a) S (k d S)) m x s q (Err e) x
    unfolding or_next count
    half_short a k t =
        let h = fields eq in
        let u = unordered_length x.records q.level q.unordered in
        let o = ordered_length x.records q.level (q.ordered - 1) in
        gives_short [] (by left_or (ident (name g) ∷ [])) (half_next a) k t (omega arith) refl (omega arith) (omega arith) rep.within

    pub half_made : {a : ℕ} {t1 : List ℕ} {w1 w2 : List Rec} {s1 : State} {q2 q3 : Sequent} →
        Tested m (Ok tt) s (g + 1) s.formulas (s.terms + 1) (q1.unordered + q1.ordered + 1) (q1.level + 1) → a < s.formulas →
        t1 ≡ put_nodes x.numbers s.terms (ident (name g) ∷ []) → w1 ≡ raised x.records q1 → q2 ≡ upped q1 q.goal →
        w2 ≡ set w1 (push_place q2) (rec a s.terms) → q3 ≡ pushed q2 → s1 ≡ spent s (g + 1) 0 1 →
        Made m x s q (g + 1) [] (by left_or (ident (name g) ∷ [])) (half_next a) (lent x.words t1 w2) s1 q3
    unfolding or_next
    half_made {a} {t1} {w1} {w2} {s1} {q2} {q3} t a_in et ew eq2 ew2 eq3 es =
        let p = passes t in
        let h = fields eq in
        let h2 = fields eq2 in
        let h3 = fields eq3 in
        let few : (s.formulas + 0 ≤ 65536) × (s.terms + 1 ≤ 65536) = omega (arith, p, rep.rooms) in
        let goal : q.goal < s.formulas = rep.seats.goal_in in
        made_of left_or (g + 1) (ident (name g) ∷ []) (half_next a) rep words_none et
        (fits16 (ident (name g)) tt (omega (arith, p.indices)), tt) es p.indices (omega (arith, p.formulas)) p.terms
        (area_push (area_up (area_top taken rep some q3.level (omega arith) (omega arith) eq) q.goal (omega arith)
        (omega (arith, p.levels))
        (omega arith) ew eq2) a s.terms (omega arith) (omega arith) few (omega (arith, p.contexts)) (omega arith) ew2 eq3)
        (omega arith) refl refl (omega arith) (omega arith)

module _ {m : Limits} (taken : List (List ℕ)) {x : Lent} {s : State} {q : Sequent} (rep : Rep m x s q) (some : 0 < q.ordered)
    (e : kind_at x.words (top_formula x q) ≡ 4) {g : ℕ} (eg : g ≡ fresh taken s.indices) where
  or_shape : shape_at x.words (top_formula x q) ≡ is_or (left_at x.words (top_formula x q)) (right_at x.words (top_formula x q))
  unfolding shape_of
  or_shape = shape_as x.words (top_formula x q) e

  pub or_parts : (left_at x.words (top_formula x q) < s.formulas) × (right_at x.words (top_formula x q) < s.formulas)
  or_parts = let b = children rep (top_inside taken rep some).formula_in or_shape in
      let i = (top_inside taken rep some).formula_in in (omega arith, omega arith)

  -- the whole rule
  or_by : (S : M.State) → Shows x s S → (d : ℕ) →
      rule (limited (limits_of m)) taken (asks m taken d) M.by_left (seq_of x.records q) S ≡
      charge (limits_of m) (g + 1) [] (by left_or (ident (name g) ∷ [])) (half_next taken rep some eg (left_at x.words (top_formula x q))) S
      (λ S1. and_then (asks m taken d M.by_left (half_next taken rep some eg (left_at x.words (top_formula x q))) S1)
      (or_second m taken (seq_of x.records q) (others x q) (right_at x.words (top_formula x q)) (top_term x q) (name g) d))
  unfolding on_left entry_at or_next or_second or_end
  or_by S sh d =
      let f : fresh taken S.used ≡ g = ap (fresh taken) sh.used ∙ sym eg in
      left_by_lem taken rep some or_shape S sh d ∙ rw (f, sh.many, add-one)

  pub left_or_short : {e : Missed} {q1 : Sequent} → q1 ≡ popped q →
      Tested m (Err e) s (g + 1) s.formulas (s.terms + 1) (q1.unordered + q1.ordered + 1) (q1.level + 1) →
      Goes M.by_left m taken x s q (Err e) x
  left_or_short eq t = goes_by or_by (half_short taken rep some eg eq (left_at x.words (top_formula x q)) _ t)

  module _ {x1 y : Lent} {s1 : State} {q1 : Sequent} (mk : Made m x s q (g + 1) [] (by left_or (ident (name g) ∷ []))
      (half_next taken rep some eg (left_at x.words (top_formula x q))) x1 s1 q1) where
    pub left_or_lost : {e : Missed} → Meets M.by_left m taken x1 s1 q1 (Err e) y → Goes M.by_left m taken x s q (Err e) y
    left_or_lost p = goes_by or_by (gives_lost mk _ p)

    -- the first half is found, and what is left of the rule gives r; h and b are read where the first half left the lists
    pub left_or_then : {f : Found} {h b : ℕ} {r : Answer} {z : Lent} → q.level < q1.level → Meets M.by_left m taken x1 s1 q1 (Ok f) y →
        h ≡ top_term x q → b ≡ right_at x.words (top_formula x q) →
        Gives (λ d S. or_second m taken (seq_of y.records q) (others y q) b h (name g) d f.node S) m y f.state q r z →
        Goes M.by_left m taken x s q r z
    left_or_then {f} {h} {b} up p eh eb k =
        let back = back_found mk rep up p.kept in
        goes_by or_by (gives_found mk _ rep up p (gives_as _
        (λ S sh d. ap₂ (λ (Q : M.Sequent) (os : List M.Entry). or_second m taken Q os (right_at x.words (top_formula x q)) (top_term x q)
        (name g) d f.node S)
        (sym back.seq) (sym (others_back back)) ∙ ap₂ (λ (b h : ℕ). or_second m taken (seq_of y.records q) (others y q) b h
        (name g) d f.node S)
        (sym eb) (sym eh)) k))
      where
        others_back : {s2 : State} → Back m x s q s2 y → others y q ≡ others x q
        others_back back =
            let one = ordered_pop x.records q some (omega (arith, rep.seats.fits)) in
            let two = ordered_pop y.records q some (omega (arith, rep.seats.fits)) in
            let three : ordered_in y.records q.level q.ordered ≡ ordered_in x.records q.level q.ordered =
            ap (λ (Q : M.Sequent). Q.ordered) back.seq in
            cc

-- what is left of Or after its first half i, found under the name v; b is the second half, h the term of the Or
module _ {m : Limits} (taken : List (List ℕ)) {x : Lent} {s : State} {q : Sequent} (rep : Rep m x s q) (some : 0 < q.ordered) {g : ℕ}
    (eg : g ≡ fresh taken s.indices) (b h v i : ℕ) where
  second_by : (S : M.State) → Shows x s S → (d : ℕ) → or_second m taken (seq_of x.records q) (others x q) b h v d i S ≡
      charge (limits_of m) (g + 1) [] (by left_or (ident (name g) ∷ [])) (half_next taken rep some eg b) S
      (λ S1. and_then (asks m taken d M.by_left (half_next taken rep some eg b) S1) (or_end m h v i (name g) d))
  unfolding or_second
  second_by S sh d =
      let f : fresh taken S.used ≡ g = ap (fresh taken) sh.used ∙ sym eg in
      rw (f, sh.many, add-one)

  pub or_second_short : {e : Missed} {q1 : Sequent} → q1 ≡ popped q →
      Tested m (Err e) s (g + 1) s.formulas (s.terms + 1) (q1.unordered + q1.ordered + 1) (q1.level + 1) →
      Gives (λ d S. or_second m taken (seq_of x.records q) (others x q) b h v d i S) m x s q (Err e) x
  or_second_short eq t = gives_as _ second_by (half_short taken rep some eg eq b _ t)

  module _ {x1 y : Lent} {s1 : State} {q1 : Sequent}
      (mk : Made m x s q (g + 1) [] (by left_or (ident (name g) ∷ [])) (half_next taken rep some eg b) x1 s1 q1) where
    pub or_second_lost : {e : Missed} → Meets M.by_left m taken x1 s1 q1 (Err e) y →
        Gives (λ d S. or_second m taken (seq_of x.records q) (others x q) b h v d i S) m x s q (Err e) y
    or_second_lost p = gives_as _ second_by (gives_lost mk _ p)

    pub or_second_found : {f : Found} {r : Answer} {t1 : List ℕ} → h < s.terms → i < s.terms → v < 65536 → g < most →
        q.level < q1.level → Meets M.by_left m taken x1 s1 q1 (Ok f) y →
        Closes m y.numbers f.state (case h v i (name g) f.node) r t1 →
        Gives (λ d S. or_second m taken (seq_of x.records q) (others x q) b h v d i S) m x s q r (lent y.words t1 y.records)
    unfolding or_end
    or_second_found hh hi hv hg up p c =
        let back = back_found mk rep up p.kept in
        let few : s.terms ≤ 16384 = omega (arith, rep.within.in_terms, rep.rooms.most_terms) in
        let j_in = p.kept.after.root_in in
        let j_few = p.kept.within.in_terms in
        let most_in = rep.rooms.most_terms in
        gives_as _ second_by (gives_found mk (or_end m h v i (name g)) rep up p
        (gives_close left_or back.rep (fits16 (case h v i (name g) _) (omega arith, omega arith, omega arith)
        (omega arith, omega arith)) c))
