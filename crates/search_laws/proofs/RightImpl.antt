-- The way of right through an implication: one name, its Ident, pushed; the body a level up; the Function. Assumes nothing.
use Rattle.std.specs.Prelude.{Ok, Err}
use Prim.Native.Nat.{ℕ, ◌+◌, ◌<◌, ◌≤◌}
use mathlib.Core.Path.{◌≡◌, refl, sym, ap, ◌∙◌}
use mathlib.Core.List.{List, [], ◌∷◌}
use native.Mathlib.Omega.{arith}
use native.Mathlib.Numerals.{add-one}
use lib.ListN.{set}
use Rattle.theory.specs.Form.{is_imp, shape_of}
use Rattle.theory.specs.Term.{by, ident, fn, right_impl}
use Rattle.theory.specs.Names.{fresh}
use Rattle.theory.specs.Meter as M
use Rattle.theory.specs.Meter.{limited, count, charge, and_then}
use Rattle.theory.specs.Search.{name, push_up, entry, on_right, rule}
use Rattle.meter.specs.declared.State.{State}
use Rattle.meter.specs.declared.Sequent.{Sequent}
use Rattle.meter.specs.declared.Limits.{Limits}
use Rattle.meter.specs.declared.Found.{Found}
use Rattle.meter.specs.declared.Missed.{Missed}
use Rattle.meter.specs.Moves.{Answer, most, spent, limits_of}
use Rattle.context.specs.Moves.{upped, pushed}
use Rattle.context.specs.Area.{Rec, rec, raised, push_place}
use Rattle.search_laws.specs.Reading.{Lent, lent, kind_at, left_at, right_at, shape_at, seq_of, Shows, put_nodes}
use Rattle.search_laws.specs.Keeping.{Rep}
use Rattle.search_laws.specs.Meaning.{asks, Meets, Goes}
use Rattle.search_laws.specs.Parts.{impl_end}
use Rattle.search_laws.specs.Closing.{Closes}
use Rattle.search_laws.specs.Making.{Made, Tested}
use Rattle.search_laws.proofs.Areas.{fields, Area, area_start, area_up, area_push}
use Rattle.search_laws.proofs.Write.{words_none}
use Rattle.search_laws.proofs.Charge.{passes}
use Rattle.search_laws.proofs.Making.{made_of, count_seq}
use Rattle.search_laws.proofs.Branch.{goes_by, gives_close, gives_short, gives_lost, gives_found, back_found}
use Rattle.search_laws.proofs.Look.{shape_as, children, fits16}
use Rattle.search_laws.proofs.Right.{right_by}

module _ {m : Limits} (taken : List (List ℕ)) {x : Lent} {s : State} {q : Sequent} (rep : Rep m x s q)
    (e : kind_at x.words q.goal ≡ 5) where
  impl_shape : shape_at x.words q.goal ≡ is_imp (left_at x.words q.goal) (right_at x.words q.goal)
  unfolding shape_of
  impl_shape = shape_as x.words q.goal e

  pub impl_parts : (left_at x.words q.goal < s.formulas) × (right_at x.words q.goal < s.formulas)
  impl_parts = let b = children rep rep.seats.goal_in impl_shape in let g = rep.seats.goal_in in (omega arith, omega arith)

  -- the body's sequent
  abbrev pub impl_next : M.Sequent
  impl_next = push_up (seq_of x.records q) (entry (left_at x.words q.goal) s.terms ∷ []) (right_at x.words q.goal)

  module _ {a : ℕ} (ea : a ≡ fresh taken s.indices) where
    impl_by : (S : M.State) → Shows x s S → (d : ℕ) →
        rule (limited (limits_of m)) taken (asks m taken d) M.by_right (seq_of x.records q) S ≡
        charge (limits_of m) (a + 1) [] (by right_impl (ident (name a) ∷ [])) impl_next S
        (λ S1. and_then (asks m taken d M.by_right impl_next S1) (impl_end m (name a) d))
    unfolding on_right impl_end
    impl_by S sh d =
        let g : fresh taken S.used ≡ a = ap (fresh taken) sh.used ∙ sym ea in
        right_by taken rep impl_shape S sh d
        ∙ rw (g, sh.many, add-one)

    pub right_impl_short : {e : Missed} →
        Tested m (Err e) s (a + 1) s.formulas (s.terms + 1) (q.unordered + q.ordered + 1) (q.level + 1) →
        Goes M.by_right m taken x s q (Err e) x
    unfolding push_up count
    right_impl_short t = goes_by impl_by
        (gives_short [] (by right_impl (ident (name a) ∷ [])) impl_next _ t (omega arith) refl
        (let c : count (seq_of x.records q) ≡ q.unordered + q.ordered = count_seq x.records q in omega arith)
        (add-one q.level) rep.within)

    -- what the code does before it asks for the body
    pub impl_made : {t1 : List ℕ} {w1 w2 : List Rec} {s1 : State} {q1 q2 : Sequent} →
        Tested m (Ok tt) s (a + 1) s.formulas (s.terms + 1) (q.unordered + q.ordered + 1) (q.level + 1) →
        t1 ≡ put_nodes x.numbers s.terms (ident (name a) ∷ []) → w1 ≡ raised x.records q →
        q1 ≡ upped q (right_at x.words q.goal) → w2 ≡ set w1 (push_place q1) (rec (left_at x.words q.goal) s.terms) →
        q2 ≡ pushed q1 → s1 ≡ spent s (a + 1) 0 1 →
        Made m x s q (a + 1) [] (by right_impl (ident (name a) ∷ [])) impl_next (lent x.words t1 w2) s1 q2
    unfolding push_up entry
    impl_made {t1} {w1} {w2} {s1} {q1} {q2} t et ew eq ew2 eq2 es =
        let p = passes t in
        let few : (s.formulas ≤ 16384) × (s.terms + 1 ≤ 16384) = omega (arith, p, rep.rooms) in
        let b : ℕ = left_at x.words q.goal in
        let g : ℕ = right_at x.words q.goal in
        let h = fields eq in
        let h2 = fields eq2 in
        let lv : q2.level ≡ q.level + 1 = omega arith in
        let end : Area m (s.formulas + 0) (s.terms + 1) q2.level x.records w2 q2 (seq_of x.records q).unordered
        (entry b s.terms ∷ (seq_of x.records q).ordered) =
        area_push (area_up (area_start q2.level rep (omega arith) (omega arith)) g (omega (arith, impl_parts))
        (omega (arith, p.levels))
        (omega arith) ew eq) b s.terms (omega (arith, impl_parts)) (omega arith) (omega arith) (omega (arith, p.contexts))
        (omega arith)
        ew2 eq2 in
        made_of right_impl (a + 1) (ident (name a) ∷ []) impl_next rep words_none et
        (fits16 (ident (name a)) tt (omega (arith, p.indices)), tt) es p.indices (omega (arith, p.formulas)) p.terms
        end (omega arith)
        refl refl (omega arith) (omega arith)

    module _ {x1 y : Lent} {s1 : State} {q1 : Sequent}
        (mk : Made m x s q (a + 1) [] (by right_impl (ident (name a) ∷ [])) impl_next x1 s1 q1) where
      pub right_impl_lost : {e : Missed} → Meets M.by_right m taken x1 s1 q1 (Err e) y → Goes M.by_right m taken x s q (Err e) y
      right_impl_lost p = goes_by impl_by (gives_lost mk _ p)

      pub right_impl_found : {f : Found} {r : Answer} {t2 : List ℕ} → a < most → q.level < q1.level →
          Meets M.by_right m taken x1 s1 q1 (Ok f) y → Closes m y.numbers f.state (fn (name a) f.node) r t2 →
          Goes M.by_right m taken x s q r (lent y.words t2 y.records)
      unfolding impl_end
      right_impl_found h up p c =
          goes_by impl_by (gives_found mk (impl_end m (name a)) rep up p
          (gives_close right_impl (back_found mk rep up p.kept).rep (fits16 (fn (name a) _)
          (omega (arith, p.kept.after.root_in, p.kept.within.in_terms, rep.rooms.most_terms)) (omega arith)) c))
