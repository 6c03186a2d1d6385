-- The rules of left that make two formulas and two names, as the code does them: (A∧B)→C and (A∨B)→C. Assumes nothing.
use Prim.Native.Nat.{ℕ, ◌+◌, ◌<◌, ◌≤◌}
use mathlib.Core.Path.{◌≡◌, ap, ap₂, ◌∙◌}
use mathlib.Core.List.{List}
use native.Mathlib.Omega.{arith}
use lib.ListN.{length, set, length-append}
use Rattle.std.specs.Prelude.{Ok, Err}
use Rattle.theory.specs.Form.{is_imp, word}
use Rattle.theory.specs.Term.{inl, inr}
use Rattle.theory.specs.NameText.{names_in}
use Rattle.theory.specs.Names.{skipped, reserved, fresh}
use Rattle.theory.specs.Meter as M
use Rattle.theory.proofs.Derive.{fresh_above}
use Rattle.theory.proofs.FirstFree.{fresh_bound}
use Rattle.meter.specs.declared.State.{State}
use Rattle.meter.specs.declared.Sequent.{Sequent}
use Rattle.meter.specs.declared.Limits.{Limits}
use Rattle.meter.specs.declared.Missed.{Missed}
use Rattle.meter.specs.declared.Next.TheVariants.{Go}
use Rattle.meter.specs.Moves.{spent}
use Rattle.context.specs.Moves.{pushed, popped}
use Rattle.context.specs.Area.{Rec, rec, push_place}
use Rattle.search_laws.specs.Reading.{Lent, lent, left_at, right_at, put_nodes}
use Rattle.search_laws.specs.Keeping.{Rep}
use Rattle.search_laws.specs.Making.{Tested}
use Rattle.search_laws.specs.Turning.{Turns, turns_on, turns_missed}
use Rattle.search_laws.proofs.Charge.{passes}
use Rattle.search_laws.proofs.LeftImpl.{ends_in}
use Rattle.search_laws.proofs.LeftNew.{curry_parts, left_curry_short, left_curry_made, left_curry}
use Rattle.search_laws.proofs.LeftNew.{sides_parts, left_sides_short, left_sides_made, left_sides}
use Rattle.search_laws.proofs.FallsNew.{left_curry_falls, left_sides_falls}
use Rattle.search_left.specs.Last.{LastFrom}
use Rattle.search_laws.specs.Pieces.{curried, composed, injected}
use Rattle.search_laws.specs.Records.{top_term, to_of, first_of, second_of}
use Rattle.search_left.proofs.Written.{put_append}
use Rattle.search_left.proofs.LeftTurns.{kind_last, kind_from}

-- at most 64 names are skipped, so that the next index is near
pub near : (text : List ℕ) → length (names_in text) ≤ 64 → (i : ℕ) {g : ℕ} → g ≡ fresh (skipped (names_in text)) i → g ≤ i + 64
unfolding skipped
near text few i e = omega (arith, fresh_bound (skipped (names_in text)) i, length-append (names_in text) reserved)

-- and the index after those that are used is small
pub first_near : {m : Limits} {x : Lent} {s : State} {q : Sequent} → Rep m x s q → (text : List ℕ) → length (names_in text) ≤ 64 →
    {g : ℕ} → g ≡ fresh (skipped (names_in text)) s.indices → g ≤ 4160
first_near rep text few eg = omega (arith, near text few _ eg, rep.within.in_indices)

names_rise : (taken : List (List ℕ)) {g h : ℕ} → h ≡ fresh taken (g + 1) → g < h
names_rise taken {g} e = omega (arith, fresh_above taken (g + 1))

-- inl's five nodes and then inr's
sides_put : (t : List ℕ) (n a b x f g : ℕ) {t1 t2 : List ℕ} → t1 ≡ put_nodes t n (composed n a (inl n) x f) →
    t2 ≡ put_nodes t1 (n + 5) (composed (n + 5) b (inr (n + 5)) x g) → t2 ≡ put_nodes t n (injected n a b x f g)
sides_put t n a b x f g e1 e2 =
    let n5 : n + 5 ≡ 5 + n = omega arith in
    let n6 : 1 + (n + 5) ≡ 6 + n = omega arith in
    let n7 : 2 + (n + 5) ≡ 7 + n = omega arith in
    let n8 : 3 + (n + 5) ≡ 8 + n = omega arith in
    e2 ∙ ap (λ (u : List ℕ). put_nodes u (n + 5) (composed (n + 5) b (inr (n + 5)) x g)) e1
    ∙ put_append t n (composed n a (inl n) x f) (composed (n + 5) b (inr (n + 5)) x g) ∙ cc

module _ {m : Limits} (taken : List (List ℕ)) {x : Lent} {s : State} {q : Sequent} (rep : Rep m x s q) {a t : ℕ} {g h : ℕ}
    (eg : g ≡ fresh taken s.indices) (eh : h ≡ fresh taken (g + 1)) where
  -- (A∧B)→C
  module _ (l : LastFrom x q 3 a t) where
    pub curry_short : {e : Missed} →
        Tested m (Err e) s (h + 1) (s.formulas + 2) (s.terms + 7) (q.unordered + q.ordered) q.level →
        Turns m taken x s q M.by_left (Err e) x
    curry_short e =
        turns_missed (left_curry_short taken rep l.last.some (kind_last taken rep l.last) eg eh (kind_from taken rep l) e)

    module _ (paid : Tested m (Ok tt) s (h + 1) (s.formulas + 2) (s.terms + 7) (q.unordered + q.ordered) q.level) where
      -- what the code may call
      pub curry_room : (s.formulas + 2 ≤ 16384) × (s.terms + 7 ≤ 16384) × (g ≤ 4096) × (h ≤ 4096)
      curry_room =
          let p = passes paid in
          let r = rep.rooms in
          let o = names_rise taken eh in
          (omega arith, omega arith, omega arith, omega arith)

      module _ {i b c r : ℕ} (ei : i ≡ left_at x.words a) (eb : b ≡ left_at x.words i) (er : r ≡ right_at x.words i)
          (ec : c ≡ right_at x.words a) where
        curry_are : (b ≡ first_of x q) × (r ≡ second_of x q) × (c ≡ to_of x q)
        curry_are = let f = l.last.formula in (cc, cc, cc)

        pub curry_in : (b < 16384) × (r < 16384) × (c < 16384)
        curry_in =
            let d = curry_parts taken rep l.last.some (kind_last taken rep l.last) eg eh (kind_from taken rep l) in
            let f = ends_in taken rep l.last.some (kind_last taken rep l.last) in
            let o = curry_are in
            let w = rep.within.in_formulas in
            let v = rep.rooms.most_formulas in
            (omega arith, omega arith, omega arith)

        pub curry_on : {f1 f2 t1 : List ℕ} {w1 : List Rec} {s1 : State} {q1 q2 : Sequent} →
            f1 ≡ set x.words s.formulas (word (is_imp r c)) → f2 ≡ set f1 (s.formulas + 1) (word (is_imp b s.formulas)) →
            t1 ≡ put_nodes x.numbers s.terms (curried s.terms g h t (s.formulas + 1)) → q1 ≡ popped q →
            w1 ≡ set x.records (push_place q1) (rec (s.formulas + 1) (s.terms + 6)) → q2 ≡ pushed q1 → s1 ≡ spent s (h + 1) 2 7 →
            Turns m taken x s q M.by_left (Ok (Go s1 q2)) (lent f2 t1 w1)
        curry_on {f1} {f2} {t1} {w1} {s1} {q1} {q2} ef ef2 et eq ew eq2 es =
            let k = kind_last taken rep l.last in
            let d = kind_from taken rep l in
            let o = curry_are in
            let ef3 : f1 ≡ set x.words s.formulas (word (is_imp (second_of x q) (to_of x q))) =
            ef ∙ ap₂ (λ (u v : ℕ). set x.words s.formulas (word (is_imp u v))) o.1 o.2 in
            let ef4 : f2 ≡ set f1 (s.formulas + 1) (word (is_imp (first_of x q) s.formulas)) =
            ef2 ∙ ap (λ (u : ℕ). set f1 (s.formulas + 1) (word (is_imp u s.formulas))) o.0 in
            let et2 : t1 ≡ put_nodes x.numbers s.terms (curried s.terms g h (top_term x q) (s.formulas + 1)) =
            et ∙ ap (λ (u : ℕ). put_nodes x.numbers s.terms (curried s.terms g h u (s.formulas + 1))) l.last.term in
            let ew2 : w1 ≡ set x.records (push_place q1) (rec (s.formulas + 1) (6 + s.terms)) =
            ew ∙ ap (λ (u : ℕ). set x.records (push_place q1) (rec (s.formulas + 1) u)) (omega arith) in
            let mk = left_curry_made taken rep l.last.some k eg eh d paid eq ef3 ef4 et2 ew2 eq2 es in
            turns_on (record {
              rep = mk.rep;
              carries = λ r z. left_curry taken rep l.last.some k eg eh d mk;
              less = left_curry_falls taken rep l.last.some k eg eh d mk;
            })

  -- (A∨B)→C
  module _ (l : LastFrom x q 4 a t) where
    pub sides_short : {e : Missed} →
        Tested m (Err e) s (h + 1) (s.formulas + 2) (s.terms + 10) (q.unordered + q.ordered + 1) q.level →
        Turns m taken x s q M.by_left (Err e) x
    sides_short e =
        turns_missed (left_sides_short taken rep l.last.some (kind_last taken rep l.last) eg eh (kind_from taken rep l) e)

    module _ (paid : Tested m (Ok tt) s (h + 1) (s.formulas + 2) (s.terms + 10) (q.unordered + q.ordered + 1) q.level) where
      pub sides_room : (s.formulas + 2 ≤ 16384) × (s.terms + 10 ≤ 16384) × (g ≤ 4096) × (h ≤ 4096)
      sides_room =
          let p = passes paid in
          let r = rep.rooms in
          let o = names_rise taken eh in
          (omega arith, omega arith, omega arith, omega arith)

      module _ {i b c r : ℕ} (ei : i ≡ left_at x.words a) (ec : c ≡ right_at x.words a) (er : r ≡ right_at x.words i)
          (eb : b ≡ left_at x.words i) where
        sides_are : (b ≡ first_of x q) × (r ≡ second_of x q) × (c ≡ to_of x q)
        sides_are = let f = l.last.formula in (cc, cc, cc)

        pub sides_in : (b < 16384) × (r < 16384) × (c < 16384)
        sides_in =
            let d = sides_parts taken rep l.last.some (kind_last taken rep l.last) eg eh (kind_from taken rep l) in
            let f = ends_in taken rep l.last.some (kind_last taken rep l.last) in
            let o = sides_are in
            let w = rep.within.in_formulas in
            let v = rep.rooms.most_formulas in
            (omega arith, omega arith, omega arith)

        pub sides_on : {f1 f2 t1 t2 : List ℕ} {w1 w2 : List Rec} {s1 : State} {q1 q2 q3 : Sequent} →
            f1 ≡ set x.words s.formulas (word (is_imp b c)) → f2 ≡ set f1 (s.formulas + 1) (word (is_imp r c)) →
            t1 ≡ put_nodes x.numbers s.terms (composed s.terms g (inl s.terms) t s.formulas) →
            t2 ≡ put_nodes t1 (s.terms + 5) (composed (s.terms + 5) h (inr (s.terms + 5)) t (s.formulas + 1)) → q1 ≡ popped q →
            w1 ≡ set x.records (push_place q1) (rec s.formulas (s.terms + 4)) → q2 ≡ pushed q1 →
            w2 ≡ set w1 (push_place q2) (rec (s.formulas + 1) (s.terms + 9)) → q3 ≡ pushed q2 → s1 ≡ spent s (h + 1) 2 10 →
            Turns m taken x s q M.by_left (Ok (Go s1 q3)) (lent f2 t2 w2)
        sides_on {f1} {f2} {t1} {t2} {w1} {w2} {s1} {q1} {q2} {q3} ef ef2 et et2 eq ew eq2 ew2 eq3 es =
            let k = kind_last taken rep l.last in
            let d = kind_from taken rep l in
            let o = sides_are in
            let ef3 : f1 ≡ set x.words s.formulas (word (is_imp (first_of x q) (to_of x q))) =
            ef ∙ ap₂ (λ (u v : ℕ). set x.words s.formulas (word (is_imp u v))) o.0 o.2 in
            let ef4 : f2 ≡ set f1 (s.formulas + 1) (word (is_imp (second_of x q) (to_of x q))) =
            ef2 ∙ ap₂ (λ (u v : ℕ). set f1 (s.formulas + 1) (word (is_imp u v))) o.1 o.2 in
            let et3 : t2 ≡ put_nodes x.numbers s.terms (injected s.terms g h (top_term x q) s.formulas (s.formulas + 1)) =
            sides_put x.numbers s.terms g h t s.formulas (s.formulas + 1) et et2
            ∙ ap (λ (u : ℕ). put_nodes x.numbers s.terms (injected s.terms g h u s.formulas (s.formulas + 1)))
            l.last.term in
            let ew3 : w1 ≡ set x.records (push_place q1) (rec s.formulas (4 + s.terms)) =
            ew ∙ ap (λ (u : ℕ). set x.records (push_place q1) (rec s.formulas u)) (omega arith) in
            let ew4 : w2 ≡ set w1 (push_place q2) (rec (s.formulas + 1) (9 + s.terms)) =
            ew2 ∙ ap (λ (u : ℕ). set w1 (push_place q2) (rec (s.formulas + 1) u)) (omega arith) in
            let mk = left_sides_made taken rep l.last.some k eg eh d paid eq ef3 ef4 et3 ew3 eq2 ew4 eq3 es in
            turns_on (record {
              rep = mk.rep;
              carries = λ r z. left_sides taken rep l.last.some k eg eh d mk;
              less = left_sides_falls taken rep l.last.some k eg eh d mk;
            })
