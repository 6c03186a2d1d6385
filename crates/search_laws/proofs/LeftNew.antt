-- The ways of left through (A∧B)→C and (A∨B)→C, which make two formulas and two names. Assumes nothing.
use Rattle.std.specs.Prelude.{Ok, Err}
use Prim.Native.Nat.{ℕ, suc, ◌+◌, ◌<◌, ◌≤◌}
use mathlib.Core.Path.{◌≡◌, refl, sym, ap, ◌∙◌}
use mathlib.Core.List.{List, [], ◌∷◌}
use native.Mathlib.Omega.{arith}
use native.Mathlib.Numerals.{add-one}
use lib.ListN.{length, set}
use Rattle.theory.specs.Form.{Book, is_imp, shape_of, word}
use Rattle.theory.specs.Term.{Piece, by, ident, pair, fn, app, inl, inr, asc, and_impl, or_impl}
use Rattle.theory.specs.Names.{fresh}
use Rattle.theory.specs.Meter as M
use Rattle.theory.specs.Meter.{limited, charge}
use Rattle.theory.specs.Search.{name, entry, go_on, on_impl, rule}
use Rattle.theory.proofs.Derive.{fresh_above}
use Rattle.meter.specs.declared.State.{State}
use Rattle.meter.specs.declared.Sequent.{Sequent}
use Rattle.meter.specs.declared.Limits.{Limits}
use Rattle.meter.specs.declared.Missed.{Missed}
use Rattle.meter.specs.Moves.{Answer, spent, limits_of}
use Rattle.context.specs.Moves.{pushed, popped}
use Rattle.context.specs.Area.{Rec, rec, push_place}
use Rattle.search_laws.specs.Reading.{Lent, lent, kind_at, entry_at, seq_of, Shows, put_nodes}
use Rattle.search_laws.specs.Keeping.{Rep}
use Rattle.search_laws.specs.Meaning.{asks, Meets, Goes}
use Rattle.search_laws.specs.Making.{Made, Tested}
use Rattle.search_laws.specs.Records.{top_formula, top_term, from_of, to_of, first_of, second_of}
use Rattle.search_laws.specs.Pieces.{curried, injected}
use Rattle.search_laws.proofs.Areas.{fields, area_push}
use Rattle.search_laws.proofs.Write.{Words, words_imp, words_then}
use Rattle.search_laws.proofs.Charge.{words_many, passes}
use Rattle.search_laws.proofs.Making.{made_of}
use Rattle.search_laws.proofs.Branch.{goes_by, gives_short, gives_on}
use Rattle.search_laws.proofs.Look.{shape_as, fits16}
use Rattle.search_laws.proofs.Left.{top_inside, area_top}
use Rattle.search_laws.proofs.LeftImpl.{next_by, next_count, ends_in, impl_by, from_below}

-- two implications written at the fill
two_words : {f f1 f2 : List ℕ} {nf a b c d : ℕ} → f1 ≡ set f nf (word (is_imp a b)) → f2 ≡ set f1 (nf + 1) (word (is_imp c d)) →
    a < nf → b < nf → c < nf + 1 → d < nf + 1 → nf + 2 ≤ length f → nf + 2 ≤ 16384 → Words f nf (is_imp a b ∷ is_imp c d ∷ []) f2
two_words {f} {f1} {f2} {nf} {a} {b} {c} {d} e1 e2 ha hb hc hd room few =
    let one : Words f nf (is_imp a b ∷ []) f1 = words_imp e1 ha hb (omega arith) (omega arith) in
    let two : Words f1 (nf + 1) (is_imp c d ∷ []) f2 = words_imp e2 hc hd (omega (arith, one.same.long))
    (omega arith) in words_then one two

module _ {m : Limits} (taken : List (List ℕ)) {x : Lent} {s : State} {q : Sequent} (rep : Rep m x s q) (some : 0 < q.ordered)
    (e : kind_at x.words (top_formula x q) ≡ 5) {a b : ℕ} (ea : a ≡ fresh taken s.indices) (eb : b ≡ fresh taken (a + 1)) where
  -- the two names are those that theory takes
  names : {S : M.State} → Shows x s S → (fresh taken S.used ≡ a) × (fresh taken (suc a) ≡ b)
  names sh = (ap (fresh taken) sh.used ∙ sym ea, ap (fresh taken) (sym (add-one a)) ∙ sym eb)

  names_up : a < b
  names_up = omega (arith, fresh_above taken (a + 1))

  module _ (k : kind_at x.words (from_of x q) ≡ 3) where
    pub curry_parts : (first_of x q < s.formulas) × (second_of x q < s.formulas)
    unfolding shape_of
    curry_parts = let c = from_below taken rep some e (shape_as x.words (from_of x q) k) in
        let g = ends_in taken rep some e in (omega arith, omega arith)

    abbrev pub curry_next : M.Sequent
    curry_next = next_by x q (entry (s.formulas + 1) (6 + s.terms) ∷ [])

    abbrev pub curry_words : Book
    curry_words = is_imp (second_of x q) (to_of x q) ∷ is_imp (first_of x q) s.formulas ∷ []

    abbrev pub curry_pieces : List Piece
    curry_pieces = curried s.terms a b (top_term x q) (s.formulas + 1)

    curry_by : (S : M.State) → Shows x s S → (d : ℕ) →
        rule (limited (limits_of m)) taken (asks m taken d) M.by_left (seq_of x.records q) S ≡
        charge (limits_of m) (b + 1) curry_words (by and_impl curry_pieces) curry_next S (λ S1. asks m taken d M.by_left curry_next S1)
    unfolding on_impl shape_of entry_at
    curry_by S sh d =
        let g = names sh in
        impl_by taken rep some e (shape_as x.words (from_of x q) k) S sh d
        ∙ rw (g.0, g.1, sh.many, words_many sh, add-one b, add-one s.formulas)

    pub left_curry_short : {e : Missed} → Tested m (Err e) s (b + 1) (s.formulas + 2) (s.terms + 7) (q.unordered + q.ordered) q.level →
        Goes M.by_left m taken x s q (Err e) x
    unfolding go_on
    left_curry_short t =
        goes_by curry_by (gives_short curry_words (by and_impl curry_pieces) curry_next _ t refl refl
        (omega (arith, next_count x q (entry (s.formulas + 1) (6 + s.terms) ∷ []))) refl rep.within)

    pub left_curry_made : {f1 f2 t1 : List ℕ} {w1 : List Rec} {s1 : State} {q1 q2 : Sequent} →
        Tested m (Ok tt) s (b + 1) (s.formulas + 2) (s.terms + 7) (q.unordered + q.ordered) q.level → q1 ≡ popped q →
        f1 ≡ set x.words s.formulas (word (is_imp (second_of x q) (to_of x q))) →
        f2 ≡ set f1 (s.formulas + 1) (word (is_imp (first_of x q) s.formulas)) → t1 ≡ put_nodes x.numbers s.terms curry_pieces →
        w1 ≡ set x.records (push_place q1) (rec (s.formulas + 1) (6 + s.terms)) → q2 ≡ pushed q1 → s1 ≡ spent s (b + 1) 2 7 →
        Made m x s q (b + 1) curry_words (by and_impl curry_pieces) curry_next (lent f2 t1 w1) s1 q2
    unfolding go_on
    left_curry_made {f1} {f2} {t1} {w1} {s1} {q1} {q2} t eq ef ef2 et ew eq2 es =
        let p = passes t in
        let h = fields eq in
        let h2 = fields eq2 in
        let few : (s.formulas + 2 ≤ 16384) × (s.terms + 7 ≤ 16384) = omega (arith, p, rep.rooms) in
        let u : b + 1 ≤ 4096 = p.indices in
        let up : a < b = names_up in
        let below : top_term x q < s.terms = (top_inside taken rep some).term_in in
        let c = curry_parts in
        let g = ends_in taken rep some e in
        made_of and_impl (b + 1) curry_pieces curry_next rep
        (two_words ef ef2 (omega arith) (omega arith) (omega arith) (omega arith) (omega (arith, p.formulas, rep.rooms.words_room))
        few.0) et (
          fits16 (ident (name a)) tt (omega arith),
          (
            fits16 (ident (name b)) tt (omega arith),
            (
              fits16 (pair _ _) (omega arith) tt,
              (
                fits16 (app _ _) (omega arith) tt,
                (
                  fits16 (fn _ _) (omega arith) (omega arith),
                  (
                    fits16 (fn _ _) (omega arith) (omega arith),
                    (fits16 (asc _ _) (omega arith) tt, tt),
                  ),
                ),
              ),
            ),
          ),
        ) es u p.formulas p.terms
        (area_push (area_top taken rep some q2.level (omega arith) (omega arith) eq) (s.formulas + 1) (6 + s.terms) (omega arith)
        (omega arith) (omega arith) (omega (arith, p.contexts)) (omega arith) ew eq2)
        (omega arith) refl refl (omega arith) (omega arith)

    pub left_curry : {x1 y : Lent} {s1 : State} {q1 : Sequent} {r : Answer} →
        Made m x s q (b + 1) curry_words (by and_impl curry_pieces) curry_next x1 s1 q1 → Meets M.by_left m taken x1 s1 q1 r y →
        Goes M.by_left m taken x s q r y
    left_curry mk p = goes_by curry_by (gives_on mk p)

  module _ (k : kind_at x.words (from_of x q) ≡ 4) where
    pub sides_parts : (first_of x q < s.formulas) × (second_of x q < s.formulas)
    unfolding shape_of
    sides_parts = let c = from_below taken rep some e (shape_as x.words (from_of x q) k) in
        let g = ends_in taken rep some e in (omega arith, omega arith)

    -- what is pushed: A→C, and then B→C
    abbrev pub sides_entries : List M.Entry
    sides_entries = entry (s.formulas + 1) (9 + s.terms) ∷ entry s.formulas (4 + s.terms) ∷ []

    abbrev pub sides_next : M.Sequent
    sides_next = next_by x q sides_entries

    abbrev pub sides_words : Book
    sides_words = is_imp (first_of x q) (to_of x q) ∷ is_imp (second_of x q) (to_of x q) ∷ []

    abbrev pub sides_pieces : List Piece
    sides_pieces = injected s.terms a b (top_term x q) s.formulas (s.formulas + 1)

    sides_by : (S : M.State) → Shows x s S → (d : ℕ) →
        rule (limited (limits_of m)) taken (asks m taken d) M.by_left (seq_of x.records q) S ≡
        charge (limits_of m) (b + 1) sides_words (by or_impl sides_pieces) sides_next S (λ S1. asks m taken d M.by_left sides_next S1)
    unfolding on_impl shape_of entry_at
    sides_by S sh d =
        let g = names sh in
        impl_by taken rep some e (shape_as x.words (from_of x q) k) S sh d
        ∙ rw (g.0, g.1, sh.many, words_many sh, add-one b, add-one s.formulas)

    pub left_sides_short : {e : Missed} → Tested m (Err e) s (b + 1) (s.formulas + 2) (s.terms + 10) (q.unordered + q.ordered + 1) q.level →
        Goes M.by_left m taken x s q (Err e) x
    unfolding go_on
    left_sides_short t =
        goes_by sides_by (gives_short sides_words (by or_impl sides_pieces) sides_next _ t refl refl
        (omega (arith, next_count x q sides_entries)) refl rep.within)

    pub left_sides_made : {f1 f2 t1 : List ℕ} {w1 w2 : List Rec} {s1 : State} {q1 q2 q3 : Sequent} →
        Tested m (Ok tt) s (b + 1) (s.formulas + 2) (s.terms + 10) (q.unordered + q.ordered + 1) q.level → q1 ≡ popped q →
        f1 ≡ set x.words s.formulas (word (is_imp (first_of x q) (to_of x q))) →
        f2 ≡ set f1 (s.formulas + 1) (word (is_imp (second_of x q) (to_of x q))) → t1 ≡ put_nodes x.numbers s.terms sides_pieces →
        w1 ≡ set x.records (push_place q1) (rec s.formulas (4 + s.terms)) → q2 ≡ pushed q1 →
        w2 ≡ set w1 (push_place q2) (rec (s.formulas + 1) (9 + s.terms)) → q3 ≡ pushed q2 → s1 ≡ spent s (b + 1) 2 10 →
        Made m x s q (b + 1) sides_words (by or_impl sides_pieces) sides_next (lent f2 t1 w2) s1 q3
    unfolding go_on
    left_sides_made {f1} {f2} {t1} {w1} {w2} {s1} {q1} {q2} {q3} t eq ef ef2 et ew eq2 ew2 eq3 es =
        let p = passes t in
        let h = fields eq in
        let h2 = fields eq2 in
        let h3 = fields eq3 in
        let few : (s.formulas + 2 ≤ 16384) × (s.terms + 10 ≤ 16384) = omega (arith, p, rep.rooms) in
        let u : b + 1 ≤ 4096 = p.indices in
        let up : a < b = names_up in
        let below : top_term x q < s.terms = (top_inside taken rep some).term_in in
        let c = sides_parts in
        let g = ends_in taken rep some e in
        made_of or_impl (b + 1) sides_pieces sides_next rep
        (two_words ef ef2 (omega arith) (omega arith) (omega arith) (omega arith) (omega (arith, p.formulas, rep.rooms.words_room))
        few.0) et (
          fits16 (ident (name a)) tt (omega arith),
          (
            fits16 (inl _) (omega arith) tt,
            (
              fits16 (app _ _) (omega arith) tt,
              (
                fits16 (fn _ _) (omega arith) (omega arith),
                (
                  fits16 (asc _ _) (omega arith) tt,
                  (
                    fits16 (ident (name b)) tt (omega arith),
                    (
                      fits16 (inr _) (omega arith) tt,
                      (
                        fits16 (app _ _) (omega arith) tt,
                        (fits16 (fn _ _) (omega arith) (omega arith), (fits16 (asc _ _) (omega arith) tt, tt)),
                      ),
                    ),
                  ),
                ),
              ),
            ),
          ),
        ) es u p.formulas p.terms
        (area_push (area_push (area_top taken rep some q3.level (omega arith) (omega arith) eq) s.formulas (4 + s.terms)
        (omega arith)
        (omega arith) (omega arith) (omega (arith, p.contexts)) (omega arith) ew eq2) (s.formulas + 1) (9 + s.terms) (omega arith)
        (omega arith) (omega arith) (omega (arith, p.contexts)) (omega arith) ew2 eq3)
        (omega arith) refl refl (omega arith) (omega arith)

    pub left_sides : {x1 y : Lent} {s1 : State} {q1 : Sequent} {r : Answer} →
        Made m x s q (b + 1) sides_words (by or_impl sides_pieces) sides_next x1 s1 q1 → Meets M.by_left m taken x1 s1 q1 r y →
        Goes M.by_left m taken x s q r y
    left_sides mk p = goes_by sides_by (gives_on mk p)
