-- The sequent gets smaller where left makes new formulas, and in the two premises of its Or. Assumes nothing.
use Prim.Native.Nat.{ℕ, ◌+◌, ◌<◌}
use mathlib.Core.Path.{◌≡◌, ap, ◌∙◌, subst}
use mathlib.Core.List.{List, [], ◌∷◌}
use native.Mathlib.Omega.{arith}
use Rattle.theory.specs.Form.{Form, and, or, imp, form, shape_of, is_imp, Book, tree_of}
use Rattle.theory.specs.Term.{Node}
use Rattle.theory.specs.Names.{fresh}
use Rattle.theory.specs.Weight.{weight}
use Rattle.theory.specs.Meter as M
use Rattle.theory.specs.Search.{entry}
use Rattle.theory.proofs.Weight.{or_left, or_right, and_imp, or_imp_left, or_imp_right}
use Rattle.theory.proofs.Size.{swap_one}
use Rattle.theory.proofs.Forms.{At, at_ext, ext_by, imp_new, imp_two}
use Rattle.theory.proofs.Context.{and_more, reads_ext}
use Rattle.meter.specs.declared.State.{State}
use Rattle.meter.specs.declared.Sequent.{Sequent}
use Rattle.meter.specs.declared.Limits.{Limits}
use Rattle.search_laws.specs.Reading.{Lent, kind_at, left_at, right_at}
use Rattle.search_laws.specs.Keeping.{Rep}
use Rattle.search_laws.specs.Meaning.{weigh}
use Rattle.search_laws.specs.Making.{Made}
use Rattle.search_laws.specs.Parts.{or_next}
use Rattle.search_laws.specs.Records.{top_formula, from_of, to_of, first_of, second_of}
use Rattle.search_laws.proofs.Charge.{book_length}
use Rattle.search_laws.proofs.Left.{top_inside}
use Rattle.search_laws.proofs.LeftImpl.{ends_in}
use Rattle.search_laws.proofs.LeftNew.{curry_words, curry_next, curry_parts, sides_words, sides_next, sides_parts}
use Rattle.search_laws.proofs.LeftOr.{half_next}
use Rattle.search_laws.proofs.Falls.{book_of, book_good, at_index, reads_unordered, falls_made}
use Rattle.search_laws.proofs.FallsLeft.{U, A, O, G, reads_others, before, grown, parts, impl_form, swap_falls, swap_two_falls}

module _ {m : Limits} (taken : List (List ℕ)) {x : Lent} {s : State} {q : Sequent} (rep : Rep m x s q) (some : 0 < q.ordered) where
  -- an index at the fill
  at_fill : {B : Book} {n : ℕ} {P : Form} → At B n P → {i : ℕ} → n ≡ i → At B i P
  at_fill {B} {n} {P} a e = subst (λ (k : ℕ). At B k P) e a

  module _ (e : kind_at x.words (top_formula x q) ≡ 5) {a b : ℕ} (ea : a ≡ fresh taken s.indices) (eb : b ≡ fresh taken (a + 1)) where
    -- (A∧B)→C and A→(B→C)
    pub left_curry_falls : {x1 : Lent} {s1 : State} {q1 : Sequent} {u : ℕ} {ns : List Node} (k : kind_at x.words (from_of x q) ≡ 3) →
        Made m x s q u (curry_words taken rep some e ea eb k) ns (curry_next taken rep some e ea eb k) x1 s1 q1 →
        weigh M.by_left x1.words s1.formulas x1.records q1 < weigh M.by_left x.words s.formulas x.records q
    unfolding shape_of tree_of form
    left_curry_falls k mk =
        let B : Book = book_of x s in
        let c = curry_parts taken rep some e ea eb k in
        let d = ends_in taken rep some e in
        let P : Form = form B (first_of x q) in
        let R : Form = form B (second_of x q) in
        let C : Form = form B (to_of x q) in
        let f : A taken rep some ≡ imp (and P R) C =
        impl_form taken rep some e ∙ ap (λ (X : Form). imp X C) (parts taken rep some d.0 k) in
        let one = imp_new B (second_of x q) (to_of x q) (book_good rep) (at_index rep c.1) (at_index rep d.1) in
        let two = imp_two B (second_of x q) (to_of x q) (first_of x q) s.formulas (book_good rep) (at_index rep c.1)
        (at_index rep d.1)
        (at_ext (ext_by B (is_imp (second_of x q) (to_of x q) ∷ [])) (at_index rep c.0))
        (at_fill one.1 (book_length x.words s.formulas)) in
        swap_falls taken rep some (s.formulas + 1) (6 + s.terms) mk
        (at_fill two.2 (omega (arith, book_length x.words s.formulas))) (rw f (and_imp P R C))

    -- (A∨B)→C, and A→C and B→C
    pub left_sides_falls : {x1 : Lent} {s1 : State} {q1 : Sequent} {u : ℕ} {ns : List Node} (k : kind_at x.words (from_of x q) ≡ 4) →
        Made m x s q u (sides_words taken rep some e ea eb k) ns (sides_next taken rep some e ea eb k) x1 s1 q1 →
        weigh M.by_left x1.words s1.formulas x1.records q1 < weigh M.by_left x.words s.formulas x.records q
    unfolding shape_of tree_of form
    left_sides_falls k mk =
        let B : Book = book_of x s in
        let c = sides_parts taken rep some e ea eb k in
        let d = ends_in taken rep some e in
        let P : Form = form B (first_of x q) in
        let R : Form = form B (second_of x q) in
        let C : Form = form B (to_of x q) in
        let f : A taken rep some ≡ imp (or P R) C =
        impl_form taken rep some e ∙ ap (λ (X : Form). imp X C) (parts taken rep some d.0 k) in
        let more = ext_by B (is_imp (first_of x q) (to_of x q) ∷ []) in
        let two = imp_two B (first_of x q) (to_of x q) (second_of x q) (to_of x q) (book_good rep) (at_index rep c.0) (at_index rep d.1)
        (at_ext more (at_index rep c.1)) (at_ext more (at_index rep d.1)) in
        swap_two_falls taken rep some (s.formulas + 1) (9 + s.terms) s.formulas (4 + s.terms) mk
        (at_fill two.2 (omega (arith, book_length x.words s.formulas))) (at_fill two.1 (book_length x.words s.formulas))
        (rw f (or_imp_right P R C)) (rw f (or_imp_left P R C))

  -- a half of an Or in its place, a level up
  pub half_falls : {x1 : Lent} {s1 : State} {q1 : Sequent} {u g : ℕ} {ns : List Node} (eg : g ≡ fresh taken s.indices) (a : ℕ) →
      a < s.formulas → weight (form (book_of x s) a) < weight (A taken rep some) →
      Made m x s q u [] ns (half_next taken rep some eg a) x1 s1 q1 →
      weigh M.by_left x1.words s1.formulas x1.records q1 < weigh M.by_left x.words s.formulas x.records q
  unfolding or_next entry
  half_falls eg a h l mk = falls_made M.by_left M.by_left mk (before taken rep some) (record {
    unordered = reads_ext (grown taken rep some []) (reads_unordered rep);
    ordered = and_more (at_ext (grown taken rep some []) (at_index rep h))
        (reads_ext (grown taken rep some []) (reads_others taken rep some));
    goal = at_ext (grown taken rep some []) (before taken rep some).goal;
  }) (swap_one (U taken rep some) (O taken rep some) (G taken rep some) (A taken rep some) (form (book_of x s) a) l)

  -- both halves of an Or are lighter
  pub halves_lighter : kind_at x.words (top_formula x q) ≡ 4 →
      (weight (form (book_of x s) (left_at x.words (top_formula x q))) < weight (A taken rep some)) ×
      (weight (form (book_of x s) (right_at x.words (top_formula x q))) < weight (A taken rep some))
  unfolding shape_of tree_of form
  halves_lighter e =
      let P : Form = form (book_of x s) (left_at x.words (top_formula x q)) in
      let R : Form = form (book_of x s) (right_at x.words (top_formula x q)) in
      let f : A taken rep some ≡ or P R = parts taken rep some (top_inside taken rep some).formula_in e in
      (rw f (or_left P R), rw f (or_right P R))
