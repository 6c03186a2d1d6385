-- The sequent gets smaller in the two premises of a try of rule 4. Assumes nothing.
use Prim.Native.Nat.{ℕ, suc, ◌+◌, ◌<◌}
use mathlib.Core.Path.{◌≡◌, sym, ap, ◌∙◌, subst}
use mathlib.Core.List.{List, [], ◌∷◌, ◌++◌}
use native.Mathlib.Omega.{arith}
use Rattle.theory.specs.Form.{Form, imp, form, shape_of, Book, tree_of}
use Rattle.theory.specs.Term.{Node}
use Rattle.theory.specs.Names.{fresh}
use Rattle.theory.specs.Meter as M
use Rattle.theory.specs.Premise.{forms_of}
use Rattle.theory.specs.Search.{entry}
use Rattle.theory.proofs.Weight.{imp_imp, imp_imp_goal, imp_right}
use Rattle.theory.proofs.Size.{take_first, take_second}
use Rattle.theory.proofs.Forms.{At, at_ext, ext_by, imp_new}
use Rattle.theory.proofs.Context.{Reads, no_more, and_more, reads_ext, reads_append}
use Rattle.meter.specs.declared.State.{State}
use Rattle.meter.specs.declared.Sequent.{Sequent}
use Rattle.meter.specs.declared.Limits.{Limits}
use Rattle.search_laws.specs.Reading.{Lent, kind_at, left_at, entry_at, seq_of}
use Rattle.search_laws.specs.Keeping.{Rep}
use Rattle.search_laws.specs.Meaning.{weigh}
use Rattle.search_laws.specs.Making.{Made}
use Rattle.search_laws.specs.Trying.{record_at, records_before, records_from, second_next}
use Rattle.search_laws.specs.Records.{formula_of, premise_of, middle_of, end_of}
use Rattle.search_laws.proofs.Charge.{book_length}
use Rattle.search_laws.proofs.Look.{shape_as}
use Rattle.search_laws.proofs.Four.{parted, record_in, nothing_left, impl_in, nested_in}
use Rattle.search_laws.proofs.Four.{first_next, first_words}
use Rattle.search_laws.proofs.Falls.{ReadsAs, book_of, book_good, at_index, form_by, reads_before, reads_from, falls_made}

module _ {m : Limits} (taken : List (List ℕ)) {x : Lent} {s : State} {q : Sequent} (rep : Rep m x s q) (none_left : q.ordered ≡ 0) {i : ℕ}
    (here : i < q.unordered) (e : kind_at x.words (formula_of x q i) ≡ 5) where
  -- the formulas before the record, its own, those after it, and the goal
  abbrev Y : List Form
  Y = forms_of (book_of x s) (records_before x q i)

  abbrev X : Form
  X = form (book_of x s) (formula_of x q i)

  abbrev Z : List Form
  Z = forms_of (book_of x s) (records_from x q (suc i))

  abbrev G : Form
  G = form (book_of x s) q.goal

  at_here : At (book_of x s) (record_at x q i).formula X
  unfolding entry_at
  at_here = at_index rep (record_in taken rep none_left here).formula_in

  before : ReadsAs (book_of x s) (seq_of x.records q) (Y ++ (X ∷ Z)) [] G
  before = record {
    unordered = subst (λ (es : List M.Entry). Reads (book_of x s) es (Y ++ (X ∷ Z))) (sym (parted x q i here))
        (reads_append (reads_before rep i (omega arith)) (and_more at_here (reads_from rep (suc i) here)));
    ordered = subst (λ (es : List M.Entry). Reads (book_of x s) es []) (sym (nothing_left taken rep none_left here)) no_more;
    goal = at_index rep rep.seats.goal_in;
  }

  -- the other records on a longer book
  beside : (ws : Book) → Reads (book_of x s ++ ws) (records_before x q i ++ records_from x q (suc i)) (Y ++ Z)
  beside ws = reads_ext (ext_by (book_of x s) ws) (reads_append (reads_before rep i (omega arith)) (reads_from rep (suc i) here))

  whole_form : X ≡ imp (form (book_of x s) (premise_of x q i)) (form (book_of x s) (end_of x q i))
  unfolding shape_of tree_of form
  whole_form = form_by rep (record_in taken rep none_left here).formula_in (shape_as x.words (formula_of x q i) e)

  pub second_falls : {x1 : Lent} {s1 : State} {q1 : Sequent} {u : ℕ} {ns : List Node} (n : ℕ) →
      Made m x s q u [] ns (second_next x q i (end_of x q i) n) x1 s1 q1 →
      weigh M.by_left x1.words s1.formulas x1.records q1 < weigh M.by_search x.words s.formulas x.records q
  unfolding second_next entry
  second_falls n mk =
      let C : Form = form (book_of x s) (end_of x q i) in
      falls_made M.by_search M.by_left mk before (record {
        unordered = beside [];
        ordered = and_more (at_ext (ext_by (book_of x s) []) (at_index rep (impl_in taken rep none_left here e).1)) no_more;
        goal = at_ext (ext_by (book_of x s) []) before.goal;
      }) (take_second Y Z X G C (rw whole_form (imp_right (form (book_of x s) (premise_of x q i)) C)))

  module _ (k : kind_at x.words (premise_of x q i) ≡ 5) {a b : ℕ} (ea : a ≡ fresh taken s.indices) (eb : b ≡ fresh taken (a + 1)) where
    pub first_falls : {x1 : Lent} {s1 : State} {q1 : Sequent} {u : ℕ} {ns : List Node} →
        Made m x s q u (first_words taken rep none_left here e k ea eb) ns (first_next taken rep none_left here e k ea eb) x1 s1 q1 →
        weigh M.by_right x1.words s1.formulas x1.records q1 < weigh M.by_search x.words s.formulas x.records q
    unfolding entry shape_of tree_of form
    first_falls mk =
        let B : Book = book_of x s in
        let ins = nested_in taken rep none_left here e k in
        let P : Form = form B (left_at x.words (premise_of x q i)) in
        let R : Form = form B (middle_of x q i) in
        let C : Form = form B (end_of x q i) in
        let p : form B (premise_of x q i) ≡ imp P R = form_by rep ins.0 (shape_as x.words (premise_of x q i) k) in
        let f : X ≡ imp (imp P R) C = whole_form ∙ ap (λ (V1 : Form). imp V1 C) p in
        let new = imp_new B (middle_of x q i) (end_of x q i) (book_good rep) (at_index rep ins.1) (at_index rep ins.2) in
        falls_made M.by_search M.by_right mk before (record {
          unordered = beside (first_words taken rep none_left here e k ea eb);
          ordered = and_more (subst (λ (n : ℕ). At (B ++ first_words taken rep none_left here e k ea eb) n (imp R C))
              (book_length x.words s.formulas) new.1) no_more;
          goal = at_ext (ext_by B (first_words taken rep none_left here e k ea eb)) (at_index rep ins.0);
        }) (take_first Y Z X G (imp R C) (form B (premise_of x q i)) (rw f (imp_imp P R C)) (rw (f, p) (imp_imp_goal P R C)))
