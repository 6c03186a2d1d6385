-- The sequent gets smaller on each way through left. Assumes nothing.
use Prim.Native.Nat.{ℕ, ◌+◌, ◌-◌, ◌<◌}
use mathlib.Core.Path.{◌≡◌, sym, subst}
use mathlib.Core.List.{List, [], ◌∷◌, ◌++◌}
use native.Mathlib.Omega.{arith}
use Rattle.theory.specs.Form.{Form, and, imp, form, shape_of, Book, Ext, trees, tree_of}
use Rattle.theory.specs.Term.{Node}
use Rattle.theory.specs.Weight.{weight}
use Rattle.theory.specs.Meter as M
use Rattle.theory.specs.Premise.{forms_of}
use Rattle.theory.specs.Search.{entry, go_on}
use Rattle.theory.proofs.Weight.{and_left, and_right, imp_right}
use Rattle.theory.proofs.Size.{drop_one, settle_one, swap_one, swap_two}
use Rattle.theory.proofs.Forms.{At, at_ext, ext_by}
use Rattle.theory.proofs.Context.{Reads, and_more, reads_ext, reads_snoc}
use Rattle.meter.specs.declared.State.{State}
use Rattle.meter.specs.declared.Sequent.{Sequent}
use Rattle.meter.specs.declared.Limits.{Limits}
use Rattle.search_laws.specs.Reading.{Lent, kind_at, left_at, right_at, entry_at, seq_of}
use Rattle.search_laws.specs.Keeping.{Rep}
use Rattle.search_laws.specs.Meaning.{weigh}
use Rattle.search_laws.specs.Making.{Made, Moved}
use Rattle.search_laws.specs.Records.{top_formula, top_entry, others, from_of, to_of}
use Rattle.search_laws.proofs.Seat.{ordered_pop}
use Rattle.search_laws.proofs.Look.{shape_as}
use Rattle.search_laws.proofs.Left.{top_inside, and_parts, and_next}
use Rattle.search_laws.proofs.LeftImpl.{next_by, ends_in, true_next}
use Rattle.search_laws.proofs.Falls.{ReadsAs, book_of, at_index, form_by, reads_unordered, reads_ordered, falls_made}
use Rattle.search_laws.proofs.Falls.{falls_moved}

module _ {m : Limits} (taken : List (List ℕ)) {x : Lent} {s : State} {q : Sequent} (rep : Rep m x s q) (some : 0 < q.ordered) where
  -- the formulas of the unordered context, of the last record, of the others, and the goal
  abbrev pub U : List Form
  U = forms_of (book_of x s) (seq_of x.records q).unordered

  abbrev pub A : Form
  A = form (book_of x s) (top_formula x q)

  abbrev pub O : List Form
  O = forms_of (book_of x s) (others x q)

  abbrev pub G : Form
  G = form (book_of x s) q.goal

  pub at_top : At (book_of x s) (top_entry x q).formula A
  unfolding entry_at
  at_top = at_index rep (top_inside taken rep some).formula_in

  pub reads_others : Reads (book_of x s) (others x q) O
  reads_others = reads_ordered rep (q.ordered - 1) (omega arith)

  pub before : ReadsAs (book_of x s) (seq_of x.records q) U (A ∷ O) G
  before = record {
    unordered = reads_unordered rep;
    ordered = subst (λ (es : List M.Entry). Reads (book_of x s) es (A ∷ O))
        (sym (ordered_pop x.records q some (omega (arith, rep.seats.fits)))) (and_more at_top reads_others);
    goal = at_index rep rep.seats.goal_in;
  }

  -- dropped
  pub drop_falls : {x1 : Lent} {q1 : Sequent} →
      Moved m x s q (go_on (seq_of x.records q) (seq_of x.records q).unordered (others x q)) x1 q1 →
      weigh M.by_left x1.words s.formulas x1.records q1 < weigh M.by_left x.words s.formulas x.records q
  unfolding go_on
  drop_falls mv = falls_moved M.by_left M.by_left mv before
      (record { unordered = reads_unordered rep; ordered = reads_others; goal = before.goal }) (drop_one U O G A)

  -- moved to the unordered context
  pub settle_falls : {x1 : Lent} {q1 : Sequent} →
      Moved m x s q (go_on (seq_of x.records q) ((seq_of x.records q).unordered ++ (top_entry x q ∷ [])) (others x q)) x1 q1 →
      weigh M.by_left x1.words s.formulas x1.records q1 < weigh M.by_left x.words s.formulas x.records q
  unfolding go_on
  settle_falls mv = falls_moved M.by_left M.by_left mv before
      (record { unordered = reads_snoc (top_entry x q) (reads_unordered rep) at_top; ordered = reads_others; goal = before.goal })
      (settle_one U O G A)

  pub grown : (ws : Book) → Ext (book_of x s) (book_of x s ++ ws)
  grown ws = ext_by (book_of x s) ws

  -- records of lighter formulas in its place, on a book that grew by ws
  module _ {x1 : Lent} {s1 : State} {q1 : Sequent} {u : ℕ} {ws : Book} {ns : List Node} where
    pub swap_falls : (a t : ℕ) {P : Form} → Made m x s q u ws ns (next_by x q (entry a t ∷ [])) x1 s1 q1 → At (book_of x s ++ ws) a P →
        weight P < weight A →
        weigh M.by_left x1.words s1.formulas x1.records q1 < weigh M.by_left x.words s.formulas x.records q
    unfolding go_on entry
    swap_falls a t {P} mk p h = falls_made M.by_left M.by_left mk before (record {
      unordered = reads_ext (grown ws) (reads_unordered rep);
      ordered = and_more p (reads_ext (grown ws) reads_others);
      goal = at_ext (grown ws) before.goal;
    }) (swap_one U O G A P h)

    pub swap_two_falls : (a t b v : ℕ) {P R : Form} → Made m x s q u ws ns (next_by x q (entry a t ∷ entry b v ∷ [])) x1 s1 q1 →
        At (book_of x s ++ ws) a P → At (book_of x s ++ ws) b R → weight P < weight A → weight R < weight A →
        weigh M.by_left x1.words s1.formulas x1.records q1 < weigh M.by_left x.words s.formulas x.records q
    unfolding go_on entry
    swap_two_falls a t b v {P} {R} mk p r h k = falls_made M.by_left M.by_left mk before (record {
      unordered = reads_ext (grown ws) (reads_unordered rep);
      ordered = and_more p (and_more r (reads_ext (grown ws) reads_others));
      goal = at_ext (grown ws) before.goal;
    }) (swap_two U O G A P R h k)

  -- the formula of word i, when its kind is that of a connective
  pub parts : {i k : ℕ} → i < s.formulas → kind_at x.words i ≡ k →
      form (book_of x s) i ≡ tree_of (trees (book_of x s)) (shape_of k (left_at x.words i) (right_at x.words i))
  parts {i} h e = form_by rep h (shape_as x.words i e)

  pub left_and_falls : {x1 : Lent} {s1 : State} {q1 : Sequent} {u : ℕ} {ns : List Node} (e : kind_at x.words (top_formula x q) ≡ 3) →
      Made m x s q u [] ns (and_next taken rep some e) x1 s1 q1 →
      weigh M.by_left x1.words s1.formulas x1.records q1 < weigh M.by_left x.words s.formulas x.records q
  unfolding shape_of tree_of form
  left_and_falls e mk =
      let l : ℕ = left_at x.words (top_formula x q) in
      let r : ℕ = right_at x.words (top_formula x q) in
      let c = and_parts taken rep some e in
      let f : A ≡ and (form (book_of x s) l) (form (book_of x s) r) = parts (top_inside taken rep some).formula_in e in
      swap_two_falls r (s.terms + 1) l s.terms mk (at_ext (grown []) (at_index rep c.1)) (at_ext (grown []) (at_index rep c.0))
      (rw f (and_right (form (book_of x s) l) (form (book_of x s) r))) (rw f (and_left (form (book_of x s) l) (form (book_of x s) r)))

  module _ (e : kind_at x.words (top_formula x q) ≡ 5) where
    pub impl_form : A ≡ imp (form (book_of x s) (from_of x q)) (form (book_of x s) (to_of x q))
    unfolding shape_of tree_of form
    impl_form = parts (top_inside taken rep some).formula_in e

    pub left_true_impl_falls : {x1 : Lent} {s1 : State} {q1 : Sequent} {u : ℕ} {ns : List Node} (k : kind_at x.words (from_of x q) ≡ 0) →
        Made m x s q u [] ns (true_next taken rep some e k) x1 s1 q1 →
        weigh M.by_left x1.words s1.formulas x1.records q1 < weigh M.by_left x.words s.formulas x.records q
    left_true_impl_falls k mk =
        swap_falls (to_of x q) (s.terms + 1) mk (at_ext (grown []) (at_index rep (ends_in taken rep some e).1))
        (rw impl_form (imp_right (form (book_of x s) (from_of x q)) (form (book_of x s) (to_of x q))))
