-- The sequent gets smaller on each way through right, from left to search, and in the halves of an Or goal. Assumes nothing.
use Prim.Native.Nat.{ℕ, ◌<◌}
use mathlib.Core.Path.{◌≡◌}
use mathlib.Core.List.{List, []}
use Rattle.theory.specs.Form.{Form, and, or, imp, form, shape_of, trees, tree_of}
use Rattle.theory.specs.Term.{Node}
use Rattle.theory.specs.Weight.{weight}
use Rattle.theory.specs.Meter as M
use Rattle.theory.specs.Premise.{forms_of, asked}
use Rattle.theory.specs.Search.{entry, push_up}
use Rattle.theory.proofs.Weight.{and_left, and_right, or_left, or_right, imp_left, imp_right}
use Rattle.theory.proofs.Size.{turn_left, turn_search, goal_push}
use Rattle.theory.proofs.Forms.{at_ext, ext_by}
use Rattle.theory.proofs.Context.{and_more, reads_ext}
use Rattle.meter.specs.declared.State.{State}
use Rattle.meter.specs.declared.Sequent.{Sequent}
use Rattle.meter.specs.declared.Limits.{Limits}
use Rattle.context.specs.Area.{Rec}
use Rattle.search_laws.specs.Reading.{Lent, kind_at, left_at, right_at, book, seq_of}
use Rattle.search_laws.specs.Keeping.{Rep}
use Rattle.search_laws.specs.Meaning.{weigh}
use Rattle.search_laws.specs.Making.{Made}
use Rattle.search_laws.proofs.Look.{shape_as}
use Rattle.search_laws.proofs.RightImpl.{impl_parts, impl_next}
use Rattle.search_laws.proofs.Falls.{book_of, at_index, form_by, reading, falls_made}

-- the same sequent at a lower rank
pub right_to_left : (f : List ℕ) (n : ℕ) (w : List Rec) (q : Sequent) → weigh M.by_left f n w q < weigh M.by_right f n w q
unfolding weigh asked
right_to_left f n w q = turn_left (forms_of (book f n) (seq_of w q).unordered) (forms_of (book f n) (seq_of w q).ordered)
    (form (book f n) q.goal)

pub left_to_search : (f : List ℕ) (n : ℕ) (w : List Rec) (q : Sequent) → weigh M.by_search f n w q < weigh M.by_left f n w q
unfolding weigh asked
left_to_search f n w q = turn_search (forms_of (book f n) (seq_of w q).unordered) (forms_of (book f n) (seq_of w q).ordered)
    (form (book f n) q.goal)

module _ {m : Limits} {x : Lent} {s : State} {q : Sequent} (rep : Rep m x s q) where
  abbrev U : List Form
  U = forms_of (book_of x s) (seq_of x.records q).unordered

  abbrev O : List Form
  O = forms_of (book_of x s) (seq_of x.records q).ordered

  abbrev G : Form
  G = form (book_of x s) q.goal

  -- the goal's formula by its kind
  goal_by : {k : ℕ} → kind_at x.words q.goal ≡ k →
      G ≡ tree_of (trees (book_of x s)) (shape_of k (left_at x.words q.goal) (right_at x.words q.goal))
  goal_by e = form_by rep rep.seats.goal_in (shape_as x.words q.goal e)

  pub and_lighter : kind_at x.words q.goal ≡ 3 →
      (weight (form (book_of x s) (left_at x.words q.goal)) < weight G) ×
      (weight (form (book_of x s) (right_at x.words q.goal)) < weight G)
  unfolding shape_of tree_of form
  and_lighter e =
      let P : Form = form (book_of x s) (left_at x.words q.goal) in
      let R : Form = form (book_of x s) (right_at x.words q.goal) in
      let f : G ≡ and P R = goal_by e in (rw f (and_left P R), rw f (and_right P R))

  pub or_lighter : kind_at x.words q.goal ≡ 4 →
      (weight (form (book_of x s) (left_at x.words q.goal)) < weight G) ×
      (weight (form (book_of x s) (right_at x.words q.goal)) < weight G)
  unfolding shape_of tree_of form
  or_lighter e =
      let P : Form = form (book_of x s) (left_at x.words q.goal) in
      let R : Form = form (book_of x s) (right_at x.words q.goal) in
      let f : G ≡ or P R = goal_by e in (rw f (or_left P R), rw f (or_right P R))

  module _ {x1 : Lent} {s1 : State} {q1 : Sequent} {u : ℕ} {ns : List Node} where
    pub right_impl_falls : (taken : List (List ℕ)) (e : kind_at x.words q.goal ≡ 5) →
        Made m x s q u [] ns (impl_next taken rep e) x1 s1 q1 →
        weigh M.by_right x1.words s1.formulas x1.records q1 < weigh M.by_right x.words s.formulas x.records q
    unfolding push_up entry shape_of tree_of form
    right_impl_falls taken e mk =
        let c = impl_parts taken rep e in
        let P : Form = form (book_of x s) (left_at x.words q.goal) in
        let R : Form = form (book_of x s) (right_at x.words q.goal) in
        let f : G ≡ imp P R = goal_by e in
        let more = ext_by (book_of x s) [] in
        falls_made M.by_right M.by_right mk (reading rep) (record {
          unordered = reads_ext more (reading rep).unordered;
          ordered = and_more (at_ext more (at_index rep c.0)) (reads_ext more (reading rep).ordered);
          goal = at_ext more (at_index rep c.1);
        }) (goal_push U O G P R (rw f (imp_left P R)) (rw f (imp_right P R)))
