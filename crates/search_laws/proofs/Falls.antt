-- The measure of the cycle: the size of the sequent that the slices hold is that of a question on formulas, so it falls with each premise.
-- Assumes nothing.
use Prim.Native.Nat.{ℕ, zero, suc, ◌+◌, ◌-◌, ◌<◌, ◌≤◌}
use mathlib.Core.Path.{◌≡◌, refl, sym, ap, ap₂, ◌∙◌, subst}
use mathlib.Core.List.{List, [], ◌∷◌, ◌++◌}
use native.Mathlib.Omega.{arith}
use lib.ListN.{length}
use Rattle.theory.specs.Form.{Form, form, Shape, Book, Below, Good, Ext, trees, tree_of}
use Rattle.theory.specs.Term.{Node}
use Rattle.theory.specs.Meter as M
use Rattle.theory.specs.Premise.{question, forms_of, asked, EachIn, size_of}
use Rattle.theory.proofs.Forms.{good_more, form_at, At, at_form, at_ext}
use Rattle.theory.proofs.Context.{Reads, no_more, and_more, reads_ext}
use Rattle.meter.specs.declared.State.{State}
use Rattle.meter.specs.declared.Sequent.{Sequent}
use Rattle.meter.specs.declared.Limits.{Limits}
use Rattle.context.specs.Area.{Rec}
use Rattle.search_laws.specs.Tables.{upto, downto, from}
use Rattle.search_laws.specs.Reading.{Lent, shape_at, book, entry_at, unordered_in, ordered_in, seq_of}
use Rattle.search_laws.specs.Keeping.{Same, Rep}
use Rattle.search_laws.specs.Meaning.{weigh}
use Rattle.search_laws.specs.Trying.{records_before, records_from}
use Rattle.search_laws.specs.Making.{Made, Moved, Back}
use Rattle.search_laws.proofs.Tables.{upto_split}
use Rattle.search_laws.proofs.Same.{book_same}
use Rattle.search_laws.proofs.Charge.{book_length}
use Rattle.search_laws.proofs.Look.{book_at, children}

module _ (B : Book) where
  each_append : (es fs : List M.Entry) → EachIn B es → EachIn B fs → EachIn B (es ++ fs)
  each_append [] fs a b = b
  each_append (e ∷ es) fs a b = (a.0, each_append es fs a.1 b)

  each_upto : (g : ℕ → M.Entry) (n : ℕ) → ((i : ℕ) → i < n → (g i).formula < length B) → EachIn B (upto g n)
  unfolding upto
  each_upto g zero h = tt
  each_upto g (suc n) h = each_append (upto g n) (g n ∷ []) (each_upto g n (λ i k. h i (omega arith))) (h n (omega arith), tt)

  each_downto : (g : ℕ → M.Entry) (n : ℕ) → ((i : ℕ) → i < n → (g i).formula < length B) → EachIn B (downto g n)
  unfolding downto
  each_downto g zero h = tt
  each_downto g (suc n) h = (h n (omega arith), each_downto g n (λ i k. h i (omega arith)))

  each_from : (g : ℕ → M.Entry) (i n : ℕ) → ((k : ℕ) → k < n → (g (i + k)).formula < length B) → EachIn B (from g i n)
  unfolding from
  each_from g i zero h = tt
  each_from g i (suc n) h = (
    subst (λ (j : ℕ). (g j).formula < length B) (let p : i + 0 ≡ i = omega arith in p) (h 0 (omega arith)),
    each_from g (suc i) n (λ k l. subst (λ (j : ℕ). (g j).formula < length B) (let p : i + suc k ≡ suc i + k = omega arith in p)
        (h (suc k) (omega arith))),
  )

  pub reads_each : (es : List M.Entry) → EachIn B es → Reads B es (forms_of B es)
  reads_each [] a = no_more
  reads_each (e ∷ es) a = and_more (at_form B e.formula a.0) (reads_each es a.1)

  reads_forms : {es : List M.Entry} {As : List Form} → Reads B es As → forms_of B es ≡ As
  reads_forms no_more = refl
  reads_forms (and_more a r) = ap₂ (λ (A : Form) (As : List Form). A ∷ As) a.tree (reads_forms r)

upwards : {m : Limits} {x : Lent} {s : State} {q : Sequent} → Rep m x s q → (n : ℕ) → n ≤ s.formulas → Good (book x.words n)
unfolding book upto
upwards rep zero h = tt
upwards {x = x} rep (suc n) h =
    good_more (book x.words n) (shape_at x.words n ∷ []) (upwards rep n (omega arith))
    (subst (λ (k : ℕ). Below k (shape_at x.words n)) (sym (book_length x.words n)) (children rep h refl), tt)

-- each word refers to words before it
pub book_good : {m : Limits} {x : Lent} {s : State} {q : Sequent} → Rep m x s q → Good (book x.words s.formulas)
book_good {m} {x} {s} {q} rep = upwards rep s.formulas (omega arith)

-- the formulas of a sequent that a book reads
pub record ReadsAs (B : Book) (Q : M.Sequent) (U O : List Form) (G : Form) : Type 0 where
  pub unordered : Reads B Q.unordered U
  pub ordered : Reads B Q.ordered O
  pub goal : At B Q.goal G

-- the size of what is read
weigh_is : (j : M.Judgement) (f : List ℕ) (n : ℕ) (w : List Rec) (q : Sequent) {U O : List Form} {G : Form} →
    ReadsAs (book f n) (seq_of w q) U O G → weigh j f n w q ≡ size_of (question j U O G)
unfolding weigh asked
weigh_is j f n w q {U} {O} r =
    ap₂ (λ (U O : List Form). size_of (question j U O (form (book f n) q.goal))) (reads_forms (book f n) r.unordered)
    (reads_forms (book f n) r.ordered)
    ∙ ap (λ (G : Form). size_of (question j U O G)) r.goal.tree

-- a sequent on longer lists
reading_ext : {B B1 : Book} {Q : M.Sequent} {U O : List Form} {G : Form} → Ext B B1 → ReadsAs B Q U O G → ReadsAs B1 Q U O G
reading_ext x r = record { unordered = reads_ext x r.unordered; ordered = reads_ext x r.ordered; goal = at_ext x r.goal }

-- the book that the lists hold
abbrev pub book_of : Lent → State → Book
book_of x s = book x.words s.formulas

module _ {m : Limits} {x : Lent} {s : State} {q : Sequent} (rep : Rep m x s q) where
  inside : {i : ℕ} → i < s.formulas → i < length (book_of x s)
  inside h = omega (arith, book_length x.words s.formulas)

  pub at_index : {i : ℕ} → i < s.formulas → At (book_of x s) i (form (book_of x s) i)
  at_index {i} h = at_form (book_of x s) i (inside h)

  -- the formula of a word by its shape
  pub form_by : {i : ℕ} → i < s.formulas → {sh : Shape} → shape_at x.words i ≡ sh → form (book_of x s) i ≡ tree_of (trees (book_of x s)) sh
  form_by {i} h e =
      form_at (book_of x s) (book_good rep) i (inside h)
      ∙ ap (tree_of (trees (book_of x s))) (book_at x.words s.formulas i h ∙ e)

  pub reads_unordered : Reads (book_of x s) (seq_of x.records q).unordered (forms_of (book_of x s) (seq_of x.records q).unordered)
  unfolding unordered_in entry_at
  reads_unordered = reads_each (book_of x s) _ (each_upto (book_of x s) _ q.unordered
      (λ i h. inside (rep.seats.unordered_inside i h).formula_in))

  -- the unordered records before a place, and from a place on
  pub reads_before : (i : ℕ) → i ≤ q.unordered → Reads (book_of x s) (records_before x q i) (forms_of (book_of x s) (records_before x q i))
  unfolding unordered_in entry_at
  reads_before i l = reads_each (book_of x s) _ (each_upto (book_of x s) _ i
      (λ j h. inside (rep.seats.unordered_inside j (omega arith)).formula_in))

  pub reads_from : (i : ℕ) → i ≤ q.unordered → Reads (book_of x s) (records_from x q i) (forms_of (book_of x s) (records_from x q i))
  unfolding entry_at
  reads_from i l = reads_each (book_of x s) _ (each_from (book_of x s) _ i (q.unordered - i)
      (λ j h. inside (rep.seats.unordered_inside (i + j) (omega arith)).formula_in))

  pub reads_ordered : (k : ℕ) → k ≤ q.ordered →
      Reads (book_of x s) (ordered_in x.records q.level k) (forms_of (book_of x s) (ordered_in x.records q.level k))
  unfolding ordered_in entry_at
  reads_ordered k l = reads_each (book_of x s) _ (each_downto (book_of x s) _ k
      (λ i h. inside (rep.seats.ordered_inside i (omega arith)).formula_in))

  -- the whole sequent
  pub reading : ReadsAs (book_of x s) (seq_of x.records q) (forms_of (book_of x s) (seq_of x.records q).unordered)
      (forms_of (book_of x s) (seq_of x.records q).ordered) (form (book_of x s) q.goal)
  reading = record {
    unordered = reads_unordered;
    ordered = reads_ordered q.ordered (omega arith);
    goal = at_index
        rep.seats.goal_in;
  }

-- after what one charge pays for
pub falls_made : {m : Limits} {x x1 : Lent} {s s1 : State} {q q1 : Sequent} {u : ℕ} {ws : Book} {ns : List Node} {Q : M.Sequent}
    (j j1 : M.Judgement) {U O U1 O1 : List Form} {G G1 : Form} → Made m x s q u ws ns Q x1 s1 q1 →
    ReadsAs (book_of x s) (seq_of x.records q) U O G → ReadsAs (book_of x s ++ ws) Q U1 O1 G1 →
    size_of (question j1 U1 O1 G1) < size_of (question j U O G) →
    weigh j1 x1.words s1.formulas x1.records q1 < weigh j x.words s.formulas x.records q
falls_made {x = x} {x1} {s} {s1} {q} {q1} {ws = ws} j j1 {U1 = U1} {O1} {G1 = G1} mk r r1 h =
    let r2 : ReadsAs (book_of x1 s1) (seq_of x1.records q1) U1 O1 G1 =
    subst (λ (B : Book). ReadsAs B (seq_of x1.records q1) U1 O1 G1) (sym mk.books)
    (subst (λ (R : M.Sequent). ReadsAs (book_of x s ++ ws) R U1 O1 G1) mk.next r1) in
    omega (arith, weigh_is j x.words s.formulas x.records q r, weigh_is j1 x1.words s1.formulas x1.records q1 r2)

-- after a move
pub falls_moved : {m : Limits} {x x1 : Lent} {s : State} {q q1 : Sequent} {Q : M.Sequent} (j j1 : M.Judgement) {U O U1 O1 : List Form}
    {G G1 : Form} → Moved m x s q Q x1 q1 → ReadsAs (book_of x s) (seq_of x.records q) U O G → ReadsAs (book_of x s) Q U1 O1 G1 →
    size_of (question j1 U1 O1 G1) < size_of (question j U O G) →
    weigh j1 x1.words s.formulas x1.records q1 < weigh j x.words s.formulas x.records q
falls_moved {x = x} {x1} {s} {q} {q1} j j1 {U1 = U1} {O1} {G1 = G1} mv r r1 h =
    let r2 : ReadsAs (book_of x1 s) (seq_of x1.records q1) U1 O1 G1 =
    subst (λ (B : Book). ReadsAs B (seq_of x1.records q1) U1 O1 G1) (sym (book_same mv.frame.words))
    (subst (λ (R : M.Sequent). ReadsAs (book_of x s) R U1 O1 G1) mv.next r1) in
    omega (arith, weigh_is j x.words s.formulas x.records q r, weigh_is j1 x1.words s.formulas x1.records q1 r2)

-- words that were left alone below the fill, and a higher fill
book_longer : {f f1 : List ℕ} {n n1 : ℕ} → Same 0 n f f1 → n ≤ n1 → Ext (book f n) (book f1 n1)
unfolding book
book_longer {f} {f1} {n} {n1} e h = record {
  more = from (λ i. shape_at f1 i) n (n1 - n);
  is = ap (upto (λ i. shape_at f1 i)) (let p : n1 ≡ n + (n1 - n) = omega arith in p)
      ∙ upto_split (λ i. shape_at f1 i) n (n1 - n)
      ∙ ap (λ (b : Book). b ++ from (λ i. shape_at f1 i) n (n1 - n)) (book_same e);
}

-- the conclusion weighs the same after its first premise
pub weigh_back : {m : Limits} {x y : Lent} {s s2 : State} {q : Sequent} (j : M.Judgement) → Rep m x s q → Back m x s q s2 y →
    weigh j y.words s2.formulas y.records q ≡ weigh j x.words s.formulas x.records q
weigh_back {m} {x} {y} {s} {s2} {q} j rep back =
    go (reading_ext (book_longer back.frame.words back.formulas_up) (reading rep))
    ∙ sym (weigh_is j x.words s.formulas x.records q (reading rep))
  where
    go : {U O : List Form} {G : Form} → ReadsAs (book_of y s2) (seq_of x.records q) U O G →
        weigh j y.words s2.formulas y.records q ≡ size_of (question j U O G)
    go {U} {O} {G} r = weigh_is j y.words s2.formulas y.records q
        (subst (λ (R : M.Sequent). ReadsAs (book_of y s2) R U O G) (sym back.seq) r)
