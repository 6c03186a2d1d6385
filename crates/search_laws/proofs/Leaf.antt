-- Leaves by words: the place where the code finds a leaf is where the search as written finds it, and so a record fires. Assumes nothing.
use Prim.Native.Nat.{ℕ, zero, suc, ◌+◌, ◌*◌, ◌≤◌, ◌<◌}
use mathlib.Core.Path.{◌≡◌, refl, sym, ap, ◌∙◌}
use mathlib.Core.Bool.{Bool, true, false, ◌&&◌}
use mathlib.Core.Option.{Option, none, some}
use mathlib.Core.List.{List, ◌∷◌}
use native.Mathlib.Omega.{arith}
use native.Mathlib.Nat.{zero-add}
use lib.ListN.{get_or, take}
use lib.Dec.{T, eqb, ltb}
use borrow.Author.Tests.{lt-ltb, le-ltb}
use Rattle.theory.specs.Form.{Book, Shape, is_top, is_bot, is_leaf, is_and, is_or, is_imp, shape, look, kind_of, left_of, right_of}
use Rattle.theory.specs.Form.{good_word}
use Rattle.theory.specs.Meter.{Entry}
use Rattle.theory.specs.Search.{is_leaf?, first_leaf}
use Rattle.theory.proofs.Falling.{leaf_over, leaf_here}
use Rattle.formula.specs.Leaves.{leaf_kind, equal_leaves}
use Rattle.formula.proofs.LeafWords.{leaf_kinds, equal_leaves_are}
use Rattle.context.specs.Moves.{stretch}
use Rattle.context.specs.Area.{Rec, formula_at, term_at}
use Rattle.search_laws.specs.Tables.{upto, from}
use Rattle.search_laws.specs.Reading.{shape_at, book, entry_at, unordered_in}
use Rattle.search_laws.specs.Keeping.{Laid}
use Rattle.search_laws.specs.Leaves.{word_in, leaf_from, leaf_place}
use Rattle.search_laws.proofs.Tables.{upto_split}
use Rattle.search_laws.proofs.Look.{book_at}

-- the term of the leaf of this shape among the unordered records, if it is one and stands there
unfoldable pub leaf_of : Book → List Entry → Shape → Option ℕ
leaf_of ws us is_top = none
leaf_of ws us is_bot = none
leaf_of ws us (is_leaf k y) = first_leaf ws k y us
leaf_of ws us (is_and l r) = none
leaf_of ws us (is_or l r) = none
leaf_of ws us (is_imp l r) = none

-- the term of the record at place r, if that is one of n
unfoldable pub term_in : List Rec → ℕ → ℕ → ℕ → Option ℕ
term_in w l n r = elim (ltb r n) [ true ↦ some (term_at w (l * stretch + r)) | false ↦ none ]

pub term_in_lem : (w : List Rec) (l n r : ℕ) → r < n → term_in w l n r ≡ some (term_at w (l * stretch + r))
unfolding term_in
term_in_lem w l n r h = ap (λ (b : Bool). elim b [ true ↦ some (term_at w (l * stretch + r)) | false ↦ none ]) (lt-ltb r n h)

pub term_out : (w : List Rec) (l n r : ℕ) → n ≤ r → term_in w l n r ≡ none
unfolding term_in
term_out w l n r h = ap (λ (b : Bool). elim b [ true ↦ some (term_at w (l * stretch + r)) | false ↦ none ]) (le-ltb r n h)

-- a word of another kind is no leaf's
never_equal : (v w : ℕ) → leaf_kind (kind_of v) ≡ false → equal_leaves v w ≡ false
unfolding equal_leaves
never_equal v w e = ap (λ (b : Bool). b && eqb v w) e

-- a word that is no leaf's is found nowhere
none_from : (f : List ℕ) (w : List Rec) (l v i c : ℕ) → leaf_kind (kind_of v) ≡ false → leaf_from f w l v i c ≡ i + c
unfolding leaf_from
none_from f w l v i zero e = omega arith
none_from f w l v i (suc c) e =
    ap (λ (t : Bool). elim t [ true ↦ i | false ↦ leaf_from f w l v (suc i) c ]) (never_equal v (word_in f w l i) e)
    ∙ none_from f w l v (suc i) c e
    ∙ (let z : suc i + c ≡ i + suc c = omega arith in z)

pub other_place : (f : List ℕ) (w : List Rec) (l n v : ℕ) → leaf_kind (kind_of v) ≡ false → leaf_place f w l n v ≡ n
unfolding leaf_place
other_place f w l n v e = none_from f w l v 0 n e ∙ zero-add n

module _ (f : List ℕ) (nf : ℕ) (laid : Laid f nf) (w : List Rec) (l : ℕ) where
  at : ℕ → Entry
  at i = entry_at w (l * stretch + i)

  -- a leaf's word among k records from i on
  module _ (b : List ℕ) (v k y : ℕ) (good : T (good_word b v)) (leaf : shape v ≡ is_leaf k y) where
    found_from : (i c : ℕ) → ((j : ℕ) → i ≤ j → j < i + c → formula_at w (l * stretch + j) < nf) →
        first_leaf (book f nf) k y (from at i c) ≡ term_in w l (i + c) (leaf_from f w l v i c)
    unfolding from first_leaf leaf_from at entry_at shape_at
    found_from i zero inside = sym (term_out w l (i + 0) i (omega arith))
    found_from i (suc c) inside =
        go (equal_leaves v (word_in f w l i)) refl (found_from (suc i) c (λ j h u. inside j (omega arith) (omega arith)))
      where
        a : ℕ
        a = formula_at w (l * stretch + i)

        tested : equal_leaves v (word_in f w l i) ≡ is_leaf? k y (look (book f nf) (at i).formula)
        tested =
            equal_leaves_are b (take a f) v (get_or f a 0) good (laid a (inside i (omega arith) (omega arith))) k y leaf
            ∙ ap (is_leaf? k y) (sym (book_at f nf a (inside i (omega arith) (omega arith))))

        go : (e : Bool) → equal_leaves v (word_in f w l i) ≡ e →
            first_leaf (book f nf) k y (from at (suc i) c) ≡ term_in w l (suc i + c) (leaf_from f w l v (suc i) c) →
            first_leaf (book f nf) k y (at i ∷ from at (suc i) c) ≡
            term_in w l (i + suc c) (elim e [ true ↦ i | false ↦ leaf_from f w l v (suc i) c ])
        go true p ih =
            leaf_here (book f nf) k y (at i) (from at (suc i) c) (sym tested ∙ p)
            ∙ sym (term_in_lem w l (i + suc c) i (omega arith))
        go false p ih =
            leaf_over (book f nf) k y (at i) (from at (suc i) c) (sym tested ∙ p)
            ∙ ih
            ∙ ap (λ (n : ℕ). term_in w l n (leaf_from f w l v (suc i) c)) (let e : suc i + c ≡ i + suc c = omega arith in e)

  module _ (n : ℕ) (inside : (i : ℕ) → i < n → formula_at w (l * stretch + i) < nf) where
    -- the leaf of a word is found where the search as written finds it
    pub leaf_place_lem : (b : List ℕ) (v : ℕ) → T (good_word b v) →
        leaf_of (book f nf) (unordered_in w l n) (shape v) ≡ term_in w l n (leaf_place f w l n v)
    unfolding leaf_of leaf_place shape unordered_in upto at
    leaf_place_lem b v good = go (shape v) refl
      where
        missing : (s : Shape) → shape v ≡ s → ((k y : ℕ) → s ≡ is_leaf k y → ⊥) → none ≡ term_in w l n (leaf_place f w l n v)
        missing s e no_leaf = sym (
            ap (term_in w l n) (other_place f w l n v (kind (leaf_kind (kind_of v)) refl))
            ∙ term_out w l n n (omega arith)
            )
          where
            kind : (t : Bool) → leaf_kind (kind_of v) ≡ t → leaf_kind (kind_of v) ≡ false
            kind true p = absurd (no_leaf (kind_of v) (left_of v) (sym e ∙ leaf_kinds (kind_of v) p (left_of v) (right_of v)))
            kind false p = p

        listed : unordered_in w l n ≡ from at 0 n
        listed = ap (upto at) (sym (zero-add n)) ∙ upto_split at 0 n

        go : (s : Shape) → shape v ≡ s → leaf_of (book f nf) (unordered_in w l n) s ≡ term_in w l n (leaf_place f w l n v)
        go is_top e = missing is_top e (λ k y z. let q : ◌≡◌ {A = ℕ} 0 1 = cc in omega arith)
        go is_bot e = missing is_bot e (λ k y z. let q : ◌≡◌ {A = ℕ} 0 1 = cc in omega arith)
        go (is_leaf k y) e =
            ap (first_leaf (book f nf) k y) listed
            ∙ found_from b v k y good e 0 n (λ j h u. inside j (omega arith))
            ∙ ap (λ (c : ℕ). term_in w l c (leaf_from f w l v 0 n)) (zero-add n)
        go (is_and a c) e = missing (is_and a c) e (λ k y z. let q : ◌≡◌ {A = ℕ} 0 1 = cc in omega arith)
        go (is_or a c) e = missing (is_or a c) e (λ k y z. let q : ◌≡◌ {A = ℕ} 0 1 = cc in omega arith)
        go (is_imp a c) e = missing (is_imp a c) e (λ k y z. let q : ◌≡◌ {A = ℕ} 0 1 = cc in omega arith)
