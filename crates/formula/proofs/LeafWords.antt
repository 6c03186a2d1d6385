-- "Leaves are equal when their words are": for words that pass 2, equal words are equal kinds and symbols. Assumes nothing.
use Prim.Native.Nat.{ℕ, zero, suc}
use mathlib.Core.Path.{◌≡◌, refl, sym, ap, ◌∙◌, subst}
use mathlib.Core.Bool.{Bool, true, false, ◌||◌}
use mathlib.Core.List.{List}
use native.Mathlib.Omega.{arith}
use lib.ListN.{length}
use lib.Dec.{T, ltb, eqb, eqb→eq}
use borrow.Author.Tests.{eqb-true, eqb-false, eq-eqb}
use Rattle.theory.specs.Form.{Shape, is_top, is_bot, is_leaf, is_and, is_or, is_imp, kind_of, left_of, right_of, shape_of, shape, word}
use Rattle.theory.specs.Form.{good_fields, laid_out, good_word}
use Rattle.theory.specs.WellFormed.{LeafKind, atom, for_all, exists}
use Rattle.theory.specs.Search.{is_leaf?}
use Rattle.theory.proofs.Tests.{and_left, and_right}
use Rattle.theory.proofs.Words.{word_laid, word_back}
use Rattle.formula.specs.Leaves.{leaf_kind, equal_leaves}

-- the kinds one by one
leaf_of_fields : (i k l r a y : ℕ) → T (good_fields i k l r) → shape_of k l r ≡ is_leaf a y → leaf_kind k ≡ true
unfolding good_fields shape_of leaf_kind
leaf_of_fields i zero l r a y t e = absurd (let z : ◌≡◌ {A = ℕ} 0 1 = cc in omega arith)
leaf_of_fields i (suc zero) l r a y t e = absurd (let z : ◌≡◌ {A = ℕ} 0 1 = cc in omega arith)
leaf_of_fields i (suc (suc zero)) l r a y t e = refl
leaf_of_fields i (suc (suc (suc zero))) l r a y t e = absurd (let z : ◌≡◌ {A = ℕ} 0 1 = cc in omega arith)
leaf_of_fields i (suc (suc (suc (suc zero)))) l r a y t e = absurd (let z : ◌≡◌ {A = ℕ} 0 1 = cc in omega arith)
leaf_of_fields i (suc (suc (suc (suc (suc zero))))) l r a y t e = absurd (let z : ◌≡◌ {A = ℕ} 0 1 = cc in omega arith)
leaf_of_fields i (suc (suc (suc (suc (suc (suc zero)))))) l r a y t e = refl
leaf_of_fields i (suc (suc (suc (suc (suc (suc (suc zero))))))) l r a y t e = refl
leaf_of_fields i (suc (suc (suc (suc (suc (suc (suc (suc k)))))))) l r a y t e = absurd t

-- the test of a kind, and the shape of a word of such a kind
pub is_leaf_kind : (k : ℕ) → leaf_kind k ≡ true → LeafKind k
unfolding leaf_kind
is_leaf_kind k e = go (eqb k 2) refl (eqb k 6) refl (eqb k 7) refl e
  where
    go : (a : Bool) → eqb k 2 ≡ a → (b : Bool) → eqb k 6 ≡ b → (c : Bool) → eqb k 7 ≡ c → a || (b || c) ≡ true → LeafKind k
    go true p b q c s e = subst LeafKind (sym (eqb-true k 2 p)) atom
    go false p true q c s e = subst LeafKind (sym (eqb-true k 6 q)) for_all
    go false p false q true s e = subst LeafKind (sym (eqb-true k 7 s)) exists
    go false p false q false s e = absurd (subst T (sym e) tt)

leaf_shape : {k : ℕ} → LeafKind k → (l r : ℕ) → shape_of k l r ≡ is_leaf k l
unfolding shape_of
leaf_shape atom l r = refl
leaf_shape for_all l r = refl
leaf_shape exists l r = refl

pub leaf_kinds : (k : ℕ) → leaf_kind k ≡ true → (l r : ℕ) → shape_of k l r ≡ is_leaf k l
leaf_kinds k e l r = leaf_shape (is_leaf_kind k e) l r

-- a word that is laid out and whose shape is a leaf is of a leaf's kind
pub leaf_of_laid : (i w a y : ℕ) → T (laid_out i w) → shape w ≡ is_leaf a y → leaf_kind (kind_of w) ≡ true
unfolding laid_out shape
leaf_of_laid i w a y t e = leaf_of_fields i (kind_of w) (left_of w) (right_of w) a y (and_right (ltb w 4294967296) _ t) e

-- and so is a good word
pub leaf_of_word : (before : List ℕ) (w a y : ℕ) → T (good_word before w) → shape w ≡ is_leaf a y → leaf_kind (kind_of w) ≡ true
leaf_of_word before w a y t e = leaf_of_laid (length before) w a y (word_laid before w t) e

-- what the search's test for a leaf means
is_that_leaf : (k y : ℕ) (s : Shape) → T (is_leaf? k y s) → s ≡ is_leaf k y
unfolding is_leaf?
is_that_leaf k y is_top t = absurd t
is_that_leaf k y is_bot t = absurd t
is_that_leaf k y (is_leaf k' y') t =
    let p : k ≡ k' = eqb→eq k k' (and_left (eqb k k') (eqb y y') t) in
    let q : y ≡ y' = eqb→eq y y' (and_right (eqb k k') (eqb y y') t) in cc
is_that_leaf k y (is_and l r) t = absurd t
is_that_leaf k y (is_or l r) t = absurd t
is_that_leaf k y (is_imp l r) t = absurd t

that_leaf_is : (k y : ℕ) → is_leaf? k y (is_leaf k y) ≡ true
unfolding is_leaf?
that_leaf_is k y = rw (eq-eqb k k refl, eq-eqb y y refl)

module _ (bv bw : List ℕ) (v w : ℕ) (gv : T (good_word bv v)) (gw : T (good_word bw w)) where
  -- words are read off their shapes, so unequal words have unequal shapes
  pub equal_leaves_are : (k y : ℕ) → shape v ≡ is_leaf k y → equal_leaves v w ≡ is_leaf? k y (shape w)
  unfolding equal_leaves
  equal_leaves_are k y e = rw (leaf_of_word bv v k y gv e) (go (eqb v w) (is_leaf? k y (shape w)) refl refl)
    where
      go : (a b : Bool) → eqb v w ≡ a → is_leaf? k y (shape w) ≡ b → a ≡ b
      go true true p q = refl
      go false false p q = refl
      go true false p q = sym (that_leaf_is k y) ∙ ap (is_leaf? k y) (sym e ∙ ap shape (eqb-true v w p)) ∙ q
      go false true p q =
          let s : shape w ≡ is_leaf k y = is_that_leaf k y (shape w) (subst T (sym q) tt) in
          absurd (eqb-false v w p (sym (word_back bv v gv) ∙ ap word (e ∙ sym s) ∙ word_back bw w gw))
