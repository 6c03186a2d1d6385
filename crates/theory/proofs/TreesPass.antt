-- Words and nodes that pass refusals 2 and 13 have well-formed trees. Assumes nothing.
use Prim.Native.Nat.{ℕ, zero, suc, ◌<◌}
use mathlib.Core.Path.{◌≡◌, refl, sym, subst}
use mathlib.Core.Bool.{Bool, true, false}
use mathlib.Core.Option.{Option, none, some}
use mathlib.Core.List.{List, [], ◌∷◌, ◌++◌, map}
use native.Mathlib.Omega.{arith}
use lib.Dec.{T, ltb}
use lib.ListN.{length, get_or}
use Rattle.theory.specs.Form.{Form, top, Shape, is_top, is_bot, is_leaf, is_and, is_or, is_imp, Book, tree_of, grow, trees, form}
use Rattle.theory.specs.Form.{kind_of, left_of, right_of, shape_of, shape, good_fields, laid_out, good_word, bad_from, bad_word}
use Rattle.theory.specs.Term.{Piece, ident, pair, fst, snd, fn, app, inl, inr, case, abort, asc, unit, Node, Term, Unit'}
use Rattle.theory.specs.Term.{term_of, grow_terms, term, NamesHave, AllNamesHave}
use Rattle.theory.specs.WellFormed.{LeafKind, atom, for_all, exists, WellFormed, WellNamed}
use Rattle.theory.proofs.Tests.{and_right}
use Rattle.theory.proofs.Words.{word_laid}

-- a shape whose tree is well-formed if the trees before it are
abbrev Known : Shape → Type 0
Known is_top = Unit {0}
Known is_bot = Unit {0}
Known (is_leaf k s) = LeafKind k × (s < 16384)
Known (is_and l r) = Unit {0}
Known (is_or l r) = Unit {0}
Known (is_imp l r) = Unit {0}

abbrev AllKnown : Book → Type 0
AllKnown [] = Unit {0}
AllKnown (w ∷ ws) = Known w × AllKnown ws

fields_known : (i k l r : ℕ) → l < 16384 → T (good_fields i k l r) → Known (shape_of k l r)
unfolding good_fields shape_of
fields_known i zero l r h t = tt
fields_known i (suc zero) l r h t = tt
fields_known i (suc (suc zero)) l r h t = (atom, h)
fields_known i (suc (suc (suc zero))) l r h t = tt
fields_known i (suc (suc (suc (suc zero)))) l r h t = tt
fields_known i (suc (suc (suc (suc (suc zero))))) l r h t = tt
fields_known i (suc (suc (suc (suc (suc (suc zero)))))) l r h t = (for_all, h)
fields_known i (suc (suc (suc (suc (suc (suc (suc zero))))))) l r h t = (exists, h)
fields_known i (suc (suc (suc (suc (suc (suc (suc (suc k)))))))) l r h t = absurd t

laid_known : (i w : ℕ) → T (laid_out i w) → Known (shape w)
unfolding laid_out shape
laid_known i w t = fields_known i (kind_of w) (left_of w) (right_of w) (omega arith) (and_right (ltb w 4294967296) _ t)

-- a leaf word that is laid out has a leaf's kind
pub laid_leaf : (i w : ℕ) {k s : ℕ} → T (laid_out i w) → shape w ≡ is_leaf k s → LeafKind k
laid_leaf i w t e = (subst Known e (laid_known i w t)).0

words_known : (before ws : List ℕ) → bad_from before ws ≡ none → AllKnown (map shape ws)
unfolding bad_from
words_known before [] e = tt
words_known before (w ∷ ws) e = go (good_word before w) refl e (words_known (before ++ (w ∷ [])) ws)
  where
    go : (b : Bool) → good_word before w ≡ b →
        ◌≡◌ {A = Option ℕ} (elim b [ true ↦ bad_from (before ++ (w ∷ [])) ws | false ↦ some (length before) ]) none →
        (bad_from (before ++ (w ∷ [])) ws ≡ none → AllKnown (map shape ws)) → AllKnown (map shape (w ∷ ws))
    go true p e ih = (laid_known (length before) w (word_laid before w (subst T (sym p) tt)), ih e)
    go false p e ih = absurd (let z : ◌≡◌ {A = ℕ} 0 1 = cc in omega arith)

-- one tree more keeps what all trees of a list have, beyond its end too
snoc_all : {A : Type 0} (P : A → Type 0) (xs : List A) (x d : A) → P d → P x → ((i : ℕ) → P (get_or xs i d)) → (i : ℕ) →
    P (get_or (xs ++ (x ∷ [])) i d)
snoc_all P [] x d h k f zero = k
snoc_all P [] x d h k f (suc i) = h
snoc_all P (y ∷ xs) x d h k f zero = f zero
snoc_all P (y ∷ xs) x d h k f (suc i) = snoc_all P xs x d h k (λ j. f (suc j)) i

tree_formed : (done : List Form) → ((i : ℕ) → WellFormed (get_or done i top)) → (w : Shape) → Known w → WellFormed (tree_of done w)
unfolding tree_of
tree_formed done f is_top k = tt
tree_formed done f is_bot k = tt
tree_formed done f (is_leaf _ s) k = k
tree_formed done f (is_and l r) k = (f l, f r)
tree_formed done f (is_or l r) k = (f l, f r)
tree_formed done f (is_imp l r) k = (f l, f r)

trees_formed : (ws : Book) (done : List Form) → ((i : ℕ) → WellFormed (get_or done i top)) → AllKnown ws → (i : ℕ) →
    WellFormed (get_or (grow done ws) i top)
unfolding grow
trees_formed [] done f k i = f i
trees_formed (w ∷ ws) done f k i =
    let t : Form = tree_of done w in
    trees_formed ws (done ++ (t ∷ [])) (snoc_all WellFormed done t top tt (tree_formed done f w k.0) f) k.1 i

-- words that pass 2 have well-formed trees
pub forms_pass : (ws : List ℕ) → bad_word ws ≡ none → (i : ℕ) → WellFormed (form (map shape ws) i)
unfolding bad_word form trees
forms_pass ws e i = trees_formed (map shape ws) [] (λ i. tt) (words_known [] ws e) i

module _ (P : ℕ → Type 0) (ws : Book) (formed : (a : ℕ) → WellFormed (form ws a)) where
  node_named : (done : List Term) → ((i : ℕ) → WellNamed P (get_or done i Unit')) → (n : Piece) → NamesHave P n →
      WellNamed P (term_of ws done n)
  unfolding term_of
  node_named done f (ident x) h = h
  node_named done f (pair a b) h = (f a, f b)
  node_named done f (fst a) h = f a
  node_named done f (snd a) h = f a
  node_named done f (fn x a) h = (h, f a)
  node_named done f (app a b) h = (f a, f b)
  node_named done f (inl a) h = f a
  node_named done f (inr a) h = f a
  node_named done f (case c x a y b) h = (f c, h.0, f a, h.1, f b)
  node_named done f (abort a) h = f a
  node_named done f (asc a c) h = (f a, formed c)
  node_named done f unit h = tt

  nodes_named : (ns : List Node) (done : List Term) → ((i : ℕ) → WellNamed P (get_or done i Unit')) → AllNamesHave P ns → (i : ℕ) →
      WellNamed P (get_or (grow_terms ws done ns) i Unit')
  unfolding grow_terms
  nodes_named [] done f h i = f i
  nodes_named (n ∷ ns) done f h i =
      let t : Term = term_of ws done n.piece in
      nodes_named ns (done ++ (t ∷ [])) (snoc_all (WellNamed P) done t Unit' tt (node_named done f n.piece h.0) f) h.1 i

  -- nodes whose names have P, over a book of well-formed trees
  pub terms_pass : (ns : List Node) → AllNamesHave P ns → (i : ℕ) → WellNamed P (term ws ns i)
  unfolding term
  terms_pass ns h i = nodes_named ns [] (λ i. tt) h i
