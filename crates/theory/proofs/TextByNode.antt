-- The text and the depth of a tree, node by node: laws for code that writes a text over falling indices. Assumes nothing.
use Prim.Native.Nat.{ℕ, zero, suc, ◌+◌, ◌*◌, ◌<◌}
use mathlib.Core.Path.{◌≡◌, refl, sym, ap, ◌∙◌, subst}
use mathlib.Core.List.{List, [], ◌∷◌, ◌++◌}
use native.Mathlib.Nat.{le_of_suc-le-suc, not-suc-le-zero, add-zero, zero-add, add-suc, suc-add}
use lib.ListN.{length, get_or}
use Rattle.theory.specs.Form.{Shape, is_top, is_bot, is_leaf, is_and, is_or, is_imp, Book, look, tree_of, trees, form, Good}
use Rattle.theory.specs.Term.{Piece, Node, blank, ident, pair, fst, snd, fn, app, inl, inr, case, abort, asc, unit}
use Rattle.theory.specs.Term.{term_of, grow_terms, term, NodeIn, NodesFrom}
use Rattle.theory.specs.Layout.{node_width, piece_at, nodes_from, nodes_in}
use Rattle.theory.specs.Names.{bytes_of}
use Rattle.theory.specs.Text.{bytes, decimal, leaf_text, form_text, term_text}
use Rattle.theory.specs.Writer.{larger, form_depth, term_depth}
use Rattle.theory.proofs.Forms.{form_at}
use Rattle.theory.proofs.Terms.{term_at_lem}

-- the text of a word, from the texts of the words that it refers to
abbrev pub shape_text : (ℕ → List ℕ) → Shape → List ℕ
shape_text f is_top = bytes "T"
shape_text f is_bot = bytes "F"
shape_text f (is_leaf k s) = leaf_text k ++ decimal s
shape_text f (is_and l r) = bytes "(& " ++ (f l ++ (bytes " " ++ (f r ++ bytes ")")))
shape_text f (is_or l r) = bytes "(| " ++ (f l ++ (bytes " " ++ (f r ++ bytes ")")))
shape_text f (is_imp l r) = bytes "(> " ++ (f l ++ (bytes " " ++ (f r ++ bytes ")")))

abbrev pub shape_depth : (ℕ → ℕ) → Shape → ℕ
shape_depth d is_top = 1
shape_depth d is_bot = 1
shape_depth d (is_leaf k s) = 1
shape_depth d (is_and l r) = suc (larger (d l) (d r))
shape_depth d (is_or l r) = suc (larger (d l) (d r))
shape_depth d (is_imp l r) = suc (larger (d l) (d r))

-- the text of a node, from the texts of the nodes and of the formula that it refers to
abbrev pub piece_text : List (List ℕ) → (ℕ → List ℕ) → (ℕ → List ℕ) → Piece → List ℕ
piece_text names t f (ident x) = bytes_of names x
piece_text names t f (pair a b) = bytes "(pair " ++ (t a ++ (bytes " " ++ (t b ++ bytes ")")))
piece_text names t f (fst a) = bytes "(fst " ++ (t a ++ bytes ")")
piece_text names t f (snd a) = bytes "(snd " ++ (t a ++ bytes ")")
piece_text names t f (fn x a) = bytes "(fn " ++ (bytes_of names x ++ (bytes " " ++ (t a ++ bytes ")")))
piece_text names t f (app a b) = bytes "(app " ++ (t a ++ (bytes " " ++ (t b ++ bytes ")")))
piece_text names t f (inl a) = bytes "(inl " ++ (t a ++ bytes ")")
piece_text names t f (inr a) = bytes "(inr " ++ (t a ++ bytes ")")
piece_text names t f (case h x a y b) =
    bytes "(case " ++ (t h ++ (bytes " " ++ (bytes_of names x ++ (bytes " " ++ (t a ++ (bytes " " ++
    (bytes_of names y ++ (bytes " " ++ (t b ++ bytes ")")))))))))
piece_text names t f (abort a) = bytes "(abort " ++ (t a ++ bytes ")")
piece_text names t f (asc a c) = bytes "(as " ++ (t a ++ (bytes " " ++ (f c ++ bytes ")")))
piece_text names t f unit = bytes "()"

abbrev pub piece_depth : (ℕ → ℕ) → (ℕ → ℕ) → Piece → ℕ
piece_depth d e (ident x) = 1
piece_depth d e (pair a b) = suc (larger (d a) (d b))
piece_depth d e (fst a) = suc (d a)
piece_depth d e (snd a) = suc (d a)
piece_depth d e (fn x a) = suc (d a)
piece_depth d e (app a b) = suc (larger (d a) (d b))
piece_depth d e (inl a) = suc (d a)
piece_depth d e (inr a) = suc (d a)
piece_depth d e (case h x a y b) = suc (larger (d h) (larger (d a) (d b)))
piece_depth d e (abort a) = suc (d a)
piece_depth d e (asc a c) = suc (larger (d a) (e c))
piece_depth d e unit = 1

module _ (ws : Book) where
  tree_text : (w : Shape) → form_text (tree_of (trees ws) w) ≡ shape_text (λ a. form_text (form ws a)) w
  unfolding form_text tree_of form
  tree_text is_top = refl
  tree_text is_bot = refl
  tree_text (is_leaf k s) = refl
  tree_text (is_and l r) = refl
  tree_text (is_or l r) = refl
  tree_text (is_imp l r) = refl

  tree_depth : (w : Shape) → form_depth (tree_of (trees ws) w) ≡ shape_depth (λ a. form_depth (form ws a)) w
  unfolding form_depth tree_of form
  tree_depth is_top = refl
  tree_depth is_bot = refl
  tree_depth (is_leaf k s) = refl
  tree_depth (is_and l r) = refl
  tree_depth (is_or l r) = refl
  tree_depth (is_imp l r) = refl

  -- the text and the depth of the formula at an index, by its shape
  pub text_by_shape : Good ws → (i : ℕ) → i < length ws → form_text (form ws i) ≡ shape_text (λ a. form_text (form ws a)) (look ws i)
  text_by_shape g i h = ap form_text (form_at ws g i h) ∙ tree_text (look ws i)

  pub depth_by_shape : Good ws → (i : ℕ) → i < length ws → form_depth (form ws i) ≡ shape_depth (λ a. form_depth (form ws a)) (look ws i)
  depth_by_shape g i h = ap form_depth (form_at ws g i h) ∙ tree_depth (look ws i)

module _ (ws : Book) (ns : List Node) where
  term_text_lem : (names : List (List ℕ)) (p : Piece) → term_text names (term_of ws (grow_terms ws [] ns) p) ≡
      piece_text names (λ a. term_text names (term ws ns a)) (λ a. form_text (form ws a)) p
  unfolding term_text bytes_of term_of term
  term_text_lem names (ident x) = refl
  term_text_lem names (pair a b) = refl
  term_text_lem names (fst a) = refl
  term_text_lem names (snd a) = refl
  term_text_lem names (fn x a) = refl
  term_text_lem names (app a b) = refl
  term_text_lem names (inl a) = refl
  term_text_lem names (inr a) = refl
  term_text_lem names (case h x a y b) = refl
  term_text_lem names (abort a) = refl
  term_text_lem names (asc a c) = refl
  term_text_lem names unit = refl

  term_depth_lem : (p : Piece) → term_depth (term_of ws (grow_terms ws [] ns) p) ≡
      piece_depth (λ a. term_depth (term ws ns a)) (λ a. form_depth (form ws a)) p
  unfolding term_depth term_of term
  term_depth_lem (ident x) = refl
  term_depth_lem (pair a b) = refl
  term_depth_lem (fst a) = refl
  term_depth_lem (snd a) = refl
  term_depth_lem (fn x a) = refl
  term_depth_lem (app a b) = refl
  term_depth_lem (inl a) = refl
  term_depth_lem (inr a) = refl
  term_depth_lem (case h x a y b) = refl
  term_depth_lem (abort a) = refl
  term_depth_lem (asc a c) = refl
  term_depth_lem unit = refl

  -- the text and the depth of the term at an index, by what its node says
  pub text_by_node : (names : List (List ℕ)) (m : ℕ) → NodesFrom m 0 ns → (i : ℕ) → i < length ns → term_text names (term ws ns i) ≡
      piece_text names (λ a. term_text names (term ws ns a)) (λ a. form_text (form ws a)) (get_or ns i blank).piece
  text_by_node names m g i h = ap (term_text names) (term_at_lem ws m ns g i h) ∙ term_text_lem names (get_or ns i blank).piece

  pub depth_by_node : (m : ℕ) → NodesFrom m 0 ns → (i : ℕ) → i < length ns → term_depth (term ws ns i) ≡
      piece_depth (λ a. term_depth (term ws ns a)) (λ a. form_depth (form ws a)) (get_or ns i blank).piece
  depth_by_node m g i h = ap term_depth (term_at_lem ws m ns g i h) ∙ term_depth_lem (get_or ns i blank).piece

nodes_at : (t : List ℕ) (j k i : ℕ) → i < k → (get_or (nodes_from t j k) i blank).piece ≡ piece_at t ((j + i) * node_width)
unfolding nodes_from
nodes_at t j zero i h = absurd (not-suc-le-zero h)
nodes_at t j (suc k) zero h = ap (λ (n : ℕ). piece_at t (n * node_width)) (sym (add-zero j))
nodes_at t j (suc k) (suc i) h =
    nodes_at t (suc j) k i (le_of_suc-le-suc h) ∙ ap (λ (n : ℕ). piece_at t (n * node_width)) (suc-add j i ∙ sym (add-suc j i))

-- what node i of k nodes says, as numbers
pub node_at : (t : List ℕ) (k i : ℕ) → i < k → (get_or (nodes_in t k) i blank).piece ≡ piece_at t (i * node_width)
unfolding nodes_in
node_at t k i h = nodes_at t 0 k i h ∙ ap (λ (n : ℕ). piece_at t (n * node_width)) (zero-add i)

nodes_in_lem : (m j : ℕ) (ns : List Node) → NodesFrom m j ns → (i : ℕ) → i < length ns → NodeIn m (j + i) (get_or ns i blank).piece
nodes_in_lem m j [] g i h = absurd (not-suc-le-zero h)
nodes_in_lem m j (n ∷ ns) g zero h = subst (λ (k : ℕ). NodeIn m k n.piece) (sym (add-zero j)) g.0
nodes_in_lem m j (n ∷ ns) g (suc i) h =
    subst (λ (k : ℕ). NodeIn m k (get_or ns i blank).piece) (suc-add j i ∙ sym (add-suc j i))
    (nodes_in_lem m (suc j) ns g.1 i (le_of_suc-le-suc h))

-- node i refers to nodes before it and to given formulas
pub node_in : (m : ℕ) (ns : List Node) → NodesFrom m 0 ns → (i : ℕ) → i < length ns → NodeIn m i (get_or ns i blank).piece
node_in m ns g i h = subst (λ (k : ℕ). NodeIn m k (get_or ns i blank).piece) (zero-add i) (nodes_in_lem m 0 ns g i h)
