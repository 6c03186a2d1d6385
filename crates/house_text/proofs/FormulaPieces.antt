-- The piece of a formula by its word's kind. Assumes nothing.
use Prim.Native.Nat.{ℕ, zero, suc, ◌+◌, ◌-◌, ◌≤◌, ◌<◌}
use mathlib.Core.Path.{◌≡◌, refl, sym, ap, ap₂, subst, ◌∙◌}
use mathlib.Core.Bool.{true, false}
use mathlib.Core.Logic.{◌⊎◌, inl, inr, ⊎_elim}
use mathlib.Core.Option.{Option, none, some}
use mathlib.Core.List.{List, [], ◌∷◌, ◌++◌}
use native.Mathlib.Omega.{arith}
use native.Mathlib.Nat.{zero-add}
use borrow.Author.Tests.{lt-leb}
use lib.Dec.{eqb}
use lib.ListN.{length, get_or, length-map, get_or-map}
use Rattle.theory.specs.Form.{Form, top, bot, leaf, and, or, imp}
use Rattle.theory.specs.Form.{Shape, is_top, is_bot, is_leaf, Below, kind_of, left_of, right_of, shape_of, shape, form, look}
use Rattle.theory.specs.Text.{bytes, decimal, leaf_text, form_text}
use Rattle.theory.specs.Writer.{larger, form_depth}
use Rattle.theory.proofs.Forms.{good_from}
use Rattle.theory.proofs.TextByNode.{shape_text, shape_depth, text_by_shape, depth_by_shape}
use Rattle.formula.specs.declared.Kind.{Kind}
use Rattle.formula.specs.declared.Kind.TheVariants.{True, False, Atom, And, Or, Impl, ForAll, Exists, Unknown}
use Rattle.formula.specs.Kinds.{kind_named}
use Rattle.formula.proofs.KindLaws.{is_kind}
use Rattle.house_text.specs.Laid.{joined}
use Rattle.house_text.specs.Pieces.{up_to, book, GoodWords, form_piece}
use Rattle.house_text.proofs.Levels.{Whole, whole, above, alone, before_it, behind_it, beside, too_deep}

-- "(& A B), (| A B), (> A B)": what stands before the halves
unfoldable pub opening : ℕ → List ℕ
opening k = elim (eqb k 3) [ true ↦ bytes "(& " | false ↦ elim (eqb k 4) [ true ↦ bytes "(| " | false ↦ bytes "(> " ] ]

-- an opening that stands before two halves
abbrev pub Opens : ℕ → List ℕ → Type 0
Opens k o = (3 ≤ k) × (k ≤ 5) × (o ≡ opening k)

opens_at : (m : ℕ) {k : ℕ} {o : List ℕ} → Opens m o → k ≡ m → Opens k o
opens_at m {k} {o} h e = subst (λ (n : ℕ). Opens n o) (sym e) h

pub opens_and : {k : ℕ} {o : List ℕ} → And ≡ kind_named k → o ≡ bytes "(& " → Opens k o
unfolding opening
opens_and e z = opens_at 3 (omega arith, omega arith, z) (is_kind (sym e))

pub opens_or : {k : ℕ} {o : List ℕ} → Or ≡ kind_named k → o ≡ bytes "(| " → Opens k o
unfolding opening
opens_or e z = opens_at 4 (omega arith, omega arith, z) (is_kind (sym e))

pub opens_impl : {k : ℕ} {o : List ℕ} → Impl ≡ kind_named k → o ≡ bytes "(> " → Opens k o
unfolding opening
opens_impl e z = opens_at 5 (omega arith, omega arith, z) (is_kind (sym e))

-- a leaf's kind, and its letter
abbrev pub Leaf : ℕ → ℕ → Type 0
Leaf k letter = ((k ≡ 2) ⊎ (5 < k)) × (letter ∷ [] ≡ leaf_text k)

pub atom_leaf : {k : ℕ} → Atom ≡ kind_named k → Leaf k 112
unfolding leaf_text bytes
atom_leaf {k} e =
    let n : k ≡ 2 = is_kind (sym e) in
    (inl n, sym (ap leaf_text n))

pub all_leaf : {k : ℕ} → ForAll ≡ kind_named k → Leaf k 85
unfolding leaf_text bytes
all_leaf {k} e =
    let n : k ≡ 6 = is_kind (sym e) in
    (inr (omega arith), sym (ap leaf_text n))

unknown_late : (k x : ℕ) → kind_named k ≡ Unknown x → 6 < k
unfolding kind_named
unknown_late zero x e = cc
unknown_late (suc zero) x e = cc
unknown_late (suc (suc zero)) x e = cc
unknown_late (suc (suc (suc zero))) x e = cc
unknown_late (suc (suc (suc (suc zero)))) x e = cc
unknown_late (suc (suc (suc (suc (suc zero))))) x e = cc
unknown_late (suc (suc (suc (suc (suc (suc zero)))))) x e = cc
unknown_late (suc (suc (suc (suc (suc (suc (suc k))))))) x e = omega arith

late_letter : (k : ℕ) → 6 < k → Leaf k 69
unfolding leaf_text bytes
late_letter k h =
    let l : 2 < k = omega arith in
    (inr (omega arith), rw (lt-leb k 2 l, lt-leb k 6 h, leaf_text))

pub late_leaf : {k : ℕ} {r : Kind} → r ≡ kind_named k → (r ≡ Exists) ⊎ ((x : ℕ) × (r ≡ Unknown x)) → Leaf k 69
late_leaf {k} e (inl z) =
    let n : k ≡ 7 = is_kind (sym e ∙ z) in
    late_letter k (omega arith)
late_leaf {k} e (inr z) = late_letter k (unknown_late k z.0 (sym e ∙ z.1))

-- every formula has a node
form_deep : (A : Form) → 0 < form_depth A
unfolding form_depth
form_deep top = omega arith
form_deep bot = omega arith
form_deep (leaf k s) = omega arith
form_deep (and A B) = omega arith
form_deep (or A B) = omega arith
form_deep (imp A B) = omega arith

-- no level is left for it
pub no_formula : (words : List ℕ) (levels i : ℕ) → levels ≡ 0 → none ≡ form_piece words levels i
unfolding form_piece
no_formula words levels i e =
    let A : Form = form (book words) i in
    sym (too_deep levels (form_depth A) (form_text A) (omega (arith, form_deep A)))

-- a word of two halves, l and r, which stand between an opening, a space and a bracket
record Halves (k l r : ℕ) : Type 0 where
  text : (f : ℕ → List ℕ) → shape_text f (shape_of k l r) ≡ opening k ++ (f l ++ (bytes " " ++ (f r ++ bytes ")")))
  depth : (d : ℕ → ℕ) → shape_depth d (shape_of k l r) ≡ suc (larger (d l) (d r))
  below : (i : ℕ) → Below i (shape_of k l r) → (l < i) × (r < i)

halves : (k l r : ℕ) → 3 ≤ k → k ≤ 5 → Halves k l r
unfolding shape_of opening
halves zero l r p q = absurd (omega arith)
halves (suc zero) l r p q = absurd (omega arith)
halves (suc (suc zero)) l r p q = absurd (omega arith)
halves (suc (suc (suc zero))) l r p q = record { text = λ f. refl; depth = λ d. refl; below = λ i h. h }
halves (suc (suc (suc (suc zero)))) l r p q = record { text = λ f. refl; depth = λ d. refl; below = λ i h. h }
halves (suc (suc (suc (suc (suc zero))))) l r p q = record { text = λ f. refl; depth = λ d. refl; below = λ i h. h }
halves (suc (suc (suc (suc (suc (suc k)))))) l r p q = absurd (omega arith)

first_leaf_lem : (k l r : ℕ) → k ≡ 2 → shape_of k l r ≡ is_leaf k l
unfolding shape_of
first_leaf_lem k l r e = subst (λ (n : ℕ). shape_of n l r ≡ is_leaf n l) (sym e) refl

later_leaf : (k l r : ℕ) → 5 < k → shape_of k l r ≡ is_leaf k l
unfolding shape_of
later_leaf zero l r h = absurd (omega arith)
later_leaf (suc zero) l r h = absurd (omega arith)
later_leaf (suc (suc zero)) l r h = absurd (omega arith)
later_leaf (suc (suc (suc zero))) l r h = absurd (omega arith)
later_leaf (suc (suc (suc (suc zero)))) l r h = absurd (omega arith)
later_leaf (suc (suc (suc (suc (suc zero))))) l r h = absurd (omega arith)
later_leaf (suc (suc (suc (suc (suc (suc k)))))) l r h =
    let e : 6 + k ≡ suc (suc (suc (suc (suc (suc k))))) = omega arith in
    ap (λ (n : ℕ). is_leaf n l) e

-- the text and the depth of a formula of the book
abbrev text_at : List ℕ → ℕ → List ℕ
text_at words a = form_text (form (book words) a)

abbrev depth_at : List ℕ → ℕ → ℕ
depth_at words a = form_depth (form (book words) a)

-- the word at i, of which the kind k and the left field l are read
pub record WordRead (words : List ℕ) (i k l : ℕ) : Type 0 where
  pub words_good : GoodWords words
  pub inside : i < length words
  pub kind : k ≡ kind_of (get_or words i 0)
  pub left : l ≡ left_of (get_or words i 0)

pub word_read : {words : List ℕ} {i k l : ℕ} → GoodWords words → i < length words → k ≡ kind_of (get_or words i 0) →
    l ≡ left_of (get_or words i 0) → WordRead words i k l
word_read g h e f = record { words_good = g; inside = h; kind = e; left = f }

module _ {words : List ℕ} {i k l : ℕ} (w : WordRead words i k l) where
  abbrev right : ℕ
  right = right_of (get_or words i 0)

  in_book : i < length (book words)
  in_book = subst (λ (n : ℕ). i < n) (sym (length-map words shape)) w.inside

  seen : look (book words) i ≡ shape_of k l right
  unfolding shape shape_of
  seen = get_or-map shape words i 0 ∙ sym (ap₂ (λ (m n : ℕ). shape_of m n right) w.kind w.left)

  -- the halves have smaller indices
  pub halves_below : {r : ℕ} {o : List ℕ} → r ≡ right_of (get_or words i 0) → Opens k o → (l < i) × (r < i)
  halves_below {r} e h =
      let down : Below i (look (book words) i) =
      subst (λ (n : ℕ). Below n (look (book words) i)) (zero-add i) (good_from (book words) 0 w.words_good.good i in_book) in
      subst (λ (n : ℕ). (l < i) × (n < i)) (sym e) ((halves k l right h.0 h.1).below i (subst (Below i) seen down))

  module _ (levels : ℕ) (some_left : levels ≡ 0 → ⊥) where
    -- a piece that is that of the word's shape is that of the formula
    by_shape : {p : Option (List ℕ)} →
        Whole p (suc (levels - 1)) (shape_depth (depth_at words) (shape_of k l right)) (shape_text (text_at words) (shape_of k l right)) →
        p ≡ form_piece words levels i
    unfolding form_piece
    by_shape {p} whole_piece =
        let s : Shape = shape_of k l right in
        let more : suc (levels - 1) ≡ levels = omega arith in
        let depth : shape_depth (depth_at words) s ≡ depth_at words i =
        sym (depth_by_shape (book words) w.words_good.good i in_book ∙ ap (shape_depth (depth_at words)) seen) in
        let text : shape_text (text_at words) s ≡ text_at words i =
        sym (text_by_shape (book words) w.words_good.good i in_book ∙ ap (shape_text (text_at words)) seen) in
        whole_piece.is ∙ ap (λ (n : ℕ). up_to n (shape_depth (depth_at words) s) (shape_text (text_at words) s)) more
        ∙ ap₂ (up_to levels) depth text

    -- a word with no halves
    of_shape : (s : Shape) → shape_of k l right ≡ s → 1 ≡ shape_depth (depth_at words) s →
        some (shape_text (text_at words) s) ≡ form_piece words levels i
    of_shape s e d =
        let x : List ℕ = shape_text (text_at words) s in
        let leaf : Whole (some x) (suc (levels - 1)) (shape_depth (depth_at words) s) x =
        subst (λ (n : ℕ). Whole (some x) (suc (levels - 1)) n x) d (alone (levels - 1) x) in
        by_shape (subst (λ (y : Shape). Whole (some x) (suc (levels - 1)) (shape_depth (depth_at words) y) (shape_text (text_at words) y))
        (sym e) leaf)

    pub true_piece : True ≡ kind_named k → some (bytes "T") ≡ form_piece words levels i
    unfolding shape_of
    true_piece e = of_shape is_top (ap (λ (n : ℕ). shape_of n l right) (is_kind (sym e))) refl

    pub false_piece : False ≡ kind_named k → some (bytes "F") ≡ form_piece words levels i
    unfolding shape_of
    false_piece e = of_shape is_bot (ap (λ (n : ℕ). shape_of n l right) (is_kind (sym e))) refl

    -- a leaf: the letter of its kind, and its symbol
    pub leaf_piece : {letter : ℕ} → Leaf k letter → some (letter ∷ decimal l) ≡ form_piece words levels i
    leaf_piece h =
        ap (λ (x : List ℕ). some (x ++ decimal l)) h.1
        ∙ of_shape (is_leaf k l) (⊎_elim (first_leaf_lem k l right) (later_leaf k l right) h.0) refl

    pub halves_piece : {r : ℕ} {o : List ℕ} → r ≡ right_of (get_or words i 0) → Opens k o →
        joined (some o) (joined (form_piece words (levels - 1) l)
        (joined (some (bytes " ")) (joined (form_piece words (levels - 1) r) (some (bytes ")"))))) ≡ form_piece words levels i
    unfolding form_piece
    halves_piece {r} {o} e h =
        let both = halves k l right h.0 h.1 in
        let half : (a : ℕ) → Whole (form_piece words (levels - 1) a) (levels - 1) (depth_at words a) (text_at words a) =
        λ a. whole (levels - 1) (depth_at words a) (text_at words a) in
        let w = above (before_it (opening k) (beside (half l) (before_it (bytes " ") (behind_it (half right) (bytes ")"))))) in
        ap₂ (λ (x : List ℕ) (n : ℕ). joined (some x) (joined (form_piece words (levels - 1) l)
        (joined (some (bytes " ")) (joined (form_piece words (levels - 1) n) (some (bytes ")")))))) h.2 e
        ∙ by_shape (record {
          is = w.is ∙ ap₂ (up_to (suc (levels - 1))) (sym (both.depth (depth_at words))) (sym (both.text (text_at words)));
        })
