-- The house text of a well-formed formula determines its tree. Assumes nothing.
use Prim.Native.Nat.{ℕ, ◌<◌, ◌^◌}
use mathlib.Core.Path.{◌≡◌, refl, sym, ap, ap₂, ◌∙◌, subst}
use mathlib.Core.List.{List, [], ◌∷◌, ◌++◌}
use native.Mathlib.Omega.{arith}
use native.Mathlib.Nat.{lt_trans}
use lib.Dec.{T}
use lib.ListN.{drop}
use Rattle.theory.specs.Form.{Form, top, bot, leaf, and, or, imp, Shape, is_top, is_bot, is_leaf, is_and, is_or, is_imp}
use Rattle.theory.specs.NameText.{between, name_byte, name_bytes}
use Rattle.theory.specs.WellFormed.{LeafKind, atom, for_all, exists, WellFormed}
use Rattle.theory.specs.Text.{bytes, decimal, leaf_text, form_text}
use Rattle.theory.proofs.TextApart.{Split, split_so, split_two, split_same, split_token}
use Rattle.theory.proofs.TextApart.{first_of, split_whole, bytes_append, digits_bytes, digits_apart}

-- the kind of a formula's root, its fields blank
kind : Form → Shape
kind top = is_top
kind bot = is_bot
kind (leaf k s) = is_leaf 0 0
kind (and A B) = is_and 0 0
kind (or A B) = is_or 0 0
kind (imp A B) = is_imp 0 0

openings : List (List ℕ × Shape)
openings =
    (bytes "T", is_top) ∷ (bytes "F", is_bot) ∷ (bytes "(& ", is_and 0 0) ∷ (bytes "(| ", is_or 0 0) ∷ (bytes "(> ", is_imp 0 0) ∷ []

kind_read : (A : Form) → WellFormed A → (r : List ℕ) → first_of openings (is_leaf 0 0) (form_text A ++ r) ≡ kind A
unfolding kind openings form_text leaf_text bytes
kind_read top g r = refl
kind_read bot g r = refl
kind_read (leaf k s) g r = go g.0
  where
    go : {k : ℕ} → LeafKind k → first_of openings (is_leaf 0 0) ((leaf_text k ++ decimal s) ++ r) ≡ is_leaf 0 0
    go atom = refl
    go for_all = refl
    go exists = refl
kind_read (and A B) g r = refl
kind_read (or A B) g r = refl
kind_read (imp A B) g r = refl

-- P of every tree of a kind
abbrev OfKind : (Form → Type 0) → Shape → Type 0
OfKind P is_top = P top
OfKind P is_bot = P bot
OfKind P (is_leaf k s) = (k s : ℕ) → P (leaf k s)
OfKind P (is_and l r) = (A B : Form) → P (and A B)
OfKind P (is_or l r) = (A B : Form) → P (or A B)
OfKind P (is_imp l r) = (A B : Form) → P (imp A B)

of_kind : (P : Form → Type 0) (A : Form) → OfKind P (kind A) → P A
unfolding kind
of_kind P top f = f
of_kind P bot f = f
of_kind P (leaf k s) f = f k s
of_kind P (and A B) f = f A B
of_kind P (or A B) f = f A B
of_kind P (imp A B) f = f A B

-- the texts of A and B tell whether they are equal
abbrev Told : Form → Form → Type 0
Told A B = WellFormed B → Split (A ≡ B) (form_text A) (form_text B)

-- only trees of A's own kind need a look: equal texts have equal kinds
same_kind : (A B : Form) → WellFormed A → OfKind (Told A) (kind A) → Told A B
same_kind A B g f h = record {
  split = λ {r} {r'} a b e.
      let k : kind A ≡ kind B = sym (kind_read A g r) ∙ ap (first_of openings (is_leaf 0 0)) e ∙ kind_read B h r' in
      (of_kind (Told A) B (subst (OfKind (Told A)) k f) h).split a b e;
}

leaf_letters : List (List ℕ × ℕ)
leaf_letters = (bytes "p", 2) ∷ (bytes "U", 6) ∷ (bytes "E", 7) ∷ []

-- a leaf's first byte tells its kind, and what follows is its symbol
leaf_kind_lem : {k : ℕ} → LeafKind k → (z : List ℕ) → (first_of leaf_letters 0 (leaf_text k ++ z) ≡ k) × (drop 1 (leaf_text k ++ z) ≡ z) ×
    T (name_bytes (leaf_text k))
unfolding leaf_letters leaf_text bytes name_bytes name_byte between
leaf_kind_lem atom z = (refl, refl, tt)
leaf_kind_lem for_all z = (refl, refl, tt)
leaf_kind_lem exists z = (refl, refl, tt)

leaf_bytes : {k : ℕ} → LeafKind k → (s : ℕ) → T (name_bytes (leaf_text k ++ decimal s))
leaf_bytes {k} l s = bytes_append (leaf_text k) (decimal s) (leaf_kind_lem l []).2 (digits_bytes 7 s)

leaf_apart : {k k' s s' : ℕ} → WellFormed (leaf k s) → WellFormed (leaf k' s') →
    leaf_text k ++ decimal s ≡ leaf_text k' ++ decimal s' → leaf k s ≡ leaf k' s'
leaf_apart {k} {k'} {s} {s'} g h e =
    let a = leaf_kind_lem g.0 (decimal s) in
    let b = leaf_kind_lem h.0 (decimal s') in
    let small : 16384 < 10 ^ 7 = omega arith in
    ap₂ leaf (sym a.0 ∙ ap (first_of leaf_letters 0) e ∙ b.0)
    (digits_apart 7 s s' (lt_trans g.1 small) (lt_trans h.1 small) (sym a.1 ∙ ap (drop 1) e ∙ b.1))

-- the text of a formula, with what follows a token, tells the formula and what follows
pub form_told : (A B : Form) → WellFormed A → WellFormed B → Split (A ≡ B) (form_text A) (form_text B)
unfolding kind form_text bytes
form_told top B g h = same_kind top B g (λ h. split_same refl (bytes "T")) h
form_told bot B g h = same_kind bot B g (λ h. split_same refl (bytes "F")) h
form_told (leaf k s) B g h =
    same_kind (leaf k s) B g (λ k' s' h. split_so (leaf_apart g h) (split_token (leaf_bytes g.0 s) (leaf_bytes h.0 s'))) h
form_told (and A A') B g h =
    same_kind (and A A') B g (λ C C' h. split_two and (bytes "(& ") (form_told A C g.0 h.0) (form_told A' C' g.1 h.1)) h
form_told (or A A') B g h =
    same_kind (or A A') B g (λ C C' h. split_two or (bytes "(| ") (form_told A C g.0 h.0) (form_told A' C' g.1 h.1)) h
form_told (imp A A') B g h =
    same_kind (imp A A') B g (λ C C' h. split_two imp (bytes "(> ") (form_told A C g.0 h.0) (form_told A' C' g.1 h.1)) h

-- equal texts, equal formulas
pub form_text_determines : (A B : Form) → WellFormed A → WellFormed B → form_text A ≡ form_text B → A ≡ B
form_text_determines A B g h e = split_whole (form_told A B g h) e
