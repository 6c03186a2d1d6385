-- The house text of a well-formed term determines its tree. Assumes nothing.
use Prim.Native.Nat.{ℕ, ◌+◌, ◌/◌, ◌≤◌, ◌<◌}
use mathlib.Core.Path.{◌≡◌, refl, sym, ap, ◌∙◌, subst}
use mathlib.Core.Bool.{Bool, true, false}
use mathlib.Core.List.{List, [], ◌∷◌, ◌++◌}
use native.Mathlib.Nat.{not-suc-le-zero}
use native.Mathlib.Omega.{arith}
use lib.Dec.{T, leb, eqb, leb→le, eqb→eq}
use lib.ListN.{length, get_or}
use Rattle.theory.specs.Form.{Form}
use Rattle.theory.specs.Term.{Piece, ident, pair, fst, snd, fn, app, inl, inr, case, abort, asc, unit}
use Rattle.theory.specs.Term.{Term, Ident, Pair, Fst, Snd, Fn, App, Inl, Inr, Case, Abort, Asc, Unit'}
use Rattle.theory.specs.Names.{spell, skipped, bytes_of, GoodName, of_assumption, generated, Distinct}
use Rattle.theory.specs.NameText.{between, name_byte, name_bytes, well_spelled}
use Rattle.theory.specs.WellFormed.{WellNamed}
use Rattle.theory.specs.Text.{bytes, term_text}
use Rattle.theory.proofs.Tests.{and_left, and_right}
use Rattle.theory.proofs.Spelling.{spell_length}
use Rattle.theory.proofs.NamesApart.{names_apart, given_bytes, made_bytes}
use Rattle.theory.proofs.TextApart.{Split, split_so, split_whole, split_after, split_both, split_closed, split_one, split_two}
use Rattle.theory.proofs.TextApart.{split_same, split_token, first_of, letters_bytes}
use Rattle.theory.proofs.FormText.{form_told}

-- the kind of a term's root, its fields blank
kind : Term → Piece
kind (Ident x) = ident 0
kind (Pair s t) = pair 0 0
kind (Fst t) = fst 0
kind (Snd t) = snd 0
kind (Fn x t) = fn 0 0
kind (App s t) = app 0 0
kind (Inl t) = inl 0
kind (Inr t) = inr 0
kind (Case h x s y t) = case 0 0 0 0 0
kind (Abort t) = abort 0
kind (Asc t A) = asc 0 0
kind Unit' = unit

keywords : List (List ℕ × Piece)
keywords =
    (bytes "pair ", pair 0 0) ∷ (bytes "fst ", fst 0) ∷ (bytes "snd ", snd 0) ∷ (bytes "fn ", fn 0 0) ∷ (bytes "app ", app 0 0) ∷
    (bytes "inl ", inl 0) ∷ (bytes "inr ", inr 0) ∷ (bytes "case ", case 0 0 0 0 0) ∷ (bytes "abort ", abort 0) ∷
    (bytes "as ", asc 0 0) ∷ []

-- the kind that a text's first bytes tell: a name does not open a bracket, and only () has no keyword
kind_at : List ℕ → Piece
kind_at [] = ident 0
kind_at (b ∷ z) = elim (eqb b 40) [ true ↦ first_of keywords unit z | false ↦ ident 0 ]

name_kind : (x : List ℕ) → 1 ≤ length x → T (name_bytes x) → (r : List ℕ) → kind_at (x ++ r) ≡ ident 0
unfolding kind_at name_bytes name_byte between
name_kind [] l t r = absurd (not-suc-le-zero l)
name_kind (b ∷ x) l t r = go (eqb b 40) refl
  where
    go : (c : Bool) → eqb b 40 ≡ c → ◌≡◌ {A = Piece} (elim c [ true ↦ first_of keywords unit (x ++ r) | false ↦ ident 0 ]) (ident 0)
    go true e = absurd (subst (λ (c : ℕ). T (name_byte c)) (eqb→eq b 40 (subst T (sym e) tt)) (and_left (name_byte b) (name_bytes x) t))
    go false e = refl

-- P of every tree of a kind
abbrev OfKind : (Term → Type 0) → Piece → Type 0
OfKind P (ident x) = (x : ℕ) → P (Ident x)
OfKind P (pair s t) = (s t : Term) → P (Pair s t)
OfKind P (fst t) = (t : Term) → P (Fst t)
OfKind P (snd t) = (t : Term) → P (Snd t)
OfKind P (fn x t) = (x : ℕ) (t : Term) → P (Fn x t)
OfKind P (app s t) = (s t : Term) → P (App s t)
OfKind P (inl t) = (t : Term) → P (Inl t)
OfKind P (inr t) = (t : Term) → P (Inr t)
OfKind P (case h x s y t) = (h : Term) (x : ℕ) (s : Term) (y : ℕ) (t : Term) → P (Case h x s y t)
OfKind P (abort t) = (t : Term) → P (Abort t)
OfKind P (asc t a) = (t : Term) (A : Form) → P (Asc t A)
OfKind P unit = P Unit'

of_kind : (P : Term → Type 0) (t : Term) → OfKind P (kind t) → P t
unfolding kind
of_kind P (Ident x) f = f x
of_kind P (Pair s t) f = f s t
of_kind P (Fst t) f = f t
of_kind P (Snd t) f = f t
of_kind P (Fn x t) f = f x t
of_kind P (App s t) f = f s t
of_kind P (Inl t) f = f t
of_kind P (Inr t) f = f t
of_kind P (Case h x s y t) f = f h x s y t
of_kind P (Abort t) f = f t
of_kind P (Asc t A) f = f t A
of_kind P Unit' f = f

case_parts : {a a' b b' c c' : Term} {x x' y y' : ℕ} → (a ≡ a') × ((x ≡ x') × ((b ≡ b') × ((y ≡ y') × (c ≡ c')))) →
    Case a x b y c ≡ Case a' x' b' y' c'
case_parts p i = Case (p.0 i) (p.1.0 i) (p.1.1.0 i) (p.1.1.1.0 i) (p.1.1.1.1 i)

well_spelled_lem : (b : List ℕ) → T (well_spelled b) → (1 ≤ length b) × T (name_bytes b)
unfolding well_spelled between
well_spelled_lem b t =
    let l : T (between 1 32 (length b)) = and_left (between 1 32 (length b)) (name_bytes b) t in
    (leb→le 1 (length b) (and_left (leb 1 (length b)) (leb (length b) 32) l), and_right (between 1 32 (length b)) (name_bytes b) t)

module _ (names : List (List ℕ)) (u : ℕ) (few : length names ≤ 64) (apart : Distinct names)
    (spelled : (i : ℕ) → i < length names → T (well_spelled (get_or names i []))) where
  abbrev Good : ℕ → Type 0
  Good x = GoodName (skipped names) (length names) u x

  -- a good name has bytes, and bytes of names alone
  name_bytes_lem : {x : ℕ} → Good x → (1 ≤ length (bytes_of names x)) × T (name_bytes (bytes_of names x))
  unfolding spell
  name_bytes_lem (of_assumption {x} l) =
      subst (λ (b : List ℕ). (1 ≤ length b) × T (name_bytes b)) (sym (given_bytes names few x l))
      (well_spelled_lem (get_or names x []) (spelled x l))
  name_bytes_lem (generated {g} l f) =
      subst (λ (b : List ℕ). (1 ≤ length b) × T (name_bytes b)) (sym (made_bytes names g))
      (omega (arith, spell_length g), letters_bytes (g / 26 + 1) g)

  name_told : {x y : ℕ} → Good x → Good y → Split (x ≡ y) (bytes_of names x) (bytes_of names y)
  name_told {x} {y} g h = split_so (names_apart names u few apart x y g h) (split_token (name_bytes_lem g).1 (name_bytes_lem h).1)

  kind_read : (t : Term) → WellNamed Good t → (r : List ℕ) → kind_at (term_text names t ++ r) ≡ kind t
  unfolding kind_at keywords kind term_text bytes bytes_of
  kind_read (Ident x) g r = name_kind (bytes_of names x) (name_bytes_lem g).0 (name_bytes_lem g).1 r
  kind_read (Pair s t) g r = refl
  kind_read (Fst t) g r = refl
  kind_read (Snd t) g r = refl
  kind_read (Fn x t) g r = refl
  kind_read (App s t) g r = refl
  kind_read (Inl t) g r = refl
  kind_read (Inr t) g r = refl
  kind_read (Case h x s y t) g r = refl
  kind_read (Abort t) g r = refl
  kind_read (Asc t A) g r = refl
  kind_read Unit' g r = refl

  -- the texts of s and t tell whether they are equal
  abbrev Told : Term → Term → Type 0
  Told s t = WellNamed Good t → Split (s ≡ t) (term_text names s) (term_text names t)

  -- only trees of s's own kind need a look: equal texts have equal kinds
  same_kind : (s t : Term) → WellNamed Good s → OfKind (Told s) (kind s) → Told s t
  same_kind s t g f h = record {
    split = λ {r} {r'} a b e.
        let k : kind s ≡ kind t = sym (kind_read s g r) ∙ ap kind_at e ∙ kind_read t h r' in
        (of_kind (Told s) t (subst (OfKind (Told s)) k f) h).split a b e;
  }

  -- the text of a term, with what follows a token, tells the term and what follows
  term_told : (s t : Term) → WellNamed Good s → Told s t
  unfolding kind term_text bytes bytes_of
  term_told (Ident x) t g = same_kind (Ident x) t g (λ y h. split_so (ap Ident) (name_told g h))
  term_told (Pair a b) t g = same_kind (Pair a b) t g
      (λ c d h. split_two Pair (bytes "(pair ") (term_told a c g.0 h.0) (term_told b d g.1 h.1))
  term_told (Fst a) t g = same_kind (Fst a) t g (λ c h. split_one Fst (bytes "(fst ") (term_told a c g h))
  term_told (Snd a) t g = same_kind (Snd a) t g (λ c h. split_one Snd (bytes "(snd ") (term_told a c g h))
  term_told (Fn x a) t g = same_kind (Fn x a) t g
      (λ y c h. split_two Fn (bytes "(fn ") (name_told g.0 h.0) (term_told a c g.1 h.1))
  term_told (App a b) t g = same_kind (App a b) t g
      (λ c d h. split_two App (bytes "(app ") (term_told a c g.0 h.0) (term_told b d g.1 h.1))
  term_told (Inl a) t g = same_kind (Inl a) t g (λ c h. split_one Inl (bytes "(inl ") (term_told a c g h))
  term_told (Inr a) t g = same_kind (Inr a) t g (λ c h. split_one Inr (bytes "(inr ") (term_told a c g h))
  term_told (Case a x b y c) t g = same_kind (Case a x b y c) t g (λ a' x' b' y' c' h.
      let last = split_both (name_told g.3 h.3) (split_closed (term_told c c' g.4 h.4)) in
      let p = split_both (term_told b b' g.2 h.2) last in
      let q = split_both (term_told a a' g.0 h.0) (split_both (name_told g.1 h.1) p) in
      split_after (bytes "(case ") (split_so case_parts q))
  term_told (Abort a) t g = same_kind (Abort a) t g (λ c h. split_one Abort (bytes "(abort ") (term_told a c g h))
  term_told (Asc a A) t g = same_kind (Asc a A) t g
      (λ c C h. split_two Asc (bytes "(as ") (term_told a c g.0 h.0) (form_told A C g.1 h.1))
  term_told Unit' t g = same_kind Unit' t g (λ h. split_same refl (bytes "()"))

  -- equal texts, equal trees
  pub text_determines : (s t : Term) → WellNamed (GoodName (skipped names) (length names) u) s →
      WellNamed (GoodName (skipped names) (length names) u) t → term_text names s ≡ term_text names t → s ≡ t
  text_determines s t g h e = split_whole (term_told s t g h) e
