-- Tokens of the house text: where one ends, and that names and numbers are told apart by their bytes. Assumes nothing.
use Prim.Native.Nat.{ℕ, zero, suc, ◌+◌, ◌-◌, ◌*◌, ◌/◌, ◌%◌, ◌^◌, ◌≤◌, ◌<◌}
use mathlib.Core.Path.{◌≡◌, refl, sym, ap, ap₂, ◌∙◌, subst}
use mathlib.Core.Bool.{Bool, true, false, ◌&&◌}
use mathlib.Core.List.{List, [], ◌∷◌, ◌++◌, append-nil, append_assoc, append_cancel_left, nil≢cons, head-eq_of_cons-eq, tail-eq_of_cons-eq}
use native.Mathlib.Omega.{arith}
use lib.Dec.{T, eqb, leb, ltb, le→leb, ltb→lt}
use Rattle.theory.specs.Names.{letters}
use Rattle.theory.specs.NameText.{between, name_byte, name_bytes}
use Rattle.theory.specs.Text.{digits}
use Rattle.theory.proofs.Tests.{and_T, and_left, and_right, or_left, or_right}

-- what stands after a token: nothing, a space or a closing bracket
pub data Ends : List ℕ → Type 0 where
  over : Ends []
  spaced : {r : List ℕ} → Ends (32 ∷ r)
  closed : {r : List ℕ} → Ends (41 ∷ r)

-- equal texts that begin with x and with y make P true, and go on alike
pub record Split (P : Type 0) (x y : List ℕ) : Type 0 where
  pub split : {r r' : List ℕ} → Ends r → Ends r' → x ++ r ≡ y ++ r' → P × (r ≡ r')

pub split_so : {P Q : Type 0} {x y : List ℕ} → (P → Q) → Split P x y → Split Q x y
split_so f s = record { split = λ a b e. let v = s.split a b e in (f v.0, v.1) }

-- with nothing behind them
pub split_whole : {P : Type 0} {x y : List ℕ} → Split P x y → x ≡ y → P
split_whole {P} {x} {y} s e = (s.split over over (append-nil x ∙ e ∙ sym (append-nil y))).0

-- behind the same bytes
pub split_after : {P : Type 0} (w : List ℕ) {x y : List ℕ} → Split P x y → Split P (w ++ x) (w ++ y)
split_after w {x} {y} s = record {
  split = λ {r} {r'} a b e. s.split a b
      (append_cancel_left w (x ++ r) (y ++ r') (sym (append_assoc w x r) ∙ e ∙ append_assoc w y r'));
}

-- two texts with a space between them
pub split_both : {P Q : Type 0} {x x' y y' : List ℕ} → Split P x x' → Split Q y y' → Split (P × Q) (x ++ (32 ∷ y)) (x' ++ (32 ∷ y'))
split_both {x} {x'} {y} {y'} s t = record {
  split = λ {r} {r'} a b e.
      let u = s.split spaced spaced (sym (append_assoc x (32 ∷ y) r) ∙ e ∙ append_assoc x' (32 ∷ y') r') in
      let v = t.split a b (tail-eq_of_cons-eq u.1) in ((u.0, v.0), v.1);
}

-- a text and a closing bracket
pub split_closed : {P : Type 0} {x y : List ℕ} → Split P x y → Split P (x ++ (41 ∷ [])) (y ++ (41 ∷ []))
split_closed {x} {y} s = record {
  split = λ {r} {r'} a b e.
      let u = s.split closed closed (sym (append_assoc x (41 ∷ []) r) ∙ e ∙ append_assoc y (41 ∷ []) r') in
      (u.0, tail-eq_of_cons-eq u.1);
}

-- a keyword with one field, and with two
pub split_one : {A B : Type 0} (f : A → B) (w : List ℕ) {a c : A} {x y : List ℕ} → Split (a ≡ c) x y →
    Split (f a ≡ f c) (w ++ (x ++ (41 ∷ []))) (w ++ (y ++ (41 ∷ [])))
split_one f w s = split_after w (split_so (ap f) (split_closed s))

pub split_two : {A B C : Type 0} (f : A → B → C) (w : List ℕ) {a c : A} {b d : B} {x x' y y' : List ℕ} → Split (a ≡ c) x x' →
    Split (b ≡ d) y y' → Split (f a b ≡ f c d) (w ++ (x ++ (32 ∷ (y ++ (41 ∷ []))))) (w ++ (x' ++ (32 ∷ (y' ++ (41 ∷ [])))))
split_two f w s t = split_after w (split_so (λ p. ap₂ f p.0 p.1) (split_both s (split_closed t)))

-- the same text
pub split_same : {P : Type 0} → P → (w : List ℕ) → Split P w w
split_same p w = record { split = λ {r} {r'} a b e. (p, append_cancel_left w r r' e) }

-- a text begins with a word
abbrev pub begins : List ℕ → List ℕ → Bool
begins [] z = true
begins (b ∷ w) [] = false
begins (b ∷ w) (c ∷ z) = eqb b c && begins w z

-- what the first word with which a text begins stands for
abbrev pub first_of : {A : Type 0} → List (List ℕ × A) → A → List ℕ → A
first_of [] other z = other
first_of (w ∷ ws) other z = elim (begins w.0 z) [ true ↦ w.1 | false ↦ first_of ws other z ]

-- no token goes on where another ends
no_more : {r z : List ℕ} {b : ℕ} → Ends r → T (name_byte b) → r ≡ b ∷ z → ⊥
unfolding name_byte between
no_more over t e = nil≢cons e
no_more spaced t e = subst (λ (c : ℕ). T (name_byte c)) (sym (head-eq_of_cons-eq e)) t
no_more closed t e = subst (λ (c : ℕ). T (name_byte c)) (sym (head-eq_of_cons-eq e)) t

token_ends : (x y : List ℕ) → T (name_bytes x) → T (name_bytes y) → {r r' : List ℕ} → Ends r → Ends r' → x ++ r ≡ y ++ r' →
    (x ≡ y) × (r ≡ r')
unfolding name_bytes
token_ends [] [] s t a b e = (refl, e)
token_ends [] (c ∷ y) s t a b e = absurd (no_more a (and_left (name_byte c) (name_bytes y) t) e)
token_ends (c ∷ x) [] s t a b e = absurd (no_more b (and_left (name_byte c) (name_bytes x) s) (sym e))
token_ends (c ∷ x) (d ∷ y) s t a b e =
    let v = token_ends x y (and_right (name_byte c) (name_bytes x) s) (and_right (name_byte d) (name_bytes y) t) a b
    (tail-eq_of_cons-eq e) in
    (λ i. head-eq_of_cons-eq e i ∷ v.0 i, v.1)

-- two tokens that go on alike are equal
pub split_token : {x y : List ℕ} → T (name_bytes x) → T (name_bytes y) → Split (x ≡ y) x y
split_token {x} {y} s t = record { split = λ a b e. token_ends x y s t a b e }

pub bytes_append : (x y : List ℕ) → T (name_bytes x) → T (name_bytes y) → T (name_bytes (x ++ y))
unfolding name_bytes
bytes_append [] y s t = t
bytes_append (b ∷ x) y s t =
    and_T (name_byte b) (name_bytes (x ++ y)) (and_left (name_byte b) (name_bytes x) s)
    (bytes_append x y (and_right (name_byte b) (name_bytes x) s) t)

bytes_one : (b : ℕ) → T (name_byte b) → T (name_bytes (b ∷ []))
unfolding name_bytes
bytes_one b t = and_T (name_byte b) true t tt

within : (low high b : ℕ) → low ≤ b → b ≤ high → T (between low high b)
unfolding between
within low high b l h = and_T (leb low b) (leb b high) (le→leb low b l) (le→leb b high h)

-- 0 to 9 and a to z are bytes of names
digit_byte : (d : ℕ) → d ≤ 9 → T (name_byte (48 + d))
unfolding name_byte
digit_byte d h =
    let b : ℕ = 48 + d in
    or_right (between 65 90 b) _ (or_right (between 97 122 b) _ (or_left (between 48 57 b) _ (within 48 57 b (omega arith) (omega arith))))

letter_byte : (d : ℕ) → d ≤ 25 → T (name_byte (97 + d))
unfolding name_byte
letter_byte d h =
    let b : ℕ = 97 + d in
    or_right (between 65 90 b) _ (or_left (between 97 122 b) _ (within 97 122 b (omega arith) (omega arith)))

pub digits_bytes : (n i : ℕ) → T (name_bytes (digits n i))
unfolding digits name_bytes
digits_bytes zero i = tt
digits_bytes (suc n) i = go (ltb i 10) refl (digits_bytes n (i / 10))
  where
    go : (c : Bool) → ltb i 10 ≡ c → T (name_bytes (digits n (i / 10))) →
        T (name_bytes (elim c as (λ z. List ℕ) [ true ↦ (48 + i) ∷ [] | false ↦ digits n (i / 10) ++ ((48 + i % 10) ∷ []) ]))
    go true e ih = bytes_one (48 + i) (digit_byte i (let l : i < 10 = ltb→lt i 10 (subst T (sym e) tt) in omega arith))
    go false e ih = bytes_append (digits n (i / 10)) ((48 + i % 10) ∷ []) ih (bytes_one (48 + i % 10) (digit_byte (i % 10) (omega arith)))

pub letters_bytes : (n i : ℕ) → T (name_bytes (letters n i))
unfolding letters name_bytes
letters_bytes zero i = tt
letters_bytes (suc n) i = bytes_append (letters n (i / 26)) ((97 + i % 26) ∷ []) (letters_bytes n (i / 26))
    (bytes_one (97 + i % 26) (letter_byte (i % 26) (omega arith)))

-- the number that decimal digits say, after the number before them
value_from : ℕ → List ℕ → ℕ
value_from a [] = a
value_from a (d ∷ ds) = value_from (10 * a + (d - 48)) ds

value_last : (a : ℕ) (ds : List ℕ) (d : ℕ) → value_from a (ds ++ (d ∷ [])) ≡ 10 * value_from a ds + (d - 48)
unfolding value_from
value_last a [] d = refl
value_last a (c ∷ ds) d = value_last (10 * a + (c - 48)) ds d

digits_value : (n i : ℕ) → i < 10 ^ n → value_from 0 (digits n i) ≡ i
unfolding digits value_from
digits_value zero i h = omega arith
digits_value (suc n) i h = go (ltb i 10) (digits_value n (i / 10) (omega arith))
  where
    go : (c : Bool) → value_from 0 (digits n (i / 10)) ≡ i / 10 →
        value_from 0 (elim c as (λ z. List ℕ) [ true ↦ (48 + i) ∷ [] | false ↦ digits n (i / 10) ++ ((48 + i % 10) ∷ []) ]) ≡ i
    go true ih = omega arith
    go false ih = value_last 0 (digits n (i / 10)) (48 + i % 10) ∙ omega arith

-- numbers of at most n digits have equal digits only if they are equal
pub digits_apart : (n i j : ℕ) → i < 10 ^ n → j < 10 ^ n → digits n i ≡ digits n j → i ≡ j
digits_apart n i j h k e = sym (digits_value n i h) ∙ ap (value_from 0) e ∙ digits_value n j k
