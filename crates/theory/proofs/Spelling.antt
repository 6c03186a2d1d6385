-- Laws of spellings for the code that computes them: the length and each letter of an index, and names that are the same. Assumes nothing.
use Prim.Native.Nat.{ℕ, zero, suc, ◌+◌, ◌/◌, ◌%◌, ◌^◌, ◌<◌}
use mathlib.Core.Path.{◌≡◌, refl, sym, ap, ◌∙◌, subst}
use mathlib.Core.Bool.{Bool, true, false}
use mathlib.Core.List.{List, [], ◌∷◌}
use native.Mathlib.Nat.{div-one, div-div-eq-div-mul, pow-succ'}
use native.Mathlib.Omega.{arith}
use borrow.Author.Tests.{eq-eqb}
use lib.ListN.{length, get_or, get_or-append}
use lib.Seq.{ext_get_or}
use Rattle.theory.specs.Names.{letters, spell, same}
use Rattle.theory.proofs.Naming.{letters_length, last_letter, same→}

-- index i has i/26+1 letters
pub spell_length : (i : ℕ) → length (spell i) ≡ i / 26 + 1
unfolding spell
spell_length i = letters_length (i / 26 + 1) i

-- the letter with k more after it is digit k
digit_letter : (n i j k : ℕ) → j + suc k ≡ n → get_or (letters n i) j 0 ≡ 97 + i / 26 ^ k % 26
unfolding letters
digit_letter zero i j k e = absurd (omega arith)
digit_letter (suc n) i j zero e =
    let j_is : j ≡ n = omega arith in
    ap (λ (m : ℕ). get_or (letters (suc n) i) m 0) j_is ∙ last_letter n i ∙ ap (λ (m : ℕ). 97 + m % 26) (sym (div-one i))
digit_letter (suc n) i j (suc k) e =
    let less : j < length (letters n (i / 26)) = omega (arith, letters_length n (i / 26)) in
    get_or-append (letters n (i / 26)) ((97 + i % 26) ∷ []) 0 j less
    ∙ digit_letter n (i / 26) j k (omega arith)
    ∙ ap (λ (m : ℕ). 97 + m % 26) (div-div-eq-div-mul i 26 (26 ^ k) ∙ ap (λ (m : ℕ). i / m) (sym (pow-succ' 26 k)))

pub spell_letter : (i j k : ℕ) → j + suc k ≡ i / 26 + 1 → get_or (spell i) j 0 ≡ 97 + i / 26 ^ k % 26
unfolding spell
spell_letter i j k e = digit_letter (i / 26 + 1) i j k e

pub same_refl : (a : List ℕ) → same a a ≡ true
unfolding same
same_refl [] = refl
same_refl (x ∷ xs) = rw (eq-eqb x x refl) (same_refl xs)

pub same-≡ : {a b : List ℕ} → a ≡ b → same a b ≡ true
same-≡ {a} e = subst (λ (x : List ℕ). same a x ≡ true) e (same_refl a)

-- names that differ are not the same
pub not_same : (a b : List ℕ) → (a ≡ b → ⊥) → same a b ≡ false
not_same a b h = go (same a b) refl
  where
    go : (t : Bool) → same a b ≡ t → t ≡ false
    go false e = refl
    go true e = absurd (h (same→ a b e))

-- names of one length are the same where every byte is
pub same_by_bytes : (a b : List ℕ) → length a ≡ length b → ((k : ℕ) → k < length b → get_or a k 0 ≡ get_or b k 0) → same a b ≡ true
same_by_bytes a b e h = same-≡ (ext_get_or 0 a b e (λ k l. h k (omega arith)))

pub differ_at : (a b : List ℕ) (k : ℕ) → (get_or a k 0 ≡ get_or b k 0 → ⊥) → same a b ≡ false
differ_at a b k h = not_same a b (λ e. h (ap (λ (x : List ℕ). get_or x k 0) e))

pub differ_length : (a b : List ℕ) → (length a ≡ length b → ⊥) → same a b ≡ false
differ_length a b h = not_same a b (λ e. h (ap length e))
