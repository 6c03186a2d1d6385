-- Laws of lists read off a function. Assumes nothing.
use Rattle.std.proofs.lemmas.List.{places}
use Prim.Native.Nat.{ℕ, zero, suc, ◌+◌, ◌<◌}
use mathlib.Core.Path.{◌≡◌, refl, sym, ap, ap₂, ◌∙◌}
use mathlib.Core.List.{List, [], ◌∷◌, ◌++◌, append_assoc, append-nil}
use native.Mathlib.Omega.{arith}
use native.Mathlib.Nat.{not-suc-le-zero}
use lib.ListN.{length, get_or, length-append}
use Rattle.search_laws.specs.Tables.{upto, downto, from}

module _ {A : Type 0} where
  pub upto_length : (g : ℕ → A) (n : ℕ) → length (upto g n) ≡ n
  unfolding upto
  upto_length g zero = refl
  upto_length g (suc n) = length-append (upto g n) (g n ∷ []) ∙ omega (arith, upto_length g n)

  pub downto_length : (g : ℕ → A) (n : ℕ) → length (downto g n) ≡ n
  unfolding downto
  downto_length g zero = refl
  downto_length g (suc n) = ap suc (downto_length g n)

  -- functions that agree below n are read alike
  pub upto_ext : {g h : ℕ → A} (n : ℕ) → ((i : ℕ) → i < n → g i ≡ h i) → upto g n ≡ upto h n
  unfolding upto
  upto_ext zero e = refl
  upto_ext {g} {h} (suc n) e =
      ap₂ (λ (a b : List A). a ++ b) (upto_ext {g = g} {h = h} n (λ i k. e i (omega arith))) (ap (λ (x : A). x ∷ []) (e n (omega arith)))

  pub downto_ext : {g h : ℕ → A} (n : ℕ) → ((i : ℕ) → i < n → g i ≡ h i) → downto g n ≡ downto h n
  unfolding downto
  downto_ext zero e = refl
  downto_ext {g} {h} (suc n) e =
      ap₂ (λ (x : A) (a : List A). x ∷ a) (e n (omega arith)) (downto_ext {g = g} {h = h} n (λ i k. e i (omega arith)))

  pub upto_at : (g : ℕ → A) (n i : ℕ) (d : A) → i < n → get_or (upto g n) i d ≡ g i
  unfolding upto
  upto_at g zero i d h = absurd (not-suc-le-zero h)
  upto_at g (suc n) i d h = grind (arith, places, upto_length g n, upto_at g n i d)

  -- the first i, and then the next k
  pub upto_split : (g : ℕ → A) (i k : ℕ) → upto g (i + k) ≡ upto g i ++ from g i k
  unfolding upto from
  upto_split g i zero = ap (upto g) (let p : i + 0 ≡ i = omega arith in p) ∙ sym (append-nil (upto g i))
  upto_split g i (suc k) =
      ap (upto g) (let p : i + suc k ≡ suc i + k = omega arith in p) ∙ upto_split g (suc i) k
      ∙ append_assoc (upto g i) (g i ∷ []) (from g (suc i) k)

  pub from_ext : (g h : ℕ → A) (i j n : ℕ) → ((k : ℕ) → k < n → g (i + k) ≡ h (j + k)) → from g i n ≡ from h j n
  unfolding from
  from_ext g h i j zero e = refl
  from_ext g h i j (suc n) e =
      ap₂ (λ (x : A) (xs : List A). x ∷ xs)
      (ap g (let p : i ≡ i + 0 = omega arith in p) ∙ e 0 (omega arith) ∙ ap h (let p : j + 0 ≡ j = omega arith in p))
      (from_ext g h (suc i) (suc j) n (λ k l. ap g (let p : suc i + k ≡ i + suc k = omega arith in p)
      ∙ e (suc k) (omega arith) ∙ ap h (let p : j + suc k ≡ suc j + k = omega arith in p)))

  pub from_length : (g : ℕ → A) (i n : ℕ) → length (from g i n) ≡ n
  unfolding from
  from_length g i zero = refl
  from_length g i (suc n) = ap suc (from_length g (suc i) n)

  -- two ways to part one list at the same place
  pub parts_same : (a b c d : List A) → length a ≡ length b → a ++ c ≡ b ++ d → (a ≡ b) × (c ≡ d)
  parts_same [] [] c d l e = (refl, e)
  parts_same [] (y ∷ b) c d l e = absurd (omega arith)
  parts_same (x ∷ a) [] c d l e = absurd (omega arith)
  parts_same (x ∷ a) (y ∷ b) c d l e = let r = parts_same a b c d (omega arith) cc in (cc, r.1)
