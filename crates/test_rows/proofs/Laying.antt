-- Reading values into a slice, one after another: the first step of what is left, and the end. Assumes nothing.
use Prim.Native.Nat.{ℕ, zero, suc, ◌+◌, ◌-◌, ◌≤◌, ◌<◌, min}
use mathlib.Core.Path.{◌≡◌, refl, sym, ap, ◌∙◌}
use mathlib.Core.List.{List}
use native.Mathlib.Omega.{arith}
use lib.ListN.{length, get_or, set}
use lib.Seq.{set_out, set-get_or}
use Rattle.std.proofs.Common.{inl, inr}
use Rattle.std.proofs.lemmas.Bool.{cases_lt}
use Rattle.test_rows.specs.Bytes.{onward, laid}

module _ {A : Type 0} (value : List ℕ → ℕ → A) (wide : ℕ) (s : List ℕ) where
  pub laid_step : (n i at : ℕ) (l : List A) → i < n →
      laid value wide s (n - i) i at l ≡ laid value wide s (n - (i + 1)) (i + 1) (onward s at wide) (set l i (value s at))
  unfolding laid
  laid_step n i at l h =
      let e : n - i ≡ suc (n - (i + 1)) = omega arith in
      ap (λ (k : ℕ). laid value wide s k i at l) e

  -- a value that stands already changes nothing
  pub laid_same : (n i at : ℕ) (l : List A) (d : A) → i < n → get_or l i d ≡ value s at →
      laid value wide s (n - i) i at l ≡ laid value wide s (n - (i + 1)) (i + 1) (onward s at wide) l
  laid_same n i at l d h e =
      laid_step n i at l h
      ∙ ap (λ (m : List A). laid value wide s (n - (i + 1)) (i + 1) (onward s at wide) m)
      (ap (λ (x : A). set l i x) (sym e) ∙ set-get_or l i d)

  -- past the end nothing is laid
  laid_out : (n i at : ℕ) (l : List A) → length l ≤ i → laid value wide s n i at l ≡ l
  unfolding laid
  laid_out zero i at l h = refl
  laid_out (suc n) i at l h =
      ap (λ (m : List A). laid value wide s n (i + 1) (onward s at wide) m) (set_out l i (value s at) h)
      ∙ laid_out n (i + 1) (onward s at wide) l (omega (arith, h))

  -- nothing is left to lay where all n are laid, or where no room is left
  pub laid_end : (n i at : ℕ) (l : List A) → min n (length l) ≤ i → laid value wide s (n - i) i at l ≡ l
  unfolding laid
  laid_end n i at l h = elim (cases_lt i n) [
    | inl below ↦ laid_out (n - i) i at l (omega (arith, h, below))
    | inr above ↦ (let e : n - i ≡ 0 = omega arith in ap (λ (k : ℕ). laid value wide s k i at l) e)
  ]
