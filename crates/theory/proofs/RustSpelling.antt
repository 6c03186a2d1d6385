-- The Rust's generator spells the indices 0 to 363 as document 01 does: all of them computed, by IEEE's division of f32. Assumes nothing.
use Prim.Native.Nat.{ℕ, zero, suc, ◌<◌}
use mathlib.Core.Path.{◌≡◌, refl, sym, ap, ◌∙◌}
use mathlib.Core.Bool.{Bool, true, false, ◌&&◌}
use mathlib.Core.Option.{Option, none, some}
use mathlib.Core.List.{List}
use mathlib.Core.Logic.{⊎_elim}
use native.Mathlib.Nat.{eq-or-lt_of_le, le_of_suc-le-suc, not-suc-le-zero}
use lib.Count.{count_trailing_zeros}
use lib.Ieee.{span, climb, size, odd, units, round, div, of_int, to_unsigned}
use Rattle.theory.specs.Names.{letters, spell, same}
use Rattle.theory.specs.RustNames.{floored, power, pushes, turned, generate}
use Rattle.theory.proofs.Naming.{same→}

-- the name that is generated is this one
abbrev is : Option (List ℕ) → List ℕ → Bool
is none y = false
is (some x) y = same x y

is→ : (o : Option (List ℕ)) (y : List ℕ) → is o y ≡ true → o ≡ some y
is→ none y p = cc
is→ (some x) y p = ap some (same→ x y p)

-- the first n indices
alike : ℕ → Bool
alike zero = true
alike (suc n) = is (generate n) (spell n) && alike n

alike_at : (n : ℕ) → alike n ≡ true → (i : ℕ) → i < n → generate i ≡ some (spell i)
unfolding alike
alike_at zero p i h = absurd (not-suc-le-zero h)
alike_at (suc n) p i h = go (is (generate n) (spell n)) refl p (alike_at n)
  where
    go : (b : Bool) → is (generate n) (spell n) ≡ b → (b && alike n) ≡ true →
        (alike n ≡ true → (j : ℕ) → j < n → generate j ≡ some (spell j)) → generate i ≡ some (spell i)
    go false e q ih = cc
    go true e q ih =
        ⊎_elim (λ (r : i ≡ n). ap generate r ∙ is→ (generate n) (spell n) e ∙ ap (λ (k : ℕ). some (spell k)) (sym r)) (λ l. ih q i l)
        (eq-or-lt_of_le (le_of_suc-le-suc h))

computed : alike 364 ≡ true
unfolding alike letters spell same floored power pushes turned generate span climb size odd units round div of_int to_unsigned
    count_trailing_zeros
computed = refl

-- and index 364 panics
pub panics_at : generate 364 ≡ none
unfolding floored power pushes turned generate span climb size odd units round div of_int to_unsigned count_trailing_zeros
panics_at = refl

pub spells_alike : (i : ℕ) → i < 364 → generate i ≡ some (spell i)
spells_alike i h = alike_at 364 computed i h
