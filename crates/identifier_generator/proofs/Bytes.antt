-- The bytes that a name may hold, as the library tests them. Assumes nothing.
use Prim.Native.Nat.{ℕ, ◌≤◌, ◌<◌}
use mathlib.Core.Path.{◌≡◌, refl, sym, ap, ap₂, ◌∙◌}
use mathlib.Core.Bool.{Bool, true, false, ◌&&◌, ◌||◌}
use mathlib.Core.List.{List, [], ◌∷◌}
use native.Mathlib.Omega.{arith}
use borrow.Author.Tests.{le-leb, lt-leb}
use lib.Dec.{eqb, leb}
use lib.ListN.{length}
use Rattle.std.specs.Char.{is_ascii_alphanumeric}
use Rattle.std.specs.Int.{is_in_range}
use Rattle.std.specs.List.{list_all}
use Rattle.theory.specs.NameText.{between, name_byte, name_bytes, well_spelled}

-- letters and digits, and the underscore
pub byte_is : (b : ℕ) → (is_ascii_alphanumeric b || eqb b 95) ≡ name_byte b
unfolding name_byte between
byte_is b = go (is_in_range 48 57 b) (is_in_range 65 90 b) (is_in_range 97 122 b) (eqb b 95)
  where
    go : (digit upper lower mark : Bool) → (((digit || upper) || lower) || mark) ≡ (upper || (lower || (digit || mark)))
    go true true lower mark = refl
    go true false true mark = refl
    go true false false mark = refl
    go false true lower mark = refl
    go false false true mark = refl
    go false false false mark = refl

all_bytes : (name : List ℕ) → list_all name_byte name ≡ name_bytes name
unfolding name_bytes
all_bytes [] = refl
all_bytes (b ∷ bs) = ap (λ (t : Bool). name_byte b && t) (all_bytes bs)

module _ (name : List ℕ) where
  -- a name of another length is not well spelled
  pub too_short : length name ≡ 0 → false ≡ well_spelled name
  unfolding well_spelled between
  too_short e = ap (λ (t : Bool). (t && leb (length name) 32) && name_bytes name) (sym (lt-leb 1 (length name) (omega arith)))

  pub too_long : 32 < length name → false ≡ well_spelled name
  unfolding well_spelled between
  too_long h =
      sym (ap₂ (λ (s t : Bool). (s && t) && name_bytes name) (le-leb 1 (length name) (omega arith)) (lt-leb (length name) 32 h))

  -- a name of a lawful length is well spelled where its bytes are
  pub right_length : 0 < length name → length name ≤ 32 → list_all name_byte name ≡ well_spelled name
  unfolding well_spelled between
  right_length l h =
      all_bytes name
      ∙ sym (ap₂ (λ (s t : Bool). (s && t) && name_bytes name) (le-leb 1 (length name) (omega arith)) (le-leb (length name) 32 h))
