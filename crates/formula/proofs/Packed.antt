-- The word that shifts and ors make of three fields is theory's `pack` of them, each at its width. Assumes nothing.
use Prim.Native.Nat.{ℕ, ◌+◌, ◌*◌, ◌%◌, ◌^◌}
use mathlib.Core.Path.{◌≡◌, ap, ◌∙◌}
use native.Mathlib.Omega.{arith}
use lib.Dec.{lit≤}
use lib.Bits.{bit_and, bit_or, and_mask, mask_lt}
use Rattle.theory.specs.Form.{pack}
use Rattle.theory.proofs.Fields.{put_masked}

-- kind and left: the 18 low bits
low_fields : (k l : ℕ) → bit_or (bit_and k 15) (bit_and l 16383 * 2 ^ 4 % 2 ^ 32) ≡ k % 16 + 16 * (l % 16384)
low_fields k l = put_masked 32 4 14 (bit_and k 15) l (mask_lt k 4) (lit≤ tt) ∙ ap (λ (n : ℕ). n + 16 * (l % 16384)) (and_mask k 4)

pub packed : (k l r : ℕ) →
    bit_or (bit_or (bit_and k 15) (bit_and l 16383 * 2 ^ 4 % 2 ^ 32)) (bit_and r 16383 * 2 ^ 18 % 2 ^ 32)
    ≡ pack (k % 16) (l % 16384) (r % 16384)
packed k l r =
    put_masked 32 18 14 (bit_or (bit_and k 15) (bit_and l 16383 * 2 ^ 4 % 2 ^ 32)) r (omega (arith, low_fields k l)) (lit≤ tt)
    ∙ ap (λ (n : ℕ). n + 262144 * (r % 16384)) (low_fields k l)
