-- Fields of a word by shifts and masks, over place and width: `>>` and `&` take one out, `<<` and `|` put one in. Assumes nothing.
use Prim.Native.Nat.{ℕ, ◌+◌, ◌-◌, ◌*◌, ◌/◌, ◌%◌, ◌^◌, ◌≤◌, ◌<◌}
use mathlib.Core.Path.{◌≡◌, ap, ◌∙◌}
use native.Mathlib.Nat.{add_comm, mul_comm, mod-lt}
use lib.Bits.{bit_and, bit_or, and_mask, or_shifted_r}
use lib.Pow.{pow_pos, shl_exact}

-- the low bits under a mask of ones are a remainder, so the field at `place` is a quotient's
pub take_field : (place width w : ℕ) → bit_and (w / 2 ^ place) (2 ^ width - 1) ≡ w / 2 ^ place % 2 ^ width
take_field place width w = and_mask (w / 2 ^ place) width

-- no bit of x is lost at the word's top or shared with the low bits, so the two add
pub put_field : (bits place width low x : ℕ) → low < 2 ^ place → x < 2 ^ width → width + place ≤ bits →
    bit_or low (x * 2 ^ place % 2 ^ bits) ≡ low + 2 ^ place * x
put_field bits place width low x l h fits =
    ap (bit_or low) (shl_exact width place bits h fits)
    ∙ or_shifted_r x place low l
    ∙ add_comm (x * 2 ^ place) low
    ∙ ap (λ (n : ℕ). low + n) (mul_comm x (2 ^ place))

-- the same for a field that a mask cuts to its width
pub put_masked : (bits place width low x : ℕ) → low < 2 ^ place → width + place ≤ bits →
    bit_or low (bit_and x (2 ^ width - 1) * 2 ^ place % 2 ^ bits) ≡ low + 2 ^ place * (x % 2 ^ width)
put_masked bits place width low x l fits =
    ap (λ (n : ℕ). bit_or low (n * 2 ^ place % 2 ^ bits)) (and_mask x width)
    ∙ put_field bits place width low (x % 2 ^ width) l (mod-lt x (pow_pos width)) fits
