-- Powers of 26 as the loop of `digit` meets them. Assumes nothing.
use Prim.Native.Nat.{ℕ, ◌+◌, ◌*◌, ◌/◌, ◌%◌, ◌^◌, ◌≤◌, ◌<◌}
use mathlib.Core.Path.{◌≡◌, sym, ap}
use native.Mathlib.Nat.{pow-suc, pow-le-pow_right, div-eq_of_lt}
use native.Mathlib.Numerals.{add-one}
use native.Mathlib.Omega.{arith}

pub power_next : (n : ℕ) → 26 ^ (n + 1) ≡ 26 ^ n * 26
power_next n = rw add-one (pow-suc 26 n)

pub power_positive : (n : ℕ) → 0 < 26 ^ n
power_positive n = pow-le-pow_right {n = 26} (omega arith) {i = 0} {j = n} (omega arith)

-- a power above i leaves nothing of it
pub passed : (i n k : ℕ) → i / 26 < 26 ^ n → n < k → 0 ≡ i / 26 ^ k % 26
passed i n k h l =
    let more : 26 ^ (n + 1) ≤ 26 ^ k = pow-le-pow_right {n = 26} (omega arith) (omega arith) in
    let less : i < 26 ^ k = omega (arith, power_next n) in
    ap (λ (m : ℕ). m % 26) (sym (div-eq_of_lt less))
