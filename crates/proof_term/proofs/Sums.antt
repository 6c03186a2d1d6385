-- The code's sums as the definitions step, one number after the other. Assumes nothing.
use Prim.Native.Nat.{ℕ, suc, ◌+◌}
use mathlib.Core.Path.{◌≡◌}
use native.Mathlib.Omega.{arith}

pub add_two : (m : ℕ) → m + 2 ≡ suc (suc m)
add_two m = omega arith

pub add_three : (m : ℕ) → m + 3 ≡ suc (suc (suc m))
add_three m = omega arith

pub add_four : (m : ℕ) → m + 4 ≡ suc (suc (suc (suc m)))
add_four m = omega arith

pub add_five : (m : ℕ) → m + 5 ≡ suc (suc (suc (suc (suc m))))
add_five m = omega arith
