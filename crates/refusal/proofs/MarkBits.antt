-- Two bits of a number: what is put where none stood is read there, and those at other places stay; once over the places. Assumes nothing.
use Prim.Native.Nat.{ℕ, ◌+◌, ◌-◌, ◌*◌, ◌/◌, ◌%◌, ◌^◌, ◌≤◌, ◌<◌}
use mathlib.Core.Path.{◌≡◌, sym, ap, ◌∙◌, subst}
use mathlib.Core.Logic.{◌⊎◌, ⊎_elim}
use native.Mathlib.Nat.{add-mul-div_right, div-div-eq-div-mul, div-lt_iff_lt-mul, mul_assoc, mul_comm, mul_left_comm}
use native.Mathlib.Omega.{arith}
use lib.Pow.{pow_pos, pow-add}
use Rattle.refusal.specs.Marks.{bits_at}

-- the power two places or more further on
further : (a c : ℕ) → 2 ^ (a + (2 + c)) ≡ 4 * 2 ^ c * 2 ^ a
further a c = pow-add 2 a (2 + c) ∙ mul_comm (2 ^ a) (2 ^ (2 + c)) ∙ ap (λ (n : ℕ). n * 2 ^ a) (pow-add 2 2 c)

module _ (n m : ℕ) (small : m < 4) (a : ℕ) (free : bits_at a n ≡ 0) where
  -- what is put is added to the quotient
  pushed : (n + m * 2 ^ a) / 2 ^ a ≡ n / 2 ^ a + m
  pushed = add-mul-div_right n m (pow_pos a)

  pub put_here : bits_at a (n + m * 2 ^ a) ≡ m
  put_here = ap (λ (q : ℕ). q % 4) pushed ∙ last (n / 2 ^ a) free
    where
      last : (q : ℕ) → q % 4 ≡ 0 → (q + m) % 4 ≡ m
      last q e = omega (arith, small)

  -- it stays below a power of two that its two bits are below
  pub put_fits : (c : ℕ) → n < 2 ^ (a + (2 + c)) → n + m * 2 ^ a < 2 ^ (a + (2 + c))
  put_fits c h =
      let below : n / 2 ^ a < 4 * 2 ^ c = (div-lt_iff_lt-mul (pow_pos a)).1 (subst (λ (p : ℕ). n < p) (further a c) h) in
      subst (λ (p : ℕ). n + m * 2 ^ a < p) (sym (further a c))
      ((div-lt_iff_lt-mul (pow_pos a)).0 (subst (λ (q : ℕ). q < 4 * 2 ^ c) (sym pushed) (room (n / 2 ^ a) (2 ^ c) free below)))
    where
      room : (q r : ℕ) → q % 4 ≡ 0 → q < 4 * r → q + m < 4 * r
      room q r e l = omega (arith, small)

  -- the bits two places or more above do not see it
  above : (c : ℕ) → bits_at (a + (2 + c)) (n + m * 2 ^ a) ≡ bits_at (a + (2 + c)) n
  above c = ap (λ (q : ℕ). q % 4) (split (n + m * 2 ^ a) ∙ ap (λ (q : ℕ). q / 2 ^ c) (quarter ∙ kept (n / 2 ^ a) free) ∙ sym (split n))
    where
      split : (x : ℕ) → x / 2 ^ (a + (2 + c)) ≡ x / 2 ^ a / 4 / 2 ^ c
      split x =
          ap (λ (p : ℕ). x / p) (pow-add 2 a (2 + c)) ∙ sym (div-div-eq-div-mul x (2 ^ a) (2 ^ (2 + c)))
          ∙ ap (λ (p : ℕ). x / 2 ^ a / p) (pow-add 2 2 c) ∙ sym (div-div-eq-div-mul (x / 2 ^ a) 4 (2 ^ c))

      quarter : (n + m * 2 ^ a) / 2 ^ a / 4 ≡ (n / 2 ^ a + m) / 4
      quarter = ap (λ (q : ℕ). q / 4) pushed

      kept : (q : ℕ) → q % 4 ≡ 0 → (q + m) / 4 ≡ q / 4
      kept q e = omega (arith, small)

  -- nor do those two places or more below
  below : (b c : ℕ) → a ≡ b + (2 + c) → bits_at b (n + m * 2 ^ a) ≡ bits_at b n
  below b c e =
      ap (λ (q : ℕ). q % 4) (ap (λ (x : ℕ). (n + x) / 2 ^ b) added ∙ add-mul-div_right n (4 * (m * 2 ^ c)) (pow_pos b))
      ∙ fours (n / 2 ^ b) (m * 2 ^ c)
    where
      added : m * 2 ^ a ≡ 4 * (m * 2 ^ c) * 2 ^ b
      added =
          ap (λ (x : ℕ). m * 2 ^ x) e ∙ ap (λ (p : ℕ). m * p) (further b c) ∙ sym (mul_assoc m (4 * 2 ^ c) (2 ^ b))
          ∙ ap (λ (p : ℕ). p * 2 ^ b) (mul_left_comm m 4 (2 ^ c))

      fours : (q r : ℕ) → (q + 4 * r) % 4 ≡ q % 4
      fours q r = omega arith

  pub put_beside : (b : ℕ) → (a + 2 ≤ b) ⊎ (b + 2 ≤ a) → bits_at b (n + m * 2 ^ a) ≡ bits_at b n
  put_beside b o = ⊎_elim higher lower o
    where
      higher : a + 2 ≤ b → bits_at b (n + m * 2 ^ a) ≡ bits_at b n
      higher h =
          let e : a + (2 + (b - (a + 2))) ≡ b = omega arith in
          subst (λ (p : ℕ). bits_at p (n + m * 2 ^ a) ≡ bits_at p n) e (above (b - (a + 2)))

      lower : b + 2 ≤ a → bits_at b (n + m * 2 ^ a) ≡ bits_at b n
      lower h = below b (a - (b + 2)) (omega arith)
