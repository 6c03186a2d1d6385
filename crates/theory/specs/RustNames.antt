-- `generate` of the Rust's `identifier_generator.rs` as a definition, line by line, as a 64-bit build with overflow checks runs it. Each
-- line of the Rust stands above its own, but `self.idx += 1`, which stands in RustProver with `generate_identifier`. Assumes nothing.
use Rattle.std.specs.Prelude.{ℕ, zero, suc, ◌+◌, ◌%◌, ◌^◌, true, false, List, [], ◌∷◌, ◌++◌, reverse, ltb, pos}
use Rattle.std.proofs.Math.Option.{Option, none, some}
use Rattle.std.specs.Float.{binary32}
use Rattle.std.specs.Float.Ieee.{of_int, div, to_unsigned}

-- let alphabet_length = alphabet.len();
abbrev pub alphabet_length : ℕ
alphabet_length = 26

-- alphabet[n]: "abcdefghijklmnopqrstuvwxyz"
abbrev pub letter_at : ℕ → ℕ
letter_at n = 97 + n

-- f32::floor(a as f32 / b as f32) as usize: the quotient is not negative, so that `as` toward zero is `floor` too
unfoldable pub floored : ℕ → ℕ → ℕ
floored a b = to_unsigned 64 (div binary32 (of_int binary32 (pos a)) (of_int binary32 (pos b)))

-- usize::pow(alphabet_length, i.try_into().unwrap()): none where the checked power overflows
unfoldable pub power : ℕ → Option ℕ
power i = elim (ltb (alphabet_length ^ i) (2 ^ 64)) [ true ↦ some (alphabet_length ^ i) | false ↦ none ]

-- for i in 0..num_digits {
--     identifier.push(alphabet[(f32::floor((self.idx as f32) / usize::pow(..) as f32) as usize) % alphabet_length]);
-- }
-- of which n turns are left; none: a power overflowed
unfoldable pub pushes : ℕ → ℕ → ℕ → List ℕ → Option (List ℕ)
pushes idx zero i identifier = some identifier
pushes idx (suc n) i identifier =
    elim (power i) [
      | none ↦ none
      | some p ↦ pushes idx n (suc i) (identifier ++ (letter_at (floored idx p % alphabet_length) ∷ []))
    ]

unfoldable pub turned : Option (List ℕ) → Option (List ℕ)
turned none = none
turned (some identifier) = some (reverse identifier)

-- pub fn generate(&mut self) -> String: the name that idx gives; none: it panics, since a power overflows
unfoldable pub generate : ℕ → Option (List ℕ)
generate idx =
    -- let num_digits = f32::floor(self.idx as f32 / alphabet_length as f32) as usize + 1;
    let num_digits : ℕ = floored idx alphabet_length + 1 in
    -- let mut identifier = String::new(); for ..
    -- identifier.chars().rev().collect()
    turned (pushes idx num_digits 0 [])
