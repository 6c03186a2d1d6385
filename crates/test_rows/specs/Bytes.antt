-- The list of rows as bytes: the position some bytes on, numbers of two and four bytes, and what is read into a slice. Assumes nothing.
use Rattle.std.specs.Prelude.{ℕ, zero, suc, ◌+◌, ◌*◌, min, ◌≡◌, List, length, get_or, set, drop, true, ◌==◌}
use Rattle.std.specs.List.{list_all}

-- k bytes on, and never past the end
abbrev pub onward : List ℕ → ℕ → ℕ → ℕ
onward s at k = min (at + k) (length s)

-- little-endian
abbrev pub half_at : List ℕ → ℕ → ℕ
half_at s at = get_or s at 0 + 256 * get_or s (onward s at 1) 0

abbrev pub word_at : List ℕ → ℕ → ℕ
word_at s at = half_at s at + 65536 * half_at s (onward s at 2)

-- l with n of the values that `value` reads at a position, each so many bytes on, from place i on
unfoldable pub laid : {A : Type 0} → (List ℕ → ℕ → A) → ℕ → List ℕ → ℕ → ℕ → ℕ → List A → List A
laid value wide s zero i at l = l
laid value wide s (suc n) i at l = laid value wide s n (i + 1) (onward s at wide) (set l i (value s at))

-- every number of l from `from` on is x
abbrev pub Are : List ℕ → ℕ → ℕ → Type 0
Are l from x = list_all (λ y. y == x) (drop from l) ≡ true
