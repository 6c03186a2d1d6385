-- Numbers packed into one number, by the widths of their fields in bits. Assumes nothing.
use Rattle.std.specs.Prelude.{ℕ, ◌+◌, ◌*◌, ◌/◌, ◌%◌, ◌^◌, ◌<◌, List, [], ◌∷◌}

-- x taken apart: a field of each width, the first in the low bits, and at the end what is left above them
unfoldable pub fields : List ℕ → ℕ → List ℕ
fields [] x = x ∷ []
fields (w ∷ widths) x = (x % 2 ^ w) ∷ fields widths (x / 2 ^ w)

-- the fields put together
unfoldable pub joined : List ℕ → List ℕ → ℕ
joined [] [] = 0
joined [] (f ∷ fs) = f
joined (w ∷ widths) [] = 0
joined (w ∷ widths) (f ∷ fs) = f + 2 ^ w * joined widths fs

-- what is left of x above its fields
unfoldable pub rest : List ℕ → ℕ → ℕ
rest [] x = x
rest (w ∷ widths) x = rest widths (x / 2 ^ w)

-- the bits of all fields, where what is left has c
unfoldable pub bits : List ℕ → ℕ → ℕ
bits [] c = c
bits (w ∷ widths) c = w + bits widths c

-- each field fits its width, and r is left above them
pub data InWidths (r : ℕ) : List ℕ → List ℕ → Type 0 where
  left : InWidths r [] (r ∷ [])
  field : {w f : ℕ} {widths fs : List ℕ} → f < 2 ^ w → InWidths r widths fs → InWidths r (w ∷ widths) (f ∷ fs)

-- a formula word: kind in the low 4 bits, left in the next 14, right above them
abbrev pub word_widths : List ℕ
word_widths = 4 ∷ 14 ∷ []

-- a little-endian number: a byte for each width and one above them
abbrev pub byte_widths : List ℕ → List ℕ
byte_widths [] = []
byte_widths (b ∷ bs) = 8 ∷ byte_widths bs
