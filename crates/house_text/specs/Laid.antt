-- Texts laid one behind the other into a lent buffer. Assumes nothing.
use Rattle.std.specs.Prelude.{ℕ, ◌≡◌, ◌≤◌, true, false, List, ◌++◌, length, take, leb, Some, None}
use Rattle.std.specs.declared.option.Option as code
use Rattle.std.proofs.Math.Option.{Option, none, some}

-- one text behind another; none is a text that can't be written
unfoldable pub joined : Option (List ℕ) → Option (List ℕ) → Option (List ℕ)
joined none b = none
joined (some x) none = none
joined (some x) (some y) = some (x ++ y)

-- a text that is at most as long as the room
unfoldable pub within : ℕ → Option (List ℕ) → Option (List ℕ)
within room none = none
within room (some x) = elim (leb (length x) room) [ true ↦ some x | false ↦ none ]

-- the text in front of a place of a buffer; there is none in front of a place past its end
unfoldable pub front_of : List ℕ → ℕ → Option (List ℕ)
front_of buffer at = elim (leb at (length buffer)) [ true ↦ some (take at buffer) | false ↦ none ]

-- the text in front of the next place, where there is one
abbrev pub front_in : List ℕ → code.Option ℕ → Option (List ℕ)
front_in buffer (Some at) = front_of buffer at
front_in buffer None = none

-- a place in a buffer, or no place
abbrev pub InRoom : List ℕ → code.Option ℕ → Type 0
InRoom buffer (Some at) = at ≤ length buffer
InRoom buffer None = Unit {0}

-- a piece laid at a place of a buffer: what the buffer is afterwards, and the next place, which there is none of where the text has no
-- room. What stands behind that place is open: the writer clears it in the end
pub record Laid (piece : Option (List ℕ)) (before : List ℕ) (at : ℕ) (after : List ℕ) (next : code.Option ℕ) : Type 0 where
  pub long : length after ≡ length before
  pub front : front_in after next ≡ within (length before) (joined (front_of before at) piece)
  pub inside : at ≤ length before → InRoom before next
