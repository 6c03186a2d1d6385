-- What stands where after records were copied a level up, or moved one place down. Assumes nothing.
use Prim.Native.Nat.{ℕ, ◌+◌, ◌<◌, ◌≤◌}
use mathlib.Core.Path.{◌≡◌}
use mathlib.Core.List.{List}
use native.Mathlib.Omega.{arith}
use lib.ListN.{length, get_or}
use Rattle.std.proofs.lemmas.List.{places}
use Rattle.context.specs.Moves.{stretch}
use Rattle.context.specs.Area.{Rec, zeroed, copies, shifts}

-- at most a stretch of records, so that no copy is copied again
module _ (n i : ℕ) (w : List Rec) (few : n ≤ stretch) (room : i + stretch + n ≤ length w) where
  pub copies_length : length (copies n i w) ≡ length w
  unfolding copies
  copies_length = grind (arith, places)

  pub copies_below : (j : ℕ) → j < i + stretch → get_or (copies n i w) j zeroed ≡ get_or w j zeroed
  unfolding copies
  copies_below j h = grind (arith, places)

  pub copies_at : (k : ℕ) → k < n → get_or (copies n i w) (i + stretch + k) zeroed ≡ get_or w (i + k) zeroed
  unfolding copies
  copies_at k h = grind (arith, places)

module _ (n i : ℕ) (w : List Rec) (room : i + n < length w) where
  pub shifts_length : length (shifts n i w) ≡ length w
  unfolding shifts
  shifts_length = grind (arith, places)

  -- below the places that change, and above them
  pub shifts_below : (j : ℕ) → j < i → get_or (shifts n i w) j zeroed ≡ get_or w j zeroed
  unfolding shifts
  shifts_below j h = grind (arith, places)

  pub shifts_above : (j : ℕ) → i + n ≤ j → get_or (shifts n i w) j zeroed ≡ get_or w j zeroed
  unfolding shifts
  shifts_above j h = grind (arith, places)

  -- each record has moved one place down
  pub shifts_at : (k : ℕ) → k < n → get_or (shifts n i w) (i + k) zeroed ≡ get_or w (i + 1 + k) zeroed
  unfolding shifts
  shifts_at k h = grind (arith, places)
