-- Room in numbers and in nodes. Assumes nothing.
use Prim.Native.Nat.{ℕ, ◌*◌, ◌/◌}
use mathlib.Core.Path.{◌≡◌, refl}
use mathlib.Core.Bool.{Bool, true, false}
use native.Mathlib.Omega.{arith}
use lib.Dec.{leb}
use borrow.Author.Tests.{leb-true, leb-false, le-leb, lt-leb}
use Rattle.theory.specs.Layout.{node_width}

-- so many nodes fit where their number is at most the number of whole nodes in the room
pub in_nodes : (room nodes : ℕ) → leb nodes (room / node_width) ≡ leb (nodes * node_width) room
in_nodes room nodes = go (leb (nodes * node_width) room) refl
  where
    go : (b : Bool) → leb (nodes * node_width) room ≡ b → leb nodes (room / node_width) ≡ b
    go true e = le-leb nodes (room / node_width) (omega (arith, leb-true (nodes * node_width) room e))
    go false e = lt-leb nodes (room / node_width) (omega (arith, leb-false (nodes * node_width) room e))
