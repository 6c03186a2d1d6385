-- Leaves by their words. Assumes nothing.
use Rattle.std.specs.Prelude.{ℕ, Bool, ◌&&◌, ◌||◌, eqb}
use Rattle.theory.specs.Form.{kind_of}

-- "A leaf (2, 6, 7)"
unfoldable pub leaf_kind : ℕ → Bool
leaf_kind k = eqb k 2 || (eqb k 6 || eqb k 7)

-- "Leaves are equal when their words are"
unfoldable pub equal_leaves : ℕ → ℕ → Bool
equal_leaves v w = leaf_kind (kind_of v) && eqb v w
