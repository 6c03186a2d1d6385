-- What the one writer of a node leaves. Assumes nothing.
use Rattle.std.specs.Prelude.{ℕ, ◌*◌, ◌/◌, ◌%◌, true, false, List, map, length, ltb}
use Rattle.std.proofs.lemmas.List.Edits.{sets}
use Rattle.theory.specs.Layout.{node_width}

-- a number of a node has 16 bits
abbrev pub low : ℕ → ℕ
low x = x % 65536

-- t after its node n is written, where t has room for the whole of it
unfoldable pub put_node : List ℕ → ℕ → List ℕ → List ℕ
put_node t n numbers = elim (ltb n (length t / node_width)) [ true ↦ sets t (n * node_width) (map low numbers) | false ↦ t ]
