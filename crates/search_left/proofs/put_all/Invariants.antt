-- `put_all` has written the nodes before the k-th. Assumes nothing.
use mathlib.Core.Path.{◌≡◌}
use mathlib.Core.List.{map}
use lib.ListN.{take}
use Rattle.proof_term.specs.Kinds.{piece_of}
use Rattle.search_laws.specs.Reading.{put_nodes}
use Rattle.search_left.proofs.put_all.Given as goal

abbrev pub invariant-loop-k : goal.invariant-loop-k
invariant-loop-k l = l.terms ≡ put_nodes l.initial.terms l.at (map piece_of (take l.k l.nodes))
