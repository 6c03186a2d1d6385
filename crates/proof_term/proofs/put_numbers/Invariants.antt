-- `put_numbers` has stored the numbers before the k-th. Assumes nothing.
use mathlib.Core.Path.{◌≡◌}
use mathlib.Core.List.{map}
use lib.Seq.{paste}
use Rattle.proof_term.specs.Put.{low}
use Rattle.proof_term.proofs.put_numbers.Given as goal

abbrev pub invariant-loop-k : goal.invariant-loop-k
invariant-loop-k l = l.terms ≡ paste l.initial.terms l.at (map low l.fn.numbers) l.k
