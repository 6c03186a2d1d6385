-- `digit` keeps the power of the digits it has passed. Assumes nothing.
use Prim.Native.Nat.{◌^◌}
use mathlib.Core.Path.{◌≡◌}
use Rattle.identifier_generator.proofs.digit.Given as goal

abbrev pub invariant-loop-passed : goal.invariant-loop-passed
invariant-loop-passed l = l.power ≡ 26 ^ l._passed
