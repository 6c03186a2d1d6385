-- `bad_term` walks on where the lowest bad node is still the lowest from here. Assumes nothing.
use Prim.Native.Nat.{◌-◌}
use mathlib.Core.Path.{◌≡◌}
use Rattle.theory.specs.NameText.{names_in}
use Rattle.theory.specs.Layout.{bad_node_from}
use Rattle.refusal.proofs.bad_term.Given as goal

abbrev pub invariant-loop-i : goal.invariant-loop-i
invariant-loop-i l =
    bad_node_from (names_in l.text) l.count l.terms l.i (l.nodes - l.i) ≡ bad_node_from (names_in l.text) l.count l.terms 0 l.nodes
