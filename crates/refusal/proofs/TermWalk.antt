-- The walk over the nodes that looks for the lowest bad one. Assumes nothing.
use Prim.Native.Nat.{ℕ, suc, ◌+◌, ◌-◌, ◌≤◌, ◌<◌}
use mathlib.Core.Path.{◌≡◌, sym, ap, ◌∙◌}
use mathlib.Core.Bool.{true, false}
use mathlib.Core.Option.{none, some}
use mathlib.Core.List.{List}
use native.Mathlib.Numerals.{add-one}
use native.Mathlib.Omega.{arith}
use Rattle.theory.specs.Layout.{lawful_node, bad_node_from}
use Rattle.theory.proofs.LawfulNodes.{next_node, node_refused, root_refused, term_passes}

module _ (names : List (List ℕ)) (count : ℕ) (t : List ℕ) (nodes i : ℕ) where
  -- a node that keeps the layout is passed over
  pub walk_on : i < nodes → lawful_node names count t i ≡ true →
      bad_node_from names count t (i + 1) (nodes - (i + 1)) ≡ bad_node_from names count t i (nodes - i)
  walk_on h e =
      let left : nodes - i ≡ suc (nodes - (i + 1)) = omega arith in
      ap (λ (j : ℕ). bad_node_from names count t j (nodes - (i + 1))) (add-one i)
      ∙ sym (next_node names count t i (nodes - (i + 1)) e)
      ∙ ap (bad_node_from names count t i) (sym left)

  -- one that breaks it is the lowest
  pub walk_stops : i < nodes → lawful_node names count t i ≡ false → bad_node_from names count t i (nodes - i) ≡ some i
  unfolding bad_node_from
  walk_stops h e =
      let left : nodes - i ≡ suc (nodes - (i + 1)) = omega arith in
      ap (bad_node_from names count t i) left ∙ rw (e, bad_node_from)

  -- past the last there is none
  pub walk_ends : nodes ≤ i → bad_node_from names count t i (nodes - i) ≡ none
  unfolding bad_node_from
  walk_ends h =
      let left : nodes - i ≡ 0 = omega arith in
      ap (bad_node_from names count t i) left

-- what the check goes by in that walk
pub ruleset term_steps = (walk_on, walk_stops, walk_ends, node_refused, root_refused, term_passes)
