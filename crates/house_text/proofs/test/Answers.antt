-- `test` returns the first refusal. Assumes nothing.
use mathlib.Core.Path.{◌≡◌, refl, sym, ◌∙◌}
use mathlib.Core.Bool.{true, ◌&&◌}
use mathlib.Core.List.{[]}
use lib.ListN.{length}
use Rattle.theory.specs.Refusal.{formula_sizes, node_sizes, fault_at, or_else, unless}
use Rattle.house_text.specs.Drafted.{draft_of}
use Rattle.house_text.proofs.Testing.{wrong_words, right_words, in_order_lem, nodes_fit}
use Rattle.house_text.proofs.test.Goals as goal
use Rattle.house_text.proofs.test.Goals.{then-not-formula_sizes-via-then-not-formula_sizes}
use Rattle.house_text.proofs.test.Goals.{then-not-formula_sizes-via-else-not-formula_sizes+then-not-node_sizes, Else-not-node_sizes}

-- both sizes are right
sizes : (c : Else-not-node_sizes) → let d = c.args.draft in
    true ≡ (formula_sizes (length d.words.now) d.count && node_sizes (length d.terms.now) d.nodes)
sizes c =
    let d = c.args.draft in
    c.if-not-node_sizes.ensures ∙ right_words (node_sizes (length d.terms.now) d.nodes) c.if-not-formula_sizes.ensures

pub returns-then-not-formula_sizes : goal.returns-then-not-formula_sizes
unfolding fault_at or_else unless
returns-then-not-formula_sizes c =
    let d = c.args.draft in
    let nodes = node_sizes (length c.args.draft.terms.now) c.args.draft.nodes in
    elim c.then-not-formula_sizes.branch [
      | then-not-formula_sizes-via-then-not-formula_sizes w ↦
          in_order_lem (draft_of d []) (wrong_words nodes w.if-not-formula_sizes.ensures) refl refl refl refl
      | then-not-formula_sizes-via-else-not-formula_sizes+then-not-node_sizes w ↦
          in_order_lem (draft_of d []) (w.if-not-node_sizes.ensures ∙ right_words nodes w.if-not-formula_sizes.ensures) refl refl refl refl
    ]

pub returns-in-Some : goal.returns-in-Some
unfolding fault_at or_else unless
returns-in-Some c =
    in_order_lem (draft_of c.args.draft []) (sizes (goal.at.returns-in-Some c).Else-not-node_sizes)
    c.in-Some.ensures refl refl refl

pub returns-in-Some-too_many : goal.returns-in-Some-too_many
unfolding fault_at or_else unless
returns-in-Some-too_many c =
    in_order_lem (draft_of c.args.draft []) (sizes (goal.at.returns-in-Some-too_many c).Else-not-node_sizes)
    c.in_default.ensures c.in-Some-too_many.ensures refl refl

pub returns-in-Some-bad_name : goal.returns-in-Some-bad_name
unfolding fault_at or_else unless
returns-in-Some-bad_name c =
    in_order_lem (draft_of c.args.draft []) (sizes (goal.at.returns-in-Some-bad_name c).Else-not-node_sizes)
    c.in_default.ensures c.in_default-too_many.ensures c.in-Some-bad_name.ensures refl

pub bad_term-requires : goal.bad_term-requires
bad_term-requires c =
    let d = c.args.draft in
    nodes_fit (length d.words.now) d.count (length d.terms.now) d.nodes (sym (sizes (goal.at.bad_term-requires c).Else-not-node_sizes))

pub returns-in-Some-bad_term : goal.returns-in-Some-bad_term
unfolding fault_at or_else unless
returns-in-Some-bad_term c =
    in_order_lem (draft_of c.args.draft []) (sizes (goal.at.returns-in-Some-bad_term c).Else-not-node_sizes)
    c.in_default.ensures c.in_default-too_many.ensures c.in_default-bad_name.ensures
    c.in-Some-bad_term.ensures

pub returns : goal.returns
unfolding fault_at or_else unless
returns c =
    in_order_lem (draft_of c.args.draft []) (sizes (goal.at.returns c).Else-not-node_sizes)
    c.in_default.ensures c.in_default-too_many.ensures c.in_default-bad_name.ensures
    c.in_default-bad_term.ensures
