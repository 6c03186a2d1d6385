-- The place of a leaf is that of the first record that is it. Assumes nothing.
use mathlib.Core.Path.{◌≡◌, refl, ◌∙◌}
use mathlib.Core.Bool.{false}
use native.Mathlib.Omega.{arith}
use Rattle.std.proofs.Common.{rules, tests}
use Rattle.std.proofs.lemmas.Iterator.{YieldsList-from_range}
use Rattle.std.proofs.lemmas.Iterator.Search.{position_from_yields_List}
use Rattle.theory.specs.Form.{kind_of}
use Rattle.formula.specs.Leaves.{leaf_kind}
use Rattle.formula.proofs.KindLaws.{leaf_named}
use Rattle.search_laws.proofs.Leaf.{other_place}
use Rattle.search_leaves.proofs.Walk.{nowhere, stands, found_at}
use Rattle.search_leaves.proofs.find_leaf.Goals as goal

pub returns-then-not-is_leaf : goal.returns-then-not-is_leaf
returns-then-not-is_leaf c =
    let a = c.args in
    let none : leaf_kind (kind_of a.leaf) ≡ false = cc (leaf_named (kind_of a.leaf)) in
    nowhere (other_place a.words.now a.work.now a.sequent.level a.sequent.unordered a.leaf none)

pub returns : goal.returns
returns c =
    let a = c.args in
    let q = c.args.sequent in
    position_from_yields_List (stands a.words.now a.work.now q.level a.leaf) _ _ c.position.result c.position.ensures.ran
    (YieldsList-from_range 0 q.unordered q.unordered refl (omega arith))
    (λ x b q k. search (rules, tests))
    ∙ found_at a.words.now a.work.now q.level a.leaf q.unordered
