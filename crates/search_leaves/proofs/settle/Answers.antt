-- Rule 1, and then rule 2. Assumes nothing.
use mathlib.Core.Path.{◌≡◌, sym, ◌∙◌}
use native.Mathlib.Omega.{arith}
use Rattle.std.specs.Prelude.{◌≤◌, get_or}
use Rattle.search_laws.specs.Leaves.{leaf_place}
use Rattle.search_laws.specs.Turning.{turns_end}
use Rattle.search_laws.proofs.Settle.{settle_leaf}
use Rattle.search_leaves.proofs.Walk.{below_some, below_none}
use Rattle.search_leaves.proofs.settle.Goals as goal

pub overflow_add-sequent : goal.overflow_add-sequent
overflow_add-sequent c =
    let j = below_some (sym c.find_leaf.ensures ∙ c.in-Some.is) in
    let r = c.requires.represented in
    omega (arith, r.seats.level_in, r.rooms.most_levels, r.seats.fits)

pub returns-in-Some : goal.returns-in-Some
returns-in-Some c =
    λ taken.
    let a = c.args in
    let j = below_some (sym c.find_leaf.ensures ∙ c.in-Some.is) in
    let place : c.in-Some.j ≡ leaf_place a.words.now a.work.now a.sequent.level a.sequent.unordered
    (get_or a.words.now a.sequent.goal 0) = cc in
    turns_end (settle_leaf taken c.requires.represented place j.1 c.term_at-node.ensures)

pub fire-requires : goal.fire-requires
fire-requires c =
    let a = c.args in
    let far = below_none (sym c.find_leaf.ensures ∙ c.in_default.is) in
    let absent : a.sequent.unordered ≤ leaf_place a.words.now a.work.now a.sequent.level a.sequent.unordered
    (get_or a.words.now a.sequent.goal 0) = rw c.word-goal.ensures at far in
    record { represented = c.requires.represented; absent = (c.requires.empty, absent) }
