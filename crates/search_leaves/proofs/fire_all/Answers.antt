-- For whatever the walk may start from, it has come down to position i. Assumes nothing.
use mathlib.Core.Path.{refl, sym, ◌∙◌}
use borrow.Author.Rules.{rules}
use native.Mathlib.Omega.{arith}
use Rattle.search_leaves.proofs.Walk.{below_some, below_none}
use Rattle.search_leaves.proofs.Fall.{start_of, walk_starts, walk_fits, walk_past, walk_some, walk_fires}
use Rattle.search_leaves.proofs.Fall.{walk_ends, before_one}
use Rattle.search_leaves.proofs.fire_all.Goals as goal

pub loop-i-init : goal.loop-i-init
loop-i-init c =
    λ m nf base st. walk_starts st _

pub fires-requires : goal.fires-requires
fires-requires c =
    let h = walk_fits (start_of c.requires) (c.loop-i.invariant _ _ _ (start_of c.requires)) in
    omega arith

pub overflow_sub-n : goal.overflow_sub-n
overflow_sub-n c =
    let j = below_some (sym c.fires.ensures ∙ c.in-Some.is) in
    let st = start_of c.requires in
    walk_some st _ (c.loop-i.invariant _ _ _ st) (before_one c.loop-i-test.true) j.0 j.1

pub fire_one-p-requires : goal.fire_one-p-requires
fire_one-p-requires c =
    let j = below_some (sym c.fires.ensures ∙ c.in-Some.is) in
    let st = start_of c.requires in
    let h = walk_fits st (c.loop-i.invariant _ _ _ st) in
    record { places = omega arith; room = h.3 }

pub loop-i-preserved-in-Some : goal.loop-i-preserved-in-Some
loop-i-preserved-in-Some c =
    λ m nf base st.
    let x = c.loop-i.invariant m nf base st in
    let d = before_one c.loop-i-test.true in
    let j = below_some (sym c.fires.ensures ∙ c.in-Some.is) in
    let e = c.fire_one-p.ensures in
    walk_fires st _ x d j.0 j.1 _ (before_one (walk_some st _ x d j.0 j.1)) e.terms e.work e.result

pub loop-i-preserved : goal.loop-i-preserved
loop-i-preserved c =
    λ m nf base st.
    walk_past st _ (c.loop-i.invariant m nf base st) (before_one c.loop-i-test.true) refl
    (below_none (sym c.fires.ensures ∙ c.in_default.is))

pub returns : goal.returns
returns c =
    let st = start_of c.requires in
    walk_ends st (c.loop-i.invariant _ _ _ st) (search rules)
