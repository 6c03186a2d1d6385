-- `marked_open` goes down with the same answer; what is passed has handed its mark to its parts. Assumes nothing.
use borrow.Author.Rules.{rules}
use native.Mathlib.Omega.{arith}
use Prim.Native.Nat.{ℕ}
use mathlib.Core.Path.{sym, ap, ◌∙◌}
use Rattle.theory.specs.Form.{shape}
use Rattle.status.specs.Marks.{open_by_itself}
use Rattle.status.proofs.Marked.{going_starts, going_past, going_stops, going_on, going_ends}
use Rattle.status.proofs.marked_open.Goals as goal

pub loop-i-init : goal.loop-i-init
loop-i-init c =
    let a = c.args in
    going_starts a.words.now a.count a.from a.work.now c.requires.sizes c.requires.good

pub shape_of-work-then-open_leaf : goal.shape_of-work-then-open_leaf
shape_of-work-then-open_leaf c =
    c.loop-i.invariant.long

pub returns-then-open_leaf : goal.returns-then-open_leaf
returns-then-open_leaf c =
    let a = c.args in
    going_stops a.words.now a.count a.from a.work.now c.requires.sizes c.requires.good c.loop-i.invariant c.loop-i-test.true
    (λ e. c.if-formula_at-ne0.true (c.formula_at.ensures ∙ e))
    (sym c.if-open_leaf.true ∙ c.open_leaf.ensures ∙ ap (λ (v : ℕ). open_by_itself (shape v)) c.word.ensures)

pub loop-i-preserved-then-formula_at-ne0 : goal.loop-i-preserved-then-formula_at-ne0
loop-i-preserved-then-formula_at-ne0 c =
    let a = c.args in
    going_on a.words.now a.count a.from a.work.now c.requires.sizes c.requires.good c.loop-i.invariant c.loop-i-test.true
    (λ e. c.if-formula_at-ne0.true (c.formula_at.ensures ∙ e))
    (sym c.if-open_leaf.false ∙ c.open_leaf.ensures ∙ ap (λ (v : ℕ). open_by_itself (shape v)) c.word.ensures)
    (search rules) c.mark_parts.ensures

pub loop-i-preserved : goal.loop-i-preserved
loop-i-preserved c =
    let a = c.args in
    going_past a.words.now a.count a.from a.work.now c.requires.sizes c.requires.good c.loop-i.invariant c.loop-i-test.true
    (sym c.formula_at.ensures ∙ omega arith)

pub shape_of-work : goal.shape_of-work
shape_of-work c =
    c.loop-i.invariant.long

pub returns : goal.returns
returns c =
    let a = c.args in
    going_ends a.words.now a.count a.from a.work.now c.requires.sizes c.requires.good c.loop-i.invariant c.loop-i-test.false
