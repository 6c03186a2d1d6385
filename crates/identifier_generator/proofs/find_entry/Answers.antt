-- `find_entry` has passed the entries before the one looked for. Assumes nothing.
use Prim.Native.Nat.{ℕ, ◌+◌, ◌-◌}
use mathlib.Core.Path.{◌≡◌, sym, ap, ◌∙◌}
use native.Mathlib.Omega.{arith}
use lib.ListN.{drop}
use Rattle.identifier_generator.specs.Entry.{entry_from}
use Rattle.identifier_generator.proofs.Cursor.{none_at, end_inside}
use Rattle.identifier_generator.proofs.EntryPlaces.{missing_at, held_at, later_at}
use Rattle.identifier_generator.proofs.find_entry.Goals as goal

pub returns-in_err-at : goal.returns-in_err-at
returns-in_err-at c =
    let text = c.args.text.now in
    let at = c.loop-passed.at in
    c.from_residual.ensures
    ∙ sym (c.loop-passed.invariant.1
    ∙ missing_at at (c.args.k - c.loop-passed._passed) (drop at text) (none_at text at c.in_err-at.ensures))

pub overflow_add-at : goal.overflow_add-at
overflow_add-at c =
    omega (arith, end_inside c.args.text.now c.loop-passed.at c.in_ok-at.field-0 c.in_ok-at.ensures c.loop-passed.invariant.0)

pub loop-passed-preserved : goal.loop-passed-preserved
loop-passed-preserved c =
    let text = c.args.text.now in
    let at = c.loop-passed.at in
    let size = c.in_ok-at.field-0 in
    let left = c.args.k - c.loop-passed._passed in
    let fewer : c.args.k - c.loop-passed._passed - 1 ≡ c.args.k - (c.loop-passed._passed + 1) = omega arith in (
      end_inside text at size c.in_ok-at.ensures c.loop-passed.invariant.0,
      c.loop-passed.invariant.1 ∙ later_at text at size c.in_ok-at.ensures left (omega arith)
          ∙ ap (λ (j : ℕ). entry_from (at + size) j (drop (at + size) text)) fewer,
    )

pub returns-in_err-size : goal.returns-in_err-size
returns-in_err-size c =
    let text = c.args.text.now in
    let at = c.loop-passed.at in
    c.from_residual-in_err-size.ensures
    ∙ sym (c.loop-passed.invariant.1
    ∙ missing_at at (c.args.k - c.loop-passed._passed) (drop at text) (none_at text at c.in_err-size.ensures))

pub overflow_add-result-2 : goal.overflow_add-result-2
overflow_add-result-2 c =
    omega (arith, end_inside c.args.text.now c.loop-passed.at c.in_ok-size.size c.in_ok-size.ensures c.loop-passed.invariant.0)

pub returns : goal.returns
returns c =
    let text = c.args.text.now in
    let at = c.loop-passed.at in
    let none_left : c.args.k - c.loop-passed._passed ≡ 0 = omega arith in
    sym (c.loop-passed.invariant.1 ∙ ap (λ (j : ℕ). entry_from c.loop-passed.at j (drop c.loop-passed.at c.args.text.now)) none_left
    ∙ held_at text at c.in_ok-size.size c.in_ok-size.ensures)
