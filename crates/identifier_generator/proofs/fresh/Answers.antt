-- `fresh` has passed only indices that are taken. The measure is the way to the fresh index. Assumes nothing.
use Prim.Native.Nat.{◌<◌}
use mathlib.Core.Path.{sym, ◌∙◌}
use native.Mathlib.Omega.{arith}
use Rattle.theory.specs.Names.{skipped, fresh}
use Rattle.theory.specs.NameText.{names_in}
use Rattle.theory.proofs.Derive.{fresh_above}
use Rattle.theory.proofs.Entries.{skipped_few}
use Rattle.theory.proofs.FirstFree.{fresh_bound, taken_below, free_is_fresh}
use Rattle.identifier_generator.proofs.fresh.Goals as goal
use Rattle.identifier_generator.proofs.fresh.Goals.{In-loop-next}

-- an index that is taken is below the fresh one
below : (c : In-loop-next) →
    c.loop-next.next < fresh (skipped (names_in c.args.text.now))
    c.args.i
below c =
    let args = c.args in
    taken_below (skipped (names_in args.text.now)) args.i c.loop-next.next c.loop-next.invariant.1
    (sym c.spelled_like.ensures ∙ c.loop-next-test.true)

pub loop-next-init : goal.loop-next-init
loop-next-init c =
    (omega arith, fresh_above (skipped (names_in c.args.text.now)) c.args.i)

pub overflow_add-next : goal.overflow_add-next
overflow_add-next c =
    let args = c.args in
    omega (arith, fresh_bound (skipped (names_in args.text.now)) args.i, skipped_few args.text.now)

pub loop-next-smaller : goal.loop-next-smaller
loop-next-smaller c =
    omega (arith, below c)

pub loop-next-preserved : goal.loop-next-preserved
loop-next-preserved c =
    omega (arith, below c)

pub returns : goal.returns
returns c =
    free_is_fresh (skipped (names_in c.args.text.now)) c.args.i c.loop-next.next
    c.loop-next.invariant.0 c.loop-next.invariant.1 (sym c.spelled_like.ensures ∙ c.loop-next-test.false)
