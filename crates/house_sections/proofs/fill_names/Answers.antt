-- `fill_names` has copied the names before `at`. Assumes nothing.
use native.Mathlib.Omega.{arith}
use Prim.Native.Nat.{◌+◌, ◌≤◌}
use mathlib.Core.Path.{refl}
use lib.ListN.{length, get_or}
use Rattle.std.proofs.lemmas.Slice.{put_mid-paste}
use Rattle.house_sections.proofs.Walking.{names_copied, name_inside, part_size, name_copied}
use Rattle.house_sections.proofs.fill_names.Goals as goal
use Rattle.house_sections.proofs.fill_names.Goals.{In-loop}

-- an assumption that is still to come is inside the file
name_in : (c : In-loop) → c.loop.at + (get_or c.args.file.now (c.loop.at + 2) 0 + 3) ≤ length c.args.file.now
name_in c =
    name_inside c.args.file.now c.args.from c.args.count c.args.text.now c.loop.at
    c.loop.filled c.loop.counter c.loop.text c.loop.invariant (omega arith)

pub bounds-file-start : goal.bounds-file-start
bounds-file-start c = omega (arith, name_in (goal.at.bounds-file-start c).In-loop)

pub slice_bounds-copy_from_slice-end : goal.slice_bounds-copy_from_slice-end
slice_bounds-copy_from_slice-end c = omega (arith, name_in (goal.at.slice_bounds-copy_from_slice-end c).In-loop)

pub slice_bounds-copy_from_slice-end-in-loop : goal.slice_bounds-copy_from_slice-end-in-loop
slice_bounds-copy_from_slice-end-in-loop c = omega (arith, name_in (goal.at.slice_bounds-copy_from_slice-end-in-loop c).In-loop)

pub loop-preserved : goal.loop-preserved
loop-preserved c =
    let size =
    part_size c.args.file.now c.args.from c.args.count c.args.text.now c.loop.at
    c.loop.filled c.loop.counter c.loop.text c.loop.invariant (omega arith) in
    rw c.from-size.ensures (name_copied c.args.file.now c.args.from c.args.count c.args.text.now c.loop.at
    c.loop.filled c.loop.counter c.loop.text c.loop.invariant (omega arith) _ c.requires.room
    (rw (← c.from-size.ensures) (put_mid-paste c.loop.filled _ c.loop.text _ _ _ c.copy_from_slice.ensures.after (omega arith) refl)))

pub returns : goal.returns
returns c =
    let all =
    names_copied c.args.file.now c.args.from c.args.count c.args.text.now c.loop.at
    c.loop.filled c.loop.counter c.loop.text c.loop.invariant (omega arith) in
    record { text = all.0; length = all.1 }
