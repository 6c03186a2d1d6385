-- `fill_indices` has copied the indices of i assumptions. Assumes nothing.
use native.Mathlib.Omega.{arith}
use Prim.Native.Nat.{◌+◌, ◌≤◌, ◌<◌}
use lib.ListN.{length}
use Rattle.house_sections.proofs.Walking.{indices_copied, index_inside, index_copied}
use Rattle.house_sections.proofs.fill_indices.Goals as goal
use Rattle.house_sections.proofs.fill_indices.Goals.{In-loop-i}

-- an assumption that is still to come is inside the file
index_in : (c : In-loop-i) → c.loop-i.at + 2 < length c.args.file.now
index_in c =
    index_inside c.args.file.now c.args.from c.args.count c.args.indices.now c.loop-i.at
    c.loop-i.i c.loop-i.indices c.loop-i.invariant (omega arith)

pub number_at-requires-clause-inside : goal.number_at-requires-clause-inside
number_at-requires-clause-inside c =
    omega (arith, index_in (goal.at.number_at-requires-clause-inside c).In-loop-i)

pub bounds-file-at : goal.bounds-file-at
bounds-file-at c = index_in (goal.at.bounds-file-at c).In-loop-i

pub loop-i-preserved : goal.loop-i-preserved
loop-i-preserved c =
    rw c.from.ensures (index_copied c.args.file.now c.args.from c.args.count c.args.indices.now c.loop-i.at
    c.loop-i.i c.loop-i.indices c.loop-i.invariant (omega arith) c.number_at.result (omega arith)
    c.number_at.ensures.result)

pub returns : goal.returns
returns c =
    indices_copied c.args.file.now c.args.from c.args.count c.args.indices.now c.loop-i.at
    c.loop-i.i c.loop-i.indices c.loop-i.invariant (omega arith)
