-- `put_all` has written the nodes before the k-th. Assumes nothing.
use mathlib.Core.Path.{refl}
use Rattle.search_laws.specs.Reading.{put_nodes}
use Rattle.search_left.proofs.Written.{put_more}
use Rattle.search_left.proofs.put_all.Goals as goal

pub loop-k-init : goal.loop-k-init
unfolding put_nodes
loop-k-init c =
    refl

pub loop-k-preserved : goal.loop-k-preserved
loop-k-preserved c =
    put_more _ _ _ c.args.nodes.now _ c.loop-k-test.true c.loop-k.invariant c.put.ensures
