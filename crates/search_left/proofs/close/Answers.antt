-- `close` meets its contract: no room for the node, or the node. Assumes nothing.
use Rattle.search_left.proofs.Written.{close_is}
use Rattle.search_laws.specs.Closing.{closes_short}
use native.Mathlib.Omega.{arith}
use Rattle.search_left.proofs.close.Goals as goal

pub returns-then-limits-at : goal.returns-then-limits-at
returns-then-limits-at c =
    closes_short (omega arith)

pub returns : goal.returns
returns c =
    close_is (omega arith) c.put.ensures c.spend.ensures
