-- `arrow` meets its contract: the fields have their width. Assumes nothing.
use mathlib.Core.Path.{ap, ◌∙◌}
use lib.ListN.{set}
use Rattle.search_left.proofs.Written.{arrow_word}
use native.Mathlib.Omega.{arith}
use Rattle.search_left.proofs.arrow.Goals as goal

pub returns : goal.returns
returns c =
    c.store.ensures ∙ ap (set c.args.words.now c.args.n)
    (c.pack.ensures ∙ arrow_word c.args.a c.args.b (omega arith) (omega arith))
