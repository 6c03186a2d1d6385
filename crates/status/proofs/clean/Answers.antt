-- `clean`: each clear. Assumes nothing.
use mathlib.Core.Path.{◌∙◌}
use Rattle.status.proofs.Lists.{nothing_kept}
use Rattle.status.proofs.clean.Goals as goal

pub returns : goal.returns
returns c =
    record { words = c.clear.ensures; terms = c.clear-2.ensures ∙ nothing_kept c.args.terms.now }
