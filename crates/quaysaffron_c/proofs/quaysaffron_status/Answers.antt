-- `quaysaffron_status`: the status is told. Assumes nothing.
use mathlib.Core.Path.{refl}
use Rattle.quaysaffron_c.proofs.Told.{settled_told}
use Rattle.quaysaffron_c.proofs.quaysaffron_status.Goals as goal

pub returns : goal.returns
returns c =
    settled_told c.solvable_status-status.ensures refl c.status_answer.ensures
