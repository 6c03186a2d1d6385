-- `quaysaffron_prove`: the outcome of the call is told. Assumes nothing.
use mathlib.Core.Path.{refl}
use Rattle.quaysaffron_c.proofs.Told.{searched_told}
use Rattle.quaysaffron_c.proofs.quaysaffron_prove.Goals as goal

pub returns : goal.returns
returns c =
    searched_told c.prove-outcome.ensures refl c.outcome_answer.ensures
