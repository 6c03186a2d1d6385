-- `name` looks a number up in the text that holds it. Assumes nothing.
use native.Mathlib.Omega.{arith}
use Rattle.identifier_generator.proofs.EntryPlaces.{name_assumed, name_generated}
use Rattle.identifier_generator.proofs.name.Goals as goal

pub returns-then-x-lt-GENERATED : goal.returns-then-x-lt-GENERATED
returns-then-x-lt-GENERATED c =
    let args = c.args in
    name_assumed args.assumed args.generated args.x (omega arith) c.entry_part.ensures

pub returns : goal.returns
returns c =
    let args = c.args in
    name_generated args.assumed args.generated args.x (omega arith) c.entry_part-2.ensures
