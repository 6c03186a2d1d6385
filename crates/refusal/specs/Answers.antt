-- What this crate's answers say, as theory's options. Assumes nothing.
use Rattle.std.specs.declared.option.Option as code
use Rattle.std.specs.declared.option.Option.TheVariants.{None, Some}
use Rattle.std.proofs.Math.Option.{Option, none, some}

-- theory has an option type of its own
abbrev pub option_of : {A : Type 0} → code.Option A → Option A
option_of None = none
option_of (Some x) = some x
