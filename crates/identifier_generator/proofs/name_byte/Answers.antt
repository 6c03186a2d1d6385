-- `name_byte` looks for a letter or a digit, then for the underscore. Assumes nothing.
use mathlib.Core.Path.{ap, ◌∙◌}
use mathlib.Core.Bool.{Bool, ◌||◌}
use lib.Dec.{eqb}
use Rattle.identifier_generator.proofs.Bytes.{byte_is}
use Rattle.identifier_generator.proofs.name_byte.Goals as goal

pub returns-then-is_ascii_alphanumeric : goal.returns-then-is_ascii_alphanumeric
returns-then-is_ascii_alphanumeric c =
    c.if-is_ascii_alphanumeric.true
    ∙ ap (λ (t : Bool). t || eqb c.args.b 95) c.if-is_ascii_alphanumeric.ensures.value ∙ byte_is c.args.b

pub returns-else-is_ascii_alphanumeric : goal.returns-else-is_ascii_alphanumeric
returns-else-is_ascii_alphanumeric c =
    ap (λ (t : Bool). t || eqb c.args.b 95) c.if-is_ascii_alphanumeric.ensures.value ∙ byte_is c.args.b
