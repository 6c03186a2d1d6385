-- `well_spelled` looks at the length, then at each byte. Assumes nothing.
use Prim.Native.Nat.{◌<◌}
use mathlib.Core.Path.{◌∙◌}
use native.Mathlib.Omega.{arith}
use lib.ListN.{length}
use Rattle.std.proofs.Common.{rules, tests}
use Rattle.std.proofs.lemmas.Bool.Decides.{nat_tests}
use Rattle.std.proofs.lemmas.Iterator.{YieldsList-from_slice}
use Rattle.std.proofs.lemmas.Iterator.Search.{all_from_yields_List}
use Rattle.theory.specs.NameText.{name_byte}
use Rattle.identifier_generator.proofs.Bytes.{too_short, too_long, right_length}
use Rattle.identifier_generator.proofs.well_spelled.Goals as goal
use Rattle.identifier_generator.proofs.well_spelled.Goals.{then-not-is_empty, else-not-is_empty}

pub returns-then-name-le-MOST_BYTES : goal.returns-then-name-le-MOST_BYTES
returns-then-name-le-MOST_BYTES c =
    let name = c.args.name.now in
    let some : 0 < length c.args.name.now = grind (arith, nat_tests) in
    all_from_yields_List name_byte _ _ _ c.all.ensures.ran (YieldsList-from_slice name cc) (λ x b q k. search (rules, tests))
    ∙ right_length name some (omega arith)

pub returns-else-name-le-MOST_BYTES : goal.returns-else-name-le-MOST_BYTES
returns-else-name-le-MOST_BYTES c =
    let name = c.args.name.now in
    elim c.if-not-is_empty.branch [
      | then-not-is_empty w ↦ grind (arith, nat_tests, too_short name, too_long name)
      | else-not-is_empty w ↦ grind (arith, nat_tests, too_short name, too_long name)
    ]
