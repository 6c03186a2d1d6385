-- `lay_name` lays the bytes of an assumption's name or the letters of a generated one. Assumes nothing.
use mathlib.Core.Path.{ap, ◌∙◌}
use mathlib.Core.Option.{some}
use native.Mathlib.Omega.{arith}
use Rattle.theory.specs.NameText.{names_in}
use Rattle.theory.proofs.Entries.{lookup_assumed}
use Rattle.house_text.proofs.Laying.{laid_as}
use Rattle.house_text.proofs.NodePieces.{assumed_bytes, generated_bytes}
use Rattle.house_text.proofs.lay_name.Goals as goal

pub returns-then-x-lt-GENERATED : goal.returns-then-x-lt-GENERATED
returns-then-x-lt-GENERATED c =
    let names = c.args.names.now in
    let x = c.args.x in
    let bytes = c.name.ensures.bytes ∙ lookup_assumed names names x (omega arith) ∙ assumed_bytes (names_in names) x
    (omega arith) in
    laid_as (ap some bytes) c.lay.ensures

pub returns : goal.returns
returns c =
    let args = c.args in
    laid_as (ap some (generated_bytes (names_in args.names.now) args.x (omega arith)))
    c.lay_generated.ensures
