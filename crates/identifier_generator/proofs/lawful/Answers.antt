-- `lawful` looks for the name among the earlier ones, then at its spelling. Assumes nothing.
use mathlib.Core.Path.{◌≡◌, refl, sym, ap, ◌∙◌}
use mathlib.Core.Bool.{not}
use Rattle.std.proofs.Common.{rules, tests}
use Rattle.std.proofs.lemmas.Iterator.Consumers.{YieldsList-from_first}
use Rattle.std.proofs.lemmas.Iterator.Search.{any_from_yields_List}
use Rattle.theory.specs.Names.{same, among}
use Rattle.theory.specs.NameText.{names_in}
use Rattle.identifier_generator.proofs.Faults.{repeated, unrepeated}
use Rattle.identifier_generator.proofs.Passing.{any_among}
use Rattle.identifier_generator.proofs.lawful.Goals as goal
use Rattle.identifier_generator.proofs.lawful.Goals.{After-any}

stands_among : (c : After-any) → c.any.result ≡ among c.args.name.now (names_in c.args.earlier.now)
stands_among c =
    let names = names_in c.args.earlier.now in
    any_from_yields_List {s = record { 0 = c.args.earlier }} (same c.args.name.now) c.any.new.self _ _ c.any.ensures.ran
    (YieldsList-from_first (λ x. x.now) (λ s. names_in s.0.now) names refl) (λ x b q k. search (rules, tests))
    ∙ any_among c.args.name.now names

pub returns-then-not-any : goal.returns-then-not-any
returns-then-not-any c =
    let args = c.args in
    c.well_spelled.ensures
    ∙ unrepeated (names_in args.earlier.now) args.name.now
    (sym (stands_among (goal.at.returns-then-not-any c).After-any) ∙ c.if-not-any.true)

pub returns-else-not-any : goal.returns-else-not-any
returns-else-not-any c =
    let args = c.args in
    ap not c.if-not-any.false
    ∙ repeated (names_in args.earlier.now) args.name.now
    (sym (stands_among (goal.at.returns-else-not-any c).After-any) ∙ c.if-not-any.false)
