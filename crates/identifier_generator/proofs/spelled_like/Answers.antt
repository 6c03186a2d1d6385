-- `spelled_like` looks through the names of the text. Assumes nothing.
use mathlib.Core.Path.{refl, ◌∙◌}
use Rattle.std.proofs.Common.{rules, tests}
use Rattle.std.proofs.lemmas.Iterator.Consumers.{YieldsList-from_first}
use Rattle.std.proofs.lemmas.Iterator.Search.{any_from_yields_List}
use Rattle.theory.specs.Names.{spell, same}
use Rattle.theory.specs.NameText.{names_in}
use Rattle.identifier_generator.proofs.Passing.{any_skipped}
use Rattle.identifier_generator.proofs.spelled_like.Goals as goal

pub returns : goal.returns
returns c =
    let names = names_in c.args.text.now in
    any_from_yields_List {s = record { 0 = c.args.text }} (same (spell c.args.i)) c.any.new.self _ _ c.any.ensures.ran
    (YieldsList-from_first (λ x. x.now) (λ s. names_in s.0.now) names refl) (λ x b q k. search (rules, tests))
    ∙ any_skipped (spell c.args.i) names
