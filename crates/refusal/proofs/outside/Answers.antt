-- `outside`: the first index that is not below the count, by the library's search. Assumes nothing.
use mathlib.Core.Path.{ap, ◌∙◌}
use lib.Dec.{leb}
use Rattle.std.proofs.Common.{rules, tests}
use Rattle.std.proofs.lemmas.Iterator.{YieldsList-from_slice}
use Rattle.std.proofs.lemmas.Iterator.Adapters.{position_from-zero}
use Rattle.std.proofs.lemmas.Iterator.Search.{position_from_yields_List}
use Rattle.refusal.specs.Answers.{option_of}
use Rattle.refusal.proofs.Walks.{outside_found}
use Rattle.refusal.proofs.outside.Goals as goal

pub returns : goal.returns
returns c =
    let hs = c.args.assumed.now in
    let count = c.args.count in
    let found = position_from_yields_List (λ x. leb count x) _ _ c.position.result c.position.ensures.ran (YieldsList-from_slice hs cc)
    (λ x b q k. search (rules, tests)) in
    ap option_of (found ∙ position_from-zero (λ x. leb count x) hs) ∙ outside_found count 0 hs
