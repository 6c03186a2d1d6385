-- `proof_term::lawful_node` meets its contract. Assumes nothing.
use mathlib.Core.Path.{◌∙◌}
use Rattle.std.proofs.Common.{rules, tests}
use Rattle.std.proofs.lemmas.Iterator.{YieldsList-from_slice}
use Rattle.std.proofs.lemmas.Iterator.Consumers.{YieldsList-from_enumerate}
use Rattle.std.proofs.lemmas.Iterator.Search.{all_from_yields_List}
use Rattle.theory.specs.NameText.{names_in}
use Rattle.proof_term.proofs.FieldLaws.{kind_refused, field_kept, node_judged}
use Rattle.proof_term.proofs.lawful_node.Goals as goal

pub returns-in_default : goal.returns-in_default
returns-in_default c =
    kind_refused _ _ _ _ c.fields_of.ensures c.number.ensures c.in_default.is

pub returns : goal.returns
returns c =
    let a = c.args in
    all_from_yields_List (field_kept (names_in a.text.now) a.count a.terms.now a.i) _ _ c.all.result c.all.ensures.ran
    (YieldsList-from_enumerate (YieldsList-from_slice c.in-Some.fields.held cc) cc)
    (λ x b q k. search (rules, tests))
    ∙ node_judged _ _ _ _ c.fields_of.ensures c.number.ensures c.in-Some.is
