-- `alike` tests the lengths, the first bytes, and then all. Assumes nothing.
use mathlib.Core.Path.{sym, ◌∙◌}
use Rattle.theory.proofs.Spelling.{differ_length}
use Rattle.identifier_generator.proofs.Passing.{pointwise_same, first_differs}
use Rattle.identifier_generator.proofs.alike.Goals as goal
use Rattle.identifier_generator.proofs.alike.Goals.{then-a-b, else-a-b}

pub returns-then-eq : goal.returns-then-eq
returns-then-eq c =
    c.eq-then-eq.ensures ∙ pointwise_same c.args.a.now c.args.b.now

pub returns-else-eq : goal.returns-else-eq
returns-else-eq c =
    let args = c.args in
    c.if-eq.false
    ∙ sym (elim c.if-a-b.branch [
      | then-a-b w ↦ first_differs args.a.now args.b.now w.first.result w.first-then-a-b.result w.first.ensures.value
          w.first-then-a-b.ensures.value (sym w.eq.ensures ∙ sym w.value-is ∙ c.if-eq.false)
      | else-a-b w ↦ differ_length args.a.now args.b.now w.if-a-b.false
    ])
