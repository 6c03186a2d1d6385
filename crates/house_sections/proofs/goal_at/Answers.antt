-- `goal_at` tests the length and the count of the last section. Assumes nothing.
use mathlib.Core.Path.{◌∙◌}
use Rattle.house_sections.proofs.Goals.{other_length, counted_goal}
use Rattle.house_sections.proofs.goal_at.Goals as goal

pub returns-then-file-at-ne4 : goal.returns-then-file-at-ne4
returns-then-file-at-ne4 c = other_length c.args.file.now c.args.at c.if-file-at-ne4.true

pub returns : goal.returns
returns c =
    c.then_some.ensures
    ∙ counted_goal c.args.file.now c.args.at c.if-file-at-ne4.false c.number_at.result c.number_at.ensures.result
    c.number_at-2.result c.number_at-2.ensures.result
