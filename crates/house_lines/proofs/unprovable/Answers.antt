-- `unprovable` lays its lines and clears the rest. Assumes nothing.
use mathlib.Core.Path.{◌∙◌}
use Rattle.theory.specs.File.{unprovable_lines}
use Rattle.house_lines.proofs.Filling.{end_is_size, filled}
use Rattle.house_lines.proofs.unprovable.Goals as goal

pub returns : goal.returns
returns c =
    let args = c.args in
    let lines = unprovable_lines args.steps in
    let laid = c.lay_unprovable-end.ensures in
    record {
      out = filled lines laid c.requires.room c.close.ensures.out;
      length = c.close.ensures.length ∙ end_is_size lines laid c.requires.room;
    }
