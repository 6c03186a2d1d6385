-- `refused` lays its lines and clears the rest. Assumes nothing.
use mathlib.Core.Path.{◌∙◌}
use Rattle.theory.specs.Text.{bytes}
use Rattle.theory.specs.File.{refused_line}
use Rattle.house_lines.proofs.Filling.{end_is_size, filled}
use Rattle.house_lines.proofs.refused.Goals as goal

pub returns : goal.returns
unfolding refused_line bytes
returns c =
    let args = c.args in
    let lines = refused_line args.number in
    let laid = c.lay_counted-end.ensures in
    record {
      out = filled lines laid c.requires.room c.close.ensures.out;
      length = c.close.ensures.length ∙ end_is_size lines laid c.requires.room;
    }
