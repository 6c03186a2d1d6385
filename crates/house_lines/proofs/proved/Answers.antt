-- `proved` lays its lines and clears the rest. Assumes nothing.
use mathlib.Core.Path.{◌∙◌}
use Rattle.theory.specs.File.{proved_with}
use Rattle.house_lines.proofs.Filling.{end_is_size, filled}
use Rattle.house_lines.proofs.proved.Goals as goal

pub returns : goal.returns
returns c =
    let args = c.args in
    let lines = proved_with args.used.steps args.used.indices args.used.formulas args.used.terms args.text.now in
    let laid = c.lay_proved-end.ensures in
    record {
      out = filled lines laid c.requires.room c.close.ensures.out;
      length = c.close.ensures.length ∙ end_is_size lines laid c.requires.room;
    }
