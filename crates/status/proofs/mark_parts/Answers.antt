-- `mark_parts`: a word of a kind that has parts has both marked. Assumes nothing.
use native.Mathlib.Omega.{arith}
use lib.ListN.{get_or}
use mathlib.Core.Path.{◌∙◌, sym}
use Rattle.status.proofs.Shapes.{word_marked, no_parts}
use Rattle.status.proofs.mark_parts.Goals as goal

pub returns-in-And : goal.returns-in-And
returns-in-And c =
    let w = word_marked (get_or c.args.words.now c.args.i 0) c.args.work.now c.kind_at.ensures in grind arith

pub returns-in_default : goal.returns-in_default
returns-in_default c =
    sym (no_parts _ _ _ _ c.in_default.not-And c.in_default.not-Or c.in_default.not-Impl)
    ∙ word_marked (get_or c.args.words.now c.args.i 0) c.args.work.now c.kind_at.ensures
