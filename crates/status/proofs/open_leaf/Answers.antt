-- `open_leaf`: a word's kind tells. Assumes nothing.
use native.Mathlib.Omega.{arith}
use mathlib.Core.Path.{ap, ◌∙◌}
use lib.Dec.{leb}
use Rattle.status.proofs.Shapes.{open_word}
use Rattle.status.proofs.open_leaf.Goals as goal

pub returns-in-True : goal.returns-in-True
returns-in-True c = let w = open_word c.args.word c.kind_of.ensures in grind arith

pub returns-in-Atom : goal.returns-in-Atom
returns-in-Atom c = ap (leb 8192) c.left_of.ensures ∙ open_word c.args.word c.in-Atom.ensures

pub returns-in-ForAll : goal.returns-in-ForAll
returns-in-ForAll c = let w = open_word c.args.word c.kind_of.ensures in grind arith
