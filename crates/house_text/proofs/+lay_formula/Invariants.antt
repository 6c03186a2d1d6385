-- `lay_formula` calls itself on the children of a word, which have smaller indices. Assumes nothing.
use Rattle.house_text.proofs.+lay_formula.Given as goal

abbrev pub decreases-lay_formula : goal.decreases-lay_formula
decreases-lay_formula l = l.i
