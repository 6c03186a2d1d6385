-- `lay_decimal` calls itself on the number without its last digit. Assumes nothing.
use Rattle.house_text.proofs.+lay_decimal.Given as goal

abbrev pub decreases-lay_decimal : goal.decreases-lay_decimal
decreases-lay_decimal l = l.n
