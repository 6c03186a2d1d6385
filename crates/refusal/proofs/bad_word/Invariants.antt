-- `bad_word`: the words before i are good and noted, so the lowest bad word is the lowest from i on. Assumes nothing.
use mathlib.Core.Path.{◌≡◌}
use lib.ListN.{take}
use Rattle.theory.specs.Form.{bad_word}
use Rattle.refusal.proofs.Walks.{bad_onward}
use Rattle.refusal.proofs.Noted.{Noted}
use Rattle.refusal.proofs.bad_word.Given as goal

abbrev pub invariant-loop-i : goal.invariant-loop-i
invariant-loop-i l = (bad_onward l.given l.i ≡ bad_word l.given) × Noted l.marks (take l.i l.given)
