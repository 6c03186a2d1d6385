-- `lay` has laid the bytes before `i`. Assumes nothing.
use mathlib.Core.Option.{some}
use lib.ListN.{take}
use Rattle.std.proofs.Common.{Some}
use Rattle.house_text.specs.Laid.{Laid}
use Rattle.house_text.proofs.lay.Given as goal

abbrev pub invariant-loop-i : goal.invariant-loop-i
invariant-loop-i l = Laid (some (take l.i l.text)) l.initial.buf l.initial.next l.buf (Some l.next)
