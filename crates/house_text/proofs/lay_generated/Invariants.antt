-- `lay_generated` has laid the letters before `j`. Assumes nothing.
use mathlib.Core.Option.{some}
use lib.ListN.{take}
use Rattle.std.proofs.Common.{Some}
use Rattle.theory.specs.Names.{spell}
use Rattle.house_text.specs.Laid.{Laid}
use Rattle.house_text.proofs.lay_generated.Given as goal

abbrev pub invariant-loop-j : goal.invariant-loop-j
invariant-loop-j l = Laid (some (take l.j (spell l.g))) l.initial.buf l.initial.next l.buf (Some l.next)
