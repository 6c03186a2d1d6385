-- `spell_into` has written the letters before `j`. Assumes nothing.
use mathlib.Core.Path.{sym, ◌∙◌}
use native.Mathlib.Omega.{arith}
use lib.ListN.{length}
use Rattle.theory.specs.Names.{spell}
use Rattle.theory.specs.NameText.{padded}
use Rattle.identifier_generator.proofs.Filling.{byte_filled, all_filled}
use Rattle.theory.proofs.Fitted.{padded_byte, padded_length}
use Rattle.identifier_generator.proofs.spell_into.Goals as goal

pub loop-j-preserved : goal.loop-j-preserved
loop-j-preserved c =
    let room = length c.args.buf.now in
    byte_filled (padded room (spell c.args.i)) c.loop-j.buf room c.loop-j.j c.letter.result c.loop-j.invariant
    (omega arith) (c.letter.ensures ∙ sym (padded_byte (spell c.args.i) room c.loop-j.j))

pub returns : goal.returns
returns c =
    let args = c.args in
    let room = length args.buf.now in
    all_filled (padded room (spell args.i)) c.loop-j.buf room c.loop-j.j c.loop-j.invariant (omega arith)
    (padded_length (spell args.i) room c.requires)
