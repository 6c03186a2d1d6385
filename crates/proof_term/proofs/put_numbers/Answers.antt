-- `put_numbers` has stored the numbers before the k-th. Assumes nothing.
use mathlib.Core.Path.{◌≡◌, sym, ◌∙◌}
use native.Mathlib.Omega.{arith}
use lib.ListN.{length}
use Rattle.std.proofs.Common.{rules}
use Rattle.std.proofs.lemmas.List.Edits.{paste_none}
use Rattle.theory.specs.Layout.{node_width}
use Rattle.proof_term.proofs.PutLaws.{store_more, put_laid, put_no_room}
use Rattle.proof_term.proofs.put_numbers.Goals as goal

pub loop-k-init : goal.loop-k-init
loop-k-init c =
    search (rules, paste_none)

pub loop-k-preserved : goal.loop-k-preserved
loop-k-preserved c =
    let six : length c.args.numbers ≡ node_width = search rules in
    rw (c.loop-k.invariant)
    (store_more c.args.terms.now _ c.args.numbers c.if-n-terms.true six _ _ c.loop-k-test.true (search rules))

pub returns-after-loop-k : goal.returns-after-loop-k
returns-after-loop-k c =
    let six : length c.args.numbers ≡ node_width = search rules in
    c.loop-k.invariant ∙ put_laid _ _ c.args.numbers c.if-n-terms.true six _ (omega arith)

pub returns-else-n-terms : goal.returns-else-n-terms
returns-else-n-terms c =
    sym (put_no_room _ _ _ c.if-n-terms.false)
