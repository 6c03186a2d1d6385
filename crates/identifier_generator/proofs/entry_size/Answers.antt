-- `entry_size` reads the length byte and sees whether its bytes are there. Assumes nothing.
use mathlib.Core.Path.{ap, ◌∙◌}
use native.Mathlib.Omega.{arith}
use lib.ListN.{length}
use Rattle.identifier_generator.proofs.Sizes.{size_empty, size_fits, size_cut}
use Rattle.identifier_generator.proofs.entry_size.Goals as goal

pub returns-in_err-first : goal.returns-in_err-first
returns-in_err-first c =
    c.from_residual.ensures ∙ size_empty c.args.text.now (c.in_err-first.ensures).cases

pub returns-then-text-size : goal.returns-then-text-size
returns-then-text-size c =
    let first = c.in_ok-first in
    let split = first.ensures in
    size_cut c.args.text.now first._rest.now first.first.now split.cases.0 (omega (arith, ap length split.cases.0))

pub returns : goal.returns
returns c =
    let first = c.in_ok-first in
    let split = first.ensures in
    rw c.from-size.ensures (size_fits c.args.text.now first._rest.now first.first.now split.cases.0 (omega (arith, ap length split.cases.0)))
