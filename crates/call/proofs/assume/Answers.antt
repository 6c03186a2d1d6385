-- `assume` has written the assumptions before `i`. Assumes nothing.
use Rattle.theory.specs.Term.{six_of}
use Rattle.call.proofs.Seating.{seating_goes, seating_ends}
use Rattle.call.proofs.assume.Goals as goal

pub loop-i-preserved : goal.loop-i-preserved
unfolding six_of
loop-i-preserved c =
    let p = c.push-sequent.ensures in
    seating_goes _ _ _ _ c.loop-i.invariant c.loop-i-test.true c.from.ensures c.put.ensures p.work p.result

pub returns : goal.returns
returns c =
    let e = seating_ends _ _ _ _ c.loop-i.invariant c.loop-i-test.false in record { result = e.0; terms = e.1; work = e.2 }
