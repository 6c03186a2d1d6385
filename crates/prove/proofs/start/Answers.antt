-- `start`: the assumptions are written, and right comes to what the whole search answers; or there is no room for them. Assumes nothing.
use mathlib.Core.Path.{refl, ap}
use native.Mathlib.Omega.{arith}
use Rattle.theory.proofs.Passing.{passes}
use Rattle.call.proofs.First.{few_names}
use Rattle.call.proofs.Ending.{ends_short, right_asks, right_ends}
use Rattle.prove.proofs.start.Goals as goal

pub returns-then-limits-assumed : goal.returns-then-limits-assumed
returns-then-limits-assumed c =
    ends_short _ c.args.work.now c.requires refl
    (omega (arith, c.if-limits-assumed.true, ap (λ v. v.terms) c.limits-limits.ensures))

pub assume-sequent-requires : goal.assume-sequent-requires
assume-sequent-requires c =
    (passes _ c.requires).few

pub invariant_of-right : goal.invariant_of-right
invariant_of-right c =
    record { few = few_names _ c.args.work.now c.requires refl }

pub right-requires : goal.right-requires
right-requires c =
    let e = c.assume-sequent.ensures in
    record {
      represented = right_asks _ c.args.work.now c.requires refl c.limits-limits.ensures e.terms e.work e.result
          c.if-limits-assumed.false;
    }

pub returns : goal.returns
returns c =
    let e = c.assume-sequent.ensures in
    right_ends _ c.args.work.now c.requires refl c.limits-limits.ensures e.terms e.work e.result c.if-limits-assumed.false
    c.right.ensures
