-- `number_at` has read the last bytes. Assumes nothing.
use Prim.Native.Nat.{ℕ, ◌-◌}
use mathlib.Core.Path.{◌≡◌, subst}
use native.Mathlib.Omega.{arith}
use lib.ListN.{length}
use Rattle.std.proofs.lemmas.Iterator.Adapters.{YieldsList-from_rev_slice}
use Rattle.std.proofs.lemmas.Iterator.Consumers.{YieldsList-turn, YieldsList-end}
use Rattle.std.proofs.lemmas.List.{length_push}
use Rattle.house_sections.proofs.Numbers.{Read, part, none_read, last_read, all_read, in_four}
use Rattle.house_sections.proofs.number_at.Goals as goal

pub loop-byte-init : goal.loop-byte-init
loop-byte-init g c =
    let none : g.row.WIDTH ≡ g.row.WIDTH - 0 = omega arith in
    subst (λ (k : ℕ). Read c.args.file.now c.args.at g.row.WIDTH 0 k) none
    (none_read c.args.file.now c.args.at g.row.WIDTH c.requires.inside)

pub overflow_mul-number : goal.overflow_mul-number
overflow_mul-number g c = omega (arith, in_four c.loop-byte.invariant c.requires.narrow)

pub overflow_add-number : goal.overflow_add-number
overflow_add-number g c = omega (arith, in_four c.loop-byte.invariant c.requires.narrow)

pub loop-byte-preserved : goal.loop-byte-preserved
loop-byte-preserved g c =
    let bytes = part c.args.file.now c.args.at g.row.WIDTH c.requires.inside in
    let t =
    YieldsList-turn (YieldsList-from_rev_slice bytes (cc)) c.loop-byte.yielded _ c.loop-byte.yielded_by _ _
    c.in-Some.byte c.in-Some.is c.next.ensures.steps in
    rw (length_push, c.from.ensures) (last_read c.args.file.now c.args.at g.row.WIDTH c.requires.inside c.loop-byte.number
    (length c.loop-byte.yielded) c.in-Some.byte.now c.loop-byte.invariant t.0 t.1
    (λ (i : ℕ). omega (arith, c.type_inv.file i)))

pub returns : goal.returns
returns g c =
    let bytes = part c.args.file.now c.args.at g.row.WIDTH c.requires.inside in
    let t =
    YieldsList-end (YieldsList-from_rev_slice bytes (cc)) c.loop-byte.yielded _ c.loop-byte.yielded_by _ _
    c.in-None.is c.next.ensures.steps in
    let read = all_read c.args.file.now c.args.at g.row.WIDTH c.requires.inside c.loop-byte.number
    (length c.loop-byte.yielded) c.loop-byte.invariant t.1 in
    record { result = read.0; bounded = read.1 }
