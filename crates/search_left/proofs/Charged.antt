-- What the test of a rule's charge gives to the code that pays for it. Assumes nothing.
use Prim.Native.Nat.{ℕ, ◌+◌, ◌≤◌, ◌<◌}
use Rattle.std.specs.Prelude.{Result, Ok, Err}
use mathlib.Core.Path.{◌≡◌, sym, ◌∙◌}
use native.Mathlib.Omega.{arith}
use Rattle.theory.specs.Meter.{lacking}
use Rattle.meter.specs.declared.State.{State}
use Rattle.meter.specs.declared.Sequent.{Sequent}
use Rattle.meter.specs.declared.Limits.{Limits}
use Rattle.meter.specs.declared.Missed.{Missed}
use Rattle.meter.specs.Moves.{limits_of, charged}
use Rattle.context.specs.Moves.{stretch, popped, pushed}
use Rattle.search_laws.specs.Reading.{Lent}
use Rattle.search_laws.specs.Keeping.{Rep}
use Rattle.search_laws.specs.Making.{Tested}
use Rattle.search_laws.proofs.Areas.{fields}
use Rattle.search_laws.proofs.Charge.{passes}

-- what the code's test of a charge gave, where it is let through and where not
pub tested_ok : {m : Limits} {s : State} {u f t c l : ℕ} {r : Result (Unit {0}) Missed} {z : Unit {0}} →
    r ≡ charged (lacking (limits_of m) u f t c l) s → r ≡ Ok z → Tested m (Ok tt) s u f t c l
tested_ok e is = record { is = sym is ∙ e }

pub tested_err : {m : Limits} {s : State} {u f t c l : ℕ} {r : Result (Unit {0}) Missed} {e : Missed} →
    r ≡ charged (lacking (limits_of m) u f t c l) s → r ≡ Err e → Tested m (Err e) s u f t c l
tested_err e is = record { is = sym is ∙ e }

module _ {m : Limits} {x : Lent} {s : State} {q : Sequent} (rep : Rep m x s q) where
  -- the last record's place is free
  pub push_room : 0 < q.ordered → {q1 : Sequent} → q1 ≡ popped q → (q1.level < 256) × (q1.unordered + q1.ordered < stretch)
  push_room some eq =
      let h = fields eq in
      (omega (arith, rep.seats.level_in, rep.rooms.most_levels), omega (arith, rep.seats.fits))

  module _ {u f t c : ℕ} (paid : Tested m (Ok tt) s u f t c q.level) where
    -- one place more, where the charge counts one record more
    pub push_room_more : c ≡ q.unordered + q.ordered + 1 → 0 < q.ordered → {q1 q2 : Sequent} → q1 ≡ popped q → q2 ≡ pushed q1 →
        (q2.level < 256) × (q2.unordered + q2.ordered < stretch)
    push_room_more h some eq eq2 =
        let g = fields eq in
        let g2 = fields eq2 in
        (omega (arith, rep.seats.level_in, rep.rooms.most_levels), omega (arith, (passes paid).contexts))

    -- the fills after the charge
    pub spend_room : (f ≤ 16384) × (t ≤ 16384)
    spend_room =
        (omega (arith, (passes paid).formulas, rep.rooms.most_formulas), omega (arith, (passes paid).terms, rep.rooms.most_terms))
