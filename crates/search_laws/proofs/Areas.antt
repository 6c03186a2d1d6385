-- The work area on the way from one sequent to the next, move by move: the contexts that it holds, and that the levels below l are as they
-- were. Assumes nothing.
use Prim.Native.Nat.{ℕ, ◌+◌, ◌-◌, ◌*◌, ◌<◌, ◌≤◌}
use mathlib.Core.Path.{◌≡◌, sym, ap, ◌∙◌, subst}
use mathlib.Core.List.{List, [], ◌∷◌, ◌++◌}
use native.Mathlib.Omega.{arith}
use lib.ListN.{length, set, length-set}
use Rattle.theory.specs.Meter.{Entry}
use Rattle.theory.specs.Search.{entry}
use Rattle.meter.specs.declared.State.{State}
use Rattle.meter.specs.declared.Sequent.{Sequent}
use Rattle.meter.specs.declared.Limits.{Limits}
use Rattle.context.specs.Moves.{stretch, upped, pushed, popped, appended, without}
use Rattle.context.specs.Area.{Rec, zeroed, rec, raised, removed, push_place, append_place}
use Rattle.search_laws.specs.Reading.{Lent, ordered_in, seq_of}
use Rattle.search_laws.specs.Keeping.{Same, Seats, Rep}
use Rattle.search_laws.proofs.Same.{same_refl, same_trans, same_less, same_set}
use Rattle.search_laws.proofs.Seat.{ordered_length, ordered_pop, seats_more, seats_pop, seats_push, seats_append}
use Rattle.search_laws.proofs.Stretch.{same_raised, seats_up, same_out, seats_out}

-- equal sequents have equal counts, level and goal
pub fields : {q q1 : Sequent} → q1 ≡ q →
    (q1.level ≡ q.level) × (q1.unordered ≡ q.unordered) × (q1.ordered ≡ q.ordered) × (q1.goal ≡ q.goal)
fields e = (
  ap (λ (v : Sequent). v.level) e,
  ap (λ (v : Sequent). v.unordered) e,
  ap (λ (v : Sequent). v.ordered) e,
  ap (λ (v : Sequent). v.goal) e,
)

pub record Area (m : Limits) (nf nt l : ℕ) (w0 w : List Rec) (q : Sequent) (us os : List Entry) : Type 0 where
  pub same : Same zeroed (l * stretch) w0 w
  pub room : (m.levels + 1) * stretch ≤ length w
  pub seats : Seats m nf nt w q us os

-- before the first move; the fills may be those after the charge
pub area_start : {m : Limits} {x : Lent} {s : State} {q : Sequent} {nf nt : ℕ} (l : ℕ) → Rep m x s q → s.formulas ≤ nf → s.terms ≤ nt →
    Area m nf nt l x.records x.records q (seq_of x.records q).unordered (seq_of x.records q).ordered
area_start l rep hf ht = record { same = same_refl; room = rep.rooms.records_room; seats = seats_more rep.seats hf ht }

module _ {m : Limits} {nf nt l : ℕ} {w0 w : List Rec} {q : Sequent} {us : List Entry} where
  -- the last ordered record is e
  pub area_pop : {e : Entry} {os : List Entry} {q1 : Sequent} → q1 ≡ popped q → Area m nf nt l w0 w q us (e ∷ os) →
      Area m nf nt l w0 w q1 us os
  area_pop {e} {os} {q1} eq x = record {
    same = x.same;
    room = x.room;
    seats = subst (λ (o : List Entry). Seats m nf nt w q1 us o) rest (seats_pop x.seats eq);
  }
    where
      some : 0 < q.ordered
      some = omega (arith, ordered_length w q.level q.ordered, ap length x.seats.ordered_is)

      rest : ordered_in w q.level (q.ordered - 1) ≡ os
      rest = cc (ordered_pop w q some (omega (arith, x.seats.fits)), x.seats.ordered_is)

  module _ {os : List Entry} (x : Area m nf nt l w0 w q us os) where
    -- a store at the sequent's own level or above
    stored : {w1 : List Rec} (i a t : ℕ) → w1 ≡ set w i (rec a t) → l * stretch ≤ i →
        (Same zeroed (l * stretch) w0 w1) × ((m.levels + 1) * stretch ≤ length w1)
    stored {w1} i a t e h = (
      same_trans x.same (subst (Same zeroed (l * stretch) w) (sym e) (same_set w i (rec a t) h)),
      omega (arith, x.room, ap length e ∙ length-set w i (rec a t)),
    )

    module _ (a t : ℕ) (a_in : a < nf) (t_in : t < nt) (few : (nf ≤ 65536) × (nt ≤ 65536)) (free : q.unordered + q.ordered < stretch)
        (lv : l ≤ q.level) {w1 : List Rec} {q1 : Sequent} where
      pub area_push : w1 ≡ set w (push_place q) (rec a t) → q1 ≡ pushed q → Area m nf nt l w0 w1 q1 us (entry a t ∷ os)
      area_push ew eq = let o = stored (push_place q) a t ew (omega arith) in record {
        same = o.0;
        room = o.1;
        seats = seats_push x.seats x.room a t a_in t_in few free ew eq;
      }

      pub area_append : w1 ≡ set w (append_place q) (rec a t) → q1 ≡ appended q → Area m nf nt l w0 w1 q1 (us ++ (entry a t ∷ [])) os
      area_append ew eq = let o = stored (append_place q) a t ew (omega arith) in record {
        same = o.0;
        room = o.1;
        seats = seats_append x.seats x.room a t a_in t_in few free ew eq;
      }

    -- the records in use a level up
    pub area_up : {w1 : List Rec} {q1 : Sequent} (g : ℕ) → g < nf → q.level < m.levels → l ≤ q.level + 1 → w1 ≡ raised w q →
        q1 ≡ upped q g → Area m nf nt l w0 w1 q1 us os
    area_up {w1} {q1} g h up lv ew eq =
        let r : Same zeroed (l * stretch) w w1 = subst (Same zeroed (l * stretch) w) (sym ew)
        (same_less (omega arith) (same_raised x.seats up x.room)) in
        record {
          same = same_trans x.same r;
          room = omega (arith, x.room, r.long);
          seats = seats_up x.seats up x.room g h ew eq;
        }

    -- one unordered record taken out
    pub area_out : (before : List Entry) (e : Entry) (after : List Entry) {w1 : List Rec} {q1 : Sequent} → us ≡ before ++ (e ∷ after) →
        l ≤ q.level → w1 ≡ removed w q (length before) → q1 ≡ without q → Area m nf nt l w0 w1 q1 (before ++ after) os
    area_out before e after {w1} {q1} is lv ew eq =
        let r : Same zeroed (l * stretch) w w1 =
        subst (Same zeroed (l * stretch) w) (sym ew) (same_less (omega arith) (same_out x.seats x.room before e after is)) in
        record {
          same = same_trans x.same r;
          room = omega (arith, x.room, r.long);
          seats = seats_out x.seats x.room before e after is ew eq;
        }
