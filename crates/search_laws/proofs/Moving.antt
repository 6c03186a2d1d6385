-- A move that no charge pays for: the sequent changes, words and nodes stay. Assumes nothing.
use Prim.Native.Nat.{ℕ, ◌≤◌}
use mathlib.Core.Path.{◌≡◌, sym, ap₂, ◌∙◌}
use mathlib.Core.List.{List}
use native.Mathlib.Omega.{arith}
use Rattle.theory.specs.Meter as M
use Rattle.meter.specs.declared.State.{State}
use Rattle.meter.specs.declared.Sequent.{Sequent}
use Rattle.meter.specs.declared.Limits.{Limits}
use Rattle.meter.specs.Moves.{Answer}
use Rattle.context.specs.Area.{Rec}
use Rattle.search_laws.specs.Reading.{Lent, lent}
use Rattle.search_laws.specs.Keeping.{Rep, Frame}
use Rattle.search_laws.specs.Meaning.{asks, Meets, Gives}
use Rattle.search_laws.specs.Making.{Moved}
use Rattle.search_laws.proofs.Same.{same_refl, frame_less, rooms_after}
use Rattle.search_laws.proofs.Seat.{seats_own}
use Rattle.search_laws.proofs.Areas.{Area}
use Rattle.search_laws.proofs.Combine.{premise, kept_on}
use Rattle.search_laws.proofs.Making.{shows_after}

-- from the area
pub moved_of : {m : Limits} {x : Lent} {s : State} {q : Sequent} {w1 : List Rec} {q1 : Sequent} {us os : List M.Entry} (Q : M.Sequent) →
    Rep m x s q → Area m s.formulas s.terms q1.level x.records w1 q1 us os → q.level ≤ q1.level → Q.unordered ≡ us →
    Q.ordered ≡ os → Q.goal ≡ q1.goal → Q.level ≡ q1.level → Moved m x s q Q (lent x.words x.numbers w1) q1
moved_of {m} {x} {s} {q} {w1} {q1} Q rep area lv eu eo eg el = record {
  rep = record { rooms = rooms_after frame rep.rooms; within = rep.within; laid = rep.laid; seats = seats_own area.seats };
  frame = frame;
  level_up = lv;
  next =
      ap₂ (λ (g l : ℕ). record { unordered = Q.unordered; ordered = Q.ordered; goal = g; level = l }) eg el
      ∙ ap₂ (λ (u o : List M.Entry). record { unordered = u; ordered = o; goal = q1.goal; level = q1.level })
      (eu ∙ sym area.seats.unordered_is) (eo ∙ sym area.seats.ordered_is);
}
  where
    frame : Frame x s.formulas s.terms q1.level (lent x.words x.numbers w1)
    frame = record { words = same_refl; numbers = same_refl; records = area.same }

-- and what is asked of it is the answer
pub gives_moved : {j : M.Judgement} {m : Limits} {taken : List (List ℕ)} {x x1 y : Lent} {s : State} {q q1 : Sequent} {Q : M.Sequent}
    {r : Answer} → Moved m x s q Q x1 q1 → Meets j m taken x1 s q1 r y → Gives (λ d S. asks m taken d j Q S) m x s q r y
gives_moved {r = r} mv p = record {
  means = λ S sh. premise p mv.next (shows_after mv.frame sh);
  kept = kept_on r (frame_less (omega arith) (omega arith) mv.level_up mv.frame) (omega arith) (omega arith) mv.level_up p.kept;
}
