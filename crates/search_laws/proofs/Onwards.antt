-- Turns of left one after another: the entry's step, and what the loop of left holds. Assumes nothing.
use Prim.Native.Nat.{ℕ, ◌<◌}
use mathlib.Core.Path.{◌≡◌, sym, ap, subst}
use mathlib.Core.List.{List}
use native.Mathlib.Omega.{arith}
use Rattle.theory.specs.Meter as M
use Rattle.meter.specs.declared.State.{State}
use Rattle.meter.specs.declared.Sequent.{Sequent}
use Rattle.meter.specs.declared.Limits.{Limits}
use Rattle.meter.specs.Moves.{Answer, stepped}
use Rattle.context.specs.Area.{Rec}
use Rattle.search_laws.specs.Reading.{Lent}
use Rattle.search_laws.specs.Keeping.{Rep}
use Rattle.search_laws.specs.Meaning.{Meets, Goes, weigh, GoesOn}
use Rattle.search_laws.proofs.Combine.{entered}

-- one step more, where one is left
pub rep_step : {m : Limits} {x : Lent} {s s1 : State} {q : Sequent} → s.steps < m.steps → s1 ≡ stepped s → Rep m x s q → Rep m x s1 q
rep_step {m} {x} {s} {s1} {q} h e rep = subst (λ (v : State). Rep m x v q) (sym e) (record {
  rooms = rep.rooms;
  within = record {
    in_steps = omega arith;
    in_indices = rep.within.in_indices;
    in_formulas = rep.within.in_formulas;
    in_terms = rep.within.in_terms;
  };
  laid = rep.laid;
  seats = rep.seats;
})

-- it does not change what the sequent weighs
pub weigh_step : (s : State) {s1 : State} (j : M.Judgement) (f : List ℕ) (w : List Rec) (q : Sequent) → s1 ≡ stepped s →
    weigh j f s1.formulas w q ≡ weigh j f s.formulas w q
weigh_step s j f w q e = ap (λ (v : State). weigh j f v.formulas w q) e

module _ {m : Limits} {taken : List (List ℕ)} {x : Lent} {s : State} {q : Sequent} where
  -- a turn whose rule goes on by left
  pub goes_on : {x1 : Lent} {s1 s2 : State} {q1 : Sequent} → s.steps < m.steps → s1 ≡ stepped s → Rep m x1 s2 q1 →
      ((r : Answer) (y : Lent) → Meets M.by_left m taken x1 s2 q1 r y → Goes M.by_left m taken x s1 q r y) →
      weigh M.by_left x1.words s2.formulas x1.records q1 < weigh M.by_left x.words s1.formulas x.records q →
      GoesOn m taken x s q x1 s2 q1
  goes_on h e rep carries less =
      let w = weigh_step s M.by_left x.words x.records q e in
      record { on = record { rep = rep; carries = λ r y p. entered h e (carries r y p); falls = omega arith }; less = omega arith }
