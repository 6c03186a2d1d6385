-- What follows from a premise that was asked a level up, and from a step that was counted. Assumes nothing.
use Rattle.std.specs.Prelude.{Ok, Err}
use Prim.Native.Nat.{ℕ, ◌+◌, ◌<◌}
use mathlib.Core.Path.{◌≡◌, sym, ap, ◌∙◌, subst}
use mathlib.Core.List.{List, []}
use native.Mathlib.Omega.{arith}
use Rattle.theory.specs.Form.{Book, kind_of}
use Rattle.theory.specs.Term.{Node}
use Rattle.theory.specs.Premise.{asked, size_of}
use Rattle.theory.specs.Meter as M
use Rattle.theory.specs.Search.{goal_up}
use Rattle.meter.specs.declared.State.{State}
use Rattle.meter.specs.declared.Sequent.{Sequent}
use Rattle.meter.specs.declared.Limits.{Limits}
use Rattle.meter.specs.declared.Found.{Found}
use Rattle.meter.specs.declared.Missed.TheVariants.{Failed}
use Rattle.meter.specs.Moves.{Answer, stepped, returned}
use Rattle.context.specs.Moves.{upped}
use Rattle.context.specs.Area.{Rec, raised}
use Rattle.search_laws.specs.Reading.{Lent, lent, book, kind_at, seq_of}
use Rattle.search_laws.specs.Keeping.{Rep}
use Rattle.search_laws.specs.Meaning.{Meets, weigh}
use Rattle.search_laws.specs.Making.{Tested, Made, Back}
use Rattle.search_laws.proofs.Areas.{fields}
use Rattle.search_laws.proofs.Right.{up_made}
use Rattle.search_laws.proofs.Branch.{back_found, back_failed}
use Rattle.search_premises.specs.Prepared.{Prepared}
use Rattle.search_premises.specs.Asked.{Branched, asks, weigh_goal, Raised, raised_asks}

module _ {m : Limits} {x : Lent} {s : State} {q : Sequent} {u nf nt c : ℕ} {ws : Book} {ns : List Node} {Q : M.Sequent} where
  -- what is made for the premise
  pub made_for : {y : Lent} {s1 : State} {q1 : Sequent} → Prepared m x s q u nf nt c ws ns Q (Ok (s1, q1)) y →
      Made m x s q u ws ns Q y s1 q1
  made_for (Prepared.ready t mk up) = mk

-- a half that is found leaves the conclusion's sequent, and its node is below the fill
pub found_back : {m : Limits} {taken : List (List ℕ)} {x y : Lent} {s : State} {q : Sequent} {b a : ℕ} {f : Found} → Rep m x s q →
    Branched m taken x s q b a (Ok f) y → Back m x s q f.state y × (f.node < f.state.terms)
found_back rep (asks (Prepared.ready t mk up) p) = (back_found mk rep up p.kept, p.kept.after.root_in)

module _ {m : Limits} {taken : List (List ℕ)} {x : Lent} {s : State} {q : Sequent} {g : ℕ} where
  pub raised_found : {y : Lent} {f : Found} → Rep m x s q → Raised m taken x s q g (Ok f) y →
      Back m x s q f.state y × (f.node < f.state.terms)
  raised_found rep (raised_asks mk up p) = (back_found mk rep up p.kept, p.kept.after.root_in)

  pub raised_failed : {y : Lent} {s2 : State} → Rep m x s q → Raised m taken x s q g (Err (Failed s2)) y → Back m x s q (returned s s2) y
  raised_failed rep (raised_asks mk up p) = back_failed mk rep up p.kept

-- words below the fill are read as before
pub kind_back : {m : Limits} {x y : Lent} {s s2 : State} {q : Sequent} {g k : ℕ} → Back m x s q s2 y → g < s.formulas →
    kind_at x.words g ≡ k → kind_at y.words g ≡ k
kind_back b h e = ap kind_of (b.frame.words.at _ h) ∙ e

-- the lists hold the same after a step is counted
module _ {m : Limits} {x : Lent} {st s : State} {q : Sequent} (rep : Rep m x st q) (left_over : st.steps < m.steps)
    (e : s ≡ stepped st) where
  pub rep_step : Rep m x s q
  rep_step = subst (λ (v : State). Rep m x v q) (sym e) (record {
    rooms = rep.rooms;
    within = record {
      in_steps = omega arith;
      in_indices = rep.within.in_indices;
      in_formulas = rep.within.in_formulas;
      in_terms = rep.within.in_terms;
    };
    laid = rep.laid;
    seats = rep.seats;
  })

  pub weigh_step : (j : M.Judgement) → weigh j x.words s.formulas x.records q ≡ weigh j x.words st.formulas x.records q
  weigh_step j = ap (λ (v : State). weigh j x.words v.formulas x.records q) e

-- another goal, a level up
module _ {m : Limits} {x : Lent} {s : State} {q q1 : Sequent} {w1 : List Rec} {g : ℕ} (rep : Rep m x s q)
    (t : Tested m (Ok tt) s s.indices s.formulas s.terms (q.unordered + q.ordered) (q.level + 1)) (h : g < s.formulas)
    (ew : w1 ≡ raised x.records q) (eq : q1 ≡ upped q g) where
  raised_made : Made m x s q s.indices [] [] (goal_up (seq_of x.records q) g) (lent x.words x.numbers w1) s q1
  raised_made = up_made rep t h ew eq

  pub raised_rep : Rep m (lent x.words x.numbers w1) s q1
  raised_rep = raised_made.rep

  pub raised_by : {taken : List (List ℕ)} {r : Answer} {y : Lent} →
      Meets M.by_right m taken (lent x.words x.numbers w1) s q1 r y → Raised m taken x s q g r y
  raised_by p = let o = fields eq in raised_asks raised_made (omega arith) p

  pub raised_weighs : weigh M.by_right x.words s.formulas w1 q1 ≡ weigh_goal x.words s.formulas x.records q g
  unfolding weigh weigh_goal
  raised_weighs = ap (λ (Q : M.Sequent). size_of (asked (book x.words s.formulas) M.by_right Q)) (sym raised_made.next)
