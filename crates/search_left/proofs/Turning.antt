-- One turn of left: its entry is counted, and where nothing is ordered that of search too; what the rule comes to, the turn comes to.
-- Assumes nothing.
use Prim.Native.Nat.{ℕ, ◌<◌, ◌≤◌}
use mathlib.Core.Path.{◌≡◌, sym, ap, ◌∙◌, subst}
use mathlib.Core.List.{List}
use native.Mathlib.Omega.{arith}
use Rattle.std.specs.Prelude.{Result, Err}
use Rattle.theory.specs.Meter as M
use Rattle.meter.specs.declared.State.{State}
use Rattle.meter.specs.declared.Sequent.{Sequent}
use Rattle.meter.specs.declared.Limits.{Limits}
use Rattle.meter.specs.declared.Limit.TheVariants.{Steps}
use Rattle.meter.specs.declared.Missed.{Missed}
use Rattle.meter.specs.declared.Missed.TheVariants.{Short}
use Rattle.meter.specs.declared.Next.{Next}
use Rattle.meter.specs.Moves.{Answer, stepped}
use Rattle.search_laws.specs.Reading.{Lent}
use Rattle.search_laws.specs.Keeping.{Rep}
use Rattle.search_laws.specs.Meaning.{Meets, Goes, weigh}
use Rattle.search_laws.specs.Turning.{Turns, turns_on, turns_end, turns_missed, turns_split, turns_try}
use Rattle.search_laws.specs.Turning.{Turned, turned_on, turned_end, turned_missed, turned_split, turned_try}
use Rattle.search_laws.proofs.Combine.{stop, entered}
use Rattle.search_laws.proofs.Left.{left_empty_lem}
use Rattle.search_laws.proofs.FallsRight.{left_to_search}

-- a counted entry uses a step and nothing else
pub rep_stepped : {m : Limits} {x : Lent} {s s1 : State} {q : Sequent} → Rep m x s q → s.steps < m.steps → s1 ≡ stepped s → Rep m x s1 q
rep_stepped {m} {x} {s} {s1} {q} rep h e = subst (λ (v : State). Rep m x v q) (sym e) (record {
  rooms = rep.rooms;
  within = record {
    in_steps = omega arith;
    in_indices = rep.within.in_indices;
    in_formulas = rep.within.in_formulas;
    in_terms = rep.within.in_terms;
  };
  laid = rep.laid;
  seats = rep.seats;
})

module _ {m : Limits} (taken : List (List ℕ)) {x : Lent} {s : State} {q : Sequent} (rep : Rep m x s q) where
  -- no step is left
  pub turned_stop : m.steps ≤ s.steps → Turned m taken x s q (Err (Short Steps s)) x
  turned_stop h = turned_missed (stop h rep.within)

  module _ (h : s.steps < m.steps) {s1 : State} (e : s1 ≡ stepped s) where
    fill : s1.formulas ≡ s.formulas
    fill = ap (λ (v : State). v.formulas) e

    less_here : (j : M.Judgement) {a : ℕ} → a < weigh j x.words s1.formulas x.records q →
        a < weigh j x.words s.formulas x.records q
    less_here j {a} l = subst (λ (k : ℕ). a < weigh j x.words k x.records q) fill l

    -- a rule of left
    pub turned_left : {n : Result Next Missed} {y : Lent} → Turns m taken x s1 q M.by_left n y → Turned m taken x s q n y
    turned_left (turns_on g) =
        let l = less_here M.by_left g.less in
        turned_on (record {
          on = record { rep = g.rep; carries = λ r z p. entered h e (g.carries r z p); falls = omega arith };
          less = l;
        })
    turned_left (turns_end g) = turned_end (entered h e g)
    turned_left (turns_missed g) = turned_missed (entered h e g)
    turned_left (turns_split g) =
        turned_split (record { rep = rep_stepped rep h e; is = g; fill = fill; carries = λ r z p. entered h e p })

    module _ (none : q.ordered ≡ 0) where
      -- no step is left for search
      pub turned_stop_search : m.steps ≤ s1.steps → Turned m taken x s q (Err (Short Steps s1)) x
      turned_stop_search k = turned_missed (entered h e (left_empty_lem none (stop k (rep_stepped rep h e).within)))

      -- a rule of search
      module _ (k : s1.steps < m.steps) {s2 : State} (e2 : s2 ≡ stepped s1) where
        through : {r : Answer} {z : Lent} → Goes M.by_search m taken x s2 q r z → Meets M.by_left m taken x s q r z
        through g = entered h e (left_empty_lem none (entered k e2 g))

        fills : s2.formulas ≡ s.formulas
        fills = ap (λ (v : State). v.formulas) e2 ∙ fill

        pub turned_search : {n : Result Next Missed} {y : Lent} → Turns m taken x s2 q M.by_search n y → Turned m taken x s q n y
        turned_search (turns_on {y = y} {s1 = s3} {q1 = p} g) =
            let a : ℕ = weigh M.by_left y.words s3.formulas y.records p in
            let l : a < weigh M.by_search x.words s.formulas x.records q =
            subst (λ (n : ℕ). a < weigh M.by_search x.words n x.records q) fills g.less in
            let d = left_to_search x.words s.formulas x.records q in
            turned_on (record {
              on = record { rep = g.rep; carries = λ r z p. through (g.carries r z p); falls = omega arith };
              less = omega arith;
            })
        turned_search (turns_end g) = turned_end (through g)
        turned_search (turns_missed g) = turned_missed (through g)
        turned_search (turns_try g) = turned_try (record {
          rep = rep_stepped (rep_stepped rep h e) k e2;
          none = none;
          fill = fills;
          carries = λ r z p. through (g.carries r z p);
        })
