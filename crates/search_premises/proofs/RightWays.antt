-- The ways of right's conjunction and implication, by what their premises came to. Assumes nothing.
use Rattle.std.specs.Prelude.{Ok, Err}
use Prim.Native.Nat.{ℕ, ◌<◌}
use mathlib.Core.Path.{◌≡◌, subst}
use mathlib.Core.List.{List}
use native.Mathlib.Omega.{arith}
use Rattle.theory.specs.Term.{pair, fn}
use Rattle.theory.specs.Names.{fresh}
use Rattle.theory.specs.Meter as M
use Rattle.theory.specs.Search.{name}
use Rattle.meter.specs.declared.State.{State}
use Rattle.meter.specs.declared.Sequent.{Sequent}
use Rattle.meter.specs.declared.Limits.{Limits}
use Rattle.meter.specs.declared.Found.{Found}
use Rattle.meter.specs.declared.Missed.{Missed}
use Rattle.meter.specs.Moves.{Answer}
use Rattle.search_laws.specs.Reading.{Lent, lent, kind_at, left_at, right_at, seq_of}
use Rattle.search_laws.specs.Keeping.{Rep}
use Rattle.search_laws.specs.Meaning.{Meets, Goes, Gives, weigh}
use Rattle.search_laws.specs.Parts.{and_second}
use Rattle.search_laws.specs.Closing.{Closes}
use Rattle.search_laws.proofs.Charge.{passes}
use Rattle.search_laws.proofs.Branch.{back_found}
use Rattle.search_laws.proofs.Right.{right_and_short, right_and_lost, right_and_then}
use Rattle.search_laws.proofs.Right.{and_second_short, and_second_lost, and_second_found}
use Rattle.search_laws.proofs.RightImpl.{right_impl_short, right_impl_lost, right_impl_found}
use Rattle.search_laws.proofs.FallsRight.{right_impl_falls}
use Rattle.search_premises.specs.Prepared as Prepared
use Rattle.search_premises.specs.Prepared.{Body}
use Rattle.search_premises.specs.Asked.{Raised, raised_lacks, raised_asks}

-- the goal is a conjunction
module _ {m : Limits} {taken : List (List ℕ)} {x : Lent} {s : State} {q : Sequent} (rep : Rep m x s q)
    (k : kind_at x.words q.goal ≡ 3) where
  pub and_lost : {y : Lent} {e : Missed} {a : ℕ} → a ≡ left_at x.words q.goal → Raised m taken x s q a (Err e) y →
      Goes M.by_right m taken x s q (Err e) y
  and_lost {y} {e} ea p = go (subst (λ (g : ℕ). Raised m taken x s q g (Err e) y) ea p)
    where
      go : {y : Lent} {e : Missed} → Raised m taken x s q (left_at x.words q.goal) (Err e) y → Goes M.by_right m taken x s q (Err e) y
      go (raised_lacks t) = right_and_short taken rep k t
      go (raised_asks mk up h) = right_and_lost taken rep k mk h

  -- the first half is found, and what is left gives r
  module _ {y : Lent} {f : Found} {a b : ℕ} (ea : a ≡ left_at x.words q.goal) (p : Raised m taken x s q a (Ok f) y)
      (eb : b ≡ right_at y.words q.goal) where
    and_then : {v : Lent} {r : Answer} → (Rep m y f.state q → f.node < f.state.terms →
        Gives (λ d S. and_second m taken (seq_of y.records q) (right_at y.words q.goal) d f.node S) m y f.state q r v) →
        Goes M.by_right m taken x s q r v
    and_then {v} {r} g = go (subst (λ (k : ℕ). Raised m taken x s q k (Ok f) y) ea p) g
      where
        go : Raised m taken x s q (left_at x.words q.goal) (Ok f) y → (Rep m y f.state q → f.node < f.state.terms →
            Gives (λ d S. and_second m taken (seq_of y.records q) (right_at y.words q.goal) d f.node S) m y f.state q r v) →
            Goes M.by_right m taken x s q r v
        go (raised_asks mk up h) g =
            right_and_then taken rep k mk up h (g (back_found mk rep up h.kept).rep h.kept.after.root_in)

    second_half : {r : Answer} {z : Lent} → Raised m taken y f.state q b r z →
        Raised m taken y f.state q (right_at y.words q.goal) r z
    second_half {r} {z} p2 = subst (λ (k : ℕ). Raised m taken y f.state q k r z) eb p2

    pub and_lost_second : {z : Lent} {e : Missed} → Raised m taken y f.state q b (Err e) z → Goes M.by_right m taken x s q (Err e) z
    and_lost_second p2 = and_then (λ back i_in. go f.node back (second_half p2))
      where
        go : {y z : Lent} (i : ℕ) {s2 : State} {e : Missed} → Rep m y s2 q → Raised m taken y s2 q (right_at y.words q.goal) (Err e) z →
            Gives (λ d S. and_second m taken (seq_of y.records q) (right_at y.words q.goal) d i S) m y s2 q (Err e) z
        go {y} i back (raised_lacks t) = and_second_short taken back (right_at y.words q.goal) i t
        go {y} i back (raised_asks mk up h) = and_second_lost taken back (right_at y.words q.goal) i mk h

    pub and_found : {z : Lent} {g : Found} {r : Answer} {t1 : List ℕ} → Raised m taken y f.state q b (Ok g) z →
        Closes m z.numbers g.state (pair f.node g.node) r t1 → Goes M.by_right m taken x s q r (lent z.words t1 z.records)
    and_found {z} {g} {r} {t1} p2 c = and_then (λ back i_in. go back i_in (second_half p2))
      where
        go : Rep m y f.state q → f.node < f.state.terms → Raised m taken y f.state q (right_at y.words q.goal) (Ok g) z →
            Gives (λ d S. and_second m taken (seq_of y.records q) (right_at y.words q.goal) d f.node S) m y f.state q r
            (lent z.words t1 z.records)
        go back i_in (raised_asks mk up h) = and_second_found taken back (right_at y.words q.goal) f.node mk i_in up h c

-- the goal is an implication
module _ {m : Limits} (taken : List (List ℕ)) {x : Lent} {s : State} {q : Sequent} (rep : Rep m x s q)
    (e : kind_at x.words q.goal ≡ 5) {a : ℕ} (ea : a ≡ fresh taken s.indices) where
  pub impl_lacks : {y : Lent} {l : Missed} → Body m x s q a (Err l) y → Goes M.by_right m taken x s q (Err l) y
  impl_lacks (Prepared.lacks t) = right_impl_short taken rep e ea t

  pub impl_falls : {y : Lent} {s1 : State} {q1 : Sequent} → Body m x s q a (Ok (s1, q1)) y →
      weigh M.by_right y.words s1.formulas y.records q1 < weigh M.by_right x.words s.formulas x.records q
  impl_falls (Prepared.ready t mk up) = right_impl_falls rep taken e mk

  pub impl_lost : {y z : Lent} {s1 : State} {q1 : Sequent} {l : Missed} → Body m x s q a (Ok (s1, q1)) y →
      Meets M.by_right m taken y s1 q1 (Err l) z → Goes M.by_right m taken x s q (Err l) z
  impl_lost (Prepared.ready t mk up) h = right_impl_lost taken rep e ea mk h

  pub impl_found : {y z : Lent} {s1 : State} {q1 : Sequent} {f : Found} {r : Answer} {t1 : List ℕ} → Body m x s q a (Ok (s1, q1)) y →
      Meets M.by_right m taken y s1 q1 (Ok f) z → Closes m z.numbers f.state (fn (name a) f.node) r t1 →
      Goes M.by_right m taken x s q r (lent z.words t1 z.records)
  impl_found (Prepared.ready t mk up) h c = right_impl_found taken rep e ea mk (omega (arith, (passes t).indices)) up h c
