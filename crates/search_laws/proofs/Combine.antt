-- What an answer means goes through a premise, a try, an entry and the end of a rule. Assumes nothing.
use Rattle.std.specs.Prelude.{Ok, Err}
use Prim.Native.Nat.{ℕ, zero, suc, ◌+◌, ◌≤◌, ◌<◌}
use mathlib.Core.Path.{◌≡◌, refl, ap, ap₂, ◌∙◌, subst}
use mathlib.Core.List.{List}
use native.Mathlib.Omega.{arith}
use native.Mathlib.Nat.{not-suc-le-zero, le_of_suc-le-suc}
use borrow.Author.Tests.{le-leb, lt-leb}
use Rattle.theory.specs.World.{Tree}
use Rattle.theory.specs.Meter as M
use Rattle.theory.specs.Meter.{limited, and_then, attempt, enter, fits}
use Rattle.theory.specs.Search.{rule, run}
use Rattle.theory.proofs.Charges.{restart}
use Rattle.meter.specs.declared.State.{State}
use Rattle.meter.specs.declared.Sequent.{Sequent}
use Rattle.meter.specs.declared.Limits.{Limits}
use Rattle.meter.specs.declared.Found.{Found}
use Rattle.meter.specs.declared.Limit.{Limit}
use Rattle.meter.specs.declared.Limit.TheVariants.{Steps}
use Rattle.meter.specs.declared.Missed.{Missed}
use Rattle.meter.specs.declared.Missed.TheVariants.{Failed, Short}
use Rattle.meter.specs.Moves.{Answer, stepped, limits_of, limit_of}
use Rattle.search_laws.specs.Reading.{Lent, seq_of, Shows}
use Rattle.search_laws.specs.Keeping.{Within, Frame, Kept, After}
use Rattle.search_laws.specs.Meaning.{Says, says_found, says_failed, says_short, Comes, asks, Meets, Goes}
use Rattle.search_laws.proofs.Same.{frame_refl, frame_trans}

-- the same computation, written in another way
pub comes_as : {y : Lent} {r : Answer} (C : ℕ → M.Answer) {C1 : ℕ → M.Answer} → ((d : ℕ) → C d ≡ C1 d) → Comes y r C1 → Comes y r C
comes_as C e x = record { answer = x.answer; depth = x.depth; settles = λ d h. e d ∙ x.settles d h; says = x.says }

-- a computation that is one answer at every depth
pub comes_now : {y : Lent} {r : Answer} {a : M.Answer} (C : ℕ → M.Answer) → ((d : ℕ) → C d ≡ a) → Says y r a → Comes y r C
comes_now C e x = record { answer = _; depth = 0; settles = λ d h. e d; says = x }

-- a premise that is not found ends the rule
pub then_lost : {y : Lent} {e : Missed} {C : ℕ → M.Answer} (k : ℕ → ℕ → M.State → M.Answer) → Comes y (Err e) C →
    Comes y (Err e) (λ d. and_then (C d) (k d))
unfolding and_then
then_lost {y} {e} {C} k x = record {
  answer = x.answer;
  depth = x.depth;
  settles = λ d h. ap (λ (a : M.Answer). and_then a (k d)) (x.settles d h) ∙ stays x.says (k d);
  says = x.says;
}
  where
    stays : {e : Missed} {a : M.Answer} → Says y (Err e) a → (k : ℕ → M.State → M.Answer) → and_then a k ≡ a
    stays (says_failed K e f) k = refl
    stays (says_short n e f) k = refl

-- a found premise: the rule goes on from the state that the lists show
pub then_found : {y z : Lent} {t : Found} {r : Answer} {C : ℕ → M.Answer} (k : ℕ → ℕ → M.State → M.Answer) →
    Comes y (Ok t) C → ((S : M.State) → Shows y t.state S → Comes z r (λ d. k d t.node S)) → Comes z r (λ d. and_then (C d) (k d))
unfolding and_then
then_found {y} {z} {t} {r} {C} k x f = go x.says refl
  where
    go : {a : M.Answer} → Says y (Ok t) a → x.answer ≡ a → Comes z r (λ d. and_then (C d) (k d))
    go (says_found {S = S} sh) e = record {
      answer = (f S sh).answer;
      depth = x.depth + (f S sh).depth;
      settles = λ d h. ap (λ (a : M.Answer). and_then a (k d)) (x.settles d (omega arith) ∙ e) ∙ (f S sh).settles d (omega arith);
      says = (f S sh).says;
    }

-- a shortage in a try ends it
pub try_short : {y : Lent} {n : Limit} {s : State} {C : ℕ → M.Answer} (S : M.State) (k : ℕ → ℕ → M.State → M.Answer)
    (o : ℕ → Tree → M.State → M.Answer) → Comes y (Err (Short n s)) C → Comes y (Err (Short n s)) (λ d. attempt S (C d) (k d) (o d))
unfolding attempt
try_short {y} {n} {s} {C} S k o x = record {
  answer = x.answer;
  depth = x.depth;
  settles = λ d h. ap (λ (a : M.Answer). attempt S a (k d) (o d)) (x.settles d h) ∙ stays x.says (k d) (o d);
  says = x.says;
}
  where
    stays : {a : M.Answer} → Says y (Err (Short n s)) a → (k : ℕ → M.State → M.Answer) (o : Tree → M.State → M.Answer) → attempt S a k o ≡ a
    stays (says_short l e f) k o = refl

pub try_found : {y z : Lent} {t : Found} {r : Answer} {C : ℕ → M.Answer} (S : M.State) (k : ℕ → ℕ → M.State → M.Answer)
    (o : ℕ → Tree → M.State → M.Answer) → Comes y (Ok t) C → ((S1 : M.State) → Shows y t.state S1 → Comes z r (λ d. k d t.node S1)) →
    Comes z r (λ d. attempt S (C d) (k d) (o d))
unfolding attempt
try_found {y} {z} {t} {r} {C} S k o x f = go x.says refl
  where
    go : {a : M.Answer} → Says y (Ok t) a → x.answer ≡ a → Comes z r (λ d. attempt S (C d) (k d) (o d))
    go (says_found {S = S1} sh) e = record {
      answer = (f S1 sh).answer;
      depth = x.depth + (f S1 sh).depth;
      settles = λ d h. ap (λ (a : M.Answer). attempt S a (k d) (o d)) (x.settles d (omega arith) ∙ e) ∙ (f S1 sh).settles d (omega arith);
      says = (f S1 sh).says;
    }

-- a failed try: the next one starts from the state before it, with the indices and steps after it
pub try_failed : {y z : Lent} {s : State} {r : Answer} {C : ℕ → M.Answer} (S : M.State) (k : ℕ → ℕ → M.State → M.Answer)
    (o : ℕ → Tree → M.State → M.Answer) → Comes y (Err (Failed s)) C →
    ((K : Tree) → Comes z r (λ d. o d K (restart S s.indices s.steps))) → Comes z r (λ d. attempt S (C d) (k d) (o d))
unfolding attempt
try_failed {y} {z} {s} {r} {C} S k o x f = go x.says refl
  where
    go : {a : M.Answer} → Says y (Err (Failed s)) a → x.answer ≡ a → Comes z r (λ d. attempt S (C d) (k d) (o d))
    go (says_failed {u = u} {n = n} K eu en) e = record {
      answer = (f K).answer;
      depth = x.depth + (f K).depth;
      settles = λ d h. ap (λ (a : M.Answer). attempt S a (k d) (o d)) (x.settles d (omega arith) ∙ e)
          ∙ ap₂ (λ (u n : ℕ). o d K (restart S u n)) eu en ∙ (f K).settles d (omega arith);
      says = (f K).says;
    }

-- going on with higher fills, or a level up
pub kept_on : {m : Limits} {x x1 y : Lent} {s s1 : State} {q q1 : Sequent} (r : Answer) → Frame x s.formulas s.terms q.level x1 →
    s.formulas ≤ s1.formulas → s.terms ≤ s1.terms → q.level ≤ q1.level → Kept m x1 s1 q1 r y → Kept m x s q r y
kept_on {m} {x} {x1} {y} {s} {s1} r fr hf ht hl k = record {
  frame = frame_trans hf ht hl fr k.frame;
  within = k.within;
  after = go r k.after;
}
  where
    go : (r : Answer) → After y s1 r → After y s r
    go (Ok f) a = record {
      laid = a.laid;
      formulas_up = omega (arith, a.formulas_up);
      terms_up = omega (arith, a.terms_up);
      root_in = a.root_in;
    }
    go (Err e) a = tt

-- a premise asked of the sequent that the lists hold
pub premise : {j : M.Judgement} {m : Limits} {taken : List (List ℕ)} {x y : Lent} {s : State} {q : Sequent} {r : Answer} →
    Meets j m taken x s q r y → {Q : M.Sequent} → Q ≡ seq_of x.records q → {S : M.State} → Shows x s S →
    Comes y r (λ d. asks m taken d j Q S)
premise {j} {m} {taken} x {Q} e {S} sh =
    comes_as (λ d. asks m taken d j Q S) (λ d. ap (λ (R : M.Sequent). asks m taken d j R S) e) (x.means S sh)

module _ (m : Limits) (taken : List (List ℕ)) (d : ℕ) (j : M.Judgement) (Q : M.Sequent) (S : M.State) where
  run_stops : m.steps ≤ S.steps → run (limited (limits_of m)) taken (suc d) j Q S ≡ M.short M.Steps S.steps
  unfolding run enter fits
  run_stops h = rw (enter, lt-leb (suc S.steps) m.steps (omega arith))

  run_goes : S.steps < m.steps → run (limited (limits_of m)) taken (suc d) j Q S ≡
      rule (limited (limits_of m)) taken (asks m taken d) j Q
      (record { words = S.words; nodes = S.nodes; used = S.used; steps = suc S.steps })
  unfolding run enter fits
  run_goes h = rw (enter, le-leb (suc S.steps) m.steps h)

module _ {j : M.Judgement} {m : Limits} {taken : List (List ℕ)} {x : Lent} {s : State} {q : Sequent} where
  -- no step is left
  pub stop : m.steps ≤ s.steps → Within m s → Meets j m taken x s q (Err (Short Steps s)) x
  unfolding limit_of
  stop h i = record {
    means = λ S sh. record {
      answer = M.short M.Steps S.steps;
      depth = 1;
      settles = go S sh;
      says = says_short M.Steps refl sh.steps;
    };
    kept = record { frame = frame_refl; within = i; after = tt };
  }
    where
      go : (S : M.State) → Shows x s S → (d : ℕ) → 1 ≤ d → asks m taken d j (seq_of x.records q) S ≡ M.short M.Steps S.steps
      go S sh zero k = absurd (not-suc-le-zero k)
      go S sh (suc d) k = run_stops m taken d j (seq_of x.records q) S (omega (arith, sh.steps))

  -- an entry is one step, counted first
  pub entered : {s1 : State} {r : Answer} {y : Lent} → s.steps < m.steps → s1 ≡ stepped s → Goes j m taken x s1 q r y →
      Meets j m taken x s q r y
  entered {s1} {r} {y} h e g0 = record {
    means = λ S sh. up S sh (g.means (step_up S) (shown S sh));
    kept = kept_on r frame_refl (omega arith) (omega arith) (omega arith) g.kept;
  }
    where
      g : Goes j m taken x (stepped s) q r y
      g = subst (λ (v : State). Goes j m taken x v q r y) e g0

      step_up : M.State → M.State
      step_up S = record { words = S.words; nodes = S.nodes; used = S.used; steps = suc S.steps }

      shown : (S : M.State) → Shows x s S → Shows x (stepped s) (step_up S)
      shown S sh = record {
        words = sh.words;
        nodes = sh.nodes;
        many = sh.many;
        used = sh.used;
        steps = omega (arith, sh.steps);
      }

      up : (S : M.State) → Shows x s S →
          Comes y r (λ d. rule (limited (limits_of m)) taken (asks m taken d) j (seq_of x.records q) (step_up S)) →
          Comes y r (λ d. asks m taken d j (seq_of x.records q) S)
      up S sh c = record { answer = c.answer; depth = suc c.depth; settles = go; says = c.says }
        where
          go : (d : ℕ) → suc c.depth ≤ d → asks m taken d j (seq_of x.records q) S ≡ c.answer
          go zero k = absurd (not-suc-le-zero k)
          go (suc d) k =
              run_goes m taken d j (seq_of x.records q) S (omega (arith, sh.steps)) ∙ c.settles d (le_of_suc-le-suc k)

-- the tree of worlds of a failed try, and what comes after it
pub record FailsAs (S : M.State) (s : State) (C : ℕ → M.Answer) : Type 0 where
  pub tree : Tree
  pub carries : (k : ℕ → ℕ → M.State → M.Answer) (o : ℕ → Tree → M.State → M.Answer) {z : Lent} {r : Answer} →
      Comes z r (λ d. o d tree (restart S s.indices s.steps)) → Comes z r (λ d. attempt S (C d) (k d) (o d))

pub fails_as : {y : Lent} {s : State} {C : ℕ → M.Answer} (S : M.State) → Comes y (Err (Failed s)) C → FailsAs S s C
unfolding attempt
fails_as {y} {s} {C} S x = go x.says refl
  where
    go : {a : M.Answer} → Says y (Err (Failed s)) a → x.answer ≡ a → FailsAs S s C
    go (says_failed K eu en) e = record {
      tree = K;
      carries = λ k o c. record {
        answer = c.answer;
        depth = x.depth + c.depth;
        settles = λ d h. ap (λ (a : M.Answer). attempt S a (k d) (o d)) (x.settles d (omega arith) ∙ e)
            ∙ ap₂ (λ (u n : ℕ). o d K (restart S u n)) eu en ∙ c.settles d (omega arith);
        says = c.says;
      };
    }

-- the state of a found try, and what comes after it
pub record FindsAs (y : Lent) (t : Found) (C : ℕ → M.Answer) : Type 0 where
  pub state : M.State
  pub shows : Shows y t.state state
  pub carries : (S : M.State) (k : ℕ → ℕ → M.State → M.Answer) (o : ℕ → Tree → M.State → M.Answer) {z : Lent} {r : Answer} →
      Comes z r (λ d. k d t.node state) → Comes z r (λ d. attempt S (C d) (k d) (o d))

pub finds_as : {y : Lent} {t : Found} {C : ℕ → M.Answer} → Comes y (Ok t) C → FindsAs y t C
unfolding attempt
finds_as {y} {t} {C} x = go x.says refl
  where
    go : {a : M.Answer} → Says y (Ok t) a → x.answer ≡ a → FindsAs y t C
    go (says_found {S = S1} sh) e = record {
      state = S1;
      shows = sh;
      carries = λ S k o c. record {
        answer = c.answer;
        depth = x.depth + c.depth;
        settles = λ d h. ap (λ (a : M.Answer). attempt S a (k d) (o d)) (x.settles d (omega arith) ∙ e) ∙ c.settles d (omega arith);
        says = c.says;
      };
    }
