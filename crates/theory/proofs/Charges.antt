-- A step, a charge and the nodes alone: the tests pass and the search goes on, or there is a shortage. Assumes nothing.
use Prim.Native.Nat.{ℕ, suc, ◌+◌}
use mathlib.Core.Path.{◌≡◌, refl, sym, subst}
use mathlib.Core.Logic.{◌≢◌}
use mathlib.Core.Bool.{Bool, true, false}
use mathlib.Core.Option.{Option, none, some}
use mathlib.Core.List.{List, ◌++◌}
use lib.Dec.{T}
use lib.ListN.{length}
use Rattle.theory.specs.Form.{Book}
use Rattle.theory.specs.Term.{Node}
use Rattle.theory.specs.World.{Tree}
use Rattle.theory.specs.Meter.{fits, Limits, Lack, Steps, Names, Formulas, Terms, Contexts, Levels, Sequent, State, Answer, short}
use Rattle.theory.specs.Meter.{count, attempt, lacking, charge, spend, enter}

-- the state after a charge, and after a try that gave its formulas and terms back
abbrev pub made : State → ℕ → Book → List Node → State
made s u ws ns = record { words = s.words ++ ws; nodes = s.nodes ++ ns; used = u; steps = s.steps }

abbrev pub restart : State → ℕ → ℕ → State
restart s u n = record { words = s.words; nodes = s.nodes; used = u; steps = n }

-- the state after nodes alone, and after a step
abbrev pub noded : State → List Node → State
noded s ns = record { words = s.words; nodes = s.nodes ++ ns; used = s.used; steps = s.steps }

abbrev pub entered : State → State
entered s = record { words = s.words; nodes = s.nodes; used = s.used; steps = suc s.steps }

-- of what can run short, a charge and nodes test all but steps
abbrev pub IsSteps : Lack → Type 0
IsSteps Steps = Unit {0}
IsSteps Names = ⊥
IsSteps Formulas = ⊥
IsSteps Terms = ⊥
IsSteps Contexts = ⊥
IsSteps Levels = ⊥

-- what the tests of a charge say where they pass
pub record Paid (L : Limits) (u : ℕ) (vs : Book) (ns : List Node) (q : Sequent) (s : State) : Type 0 where
  pub names : T (fits L.names u)
  pub formulas : T (fits L.formulas (length s.words + length vs))
  pub terms : T (fits L.terms (length s.nodes + length ns))
  pub contexts : T (fits L.contexts (count q))
  pub levels : T (fits L.levels q.level)

-- a shortage inside a try is no failure: it ends the whole call
pub shortage_ends : (s : State) (l : Lack) (n : ℕ) (k : ℕ → State → Answer) (o : Tree → State → Answer) →
    attempt s (short l n) k o ≡ short l n
unfolding attempt
shortage_ends s l n k o = refl

-- what holds of the shortage, and of two ways to go on where the tests pass, holds of the two searches. A property of one search is the
-- case of equal ways
module _ (L : Limits) (P : Answer → Answer → Type 0) where
  pub at_charge : (u : ℕ) (vs : Book) (ns : List Node) (q : Sequent) (s : State) (k k' : State → Answer) →
      ((l : Lack) → l ≢ Steps → P (short l s.steps) (short l s.steps)) →
      (Paid L u vs ns q s → P (k (made s u vs ns)) (k' (made s u vs ns))) → P (charge L u vs ns q s k) (charge L u vs ns q s k')
  unfolding charge lacking
  at_charge u vs ns q s k k' shortage f =
      go (fits L.names u) (fits L.formulas (length s.words + length vs)) (fits L.terms (length s.nodes + length ns))
      (fits L.contexts (count q)) (fits L.levels q.level)
      λ a b c d e. f (record { names = a; formulas = b; terms = c; contexts = d; levels = e })
    where
      test : Bool → Lack → Option Lack → Option Lack
      test b l o = elim b [ false ↦ some l | true ↦ o ]

      out : (State → Answer) → Option Lack → Answer
      out k o = elim o [ none ↦ k (made s u vs ns) | some l ↦ short l s.steps ]

      tests : Bool → Bool → Bool → Bool → Bool → Option Lack
      tests a b c d e = test a Names (test b Formulas (test c Terms (test d Contexts (test e Levels none))))

      go : (a b c d e : Bool) → (T a → T b → T c → T d → T e → P (k (made s u vs ns)) (k' (made s u vs ns))) →
          P (out k (tests a b c d e)) (out k' (tests a b c d e))
      go false b c d e f = shortage Names (λ p. subst IsSteps (sym p) tt)
      go true false c d e f = shortage Formulas (λ p. subst IsSteps (sym p) tt)
      go true true false d e f = shortage Terms (λ p. subst IsSteps (sym p) tt)
      go true true true false e f = shortage Contexts (λ p. subst IsSteps (sym p) tt)
      go true true true true false f = shortage Levels (λ p. subst IsSteps (sym p) tt)
      go true true true true true f = f tt tt tt tt tt

  pub at_nodes : (ns : List Node) (s : State) (k k' : State → Answer) → P (short Terms s.steps) (short Terms s.steps) →
      (T (fits L.terms (length s.nodes + length ns)) → P (k (noded s ns)) (k' (noded s ns))) → P (spend L ns s k) (spend L ns s k')
  unfolding spend
  at_nodes ns s k k' shortage f = go (fits L.terms (length s.nodes + length ns)) f
    where
      go : (b : Bool) → (T b → P (k (noded s ns)) (k' (noded s ns))) →
          P (elim b [ true ↦ k (noded s ns) | false ↦ short Terms s.steps ])
          (elim b [ true ↦ k' (noded s ns) | false ↦ short Terms s.steps ])
      go true f = f tt
      go false f = shortage

  pub at_step : (s : State) (k k' : State → Answer) →
      (fits L.steps (suc s.steps) ≡ false → P (short Steps s.steps) (short Steps s.steps)) →
      (T (fits L.steps (suc s.steps)) → P (k (entered s)) (k' (entered s))) → P (enter L s k) (enter L s k')
  unfolding enter
  at_step s k k' = go (fits L.steps (suc s.steps))
    where
      go : (b : Bool) → (b ≡ false → P (short Steps s.steps) (short Steps s.steps)) → (T b → P (k (entered s)) (k' (entered s))) →
          P (elim b [ true ↦ k (entered s) | false ↦ short Steps s.steps ])
          (elim b [ true ↦ k' (entered s) | false ↦ short Steps s.steps ])
      go true shortage f = f tt
      go false shortage f = shortage refl
