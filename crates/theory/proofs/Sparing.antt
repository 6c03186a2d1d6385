-- A charge may test all that it reaches or only what it adds: within its limits the search answers alike. Assumes nothing.
use Prim.Native.Nat.{ℕ, ◌+◌}
use mathlib.Core.Path.{◌≡◌, refl, sym, ap, ◌∙◌, subst}
use mathlib.Core.Bool.{Bool, true, false}
use mathlib.Core.Option.{Option, none, some}
use mathlib.Core.List.{List, [], append-nil}
use native.Mathlib.Omega.{arith}
use lib.Dec.{T, leb, leb→le}
use lib.ListN.{length}
use Rattle.theory.specs.Form.{Book}
use Rattle.theory.specs.Term.{Node}
use Rattle.theory.specs.Names.{skipped}
use Rattle.theory.specs.Meter.{Bound, fits, Limits, Lack, Names, Formulas, Terms, Contexts, Levels, Sequent, State, Answer, short}
use Rattle.theory.specs.Meter.{count, lacking, charge, limited, free_if, on_added, sparing, Within}
use Rattle.theory.specs.Search.{given, whole, prove}
use Rattle.theory.proofs.Tests.{true_of}
use Rattle.theory.proofs.Charges.{made}
use Rattle.theory.proofs.Alike.{Alike, alike}
use Rattle.theory.proofs.Room.{fits_down, Kept, b_found, b_unfinished, Same, one, same_step, same_charge, same_nodes, same_premise}
use Rattle.theory.proofs.Room.{same_try, same_fail}

-- a test that must pass where it is left out
left_out : (out : Bool) (b : Bound) (n : ℕ) → (T out → T (fits b n)) → fits b n ≡ fits (free_if out b) n
unfolding fits
left_out true b n h = true_of (fits b n) (h tt)
left_out false b n h = refl

module _ (L : Limits) where
  -- a charge adds what is more than the state has, so what it leaves out is within the limits already
  charge_added : (u : ℕ) (vs : Book) (ns : List Node) (q : Sequent) (s : State) (k : State → Answer) → Within L s →
      charge L u vs ns q s k ≡ charge (on_added L u vs ns s) u vs ns q s k
  unfolding charge lacking on_added
  charge_added u vs ns q s k w =
      ap (λ (a : Bool). answer a (fits L.formulas f) (fits L.terms t)) names
      ∙ ap (λ (b : Bool). answer (fits (free_if (leb u s.used) L.names) u) b (fits L.terms t)) formulas
      ∙ ap (answer (fits (free_if (leb u s.used) L.names) u) (fits (free_if (leb (length vs) 0) L.formulas) f)) terms
    where
      f : ℕ
      f = length s.words + length vs

      t : ℕ
      t = length s.nodes + length ns

      names : fits L.names u ≡ fits (free_if (leb u s.used) L.names) u
      names = left_out (leb u s.used) L.names u (λ o. fits_down L.names (leb→le u s.used o) w.names)

      formulas : fits L.formulas f ≡ fits (free_if (leb (length vs) 0) L.formulas) f
      formulas = left_out (leb (length vs) 0) L.formulas f
          (λ o. fits_down L.formulas (omega (arith, leb→le (length vs) 0 o)) w.formulas)

      terms : fits L.terms t ≡ fits (free_if (leb (length ns) 0) L.terms) t
      terms = left_out (leb (length ns) 0) L.terms t (λ o. fits_down L.terms (omega (arith, leb→le (length ns) 0 o)) w.terms)

      test : Bool → Lack → Option Lack → Option Lack
      test c l o = elim c [ false ↦ some l | true ↦ o ]

      answer : Bool → Bool → Bool → Answer
      answer a b c =
          elim (test a Names (test b Formulas (test c Terms
          (test (fits L.contexts (count q)) Contexts (test (fits L.levels q.level) Levels none))))) [
            | none ↦ k (made s u vs ns)
            | some l ↦ short l s.steps
          ]

  -- all else is the same in both
  spared : (ws : Book) → Alike (limited L) (sparing L)
  spared ws = record {
    Rel = Same L ws;
    Reached = Kept L ws;
    Asked = λ q. Unit {0};
    fewer = λ q q' l e i. tt;
    on_found = λ t s i. one L ws (b_found i);
    on_fail = same_fail L ws;
    on_unfinished = one L ws b_unfinished;
    on_step = same_step L ws;
    on_charge = λ u vs ns q s k k' i v f.
        subst (Same L ws (charge L u vs ns q s k)) (charge_added u vs ns q s k' i.within)
        (same_charge L ws u vs ns q s k k' i v (λ s₁ i₁ r. f s₁ i₁ tt));
    on_nodes = same_nodes L ws;
    on_premise = same_premise L ws;
    on_try = same_try L ws;
  }

  -- so the answers are, from a start within the limits
  pub added_alone : (names : List (List ℕ)) (d : ℕ) (ws : Book) (hs : List ℕ) (g : ℕ) → Within L (given ws) →
      prove L names d ws hs g ≡ whole (sparing L) (skipped names) d ws hs g
  unfolding prove given spared
  added_alone names d ws hs g start =
      (alike (limited L) (sparing L) (spared ws) (skipped names) ws hs g
      (record { within = start; more = []; is = sym (append-nil ws); imply = tt }) tt d).same
