-- A fresh index is the first free one, as a loop that looks at one index after the other finds it. Assumes nothing.
use Prim.Native.Nat.{ℕ, zero, suc, ◌+◌, ◌≤◌, ◌<◌}
use mathlib.Core.Path.{◌≡◌, refl, sym, ap, ◌∙◌}
use mathlib.Core.Bool.{Bool, true, false, true≢false}
use mathlib.Core.List.{List}
use mathlib.Core.Logic.{⊎_elim}
use native.Mathlib.Nat.{eq-or-lt_of_le}
use native.Mathlib.Omega.{arith}
use lib.ListN.{length}
use Rattle.theory.specs.Names.{spell, among, skip, fresh}
use Rattle.theory.proofs.Naming.{fresh_free}

-- every index that is passed is taken
skip_passed : (n : ℕ) (taken : List (List ℕ)) (i j : ℕ) → i ≤ j → j < skip n taken i → among (spell j) taken ≡ true
unfolding skip
skip_passed zero taken i j l h = absurd (omega arith)
skip_passed (suc n) taken i j l h = go (among (spell i) taken) refl h (skip_passed n taken (suc i) j)
  where
    go : (b : Bool) → among (spell i) taken ≡ b → j < elim b [ true ↦ skip n taken (suc i) | false ↦ i ] →
        (suc i ≤ j → j < skip n taken (suc i) → among (spell j) taken ≡ true) → among (spell j) taken ≡ true
    go false e h ih = absurd (omega arith)
    go true e h ih = ⊎_elim (λ p. ap (λ (k : ℕ). among (spell k) taken) (sym p) ∙ e) (λ m. ih m h) (eq-or-lt_of_le l)

skip_bound : (n : ℕ) (taken : List (List ℕ)) (i : ℕ) → skip n taken i ≤ i + n
unfolding skip
skip_bound zero taken i = omega arith
skip_bound (suc n) taken i = go (among (spell i) taken) (skip_bound n taken (suc i))
  where
    go : (b : Bool) → skip n taken (suc i) ≤ suc i + n → elim b [ true ↦ skip n taken (suc i) | false ↦ i ] ≤ i + suc n
    go true h = omega arith
    go false h = omega arith

pub fresh_bound : (taken : List (List ℕ)) (i : ℕ) → fresh taken i ≤ i + length taken
unfolding fresh
fresh_bound taken i = skip_bound (length taken) taken i

-- an index that is taken is not the fresh one
pub taken_below : (taken : List (List ℕ)) (i g : ℕ) → g ≤ fresh taken i → among (spell g) taken ≡ true → g < fresh taken i
taken_below taken i g h t =
    ⊎_elim
    (λ p. absurd (true≢false (sym t ∙ ap (λ (k : ℕ). among (spell k) taken) p ∙ fresh_free taken i)))
    (λ l. l)
    (eq-or-lt_of_le h)

-- a free index that is not above the fresh one is the fresh one
pub free_is_fresh : (taken : List (List ℕ)) (i g : ℕ) → i ≤ g → g ≤ fresh taken i → among (spell g) taken ≡ false → g ≡ fresh taken i
unfolding fresh
free_is_fresh taken i g l h f =
    ⊎_elim (λ p. p) (λ m. absurd (true≢false (sym (skip_passed (length taken) taken i g l m) ∙ f))) (eq-or-lt_of_le h)
