-- A list that is cleared from a place on, one element after another: the law of every closing clear, over the element. Assumes nothing.
use Prim.Native.Nat.{ℕ, ◌+◌, ◌-◌, ◌≤◌, ◌<◌}
use mathlib.Core.Path.{◌≡◌, refl, sym, ap, ◌∙◌}
use mathlib.Core.Logic.{◌⊎◌, inl, inr}
use mathlib.Core.List.{List, [], ◌∷◌, ◌++◌, append_assoc, append-nil}
use native.Mathlib.Decide.{dec_le}
use native.Mathlib.Omega.{arith}
use native.Mathlib.Numerals.{add-one}
use lib.ListN.{length, take, set, replicate, length-set, replicate-append-replicate}
use lib.Seq.{take-suc-set, take_all, length-take-le}
use Rattle.theory.specs.NameText.{padded}

module _ {A : Type 0} (z : A) (l : List A) (from : ℕ) where
  -- l' is l with z from `from` up to i
  pub record Clearing (i : ℕ) (l' : List A) : Type 0 where
    pub reached : from ≤ i
    pub long : length l' ≡ length l
    pub front : take i l' ≡ take from l ++ replicate (i - from) z

  -- one more copy of an element stands at the end as well
  snoc_replicate : (n : ℕ) → replicate n z ++ (z ∷ []) ≡ replicate (n + 1) z
  snoc_replicate n = replicate-append-replicate n 1 z

  pub clearing_starts : Clearing from l
  clearing_starts = record {
    reached = omega arith;
    long = refl;
    front =
        let e : from - from ≡ 0 = omega arith in
        sym (append-nil (take from l)) ∙ ap (λ (k : ℕ). take from l ++ replicate k z) (sym e);
  }

  pub clearing_goes : {i : ℕ} {l' : List A} → Clearing i l' → i < length l' → Clearing (i + 1) (set l' i z)
  clearing_goes {i} {l'} c h = record {
    reached = omega (arith, c.reached);
    long = length-set l' i z ∙ c.long;
    front =
        let e : i - from + 1 ≡ i + 1 - from = omega (arith, c.reached) in
        ap (λ (k : ℕ). take k (set l' i z)) (add-one i)
        ∙ take-suc-set l' i z h
        ∙ ap (λ (xs : List A). xs ++ (z ∷ [])) c.front
        ∙ append_assoc (take from l) (replicate (i - from) z) (z ∷ [])
        ∙ ap (λ (xs : List A). take from l ++ xs) (snoc_replicate (i - from))
        ∙ ap (λ (k : ℕ). take from l ++ replicate k z) e;
  }

  -- at the end of the list everything from `from` on is z
  pub clearing_ends : {i : ℕ} {l' : List A} → Clearing i l' → length l ≤ i → i ≤ length l →
      l' ≡ take from l ++ replicate (length l - from) z
  clearing_ends {i} {l'} c h k =
      let e : i ≡ length l = omega arith in
      sym (take_all i l' (omega (arith, c.long))) ∙ c.front ∙ ap (λ (n : ℕ). take from l ++ replicate (n - from) z) e

  -- a loop from `from` on ends at the end of the list, or where it starts if that is past it
  pub clearing_done : {i : ℕ} {l' : List A} → Clearing i l' → length l ≤ i → (i ≤ length l) ⊎ (i ≡ from) →
      l' ≡ take from l ++ replicate (length l - from) z
  clearing_done c h (inl k) = clearing_ends c h k
  clearing_done {i} {l'} c h (inr e) =
      let n : i - from ≡ length l - from = omega arith in
      sym (take_all i l' (omega (arith, c.long))) ∙ c.front ∙ ap (λ (k : ℕ). take from l ++ replicate k z) n

-- what is kept and padded with zeros is what is cleared from its end on
pub padded_take : (l : List ℕ) (from : ℕ) → take from l ++ replicate (length l - from) 0 ≡ padded (length l) (take from l)
unfolding padded
padded_take l from = ap (λ (k : ℕ). take from l ++ replicate k 0) (rest (dec_le from (length l)))
  where
    rest : Dec (from ≤ length l) → length l - from ≡ length l - length (take from l)
    rest (yes h) = omega (arith, length-take-le from l h)
    rest (no h) = omega (arith, ap length (take_all from l (omega arith)))
