-- Going through names one after the other: a test that some name passes, and the library's equality. Assumes nothing.
use Prim.Native.Nat.{ℕ, suc, ◌+◌}
use mathlib.Core.Path.{◌≡◌, refl, sym, ap, ap₂, ◌∙◌}
use mathlib.Core.Bool.{Bool, true, false, true≢false, ◌||◌, ◌&&◌}
use mathlib.Core.List.{List, [], ◌∷◌}
use native.Mathlib.Omega.{arith}
use lib.Dec.{eqb}
use lib.ListN.{length, get_or}
use denote.Ref.{Bor}
use Rattle.std.specs.List.{list_any, list_all, enumerate_from, slice_get}
use Rattle.std.specs.declared.option.Option.{Option}
use Rattle.std.specs.declared.option.Option.TheVariants.{None, Some}
use Rattle.std.specs.Option.{option_copied, option_eq}
use Rattle.std.specs.Cmp.Lexicographic.{pointwise}
use Rattle.theory.specs.Names.{same, among, skipped}
use Rattle.theory.proofs.Entries.{skipped_found, skipped_free}

-- the library's `==` on bytes
pub pointwise_same : (a b : List ℕ) → pointwise eqb a b ≡ same a b
unfolding same
pointwise_same [] [] = refl
pointwise_same [] (y ∷ ys) = refl
pointwise_same (x ∷ xs) [] = refl
pointwise_same (x ∷ xs) (y ∷ ys) = ap (λ (t : Bool). eqb x y && t) (pointwise_same xs ys)

-- lists whose first bytes differ, by the library's `==` on what `first` gives
heads_differ : (a b : List ℕ) → option_eq eqb (slice_get a 0) (slice_get b 0) ≡ false → same a b ≡ false
unfolding same
heads_differ [] [] e = absurd (true≢false e)
heads_differ [] (y ∷ ys) e = refl
heads_differ (x ∷ xs) [] e = refl
heads_differ (x ∷ xs) (y ∷ ys) e = ap (λ (t : Bool). t && same xs ys) e

copied_eq : (u v : Option (Bor ℕ)) → option_eq (λ x y. eqb x.now y.now) u v ≡ option_eq eqb (option_copied u) (option_copied v)
copied_eq None None = refl
copied_eq None (Some y) = refl
copied_eq (Some x) None = refl
copied_eq (Some x) (Some y) = refl

pub first_differs : (a b : List ℕ) (u v : Option (Bor ℕ)) → option_copied u ≡ slice_get a 0 → option_copied v ≡ slice_get b 0 →
    option_eq (λ x y. eqb x.now y.now) u v ≡ false → same a b ≡ false
first_differs a b u v p q e =
    heads_differ a b (ap₂ (option_eq eqb) (sym p) (sym q) ∙ sym (copied_eq u v) ∙ e)

-- some name is the same as x
pub any_among : (x : List ℕ) (names : List (List ℕ)) → list_any (same x) names ≡ among x names
unfolding among
any_among x [] = refl
any_among x (y ∷ ys) = ap (λ (t : Bool). same x y || t) (any_among x ys)

pub any_skipped : (x : List ℕ) (names : List (List ℕ)) → list_any (same x) names ≡ among x (skipped names)
any_skipped x names = any_among x names ∙ go (among x names) refl
  where
    go : (b : Bool) → among x names ≡ b → b ≡ among x (skipped names)
    go true e = sym (skipped_found x names e)
    go false e = sym (skipped_free x names e)

-- letter by letter, from place n on
module _ (whole : List ℕ) where
  abbrev pub letter_is : ℕ × ℕ → Bool
  letter_is p = eqb (get_or whole p.0 0) p.1

  all_from : (xs ys : List ℕ) (n : ℕ) → ((k : ℕ) → get_or whole (n + k) 0 ≡ get_or xs k 0) → length xs ≡ length ys →
      list_all letter_is (enumerate_from n ys) ≡ same xs ys
  unfolding same
  all_from [] [] n at e = refl
  all_from [] (y ∷ ys) n at e = absurd (omega arith)
  all_from (x ∷ xs) [] n at e = absurd (omega arith)
  all_from (x ∷ xs) (y ∷ ys) n at e =
      ap₂ (λ (s t : Bool). s && t)
      (ap (λ (m : ℕ). eqb m y) (ap (λ (m : ℕ). get_or whole m 0) (omega arith) ∙ at 0))
      (all_from xs ys (n + 1) (λ k. ap (λ (m : ℕ). get_or whole m 0) (omega arith) ∙ at (suc k)) (omega arith))

  pub all_letters : (ys : List ℕ) → length whole ≡ length ys → list_all letter_is (enumerate_from 0 ys) ≡ same whole ys
  all_letters ys e = all_from whole ys 0 (λ k. ap (λ (m : ℕ). get_or whole m 0) (omega arith)) e
