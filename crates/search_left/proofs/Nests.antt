-- The two tests of rule 4's records. Assumes nothing.
use Prim.Native.Nat.{ℕ, ◌+◌, ◌*◌}
use mathlib.Core.Path.{◌≡◌, refl, sym, ap, ap₂, ◌∙◌}
use mathlib.Core.Bool.{Bool, true, false, ◌&&◌}
use mathlib.Core.List.{List}
use lib.Dec.{eqb}
use borrow.Author.Tests.{eq-eqb, ne_eqb}
use Rattle.formula.specs.declared.Kind.{Kind}
use Rattle.formula.specs.declared.Kind.TheVariants.{Impl}
use Rattle.formula.specs.Kinds.{kind_named}
use Rattle.formula.proofs.KindLaws.{is_kind, not_kind}
use Rattle.context.specs.Moves.{stretch}
use Rattle.context.specs.Area.{Rec, formula_at}
use Rattle.search_laws.specs.Reading.{kind_at, left_at}
use Rattle.search_left.specs.Last.{nested}

-- r tells whether a kind is Impl
pub record Tells (r : Bool) (k : Kind) : Type 0 where
  pub yes : r ≡ true → k ≡ Impl
  pub no : r ≡ false → k ≡ Impl → ⊥

tells_five : {r : Bool} {k : Kind} (n : ℕ) → k ≡ kind_named n → Tells r k → r ≡ eqb n 5
unfolding kind_named
tells_five {r = true} n e h = sym (eq-eqb n 5 (is_kind (sym e ∙ h.yes refl)))
tells_five {r = false} n e h = sym (ne_eqb n 5 (not_kind 5 (λ z. h.no refl (e ∙ z))))

module _ (f : List ℕ) (w : List Rec) (l i : ℕ) {a b : ℕ} {k : Kind} (ea : a ≡ formula_at w (l * stretch + i)) (eb : b ≡ left_at f a)
    (ek : k ≡ kind_named (kind_at f a)) {r : Bool} (tells : Tells r k) where
  both : nested f w l i ≡ (r && eqb (kind_at f b) 5)
  both =
      ap (λ (c : ℕ). eqb (kind_at f c) 5 && eqb (kind_at f (left_at f c)) 5) (sym ea)
      ∙ ap₂ ◌&&◌ (sym (tells_five _ ek tells)) (ap (λ (c : ℕ). eqb (kind_at f c) 5) (sym eb))

  pub nested_other : r ≡ false → r ≡ nested f w l i
  nested_other h = h ∙ sym (both ∙ ap (λ (t : Bool). t && eqb (kind_at f b) 5) h)

  pub nested_from : r ≡ true → {g : Kind} {t : Bool} → g ≡ kind_named (kind_at f b) → Tells t g → t ≡ nested f w l i
  nested_from h eg et = tells_five _ eg et ∙ sym (both ∙ ap (λ (t : Bool). t && eqb (kind_at f b) 5) h)
