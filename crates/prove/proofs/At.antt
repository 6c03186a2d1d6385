-- The positions that rule 4 tries. Assumes nothing.
use Prim.Native.Nat.{ℕ, ◌<◌}
use mathlib.Core.Path.{◌≡◌, refl, sym, subst}
use mathlib.Core.Bool.{Bool, true, false, ◌&&◌}
use mathlib.Core.List.{List}
use lib.Dec.{T, eqb}
use borrow.Author.Tests.{eqb-true, eqb-false}
use Rattle.theory.specs.World.{Seen}
use Rattle.theory.specs.Meter as M
use Rattle.meter.specs.declared.State.{State}
use Rattle.meter.specs.declared.Sequent.{Sequent}
use Rattle.meter.specs.declared.Limits.{Limits}
use Rattle.search_laws.specs.Reading.{Lent, kind_at, Shows}
use Rattle.search_laws.specs.Keeping.{Rep}
use Rattle.search_laws.specs.Trying.{Next, trying}
use Rattle.search_laws.specs.Records.{formula_of, premise_of}
use Rattle.search_laws.proofs.Four.{skips_other, skips_flat}
use Rattle.search_left.specs.Last.{nested}
use Rattle.search_premises.specs.Prepared.{Nested}

-- the two tests of a position
both : (a b : ℕ) → eqb a 5 && eqb b 5 ≡ true → (a ≡ 5) × (b ≡ 5)
both a b e = go (eqb a 5) (eqb b 5) refl refl e
  where
    go : (u v : Bool) → eqb a 5 ≡ u → eqb b 5 ≡ v → u && v ≡ true → (a ≡ 5) × (b ≡ 5)
    go true true p q e = (eqb-true a 5 p, eqb-true b 5 q)
    go true false p q e = absurd (subst T (sym e) tt)
    go false v p q e = absurd (subst T (sym e) tt)

pub nested_yes : (x : Lent) (q : Sequent) {i : ℕ} → q.ordered ≡ 0 → i < q.unordered →
    nested x.words x.records q.level i ≡ true → Nested x q i
nested_yes x q none here e = let b = both _ _ e in record { none = none; here = here; arrow = b.0; inner = b.1 }

pub nested_no : {m : Limits} (taken : List (List ℕ)) {x : Lent} {s : State} {q : Sequent} {i : ℕ} → Rep m x s q → q.ordered ≡ 0 →
    (here : i < q.unordered) → nested x.words x.records q.level i ≡ false → (next : Next) (seen : Seen) (S : M.State) →
    Shows x s S → (d : ℕ) → trying m taken x q i next seen d S ≡ next d seen S
nested_no {m} taken {x} {s} {q} {i} rep none here e next seen S sh d =
    go (eqb (kind_at x.words (formula_of x q i)) 5) (eqb (kind_at x.words (premise_of x q i)) 5) refl refl e
  where
    go : (u v : Bool) → eqb (kind_at x.words (formula_of x q i)) 5 ≡ u → eqb (kind_at x.words (premise_of x q i)) 5 ≡ v →
        u && v ≡ false → trying m taken x q i next seen d S ≡ next d seen S
    go false v p r e = skips_other taken rep none here (eqb-false _ 5 p) next seen S sh d
    go true false p r e = skips_flat taken rep none here (eqb-true _ 5 p) (eqb-false _ 5 r) next seen S sh d
    go true true p r e = absurd (subst T e tt)
