-- The Applications of rule 2 are made of terms in use, so that 16 bits hold their numbers. Assumes nothing.
use Prim.Native.Nat.{ℕ, zero, suc, ◌<◌}
use mathlib.Core.Path.{◌≡◌, refl}
use mathlib.Core.Bool.{Bool, true, false}
use mathlib.Core.Option.{Option, none, some}
use mathlib.Core.List.{List, [], ◌∷◌, ◌++◌}
use native.Mathlib.Omega.{arith}
use Rattle.theory.specs.Form.{Book, Good, look, Form}
use Rattle.theory.specs.Term.{app}
use Rattle.theory.specs.Meter.{Entry}
use Rattle.theory.specs.Search.{is_leaf?, first_leaf, fire_shape, fire_at, fire}
use Rattle.theory.proofs.Forms.{good_at}
use Rattle.theory.proofs.Context.{Reads, no_more, and_more}
use Rattle.theory.proofs.Fire.{fires_shape}
use Rattle.search_laws.specs.Tables.{upto}
use Rattle.search_laws.specs.Leaves.{pieces}
use Rattle.search_laws.proofs.Write.{AllFit}
use Rattle.search_laws.proofs.Look.{fits16}

-- terms of 16 bits
abbrev pub Small : List Entry → Type 0
Small [] = Unit {0}
Small (e ∷ es) = (e.proof < 65536) × Small es

small_snoc : (es : List Entry) (e : Entry) → Small es → e.proof < 65536 → Small (es ++ (e ∷ []))
small_snoc [] e a h = (h, tt)
small_snoc (x ∷ es) e a h = (a.0, small_snoc es e a.1 h)

pub small_upto : (g : ℕ → Entry) (n : ℕ) → ((i : ℕ) → i < n → (g i).proof < 65536) → Small (upto g n)
unfolding upto
small_upto g zero h = tt
small_upto g (suc n) h = small_snoc (upto g n) (g n) (small_upto g n (λ i k. h i (omega arith))) (h n (omega arith))

-- the term of a leaf that is found is one of them
first_small : (ws : Book) (k y : ℕ) (us : List Entry) → Small us → (t : ℕ) → first_leaf ws k y us ≡ some t → t < 65536
unfolding first_leaf
first_small ws k y [] a t e = absurd (let z : ◌≡◌ {A = ℕ} 0 1 = cc in omega arith)
first_small ws k y (u ∷ us) a t e = go (is_leaf? k y (look ws u.formula)) e (first_small ws k y us a.1 t)
  where
    go : (b : Bool) → ◌≡◌ {A = Option ℕ} (elim b [ true ↦ some u.proof | false ↦ first_leaf ws k y us ]) (some t) →
        (first_leaf ws k y us ≡ some t → t < 65536) → t < 65536
    go true e rest = let z : u.proof ≡ t = cc in omega (arith, a.0)
    go false e rest = rest e

module _ (ws : Book) (good : Good ws) (us : List Entry) (few : Small us) where
  pub fired_fit : {es : List Entry} {E : List Form} → Reads ws es E → Small es → (n : ℕ) → AllFit (pieces (fire ws us n es).nodes)
  unfolding fire fire_at pieces
  fired_fit no_more a n = tt
  fired_fit (and_more {e} {es} h r) a n = go (fire_shape ws us (look ws e.formula)) refl (λ m. fired_fit r a.1 m)
    where
      go : (o : Option (ℕ × ℕ)) → fire_shape ws us (look ws e.formula) ≡ o → ((m : ℕ) → AllFit (pieces (fire ws us m es).nodes)) →
          AllFit (pieces (fire_at e n (λ m. fire ws us m es) o).nodes)
      go none p rest = rest n
      go (some p) z rest =
          let f = fires_shape ws good us (look ws e.formula) (good_at ws good e.formula h.there) p z in
          let t : p.0 < 65536 = first_small ws f.0 f.1 us few p.0 f.4 in
          (fits16 (app e.proof p.0) (a.0, t) tt, rest (suc n))
