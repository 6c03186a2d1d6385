-- Whether a name is lawful after others: it stands among them, or it does not and is well spelled. Assumes nothing.
use Prim.Native.Nat.{ℕ}
use mathlib.Core.Path.{◌≡◌, refl, sym, ap, ◌∙◌}
use mathlib.Core.Bool.{Bool, true, false, ◌&&◌, not}
use mathlib.Core.List.{List}
use Rattle.theory.specs.Names.{among}
use Rattle.theory.specs.NameText.{well_spelled, lawful_after}
use Rattle.theory.proofs.Entries.{skipped_found, skipped_free}

-- a name that stands among the earlier ones is not lawful, any other is where it is well spelled
module _ (earlier : List (List ℕ)) (x : List ℕ) where
  pub repeated : among x earlier ≡ true → false ≡ lawful_after earlier x
  unfolding lawful_after
  repeated e = sym (ap (λ (b : Bool). well_spelled x && not b) (skipped_found x earlier e) ∙ go (well_spelled x))
    where
      go : (b : Bool) → (b && false) ≡ false
      go true = refl
      go false = refl

  pub unrepeated : among x earlier ≡ false → well_spelled x ≡ lawful_after earlier x
  unfolding lawful_after
  unrepeated e = sym (ap (λ (b : Bool). well_spelled x && not b) (skipped_free x earlier e) ∙ go (well_spelled x))
    where
      go : (b : Bool) → (b && true) ≡ b
      go true = refl
      go false = refl
