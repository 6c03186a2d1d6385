-- From lines that are laid from the front and have room to the whole buffer. Assumes nothing.
use Prim.Native.Nat.{ℕ, ◌-◌, ◌≤◌}
use mathlib.Core.Path.{◌≡◌, refl, sym, ap, ◌∙◌}
use mathlib.Core.Bool.{Bool, true, false}
use mathlib.Core.Option.{Option, none, some, none-ne-some}
use mathlib.Core.List.{List, [], ◌++◌}
use borrow.Author.Tests.{leb-true}
use lib.Dec.{leb}
use lib.ListN.{length, take, replicate}
use lib.Seq.{length-take-le}
use Rattle.theory.specs.NameText.{padded}
use Rattle.theory.proofs.Cleared.{padded_take}
use Rattle.std.proofs.Common.{Some, None}
use Rattle.std.proofs.Common as std
use Rattle.std.specs.Option.{unwrap_or}
use Rattle.house_text.specs.Laid.{within, front_of, front_in, InRoom, Laid}
use Rattle.house_text.proofs.Laying.{joined_front, within_room}

-- a place that has a text in front of it is no further than the end
front_inside : (b : List ℕ) (at : ℕ) (x : List ℕ) → front_of b at ≡ some x → (at ≤ length b) × (take at b ≡ x)
unfolding front_of
front_inside b at x = go (leb at (length b)) refl
  where
    text : Option (List ℕ) → List ℕ
    text none = []
    text (some y) = y

    go : (t : Bool) → leb at (length b) ≡ t → elim t as (λ c. Option (List ℕ)) [ true ↦ some (take at b) | false ↦ none ] ≡ some x →
        (at ≤ length b) × (take at b ≡ x)
    go true e p = (leb-true at (length b) e, ap text p)
    go false e p = absurd (none-ne-some x p)

module _ (x : List ℕ) {b b₁ : List ℕ} {end : std.Option ℕ} (g : Laid (some x) b 0 b₁ end) (room : length x ≤ length b) where
  all_laid : front_in b₁ end ≡ some x
  all_laid = g.front ∙ ap (within (length b)) (joined_front b (some x)) ∙ within_room (length b) x room

  inside : (unwrap_or end 0 ≤ length b₁) × (take (unwrap_or end 0) b₁ ≡ x)
  inside = go end all_laid
    where
      go : (r : std.Option ℕ) → front_in b₁ r ≡ some x → (unwrap_or r 0 ≤ length b₁) × (take (unwrap_or r 0) b₁ ≡ x)
      go None e = absurd (none-ne-some x e)
      go (Some n) e = front_inside b₁ n x e

  -- what is to be cleared starts in the buffer
  pub end_inside : InRoom b₁ end
  end_inside = go end all_laid
    where
      go : (r : std.Option ℕ) → front_in b₁ r ≡ some x → InRoom b₁ r
      go None e = tt
      go (Some n) e = (front_inside b₁ n x e).0

  -- the end is the size of the lines
  pub end_is_size : unwrap_or end 0 ≡ length x
  end_is_size = sym (length-take-le (unwrap_or end 0) b₁ inside.0) ∙ ap length inside.1

  -- and with zeros behind them the buffer is theirs
  pub filled : {b₂ : List ℕ} → b₂ ≡ take (unwrap_or end 0) b₁ ++ replicate (length b₁ - unwrap_or end 0) 0 → b₂ ≡ padded (length b) x
  filled z =
      z ∙ padded_take b₁ (unwrap_or end 0) ∙ ap (λ (n : ℕ). padded n (take (unwrap_or end 0) b₁)) g.long ∙ ap (padded (length b)) inside.1
