-- A lent array that is filled from its front on with what is wanted there. Assumes nothing.
use Prim.Native.Nat.{ℕ, ◌+◌, ◌≤◌, ◌<◌}
use mathlib.Core.Path.{◌≡◌, refl, sym, ap, ap₂, ◌∙◌}
use mathlib.Core.List.{List, [], ◌∷◌, ◌++◌, append_assoc, append-nil}
use native.Mathlib.Omega.{arith}
use native.Mathlib.Numerals.{add-one}
use lib.ListN.{length, take, drop, set, length-set, take-append-drop}
use lib.Seq.{length-take-le, take-length, take-suc-set, drop-set-lt, drop-drop, paste, length-paste, take-paste, drop-paste}
use Rattle.house_sections.specs.Held.{laid_over}

-- so many are in their places, those that are left come behind them, and what stands there is still what it was
pub record Filling (wanted left before : List ℕ) (filled : ℕ) (buffer : List ℕ) : Type 0 where
  pub long : length buffer ≡ length before
  pub room : filled ≤ length before
  pub so_far : take filled buffer ++ left ≡ wanted
  pub behind : drop filled buffer ≡ drop filled before

pub none_filled : (wanted buffer : List ℕ) → Filling wanted wanted buffer 0 buffer
none_filled wanted buffer = record { long = refl; room = omega arith; so_far = refl; behind = refl }

-- what stands behind n more
behind_more : (n filled : ℕ) (before buffer : List ℕ) → drop filled buffer ≡ drop filled before →
    drop (filled + n) buffer ≡ drop (filled + n) before
behind_more n filled before buffer e = sym (drop-drop n filled buffer) ∙ ap (drop n) e ∙ drop-drop n filled before

module _ {wanted left before : List ℕ} {filled : ℕ} {buffer : List ℕ} where
  pub one_filled : {v : ℕ} → Filling wanted (v ∷ left) before filled buffer → filled < length before →
      Filling wanted left before (filled + 1) (set buffer filled v)
  one_filled {v} f h =
      let inside : filled < length buffer = omega (arith, f.long) in
      record {
        long = length-set buffer filled v ∙ f.long;
        room = omega arith;
        so_far = ap (λ (k : ℕ). take k (set buffer filled v) ++ left) (add-one filled)
            ∙ ap (λ (xs : List ℕ). xs ++ left) (take-suc-set buffer filled v inside)
            ∙ append_assoc (take filled buffer) (v ∷ []) left
            ∙ f.so_far;
        behind = drop-set-lt (filled + 1) buffer filled v (omega arith) ∙ behind_more 1 filled before buffer f.behind;
      }

  pub part_filled : (part : List ℕ) → Filling wanted (part ++ left) before filled buffer → filled + length part ≤ length before →
      Filling wanted left before (filled + length part) (paste buffer filled part (length part))
  part_filled part f h =
      let inside : filled + length part ≤ length buffer = omega (arith, f.long) in
      let start : filled ≤ length buffer = omega arith in
      let all : length part ≤ length part = omega arith in
      record {
        long = length-paste buffer filled part (length part) inside all ∙ f.long;
        room = h;
        so_far = ap (λ (xs : List ℕ). xs ++ left)
            (take-paste buffer filled part (length part) start all ∙ ap (λ (xs : List ℕ). take filled buffer ++ xs) (take-length part))
            ∙ append_assoc (take filled buffer) part left
            ∙ f.so_far;
        behind = drop-paste buffer filled part (length part) start all ∙ behind_more (length part) filled before buffer f.behind;
      }

module _ {wanted before : List ℕ} {filled : ℕ} {buffer : List ℕ} (f : Filling wanted [] before filled buffer) where
  front_is : take filled buffer ≡ wanted
  front_is = sym (append-nil (take filled buffer)) ∙ f.so_far

  pub filled_size : filled ≡ length wanted
  filled_size = sym (length-take-le filled buffer (omega (arith, f.long, f.room))) ∙ ap length front_is

  pub all_filled : buffer ≡ laid_over wanted before
  unfolding laid_over
  all_filled =
      sym (take-append-drop filled buffer) ∙ ap₂ (λ (xs ys : List ℕ). xs ++ ys) front_is f.behind
      ∙ ap (λ (k : ℕ). wanted ++ drop k before) filled_size
