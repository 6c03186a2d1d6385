-- Lists of words and numbers: all cleared, and two words put after the given ones. Assumes nothing.
use Prim.Native.Nat.{ℕ, suc, ◌+◌, ◌-◌, ◌≤◌}
use mathlib.Core.Path.{◌≡◌, ap, ◌∙◌}
use mathlib.Core.List.{List, [], ◌∷◌, ◌++◌, append_assoc}
use native.Mathlib.Omega.{arith}
use lib.ListN.{length, set, take, drop, replicate}
use lib.Seq.{sets-eq}
use Rattle.theory.specs.NameText.{padded}

-- nothing kept, all zero
pub nothing_kept : (t : List ℕ) → padded (length t) (take 0 t) ≡ replicate (length t) 0
unfolding padded
nothing_kept t = ap (λ (i : ℕ). replicate i 0) (let p : length t - 0 ≡ length t = omega arith in p)

-- two words stored after the first n
pub two_stored : (f : List ℕ) (n a b : ℕ) → n + 2 ≤ length f → set (set f n a) (n + 1) b ≡ take n f ++ (a ∷ b ∷ drop (n + 2) f)
two_stored f n a b h =
    ap (λ (i : ℕ). set (set f n a) i b) (let p : n + 1 ≡ suc n = omega arith in p)
    ∙ sets-eq (a ∷ b ∷ []) f n h ∙ append_assoc (take n f) (a ∷ b ∷ []) (drop (n + 2) f)
