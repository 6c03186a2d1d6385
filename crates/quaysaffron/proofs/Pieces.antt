-- Reads one behind the other leave and take what a single read of all their bytes does. Assumes nothing.
use Rattle.std.proofs.Common.{ℕ, ◌≡◌, ◌≤◌, ◌-◌, ◌+◌, ◌++◌, ◌∙◌, ap, sym, List, take, drop, slice_range, arith, append_assoc}
use Rattle.std.specs.Prelude.{Some, None}
use Rattle.std.specs.declared.option.Option.{Option}
use Rattle.std.specs.Io.KnownBytes.{Consumes}
use Rattle.std.proofs.lemmas.List.{drop-drop, drop-take, take-take}
use Rattle.std.proofs.Math.Seq.{take-add}

-- what was there before the first read is there after the second
pub kept_both : (s n : ℕ) (b₀ b₁ b₂ : List ℕ) → s ≤ n →
    take s b₁ ≡ take s b₀ → take n b₂ ≡ take n b₁ → take s b₂ ≡ take s b₀
kept_both s n b₀ b₁ b₂ h before next =
    sym (take-take s n b₂ h) ∙ ap (take s) next ∙ take-take s n b₁ h ∙ before

-- the second read leaves the bytes of the first
piece_kept : (s n : ℕ) (b₁ b₂ : List ℕ) → s ≤ n → take n b₂ ≡ take n b₁ → slice_range b₂ s n ≡ slice_range b₁ s n
piece_kept s n b₁ b₂ h e =
    let k : s + (n - s) ≡ n = omega arith in
    sym (drop-take s (n - s) b₂) ∙ ap (λ (i : ℕ). drop s (take i b₂)) k ∙ ap (drop s) e
    ∙ ap (λ (i : ℕ). drop s (take i b₁)) (sym k) ∙ drop-take s (n - s) b₁

pieces_beside : (s n m : ℕ) (b : List ℕ) → s ≤ n → n ≤ m → slice_range b s n ++ slice_range b n m ≡ slice_range b s m
pieces_beside s n m b h k =
    let there : drop (n - s) (drop s b) ≡ drop n b =
    drop-drop (n - s) s b ∙ ap (λ (i : ℕ). drop i b) (omega arith) in
    ap (λ (l : List ℕ). take (n - s) (drop s b) ++ take (m - n) l) (sym there)
    ∙ sym (take-add (n - s) (m - n) (drop s b)) ∙ ap (λ (i : ℕ). take i (drop s b)) (omega arith)

consumed_both : (had left last : Option (List ℕ)) (p q r : List ℕ) → p ++ q ≡ r →
    Consumes had left p → Consumes left last q → Consumes had last r
consumed_both None left last p q r e a b = tt
consumed_both (Some xs) None last p q r e a b = absurd a
consumed_both (Some xs) (Some ys) None p q r e a b = absurd b
consumed_both (Some xs) (Some ys) (Some zs) p q r e a b =
    a ∙ ap (λ (l : List ℕ). p ++ l) b ∙ sym (append_assoc p q zs) ∙ ap (λ (l : List ℕ). l ++ zs) e

-- what both reads took of the bytes that a reader had stands in the buffer, one behind the other
pub took_both : (had left last : Option (List ℕ)) (s n m : ℕ) (b₁ b₂ : List ℕ) → s ≤ n → n ≤ m →
    take n b₂ ≡ take n b₁ →
    Consumes had left (slice_range b₁ s n) → Consumes left last (slice_range b₂ n m) →
    Consumes had last (slice_range b₂ s m)
took_both had left last s n m b₁ b₂ h k e a b =
    consumed_both had left last _ _ _
    (ap (λ (l : List ℕ). l ++ slice_range b₂ n m) (sym (piece_kept s n b₁ b₂ h e)) ∙ pieces_beside s n m b₂ h k) a b
