-- The lent arrays after the sections are copied into them make theory's claim of the file. Assumes nothing.
use Prim.Native.Nat.{ℕ, zero, suc, ◌-◌, ◌≤◌}
use mathlib.Core.Path.{◌≡◌, refl, sym, ap, ap₂, ◌∙◌}
use mathlib.Core.List.{List, ◌++◌}
use native.Mathlib.Omega.{arith}
use lib.ListN.{length, take, drop, replicate, length-append}
use lib.Seq.{take-append_seam}
use Rattle.theory.specs.NameText.{padded}
use Rattle.theory.specs.File as F
use Rattle.call.specs.Lent as L
use Rattle.house_sections.specs.declared.Sections.{Sections}
use Rattle.house_sections.specs.Held.{numbers_from, indices_from, laid_over, entry_bytes, file_in}

-- as many words and indices as were asked for
pub words_many : (k n : ℕ) (bs : List ℕ) → length (numbers_from k n bs) ≡ n
unfolding numbers_from
words_many k zero bs = refl
words_many k (suc n) bs = ap suc (words_many k n (drop k bs))

pub indices_many : (n : ℕ) (bs : List ℕ) → length (indices_from n bs) ≡ n
unfolding indices_from
indices_many zero bs = refl
indices_many (suc n) bs = ap suc (indices_many n (drop (entry_bytes bs) bs))

-- zeros behind what is laid over zeros
drop_zeros : (k n : ℕ) → drop {A = ℕ} k (replicate n 0) ≡ replicate (n - k) 0
drop_zeros zero n = ap (λ (m : ℕ). replicate m 0) (let e : n ≡ n - 0 = omega arith in e)
drop_zeros (suc k) zero = ap (λ (m : ℕ). replicate m 0) (let e : 0 ≡ 0 - suc k = omega arith in e)
drop_zeros (suc k) (suc n) = drop_zeros k n ∙ ap (λ (m : ℕ). replicate m 0) (let e : n - k ≡ suc n - suc k = omega arith in e)

laid_padded : (room : ℕ) (xs buffer : List ℕ) → buffer ≡ replicate room 0 → laid_over xs buffer ≡ padded room xs
unfolding laid_over padded
laid_padded room xs buffer e =
    ap (λ (zs : List ℕ). xs ++ drop (length xs) zs) e ∙ ap (λ (zs : List ℕ). xs ++ zs) (drop_zeros (length xs) room)

-- the front of what was laid
pub laid_front : (n : ℕ) (xs before after : List ℕ) → after ≡ laid_over xs before → n ≡ length xs → take n after ≡ xs
unfolding laid_over
laid_front n xs before after e l = ap₂ take l e ∙ take-append_seam xs (drop (length xs) before)

module _ (s : Sections) (bs : List ℕ) where
  abbrev file : F.File
  file = file_in s bs

  -- the claim in the lent arrays
  pub claim_is : (f assumed names t zeros : List ℕ) → f ≡ laid_over file.words zeros → zeros ≡ replicate 4096 0 →
      assumed ≡ file.indices → names ≡ file.text → t ≡ replicate 24576 0 →
      L.claim_of f s.formulas assumed names s.goal t 16384 1000000 ≡ F.claim_of file s.goal
  unfolding F.claim_of
  claim_is f assumed names t zeros ef ez ea en et =
      ap₂ (λ (w : List ℕ) (k : ℕ). L.claim_of w k assumed names s.goal t 16384 1000000)
      (ef ∙ laid_padded 4096 file.words zeros ez) (sym (words_many 4 s.formulas (drop 2 bs)))
      ∙ ap₂ (λ (a v : List ℕ). L.claim_of (padded 4096 file.words) (length file.words) a v s.goal t 16384 1000000) ea en
      ∙ ap (λ (r : List ℕ).
      L.claim_of (padded 4096 file.words) (length file.words) file.indices file.text s.goal r 16384 1000000) et

-- what was laid is inside, and is the front
module _ (n : ℕ) (xs before after : List ℕ) (e : after ≡ laid_over xs before) (l : n ≡ length xs) where
  pub laid_size : n ≡ length (take n after)
  laid_size = l ∙ ap length (sym (laid_front n xs before after e l))

  pub laid_inside : n ≤ length after
  unfolding laid_over
  laid_inside = omega (arith, ap length e, length-append xs (drop (length xs) before))
