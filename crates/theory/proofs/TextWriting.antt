-- Laws for code that writes a text: a number digit by digit, and texts laid one behind the other into a buffer. Assumes nothing.
use Prim.Native.Nat.{ℕ, zero, suc, ◌+◌, ◌-◌, ◌/◌, ◌%◌, ◌^◌, ◌≤◌, ◌<◌}
use mathlib.Core.Path.{◌≡◌, refl, sym, ap, ◌∙◌}
use mathlib.Core.Bool.{Bool, true, false}
use mathlib.Core.List.{List, [], ◌∷◌, ◌++◌}
use native.Mathlib.Nat.{add-zero, add-suc, suc-add, le_of_suc-le-suc, not-suc-le-zero}
use native.Mathlib.Omega.{arith}
use borrow.Author.Tests.{lt-ltb, le-ltb, ltb-true, ltb-false}
use lib.Dec.{ltb}
use lib.ListN.{length, drop, set, replicate, length-replicate}
use lib.Seq.{sets, sets-eq}
use Rattle.theory.specs.NameText.{padded}
use Rattle.theory.specs.Text.{digits, decimal}
use Rattle.theory.proofs.Forms.{snoc_length}

-- one digit
pub digits_one : (n i : ℕ) → i < 10 → digits (suc n) i ≡ (48 + i) ∷ []
unfolding digits
digits_one n i h = rw (lt-ltb i 10 h, digits)

-- the last digit behind the others
pub digits_last : (n i : ℕ) → 10 ≤ i → digits (suc n) i ≡ digits n (i / 10) ++ ((48 + i % 10) ∷ [])
unfolding digits
digits_last n i h = rw (le-ltb i 10 h, digits)

-- room for more digits than there are changes nothing
digits_more : (n i : ℕ) → i < 10 ^ suc n → digits (suc (suc n)) i ≡ digits (suc n) i
digits_more zero i h = digits_one 1 i (omega arith) ∙ sym (digits_one 0 i (omega arith))
digits_more (suc n) i h = go (ltb i 10) refl (digits_more n (i / 10) (omega arith))
  where
    go : (b : Bool) → ltb i 10 ≡ b → digits (suc (suc n)) (i / 10) ≡ digits (suc n) (i / 10) →
        digits (suc (suc (suc n))) i ≡ digits (suc (suc n)) i
    go true e ih =
        let l : i < 10 = ltb-true i 10 e in
        digits_one (suc (suc n)) i l ∙ sym (digits_one (suc n) i l)
    go false e ih =
        let l : 10 ≤ i = ltb-false i 10 e in
        digits_last (suc (suc n)) i l ∙ ap (λ (ds : List ℕ). ds ++ ((48 + i % 10) ∷ [])) ih ∙ sym (digits_last (suc n) i l)

-- a number in decimal, its last digit behind the others
pub decimal_one : (i : ℕ) → i < 10 → decimal i ≡ (48 + i) ∷ []
decimal_one i h = digits_one 6 i h

pub decimal_last : (i : ℕ) → 10 ≤ i → i < 10 ^ 7 → decimal i ≡ decimal (i / 10) ++ ((48 + i % 10) ∷ [])
decimal_last i h l =
    digits_last 6 i h ∙ ap (λ (ds : List ℕ). ds ++ ((48 + i % 10) ∷ [])) (sym (digits_more 5 (i / 10) (omega arith)))

digits_few : (n i : ℕ) → length (digits n i) ≤ n
unfolding digits
digits_few zero i = omega arith
digits_few (suc n) i = go (ltb i 10) (digits_few n (i / 10))
  where
    go : (b : Bool) → length (digits n (i / 10)) ≤ n →
        length {A = ℕ} (elim b [ true ↦ (48 + i) ∷ [] | false ↦ digits n (i / 10) ++ ((48 + i % 10) ∷ []) ]) ≤ suc n
    go true ih = omega arith
    go false ih = omega (arith, snoc_length (digits n (i / 10)) (48 + i % 10))

-- seven digits at most
pub decimal_few : (i : ℕ) → length (decimal i) ≤ 7
decimal_few i = digits_few 7 i

abbrev zeros : ℕ → List ℕ
zeros n = replicate n 0

-- texts laid into a buffer one behind the other
pub sets_append : (l : List ℕ) (at : ℕ) (x y : List ℕ) → sets l at (x ++ y) ≡ sets (sets l at x) (at + length x) y
sets_append l at [] y = ap (λ (n : ℕ). sets l n y) (sym (add-zero at))
sets_append l at (b ∷ x) y =
    sets_append (set l at b) (suc at) x y
    ∙ ap (λ (n : ℕ). sets (sets (set l at b) (suc at) x) n y) (suc-add at (length x) ∙ sym (add-suc at (length x)))

drop_zeros : (n room : ℕ) → n ≤ room → drop n (zeros room) ≡ zeros (room - n)
drop_zeros zero room h = let e : room ≡ room - 0 = omega arith in ap zeros e
drop_zeros (suc n) zero h = absurd (not-suc-le-zero h)
drop_zeros (suc n) (suc room) h =
    let e : room - n ≡ suc room - suc n = omega arith in
    drop_zeros n room (le_of_suc-le-suc h) ∙ ap zeros e

-- a text laid into the front of a buffer of zeros
pub sets_padded : (room : ℕ) (x : List ℕ) → length x ≤ room → sets (zeros room) 0 x ≡ padded room x
unfolding padded
sets_padded room x h =
    let fits : 0 + length x ≤ length (zeros room) = omega (arith, length-replicate {A = ℕ} room 0) in
    let e : 0 + length x ≡ length x = omega arith in
    sets-eq x (zeros room) 0 fits ∙ ap (λ (n : ℕ). x ++ drop n (zeros room)) e
    ∙ ap (λ (r : List ℕ). x ++ r) (drop_zeros (length x) room h)
