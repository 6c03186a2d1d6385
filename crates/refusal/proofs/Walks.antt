-- The lowest bad place, found by looking from the front: one law a turn and one for each way out. Assumes nothing.
use Prim.Native.Nat.{ℕ, suc, ◌+◌, ◌≤◌, ◌<◌, min}
use mathlib.Core.Path.{◌≡◌, refl, ap, ◌∙◌}
use mathlib.Core.Bool.{Bool, true, false}
use mathlib.Core.Option.{Option, none, some}
use mathlib.Core.List.{List, [], ◌∷◌, ◌++◌}
use native.Mathlib.Omega.{arith}
use native.Mathlib.Numerals.{add-one}
use lib.ListN.{length, take, drop, get_or, drop_of_length-le}
use lib.Seq.{take-suc, drop-cons, length-take-le}
use lib.Dec.{ltb, leb}
use borrow.Author.Tests.{ltb-true, ltb-false, le-leb, lt-leb}
use Rattle.std.specs.List.{position_from}
use Rattle.std.proofs.lemmas.List.{take_min}
use Rattle.theory.specs.Form.{good_word, bad_from, bad_word}
use Rattle.theory.specs.Refusal.{outside_from}
use Rattle.refusal.specs.Answers.{option_of}

-- the word under the eye decides, or is passed
bad_here : (before ws : List ℕ) (w : ℕ) → good_word before w ≡ false → bad_from before (w ∷ ws) ≡ some (length before)
unfolding bad_from
bad_here before ws w e = rw (e, bad_from)

good_here : (before ws : List ℕ) (w : ℕ) → good_word before w ≡ true → bad_from before (w ∷ ws) ≡ bad_from (before ++ (w ∷ [])) ws
unfolding bad_from
good_here before ws w e = rw (e, bad_from)

-- the lowest faulty word from index i on, the words before it being good
abbrev pub bad_onward : List ℕ → ℕ → Option ℕ
bad_onward f i = bad_from (take i f) (drop i f)

pub onward_starts : (f : List ℕ) → bad_onward f 0 ≡ bad_word f
unfolding bad_word
onward_starts f = refl

module _ (f : List ℕ) (i : ℕ) where
  pub onward_ends : length f ≤ i → bad_onward f i ≡ none
  unfolding bad_from
  onward_ends h = rw (drop_of_length-le f h)

  module _ (inside : i < length f) where
    pub onward_bad : good_word (take i f) (get_or f i 0) ≡ false → bad_onward f i ≡ some i
    onward_bad e =
        ap (bad_from (take i f)) (drop-cons f i 0 inside) ∙ bad_here (take i f) (drop (suc i) f) (get_or f i 0) e
        ∙ ap some (length-take-le i f (omega arith))

    pub onward_good : good_word (take i f) (get_or f i 0) ≡ true → bad_onward f i ≡ bad_onward f (i + 1)
    onward_good e =
        ap (bad_from (take i f)) (drop-cons f i 0 inside) ∙ good_here (take i f) (drop (suc i) f) (get_or f i 0) e
        ∙ rw (add-one, ← take-suc f i 0 inside)

-- the words that are looked at are those that count
pub given : (f : List ℕ) (count n : ℕ) {o : Option ℕ} → n ≡ min count (length f) → o ≡ bad_word (take n f) → o ≡ bad_word (take count f)
given f count n e h = h ∙ ap (λ (k : ℕ). bad_word (take k f)) e ∙ ap bad_word (take_min count f)

-- the first assumption from index i on that is not below the count, as the library's search finds it
pub outside_found : (count i : ℕ) (hs : List ℕ) → option_of (position_from (λ a. leb count a) i hs) ≡ outside_from count i hs
unfolding outside_from
outside_found count i [] = refl
outside_found count i (a ∷ hs) = go (ltb a count) refl (outside_found count (i + 1) hs)
  where
    go : (b : Bool) → ltb a count ≡ b → option_of (position_from (λ x. leb count x) (i + 1) hs) ≡ outside_from count (i + 1) hs →
        option_of (position_from (λ x. leb count x) i (a ∷ hs)) ≡ outside_from count i (a ∷ hs)
    go true e rest = rw (e, lt-leb count a (ltb-true a count e), outside_from) (rest ∙ ap (λ (k : ℕ). outside_from count k hs) (add-one i))
    go false e rest = rw (e, le-leb count a (ltb-false a count e), outside_from)
