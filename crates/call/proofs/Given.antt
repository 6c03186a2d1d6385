-- The given words: those that pass are laid out, and they read as theory's book and back. Assumes nothing.
use Prim.Native.Nat.{ℕ, zero, suc, ◌≤◌}
use mathlib.Core.Path.{◌≡◌, refl, sym, ap, ap₂, ◌∙◌, subst}
use mathlib.Core.Option.{none}
use mathlib.Core.List.{List, [], ◌∷◌, ◌++◌, map, map-append}
use native.Mathlib.Omega.{arith}
use lib.Dec.{T}
use lib.ListN.{length, get_or, take}
use lib.Seq.{take-suc, get_or-take, take-take, length-take-le}
use Rattle.theory.specs.Form.{Shape, shape, word, good_word, bad_word}
use Rattle.theory.proofs.Words.{word_back, each_passes}
use Rattle.search_laws.specs.Reading.{book, shape_at}
use Rattle.search_laws.specs.Tables.{upto}
use Rattle.search_laws.specs.Keeping.{Laid}

module _ (f : List ℕ) where
  -- words that pass are laid out
  pub laid_given : (n : ℕ) → n ≤ length f → bad_word (take n f) ≡ none → Laid f n
  unfolding bad_word
  laid_given n k e i h =
      subst (λ (b : List ℕ). T (good_word b (get_or f i 0))) (take-take i n f (omega arith))
      (subst (λ (v : ℕ). T (good_word (take i (take n f)) v)) (get_or-take n f i 0 h)
      (each_passes [] (take n f) e i (omega (arith, length-take-le n f k))))

  -- the words below a place, read as shapes
  pub book_given : (n : ℕ) → n ≤ length f → book f n ≡ map shape (take n f)
  unfolding book upto shape_at
  book_given zero h = refl
  book_given (suc n) h =
      ap (λ (b : List Shape). b ++ (shape (get_or f n 0) ∷ [])) (book_given n (omega arith))
      ∙ sym (map-append shape (take n f) (get_or f n 0 ∷ []))
      ∙ ap (map shape) (sym (take-suc f n 0 h))

  -- and words that are laid out read back to themselves
  pub words_back : (n : ℕ) → n ≤ length f → Laid f n → map word (book f n) ≡ take n f
  unfolding book upto shape_at
  words_back zero h l = refl
  words_back (suc n) h l =
      map-append word (book f n) (shape_at f n ∷ [])
      ∙ ap₂ (λ (ws : List ℕ) (v : ℕ). ws ++ (v ∷ [])) (words_back n (omega arith) (λ i k. l i (omega arith)))
      (word_back (take n f) (get_or f n 0) (l n (omega arith)))
      ∙ sym (take-suc f n 0 h)
