-- What theory's cuts of a file's bytes come to, by how many bytes there are. Assumes nothing.
use Prim.Native.Nat.{ℕ, zero, suc, ◌+◌, ◌*◌, ◌≤◌, ◌<◌}
use mathlib.Core.Path.{◌≡◌, refl, ap, ◌∙◌}
use mathlib.Core.Bool.{Bool, true, false}
use mathlib.Core.Option.{Option, none, some}
use mathlib.Core.List.{List, [], ◌∷◌}
use native.Mathlib.Omega.{arith}
use borrow.Author.Tests.{le-leb, lt-leb, leb-true, leb-false}
use lib.Dec.{leb}
use lib.ListN.{length, take, drop, length-drop}
use lib.Seq.{drop-drop}
use Rattle.theory.specs.File.{little_endian, cut_bytes, cut_number, cut_numbers, cut_count}
use Rattle.house_sections.specs.Held.{numbers_from}

module _ (k : ℕ) (bs : List ℕ) where
  abbrev bytes_by : Bool → Option (List ℕ × List ℕ)
  bytes_by t = elim t [ true ↦ some (take k bs, drop k bs) | false ↦ none ]

  abbrev number_by : Option (List ℕ × List ℕ) → Option (ℕ × List ℕ)
  number_by o = elim o [ none ↦ none | some p ↦ some (little_endian p.0, p.1) ]

  pub bytes_fit : k ≤ length bs → cut_bytes k bs ≡ some (take k bs, drop k bs)
  unfolding cut_bytes
  bytes_fit h = ap bytes_by (le-leb k (length bs) h)

  pub bytes_cut : length bs < k → cut_bytes k bs ≡ none
  unfolding cut_bytes
  bytes_cut h = ap bytes_by (lt-leb k (length bs) h)

  pub number_fits : k ≤ length bs → cut_number k bs ≡ some (little_endian (take k bs), drop k bs)
  unfolding cut_number
  number_fits h = ap number_by (bytes_fit h)

  pub number_cut : length bs < k → cut_number k bs ≡ none
  unfolding cut_number
  number_cut h = ap number_by (bytes_cut h)

-- one number and then n more
module _ (k n : ℕ) where
  abbrev more_by : ℕ → Option (List ℕ × List ℕ) → Option (List ℕ × List ℕ)
  more_by x o = elim o [ none ↦ none | some q ↦ some (x ∷ q.0, q.1) ]

  abbrev numbers_by : Option (ℕ × List ℕ) → Option (List ℕ × List ℕ)
  numbers_by o =
      elim o [
        | none ↦ none
        | some p ↦ elim (cut_numbers k n p.1) [ none ↦ none | some q ↦ some (p.0 ∷ q.0, q.1) ]
      ]

-- so many numbers of k bytes
pub numbers_fit : (k n : ℕ) (bs : List ℕ) → k * n ≤ length bs → cut_numbers k n bs ≡ some (numbers_from k n bs, drop (k * n) bs)
unfolding cut_numbers numbers_from
numbers_fit k zero bs h =
    ap {B = Option (List ℕ × List ℕ)} (λ (j : ℕ). some ([], drop j bs)) (let z : 0 ≡ k * 0 = omega arith in z)
numbers_fit k (suc n) bs h =
    let later : k * n ≤ length (drop k bs) = omega (arith, length-drop k bs) in
    let size : k + k * n ≡ k * suc n = omega arith in
    ap (numbers_by k n) (number_fits k bs (omega arith))
    ∙ ap (more_by k n (little_endian (take k bs))) (numbers_fit k n (drop k bs) later)
    ∙ ap {B = Option (List ℕ × List ℕ)} (λ (r : List ℕ). some (little_endian (take k bs) ∷ numbers_from k n (drop k bs), r))
    (drop-drop (k * n) k bs ∙ ap (λ (j : ℕ). drop j bs) size)

pub numbers_cut : (k n : ℕ) (bs : List ℕ) → length bs < k * n → cut_numbers k n bs ≡ none
unfolding cut_numbers
numbers_cut k zero bs h = absurd (omega arith)
numbers_cut k (suc n) bs h = go (leb k (length bs)) refl (numbers_cut k n (drop k bs))
  where
    go : (t : Bool) → leb k (length bs) ≡ t → (length (drop k bs) < k * n → cut_numbers k n (drop k bs) ≡ none) →
        numbers_by k n (cut_number k bs) ≡ none
    go true e later =
        ap (numbers_by k n) (number_fits k bs (leb-true k (length bs) e))
        ∙ ap (more_by k n (little_endian (take k bs))) (later (omega (arith, length-drop k bs, leb-true k (length bs) e)))
    go false e later = ap (numbers_by k n) (number_cut k bs (leb-false k (length bs) e))

module _ (lawful : ℕ → Bool) (bs : List ℕ) where
  abbrev count_by : Option (ℕ × List ℕ) → Option (ℕ × List ℕ)
  count_by o = elim o [ none ↦ none | some p ↦ elim (lawful p.0) [ true ↦ some p | false ↦ none ] ]

  abbrev lawful_by : ℕ × List ℕ → Bool → Option (ℕ × List ℕ)
  lawful_by p t = elim t [ true ↦ some p | false ↦ none ]

  pub count_cut : length bs < 2 → cut_count lawful bs ≡ none
  unfolding cut_count
  count_cut h = ap count_by (number_cut 2 bs h)

  pub count_unlawful : 2 ≤ length bs → lawful (little_endian (take 2 bs)) ≡ false → cut_count lawful bs ≡ none
  unfolding cut_count
  count_unlawful h e = ap count_by (number_fits 2 bs h) ∙ ap (lawful_by (little_endian (take 2 bs), drop 2 bs)) e

  pub count_lawful : 2 ≤ length bs → lawful (little_endian (take 2 bs)) ≡ true →
      cut_count lawful bs ≡ some (little_endian (take 2 bs), drop 2 bs)
  unfolding cut_count
  count_lawful h e = ap count_by (number_fits 2 bs h) ∙ ap (lawful_by (little_endian (take 2 bs), drop 2 bs)) e
