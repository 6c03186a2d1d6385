-- What the size of a text's first entry tells: whether there is one, and the parts that hold it and the rest. Assumes nothing.
use Prim.Native.Nat.{ℕ, suc, ◌+◌, ◌-◌, ◌≤◌, ◌<◌}
use mathlib.Core.Path.{◌≡◌, refl, sym, ap, ap₂, ◌∙◌}
use mathlib.Core.Bool.{Bool, true, false}
use mathlib.Core.Option.{Option, none, some}
use mathlib.Core.List.{List, [], ◌∷◌, ◌++◌}
use native.Mathlib.Numerals.{add-one}
use native.Mathlib.Omega.{arith}
use borrow.Author.Tests.{le-leb, lt-leb}
use lib.ListN.{length, take, drop, length-append, length-drop}
use lib.Seq.{length-take-le, take-append_seam, drop-append_seam, take_all}
use Rattle.std.proofs.Common.{Some, None}
use Rattle.theory.specs.NameText.{cut_entry, names_in}
use Rattle.theory.proofs.Entries.{cut_splits, names_next}
use Rattle.identifier_generator.specs.Entry.{entry_size, size_in}

pub size_empty : (text : List ℕ) → length text ≡ 0 → None ≡ entry_size text
unfolding entry_size cut_entry
size_empty [] e = refl
size_empty (b ∷ bs) e = absurd (omega arith)

-- the size as the test of the length byte gives it
abbrev size_by : ℕ → List ℕ → Bool → Option (List ℕ × List ℕ)
size_by n bs t = elim t [ true ↦ some (take n bs, drop n bs) | false ↦ none ]

-- a length byte with that many bytes after it
pub size_fits : (text bs : List ℕ) (n : ℕ) → text ≡ n ∷ bs → n ≤ length bs → Some (n + 1) ≡ entry_size text
unfolding entry_size cut_entry
size_fits text bs n e l =
    let whole : length (take n bs) ≡ n = length-take-le n bs l in
    ap Some (add-one n ∙ ap suc (sym whole))
    ∙ sym (ap entry_size e ∙ ap (λ (b : Bool). size_in (size_by n bs b)) (le-leb n (length bs) l))

pub size_cut : (text bs : List ℕ) (n : ℕ) → text ≡ n ∷ bs → length bs < n → None ≡ entry_size text
unfolding entry_size cut_entry
size_cut text bs n e l = sym (ap entry_size e ∙ ap (λ (b : Bool). size_in (size_by n bs b)) (lt-leb n (length bs) l))

-- no size, no entry
pub no_entry : (text : List ℕ) → None ≡ entry_size text → cut_entry text ≡ none
unfolding entry_size
no_entry text h = go (cut_entry text) h
  where
    go : (o : Option (List ℕ × List ℕ)) → None ≡ size_in o → o ≡ none
    go none h = refl
    go (some p) h = cc

-- an entry of that size is the part after its length byte, and the rest is what comes after it
pub first_entry : (text : List ℕ) (s : ℕ) → Some s ≡ entry_size text → cut_entry text ≡ some (take (s - 1) (drop 1 text), drop s text)
unfolding entry_size
first_entry text s e = go (cut_entry text) refl e
  where
    go : (o : Option (List ℕ × List ℕ)) → cut_entry text ≡ o → Some s ≡ size_in o → o ≡ some (take (s - 1) (drop 1 text), drop s text)
    go none c e = cc
    go (some p) c e =
        let s_is : s ≡ suc (length p.0) = cc in
        let cut : text ≡ length p.0 ∷ (p.0 ++ p.1) = cut_splits text p c in
        let size : s - 1 ≡ length p.0 = omega arith in
        let front : take (s - 1) (drop 1 text) ≡ p.0 =
        ap₂ (λ (k : ℕ) (t : List ℕ). take k (drop 1 t)) size cut ∙ take-append_seam p.0 p.1 in
        let rest : drop s text ≡ p.1 = ap₂ (λ (k : ℕ) (t : List ℕ). drop k t) s_is cut ∙ drop-append_seam p.0 p.1 in
        ap₂ {C = Option (List ℕ × List ℕ)} (λ u v. some (u, v)) (sym front) (sym rest)

-- its length byte, and its bytes inside the text
pub size_of : (text : List ℕ) (p : List ℕ × List ℕ) → cut_entry text ≡ some p → entry_size text ≡ Some (suc (length p.0))
unfolding entry_size
size_of text p c = ap size_in c

module _ (text : List ℕ) (s : ℕ) (e : Some s ≡ entry_size text) where
  first_size : s ≡ suc (length (take (s - 1) (drop 1 text)))
  first_size =
      let sized = size_of text (take (s - 1) (drop 1 text), drop s text) (first_entry text s e) in
      cc

  pub size_positive : 0 < s
  size_positive = omega (arith, first_size)

  pub size_within : s ≤ length text
  size_within =
      let front = take (s - 1) (drop 1 text) in
      let rest = drop s text in
      omega (arith, first_size, ap length (cut_splits text (front, rest) (first_entry text s e)), length-append front rest)

  -- so the names are that part and the names of the rest
  pub names_cut : names_in text ≡ take (s - 1) (drop 1 text) ∷ names_in (take (length text - s) (drop s text))
  names_cut =
      rw (take_all (length text - s) (drop s text) (omega (arith, length-drop s text)))
      (names_next text (take (s - 1) (drop 1 text), drop s text) (first_entry text s e))

  -- and the rest has a name less
  pub rest_fewer : length (names_in (take (length text - s) (drop s text))) < length (names_in text)
  rest_fewer = omega (arith, ap length names_cut)
