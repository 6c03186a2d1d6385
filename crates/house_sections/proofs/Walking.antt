-- The loops that copy the sections of a tested file: what stands in the lent array, and what is still to come. Assumes nothing.
use Prim.Native.Nat.{ℕ, ◌+◌, ◌-◌, ◌*◌, ◌≤◌, ◌<◌}
use mathlib.Core.Path.{◌≡◌, sym, ap, ap₂, ◌∙◌, subst}
use mathlib.Core.List.{List, [], ◌∷◌, ◌++◌}
use native.Mathlib.Omega.{arith}
use lib.ListN.{length, get_or, take, drop, set, length-drop}
use lib.Seq.{paste, length-take-le}
use Rattle.theory.specs.File.{little_endian}
use Rattle.house_sections.specs.Held.{numbers_from, indices_from, text_from, entries_end, Whole, laid_over}
use Rattle.house_sections.proofs.Filling.{Filling, none_filled, one_filled, part_filled, filled_size, all_filled}
use Rattle.house_sections.proofs.Cursor.{size_at, next_index, next_name_lem, next_word, three_inside, entry_inside, rest_whole}

-- i words are copied
pub record Words (file : List ℕ) (count : ℕ) (before : List ℕ) (i : ℕ) (words : List ℕ) : Type 0 where
  pub within : i ≤ count
  pub filling : Filling (numbers_from 4 count (drop 2 file)) (numbers_from 4 (count - i) (drop (2 + 4 * i) file)) before i words

module _ (file : List ℕ) (count : ℕ) (before : List ℕ) where
  pub no_words : Words file count before 0 before
  no_words =
      let all : count ≡ count - 0 = omega arith in
      record {
        within = omega arith;
        filling = subst (λ (n : ℕ). Filling (numbers_from 4 count (drop 2 file)) (numbers_from 4 n (drop 2 file)) before 0 before) all
            (none_filled (numbers_from 4 count (drop 2 file)) before);
      }

  pub word_copied : (i : ℕ) (words : List ℕ) (w : ℕ) → Words file count before i words → i < count → count ≤ length before →
      w ≡ little_endian (take 4 (drop (2 + 4 * i) file)) → Words file count before (i + 1) (set words i w)
  word_copied i words w f h room e =
      record {
        within = omega arith;
        filling = one_filled (subst (λ (left : List ℕ). Filling (numbers_from 4 count (drop 2 file)) left before i words)
            (next_word file i count h ∙
            ap (λ (n : ℕ). n ∷ numbers_from 4 (count - (i + 1)) (drop (2 + 4 * (i + 1)) file)) (sym e)) f.filling) (omega arith);
      }

  pub words_copied : (i : ℕ) (words : List ℕ) → Words file count before i words → count ≤ i →
      words ≡ laid_over (numbers_from 4 count (drop 2 file)) before
  unfolding numbers_from
  words_copied i words f h =
      let none : count - i ≡ 0 = omega arith in
      all_filled (subst (λ (n : ℕ). Filling (numbers_from 4 count (drop 2 file)) (numbers_from 4 n (drop (2 + 4 * i) file)) before i words)
      none f.filling)

-- the indices of the assumptions up to `at` are copied, i of them
pub record Indices (file : List ℕ) (from count : ℕ) (before : List ℕ) (at i : ℕ) (indices : List ℕ) : Type 0 where
  pub inside : at ≤ length file
  pub within : i ≤ count
  pub whole : Whole (entries_end at (count - i) (drop at file))
  pub filling : Filling (indices_from count (drop from file)) (indices_from (count - i) (drop at file)) before i indices

-- the names of i assumptions are copied
pub record Names (file : List ℕ) (from count : ℕ) (before : List ℕ) (at filled i : ℕ) (text : List ℕ) : Type 0 where
  pub inside : at ≤ length file
  pub within : filled ≤ at
  pub few : i ≤ count
  pub whole : Whole (entries_end at (count - i) (drop at file))
  pub filling : Filling (text_from count (drop from file)) (text_from (count - i) (drop at file)) before filled text

module _ (file : List ℕ) (from count : ℕ) (before : List ℕ) where
  pub no_indices : from ≤ length file → Whole (entries_end from count (drop from file)) → Indices file from count before from 0 before
  no_indices h w =
      let all : count ≡ count - 0 = omega arith in
      record {
        inside = h;
        within = omega arith;
        whole = subst (λ (n : ℕ). Whole (entries_end from n (drop from file))) all w;
        filling = subst (λ (n : ℕ). Filling (indices_from count (drop from file)) (indices_from n (drop from file)) before 0 before) all
            (none_filled (indices_from count (drop from file)) before);
      }

  pub indices_copied : (at i : ℕ) (indices : List ℕ) → Indices file from count before at i indices → count ≤ i →
      indices ≡ laid_over (indices_from count (drop from file)) before
  unfolding indices_from
  indices_copied at i indices f h =
      let none : count - i ≡ 0 = omega arith in
      all_filled (subst (λ (n : ℕ). Filling (indices_from count (drop from file)) (indices_from n (drop at file)) before i indices)
      none f.filling)

  module _ (at i : ℕ) (indices : List ℕ) (f : Indices file from count before at i indices) (h : i < count) where
    some_left : 0 < count - i
    some_left = omega arith

    pub index_inside : at + 2 < length file
    index_inside = omega (arith, three_inside file at (count - i) some_left f.whole)

    pub size_inside : at + size_at file at ≤ length file
    size_inside = omega (arith, f.inside, entry_inside file at (count - i) some_left f.whole)

    pub index_copied : (v : ℕ) → count ≤ length before → v ≡ little_endian (take 2 (drop at file)) →
        Indices file from count before (at + size_at file at) (i + 1) (set indices i v)
    index_copied v room e =
        let fewer : count - i - 1 ≡ count - (i + 1) = omega arith in
        record {
          inside = size_inside;
          within = omega arith;
          whole = subst (λ (n : ℕ). Whole (entries_end (at + size_at file at) n (drop (at + size_at file at) file))) fewer
              (rest_whole file at (count - i) some_left f.whole);
          filling = one_filled (subst (λ (left : List ℕ). Filling (indices_from count (drop from file)) left before i indices)
              (next_index file at (count - i) some_left
              ∙ ap₂ (λ (x n : ℕ). x ∷ indices_from n (drop (at + size_at file at) file)) (sym e) fewer) f.filling) (omega arith);
        }

  pub no_names : from ≤ length file → Whole (entries_end from count (drop from file)) → Names file from count before from 0 0 before
  no_names h w =
      let all : count ≡ count - 0 = omega arith in
      record {
        inside = h;
        within = omega arith;
        few = omega arith;
        whole = subst (λ (n : ℕ). Whole (entries_end from n (drop from file))) all w;
        filling = subst (λ (n : ℕ). Filling (text_from count (drop from file)) (text_from n (drop from file)) before 0 before) all
            (none_filled (text_from count (drop from file)) before);
      }

  module _ (at filled i : ℕ) (text : List ℕ) (f : Names file from count before at filled i text) where
    pub names_copied : count ≤ i →
        (text ≡ laid_over (text_from count (drop from file)) before) × (filled ≡ length (text_from count (drop from file)))
    unfolding text_from
    names_copied h =
        let none : count - i ≡ 0 = omega arith in
        let all : Filling (text_from count (drop from file)) [] before filled text =
        subst (λ (n : ℕ). Filling (text_from count (drop from file)) (text_from n (drop at file)) before filled text) none f.filling in
        (all_filled all, filled_size all)

    module _ (h : i < count) where
      some_left_names : 0 < count - i
      some_left_names = omega arith

      pub name_inside : at + size_at file at ≤ length file
      name_inside = omega (arith, f.inside, entry_inside file at (count - i) some_left_names f.whole)

      -- the length byte and the name, as the code cuts them out
      abbrev pub name_part : List ℕ
      name_part = take (at + 2 + (get_or file (at + 2) 0 + 1) - (at + 2)) (drop (at + 2) file)

      part_is : name_part ≡ take (get_or file (at + 2) 0 + 1) (drop (at + 2) file)
      part_is =
          let size : at + 2 + (get_or file (at + 2) 0 + 1) - (at + 2) ≡ get_or file (at + 2) 0 + 1 = omega arith in
          ap (λ (k : ℕ). take k (drop (at + 2) file)) size

      pub part_size : length name_part ≡ get_or file (at + 2) 0 + 1
      part_size =
          ap length part_is
          ∙ length-take-le (get_or file (at + 2) 0 + 1) (drop (at + 2) file) (omega (arith, length-drop (at + 2) file, name_inside))

      pub name_copied : (after : List ℕ) → length file ≤ length before → after ≡ paste text filled name_part (length name_part) →
          Names file from count before (at + 2 + (get_or file (at + 2) 0 + 1)) (filled + (get_or file (at + 2) 0 + 1)) (i + 1) after
      name_copied after room e =
          let place : at + size_at file at ≡ at + 2 + (get_or file (at + 2) 0 + 1) = omega arith in
          let fewer : count - i - 1 ≡ count - (i + 1) = omega arith in
          let next : Filling (text_from count (drop from file)) (text_from (count - i - 1) (drop (at + size_at file at) file)) before
          (filled + length name_part) (paste text filled name_part (length name_part)) =
          part_filled name_part (subst (λ (more : List ℕ). Filling (text_from count (drop from file)) more before filled text)
          (next_name_lem file at (count - i) some_left_names
          ∙ ap (λ (xs : List ℕ). xs ++ text_from (count - i - 1) (drop (at + size_at file at) file)) (sym part_is)) f.filling)
          (omega (arith, part_size, name_inside, f.within)) in
          record {
            inside = omega (arith, name_inside);
            within = omega (arith, f.within);
            few = omega arith;
            whole = subst (λ (k : ℕ). Whole (entries_end k (count - (i + 1)) (drop k file))) place
                (subst (λ (n : ℕ). Whole (entries_end (at + size_at file at) n (drop (at + size_at file at) file))) fewer
                (rest_whole file at (count - i) some_left_names f.whole));
            filling = subst (λ (t : List ℕ). Filling (text_from count (drop from file))
                (text_from (count - (i + 1)) (drop (at + 2 + (get_or file (at + 2) 0 + 1)) file)) before
                (filled + (get_or file (at + 2) 0 + 1)) t) (sym e)
                (subst (λ (k : ℕ). Filling (text_from count (drop from file))
                (text_from (count - (i + 1)) (drop (at + 2 + (get_or file (at + 2) 0 + 1)) file)) before (filled + k)
                (paste text filled name_part (length name_part))) part_size
                (subst (λ (k : ℕ). Filling (text_from count (drop from file)) (text_from (count - (i + 1)) (drop k file)) before
                (filled + length name_part) (paste text filled name_part (length name_part))) place
                (subst (λ (n : ℕ). Filling (text_from count (drop from file)) (text_from n (drop (at + size_at file at) file)) before
                (filled + length name_part) (paste text filled name_part (length name_part))) fewer next)));
          }
