-- What stands in a house file's bytes, read off by places alone, and the answers of the tests as theory has them. Assumes nothing.
use Rattle.std.specs.Prelude.{ℕ, zero, suc, ◌+◌, ◌*◌, ◌≤◌, true, false, List, [], ◌∷◌, ◌++◌, ltb, eqb, length, get_or, take, drop}
use Rattle.std.specs.Prelude.{Option, None, Some}
use Rattle.std.proofs.Math.Option as maybe
use Rattle.theory.specs.File.{little_endian, File}
use Rattle.house_sections.specs.declared.Sections.{Sections}

-- n numbers of k bytes each
unfoldable pub numbers_from : ℕ → ℕ → List ℕ → List ℕ
numbers_from k zero bs = []
numbers_from k (suc n) bs = little_endian (take k bs) ∷ numbers_from k n (drop k bs)

-- "each an index, length byte, name": the bytes of the first assumption
abbrev pub entry_bytes : List ℕ → ℕ
entry_bytes bs = get_or bs 2 0 + 3

-- the indices of n assumptions, and their names, each with its length byte
unfoldable pub indices_from : ℕ → List ℕ → List ℕ
indices_from zero bs = []
indices_from (suc n) bs = little_endian (take 2 bs) ∷ indices_from n (drop (entry_bytes bs) bs)

unfoldable pub text_from : ℕ → List ℕ → List ℕ
text_from zero bs = []
text_from (suc n) bs = take (get_or bs 2 0 + 1) (drop 2 bs) ++ text_from n (drop (entry_bytes bs) bs)

-- where n assumptions end, in bytes that start at a place of the file
unfoldable pub entries_end : ℕ → ℕ → List ℕ → Option ℕ
entries_end at zero bs = Some at
entries_end at (suc n) bs =
    elim (ltb (length bs) 3) [
      | true ↦ None
      | false ↦ elim (ltb (length bs) (entry_bytes bs)) [
        | true ↦ None
        | false ↦ entries_end (at + entry_bytes bs) n (drop (entry_bytes bs) bs)
      ]
    ]

abbrev pub Whole : Option ℕ → Type 0
Whole None = ⊥
Whole (Some place) = Unit {0}

-- the last section: a count of one, the goal's index, and no more bytes
unfoldable pub goal_in : List ℕ → Option ℕ
goal_in bs =
    elim (eqb (length bs) 4) [
      | false ↦ None
      | true ↦ elim (eqb (little_endian (take 2 bs)) 1) [
        | false ↦ None
        | true ↦ Some (little_endian (take 2 (drop 2 bs)))
      ]
    ]

-- the file that the sections make of the bytes, by their counts and the goal
abbrev pub file_in : Sections → List ℕ → File
file_in x bs = record {
  words = numbers_from 4 x.formulas (drop 2 bs);
  indices = indices_from x.assumptions (drop (4 + 4 * x.formulas) bs);
  text = text_from x.assumptions (drop (4 + 4 * x.formulas) bs);
  goals = x.goal ∷ [];
}

unfoldable pub held_by : Option Sections → List ℕ → maybe.Option File
held_by None bs = maybe.none
held_by (Some x) bs = maybe.some (file_in x bs)

-- what the tests saw of sections that are held: their counts, and that they are whole
pub record Seen (x : Sections) (bs : List ℕ) : Type 0 where
  pub small : length bs ≤ 32768
  pub few_formulas : x.formulas ≤ 4096
  pub inside : 4 + 4 * x.formulas ≤ length bs
  pub few_assumptions : x.assumptions ≤ 64
  pub whole : Whole (entries_end (4 + 4 * x.formulas) x.assumptions (drop (4 + 4 * x.formulas) bs))

abbrev pub Fits : Option Sections → List ℕ → Type 0
Fits None bs = Unit {0}
Fits (Some x) bs = Seen x bs

-- a list laid over the front of a lent one
unfoldable pub laid_over : List ℕ → List ℕ → List ℕ
laid_over xs buffer = xs ++ drop (length xs) buffer
