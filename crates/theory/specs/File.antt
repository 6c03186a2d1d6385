-- The house file: its decoding, refusal 14, and the bytes that the program prints for it. Assumes nothing.
use Rattle.std.specs.Prelude.{ℕ, zero, suc, ◌+◌, ◌*◌, Bool, true, false, List, [], ◌∷◌, ◌++◌, length, take, drop, replicate, leb, eqb}
use Rattle.std.proofs.Math.Option.{Option, none, some}
use Rattle.theory.specs.NameText.{padded, Written}
use Rattle.theory.specs.Layout.{node_width}
use Rattle.theory.specs.Refusal.{BadFile, fault_number, lack_number}
use Rattle.theory.specs.Call.{Claim, Outcome, proved, unprovable, shortage, refused, called}
use Rattle.theory.specs.Text.{bytes, decimal}
use Rattle.theory.specs.Writer.{draft_after, written}

-- "little-endian": the number of some bytes
unfoldable pub little_endian : List ℕ → ℕ
little_endian [] = 0
little_endian (b ∷ bs) = b + 256 * little_endian bs

-- k bytes in front, and what stands after them; none where the section is cut
unfoldable pub cut_bytes : ℕ → List ℕ → Option (List ℕ × List ℕ)
cut_bytes k bs = elim (leb k (length bs)) [ true ↦ some (take k bs, drop k bs) | false ↦ none ]

unfoldable pub cut_number : ℕ → List ℕ → Option (ℕ × List ℕ)
cut_number k bs = elim (cut_bytes k bs) [ none ↦ none | some p ↦ some (little_endian p.0, p.1) ]

-- n numbers of k bytes each
unfoldable pub cut_numbers : ℕ → ℕ → List ℕ → Option (List ℕ × List ℕ)
cut_numbers k zero bs = some ([], bs)
cut_numbers k (suc n) bs =
    elim (cut_number k bs) [
      | none ↦ none
      | some p ↦ elim (cut_numbers k n p.1) [ none ↦ none | some q ↦ some (p.0 ∷ q.0, q.1) ]
    ]

-- "counts and indices 16-bit": the count of a section that holds the right number of things
unfoldable pub cut_count : (ℕ → Bool) → List ℕ → Option (ℕ × List ℕ)
cut_count lawful bs =
    elim (cut_number 2 bs) [ none ↦ none | some p ↦ elim (lawful p.0) [ true ↦ some p | false ↦ none ] ]

-- a section: its count, and so many numbers of k bytes
unfoldable pub cut_section : (ℕ → Bool) → ℕ → List ℕ → Option (List ℕ × List ℕ)
cut_section lawful k bs = elim (cut_count lawful bs) [ none ↦ none | some p ↦ cut_numbers k p.0 p.1 ]

-- the counts that are no fault: at most 4,096 formulas, at most 64 assumptions, one goal
unfoldable pub formula_count : ℕ → Bool
formula_count n = leb n 4096

unfoldable pub assumption_count : ℕ → Bool
assumption_count n = leb n 64

unfoldable pub goal_count : ℕ → Bool
goal_count n = eqb n 1

-- the assumptions of a file: their indices, and their names' text
pub record Assumptions : Type 0 where
  pub indices : List ℕ
  pub text : List ℕ
  pub rest : List ℕ

-- "each an index, length byte, name"
unfoldable pub cut_assumptions : ℕ → List ℕ → Option Assumptions
cut_assumptions zero bs = some (record { indices = []; text = []; rest = bs })
cut_assumptions (suc n) bs =
    elim (cut_number 2 bs) [
      | none ↦ none
      | some index ↦ elim (cut_number 1 index.1) [
        | none ↦ none
        | some size ↦ elim (cut_bytes size.0 size.1) [
          | none ↦ none
          | some name ↦ elim (cut_assumptions n name.1) [
            | none ↦ none
            | some more ↦ some (record {
              indices = index.0 ∷ more.indices;
              text = size.0 ∷ (name.0 ++ more.text);
              rest = more.rest;
            })
          ]
        ]
      ]
    ]

-- what a house file holds
pub record File : Type 0 where
  pub words : List ℕ
  pub indices : List ℕ
  pub text : List ℕ
  pub goals : List ℕ

-- the goals after the assumptions; "bytes after the end" are a fault
unfoldable pub cut_goals : List ℕ → Assumptions → Option File
cut_goals words more =
    elim (cut_section goal_count 2 more.rest) [
      | none ↦ none
      | some goals ↦ elim (eqb (length goals.1) 0) [
        | true ↦ some (record { words = words; indices = more.indices; text = more.text; goals = goals.0 })
        | false ↦ none
      ]
    ]

-- the assumptions after the formulas
unfoldable pub cut_rules : List ℕ → List ℕ → Option File
cut_rules words bs =
    elim (cut_count assumption_count bs) [
      | none ↦ none
      | some p ↦ elim (cut_assumptions p.0 p.1) [ none ↦ none | some more ↦ cut_goals words more ]
    ]

-- none is 14: "over 32,768 bytes, over 4,096 formulas or 64 assumptions, a cut section, another goal count, bytes after the end"
unfoldable pub decoded : List ℕ → Option File
decoded bs =
    elim (leb (length bs) 32768) [
      | false ↦ none
      | true ↦ elim (cut_section formula_count 4 bs) [ none ↦ none | some p ↦ cut_rules p.0 p.1 ]
    ]

-- "The program lends 4,096 words, 4,096 nodes, 1,000,000 steps, 32,768 text bytes"
unfoldable pub claim_of : File → ℕ → Claim
claim_of x goal = record {
  words = padded 4096 x.words;
  count = length x.words;
  assumed = x.indices;
  text = x.text;
  goal = goal;
  terms = replicate (4096 * node_width) 0;
  records = 16384;
  step_limit = 1000000;
}

-- a line ends with a newline
unfoldable pub line : List ℕ → List ℕ
line bs = bs ++ (10 ∷ [])

unfoldable pub counted : List ℕ → ℕ → List ℕ
counted what n = line (what ++ decimal n)

-- "it prints "refused N" alone"
unfoldable pub refused_line : ℕ → List ℕ
refused_line n = counted (bytes "refused ") n

-- "or the lines "unprovable" and "steps N""
unfoldable pub unprovable_lines : ℕ → List ℕ
unprovable_lines n = line (bytes "unprovable") ++ counted (bytes "steps ") n

-- "or as below": steps, generated indices used, formula fill, term fill, and the term's text
unfoldable pub proved_with : ℕ → ℕ → ℕ → ℕ → List ℕ → List ℕ
proved_with n u f t text =
    line (bytes "proved") ++ (counted (bytes "steps ") n ++ (counted (bytes "names ") u
    ++ (counted (bytes "formulas ") f ++ (counted (bytes "terms ") t ++ line text))))

-- "(12 too)": a proved goal whose text is not written is refused
unfoldable pub proved_lines : ℕ → ℕ → ℕ → ℕ → Written → List ℕ
proved_lines n u f t w =
    elim (eqb w.number 0) [ true ↦ proved_with n u f t w.part | false ↦ refused_line w.number ]

-- the lines of one answer, with 32,768 bytes lent for its text
unfoldable pub answer_lines : Claim → Outcome → List ℕ
answer_lines x (proved r n u f t) = proved_lines n u f t (written (draft_after x r f t (replicate 32768 0)))
answer_lines x (unprovable n u f t) = unprovable_lines n
answer_lines x (shortage l n) = refused_line (lack_number l)
answer_lines x (refused f i) = refused_line (fault_number f)

unfoldable pub goal_lines : File → ℕ → List ℕ
goal_lines x goal = answer_lines (claim_of x goal) (called (claim_of x goal)).outcome

-- the goals of a file one after another
unfoldable pub all_lines : File → List ℕ → List ℕ
all_lines x [] = []
all_lines x (g ∷ gs) = goal_lines x g ++ all_lines x gs

-- what the program prints for a file's bytes
unfoldable pub printed : List ℕ → List ℕ
printed bs = elim (decoded bs) [ none ↦ refused_line (fault_number BadFile) | some x ↦ all_lines x x.goals ]
