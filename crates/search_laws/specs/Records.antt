-- The records that a rule reads, and the formulas within theirs: the last ordered record, and an unordered one. Assumes nothing.
use Rattle.std.specs.Prelude.{ℕ, ◌+◌, ◌-◌, ◌*◌, List}
use Rattle.theory.specs.Meter as M
use Rattle.meter.specs.declared.Sequent.{Sequent}
use Rattle.context.specs.Moves.{stretch}
use Rattle.context.specs.Area.{formula_at, term_at, top_place}
use Rattle.search_laws.specs.Reading.{Lent, left_at, right_at, entry_at, ordered_in}

-- the last ordered record: its formula, its term, and the records below it
abbrev pub top_formula : Lent → Sequent → ℕ
top_formula x q = formula_at x.records (top_place q)

abbrev pub top_term : Lent → Sequent → ℕ
top_term x q = term_at x.records (top_place q)

abbrev pub top_entry : Lent → Sequent → M.Entry
top_entry x q = entry_at x.records (top_place q)

abbrev pub others : Lent → Sequent → List M.Entry
others x q = ordered_in x.records q.level (q.ordered - 1)

-- the indices of A and of C where the last record is A→C, and the parts of A
abbrev pub from_of : Lent → Sequent → ℕ
from_of x q = left_at x.words (top_formula x q)

abbrev pub to_of : Lent → Sequent → ℕ
to_of x q = right_at x.words (top_formula x q)

abbrev pub first_of : Lent → Sequent → ℕ
first_of x q = left_at x.words (from_of x q)

abbrev pub second_of : Lent → Sequent → ℕ
second_of x q = right_at x.words (from_of x q)

-- unordered record i: its place, its formula (A→B)→C and its term; the indices of A→B, B and C
abbrev pub place_of : Sequent → ℕ → ℕ
place_of q i = q.level * stretch + i

abbrev pub formula_of : Lent → Sequent → ℕ → ℕ
formula_of x q i = formula_at x.records (place_of q i)

abbrev pub term_of : Lent → Sequent → ℕ → ℕ
term_of x q i = term_at x.records (place_of q i)

abbrev pub premise_of : Lent → Sequent → ℕ → ℕ
premise_of x q i = left_at x.words (formula_of x q i)

abbrev pub middle_of : Lent → Sequent → ℕ → ℕ
middle_of x q i = right_at x.words (premise_of x q i)

abbrev pub end_of : Lent → Sequent → ℕ → ℕ
end_of x q i = right_at x.words (formula_of x q i)
