-- The numbers that come back, and the tests of the rows 1, 3 and 5 (2, 4 and 13 stand with what they test). Assumes nothing.
use Rattle.std.specs.Prelude.{ℕ, suc, ◌*◌, ◌%◌, Bool, true, false, ◌&&◌, List, [], ◌∷◌, length, leb, ltb, eqb}
use Rattle.std.proofs.Math.Option.{Option, none, some}
use Rattle.theory.specs.Meter.{Lack, Steps, Names, Formulas, Terms, Contexts, Levels}
use Rattle.theory.specs.Layout.{node_width}

-- what an input can break
pub data Fault : Type 0 where
  Sizes : Fault
  BadFormula : Fault
  BadAssumption : Fault
  BadNames : Fault
  BadGoal : Fault
  NoRoom : Fault
  BadTerm : Fault
  BadFile : Fault

-- the table's numbers
unfoldable pub fault_number : Fault → ℕ
fault_number Sizes = 1
fault_number BadFormula = 2
fault_number BadAssumption = 3
fault_number BadNames = 4
fault_number BadGoal = 5
fault_number NoRoom = 12
fault_number BadTerm = 13
fault_number BadFile = 14

unfoldable pub lack_number : Lack → ℕ
lack_number Steps = 6
lack_number Names = 7
lack_number Formulas = 8
lack_number Terms = 9
lack_number Contexts = 10
lack_number Levels = 11

-- a refused input: what it breaks, and where
pub record Refused : Type 0 where
  pub fault : Fault
  pub place : ℕ

unfoldable pub fault_at : Fault → Option ℕ → Option Refused
fault_at f none = none
fault_at f (some i) = some (record { fault = f; place = i })

-- "tested in that order": the first of two tests that refuses
unfoldable pub or_else : Option Refused → Option Refused → Option Refused
or_else none b = b
or_else (some r) b = some r

-- place 0 unless the test holds
unfoldable pub unless : Bool → Option ℕ
unless true = none
unless false = some 0

-- 1: "formula slice over 16,384 words or shorter than its given count"
unfoldable pub formula_sizes : ℕ → ℕ → Bool
formula_sizes room count = leb room 16384 && leb count room

-- 1: "term slice not a multiple of 6, over 98,304 numbers": room for at most 16,384 nodes
unfoldable pub term_sizes : ℕ → Bool
term_sizes room = eqb (room % node_width) 0 && leb room (16384 * node_width)

-- 1: ".. or shorter than a given node count"
unfoldable pub node_sizes : ℕ → ℕ → Bool
node_sizes room nodes = term_sizes room && leb (nodes * node_width) room

-- "levels 0 to 63": the highest level that a work area of so many records gives; any other number of records is Sizes
unfoldable pub highest_level : ℕ → Option ℕ
highest_level records = elim (eqb records 16384) [ true ↦ some 63 | false ↦ none ]

unfoldable pub is_some : Option ℕ → Bool
is_some none = false
is_some (some n) = true

-- 1: "work area not 16,384 records; step limit over 1,000,000"
unfoldable pub work_sizes : ℕ → ℕ → Bool
work_sizes records steps = is_some (highest_level records) && leb steps 1000000

-- 3: "over 64 (place 64, tested first)"
unfoldable pub too_many : ℕ → Option ℕ
too_many assumptions = elim (leb assumptions 64) [ true ↦ none | false ↦ some 64 ]

-- 3: "or the first index not below the count", looking from position i on
unfoldable pub outside_from : ℕ → ℕ → List ℕ → Option ℕ
outside_from count i [] = none
outside_from count i (a ∷ hs) = elim (ltb a count) [ true ↦ outside_from count (suc i) hs | false ↦ some i ]

unfoldable pub bad_assumption : ℕ → List ℕ → Option ℕ
bad_assumption count hs = elim (too_many (length hs)) [ some i ↦ some i | none ↦ outside_from count 0 hs ]

-- 5: "goal index not below the count"
unfoldable pub bad_goal : ℕ → ℕ → Option ℕ
bad_goal count goal = unless (ltb goal count)
