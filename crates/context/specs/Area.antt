-- Records of the work area, and the area after the code's moves. Assumes nothing.
use Rattle.std.specs.Prelude.{ℕ, ◌+◌, ◌-◌, ◌*◌, ◌%◌, List, get_or}
use Rattle.std.specs.List.{copy_within}
use Rattle.context.specs.declared.Record.{Record}
use Rattle.meter.specs.declared.Sequent.{Sequent}
use Rattle.context.specs.Moves.{stretch}

abbrev pub Rec : Type 0
Rec = Record

abbrev pub record_of : ℕ → ℕ → Rec
record_of a x = record { formula = a; term = x }

-- a record of two zeros, which is also what a read out of range gives
abbrev pub zeroed : Rec
zeroed = record_of 0 0

-- two numbers as a record holds them, in 16 bits each
abbrev pub rec : ℕ → ℕ → Rec
rec a x = record_of (a % 65536) (x % 65536)

abbrev pub formula_at : List Rec → ℕ → ℕ
formula_at w i = (get_or w i zeroed).formula

abbrev pub term_at : List Rec → ℕ → ℕ
term_at w i = (get_or w i zeroed).term

-- n records from i on, copied a level up
unfoldable pub copies : ℕ → ℕ → List Rec → List Rec
copies n i w = copy_within w i (i + n) (i + stretch)

-- the n records after place i, each one place down
unfoldable pub shifts : ℕ → ℕ → List Rec → List Rec
shifts n i w = copy_within w (i + 1) (i + 1 + n) i

-- the records in use, copied a level up
unfoldable pub raised : List Rec → Sequent → List Rec
raised w q = copies q.ordered (q.level * stretch + stretch - q.ordered) (copies q.unordered (q.level * stretch) w)

-- unordered record i taken out
unfoldable pub removed : List Rec → Sequent → ℕ → List Rec
removed w q i = shifts (q.unordered - 1 - i) (q.level * stretch + i) w

-- where a record is pushed and appended, and where the last ordered one lies
abbrev pub push_place : Sequent → ℕ
push_place q = q.level * stretch + stretch - 1 - q.ordered

abbrev pub append_place : Sequent → ℕ
append_place q = q.level * stretch + q.unordered

abbrev pub top_place : Sequent → ℕ
top_place q = q.level * stretch + stretch - q.ordered
