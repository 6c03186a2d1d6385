-- A table of marks tells under which kind each leaf symbol has stood: two bits a symbol, four symbols a byte. Assumes nothing.
use Rattle.std.specs.Prelude.{ℕ, ◌+◌, ◌*◌, ◌/◌, ◌%◌, ◌^◌, Bool, true, false, ◌||◌, List, eqb, get_or, set}
use Rattle.theory.specs.Form.{kind_of, left_of}
use Rattle.formula.specs.declared.Kind.{Kind}
use Rattle.formula.specs.declared.Kind.TheVariants.{True, False, Atom, And, Or, Impl, ForAll, Exists, Unknown}
use Rattle.formula.specs.Kinds.{kind_named}
use Rattle.formula.specs.Leaves.{leaf_kind}

-- the marks of the leaf kinds (those of the others are not used); 0 is that of a symbol that has not stood yet
abbrev pub mark_of : Kind → ℕ
mark_of True = 3
mark_of False = 3
mark_of Atom = 1
mark_of And = 3
mark_of Or = 3
mark_of Impl = 3
mark_of ForAll = 2
mark_of Exists = 3
mark_of (Unknown k) = 3

-- the two bits of a byte that stand so many bits from its low end
abbrev pub bits_at : ℕ → ℕ → ℕ
bits_at shift byte = byte / 2 ^ shift % 4

-- where the mark of symbol s stands: in which byte, and how many bits from its low end
abbrev pub byte_of : ℕ → ℕ
byte_of s = s % 4096

abbrev pub shift_of : ℕ → ℕ
shift_of s = 2 * (s / 4096)

-- the mark of a symbol
unfoldable pub mark_at : List ℕ → ℕ → ℕ
mark_at marks s = bits_at (shift_of s) (get_or marks (byte_of s) 0)

-- a symbol that has none gets mark m
unfoldable pub marked : List ℕ → ℕ → ℕ → List ℕ
marked marks s m = set marks (byte_of s) (get_or marks (byte_of s) 0 + m * 2 ^ shift_of s)

-- a leaf of kind k may follow on such a mark
abbrev pub follows : ℕ → ℕ → Bool
follows mark k = eqb mark 0 || eqb mark (mark_of (kind_named k))

-- whether a word's leaf symbol has stood under no other kind than the word's, and the table with that noted
unfoldable pub agrees : List ℕ → ℕ → Bool
agrees marks w = elim (leaf_kind (kind_of w)) [ true ↦ follows (mark_at marks (left_of w)) (kind_of w) | false ↦ true ]

unfoldable pub noted : List ℕ → ℕ → List ℕ
noted marks w = elim (leaf_kind (kind_of w)) [
  | true ↦ elim (eqb (mark_at marks (left_of w)) 0) [ true ↦ marked marks (left_of w) (mark_of (kind_named (kind_of w))) | false ↦ marks ]
  | false ↦ marks
]
