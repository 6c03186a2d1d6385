-- The layout of term nodes in numbers, what they decode to, and refusal 13. Assumes nothing.
use Rattle.std.specs.Prelude.{ℕ, zero, suc, ◌+◌, ◌-◌, ◌*◌, Bool, true, false, ◌&&◌, not, List, [], ◌∷◌, ◌++◌, length, get_or, leb, ltb, eqb}
use Rattle.std.proofs.Math.Option.{Option, none, some}
use Rattle.theory.specs.Term.{Piece, ident, pair, fst, snd, fn, app, inl, inr, case, abort, asc, unit, Node, node, assumed, six}
use Rattle.theory.specs.Names.{among, skipped, spell}
use Rattle.theory.specs.NameText.{last_index}

-- "A term node is six 16-bit numbers: kind, then fields"
abbrev pub node_width : ℕ
node_width = 6

-- what a field of a node holds
pub data Field : Type 0 where
  name : Field
  child : Field
  formula : Field
  unused : Field

-- "one decision over kind numbers 0 to 13, with 6, 13 and everything above refused": what the five fields of a kind hold
unfoldable pub fields_of : ℕ → Option (List Field)
fields_of zero = some (name ∷ unused ∷ unused ∷ unused ∷ unused ∷ [])
fields_of (suc zero) = some (child ∷ child ∷ unused ∷ unused ∷ unused ∷ [])
fields_of (suc (suc zero)) = some (child ∷ unused ∷ unused ∷ unused ∷ unused ∷ [])
fields_of (suc (suc (suc zero))) = some (child ∷ unused ∷ unused ∷ unused ∷ unused ∷ [])
fields_of (suc (suc (suc (suc zero)))) = some (name ∷ child ∷ unused ∷ unused ∷ unused ∷ [])
fields_of (suc (suc (suc (suc (suc zero))))) = some (child ∷ child ∷ unused ∷ unused ∷ unused ∷ [])
fields_of (suc (suc (suc (suc (suc (suc zero)))))) = none
fields_of (suc (suc (suc (suc (suc (suc (suc zero))))))) = some (child ∷ unused ∷ unused ∷ unused ∷ unused ∷ [])
fields_of (suc (suc (suc (suc (suc (suc (suc (suc zero)))))))) = some (child ∷ unused ∷ unused ∷ unused ∷ unused ∷ [])
fields_of (suc (suc (suc (suc (suc (suc (suc (suc (suc zero))))))))) = some (child ∷ name ∷ child ∷ name ∷ child ∷ [])
fields_of (suc (suc (suc (suc (suc (suc (suc (suc (suc (suc zero)))))))))) = some (child ∷ unused ∷ unused ∷ unused ∷ unused ∷ [])
fields_of (suc (suc (suc (suc (suc (suc (suc (suc (suc (suc (suc zero))))))))))) = some (child ∷ formula ∷ unused ∷ unused ∷ unused ∷ [])
fields_of (suc (suc (suc (suc (suc (suc (suc (suc (suc (suc (suc (suc zero)))))))))))) =
    some (unused ∷ unused ∷ unused ∷ unused ∷ unused ∷ [])
fields_of (suc (suc (suc (suc (suc (suc (suc (suc (suc (suc (suc (suc (suc k))))))))))))) = none

-- "Name i below 64 must be an assumption's number; 64+g is generated index g, at most 4,095 and never spelled like an assumption"
unfoldable pub lawful_name : List (List ℕ) → ℕ → Bool
lawful_name names x =
    elim (ltb x 64) [
      | true ↦ ltb x (length names)
      | false ↦ leb (x - 64) last_index && not (among (spell (x - 64)) (skipped names))
    ]

-- a field of node i over count formulas: "Child terms have smaller indices, the index of an ascribed formula is below the formula count";
-- the unused ones are 0
unfoldable pub lawful_field : List (List ℕ) → ℕ → ℕ → Field → ℕ → Bool
lawful_field names count i name x = lawful_name names x
lawful_field names count i child x = ltb x i
lawful_field names count i formula x = ltb x count
lawful_field names count i unused x = eqb x 0

-- the fields of node i, that stand in t from a place on
unfoldable pub lawful_fields : List (List ℕ) → ℕ → ℕ → List ℕ → ℕ → List Field → Bool
lawful_fields names count i t at [] = true
lawful_fields names count i t at (f ∷ fs) = lawful_field names count i f (get_or t at 0) && lawful_fields names count i t (suc at) fs

unfoldable pub lawful_node : List (List ℕ) → ℕ → List ℕ → ℕ → Bool
lawful_node names count t i =
    elim (fields_of (get_or t (i * node_width) 0)) [
      | none ↦ false
      | some fs ↦ lawful_fields names count i t (suc (i * node_width)) fs
    ]

-- the lowest of k nodes from i on that breaks the layout
unfoldable pub bad_node_from : List (List ℕ) → ℕ → List ℕ → ℕ → ℕ → Option ℕ
bad_node_from names count t i zero = none
bad_node_from names count t i (suc k) =
    elim (lawful_node names count t i) [ true ↦ bad_node_from names count t (suc i) k | false ↦ some i ]

-- 13: "lowest node that breaks the layout, or a root not below the node count", whose place is the node count
unfoldable pub bad_term : List (List ℕ) → ℕ → List ℕ → ℕ → ℕ → Option ℕ
bad_term names count t nodes root =
    elim (bad_node_from names count t 0 nodes) [
      | some i ↦ some i
      | none ↦ elim (ltb root nodes) [ true ↦ none | false ↦ some nodes ]
    ]

-- what six numbers say; a kind that is refused says nothing
unfoldable pub piece_of : ℕ → ℕ → ℕ → ℕ → ℕ → ℕ → Piece
piece_of zero a b c d e = ident a
piece_of (suc zero) a b c d e = pair a b
piece_of (suc (suc zero)) a b c d e = fst a
piece_of (suc (suc (suc zero))) a b c d e = snd a
piece_of (suc (suc (suc (suc zero)))) a b c d e = fn a b
piece_of (suc (suc (suc (suc (suc zero))))) a b c d e = app a b
piece_of (suc (suc (suc (suc (suc (suc zero)))))) a b c d e = unit
piece_of (suc (suc (suc (suc (suc (suc (suc zero))))))) a b c d e = inl a
piece_of (suc (suc (suc (suc (suc (suc (suc (suc zero)))))))) a b c d e = inr a
piece_of (suc (suc (suc (suc (suc (suc (suc (suc (suc zero))))))))) a b c d e = case a b c d e
piece_of (suc (suc (suc (suc (suc (suc (suc (suc (suc (suc zero)))))))))) a b c d e = abort a
piece_of (suc (suc (suc (suc (suc (suc (suc (suc (suc (suc (suc zero))))))))))) a b c d e = asc a b
piece_of (suc (suc (suc (suc (suc (suc (suc (suc (suc (suc (suc (suc k)))))))))))) a b c d e = unit

-- the six numbers from a place on
unfoldable pub piece_at : List ℕ → ℕ → Piece
piece_at t at =
    piece_of (get_or t at 0) (get_or t (1 + at) 0) (get_or t (2 + at) 0) (get_or t (3 + at) 0) (get_or t (4 + at) 0) (get_or t (5 + at) 0)

-- k nodes from node i on; the numbers do not tell the rule that made a node
unfoldable pub nodes_from : List ℕ → ℕ → ℕ → List Node
nodes_from t i zero = []
nodes_from t i (suc k) = node assumed (piece_at t (i * node_width)) ∷ nodes_from t (suc i) k

unfoldable pub nodes_in : List ℕ → ℕ → List Node
nodes_in t k = nodes_from t 0 k

-- nodes as numbers
unfoldable pub in_numbers : List Node → List ℕ
in_numbers [] = []
in_numbers (n ∷ ns) = six n ++ in_numbers ns
