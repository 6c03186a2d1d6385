-- The pieces that the writer lays: a formula, a term, a field of a node, and what it stands on. Assumes nothing.
use Rattle.std.specs.Prelude.{ℕ, ◌/◌, ◌<◌, true, false, List, [], ◌∷◌, map, leb, length}
use Rattle.std.proofs.Math.Option.{Option, none, some}
use Rattle.theory.specs.Form.{Book, Good, shape, form}
use Rattle.theory.specs.Term.{Node, NodesFrom, term}
use Rattle.theory.specs.Names.{bytes_of}
use Rattle.theory.specs.Layout.{node_width, nodes_in, Field, name, child, formula, unused}
use Rattle.theory.specs.Text.{bytes, form_text, term_text}
use Rattle.theory.specs.Writer.{form_depth, term_depth}
use Rattle.house_text.specs.Laid.{joined}

-- "over 1,024 nodes on a path from the root": a text whose tree has so many on its longest path, where so many levels are left
unfoldable pub up_to : ℕ → ℕ → List ℕ → Option (List ℕ)
up_to levels depth text = elim (leb depth levels) [ true ↦ some text | false ↦ none ]

-- the formulas of the given words, and the nodes of the given numbers
abbrev pub book : List ℕ → Book
book words = map shape words

abbrev pub nodes : List ℕ → List Node
nodes terms = nodes_in terms (length terms / node_width)

-- words and nodes that refer to those before them: what passing 2 and 13 gives
pub record GoodWords (words : List ℕ) : Type 0 where
  pub good : Good (book words)

pub record Given (words terms : List ℕ) : Type 0 where
  pub formulas : GoodWords words
  pub lawful : NodesFrom (length words) 0 (nodes terms)

-- a field that refers to a given node or formula
abbrev pub FieldIn : ℕ → ℕ → Field → ℕ → Type 0
FieldIn count nodes name x = Unit {0}
FieldIn count nodes child x = x < nodes
FieldIn count nodes formula x = x < count
FieldIn count nodes unused x = Unit {0}

-- the formula at an index
unfoldable pub form_piece : List ℕ → ℕ → ℕ → Option (List ℕ)
form_piece words levels i = up_to levels (form_depth (form (book words) i)) (form_text (form (book words) i))

module _ (words terms : List ℕ) (names : List (List ℕ)) where
  -- the term at a node
  unfoldable pub term_piece : ℕ → ℕ → Option (List ℕ)
  term_piece levels i =
      up_to levels (term_depth (term (book words) (nodes terms) i)) (term_text names (term (book words) (nodes terms) i))

  -- a field, behind a space
  unfoldable pub field_piece : ℕ → Field → ℕ → Option (List ℕ)
  field_piece levels name x = some (32 ∷ bytes_of names x)
  field_piece levels child x = joined (some (bytes " ")) (term_piece levels x)
  field_piece levels formula x = joined (some (bytes " ")) (form_piece words levels x)
  field_piece levels unused x = some []
