-- The code's kinds, fields and keywords as the definitions have them. Assumes nothing.
use Rattle.std.specs.Prelude.{ℕ, ◌≡◌, List, [], ◌∷◌, map, get_or, Some, None}
use Rattle.std.specs.declared.option.Option as code
use Rattle.std.proofs.Math.Option.{Option, none, some}
use Rattle.theory.specs.Term.{Piece, ident, pair, fst, snd, fn, app, inl, inr, case, abort, asc, unit}
use Rattle.theory.specs.Layout as layout
use Rattle.theory.specs.Layout.{fields_of}
use Rattle.theory.specs.Text.{bytes}
use Rattle.proof_term.specs.declared.Field as declared_field
use Rattle.proof_term.specs.declared.Field.TheVariants.{Name, Child, Formula, Unused}
use Rattle.proof_term.specs.declared.Fields.{Fields}
use Rattle.proof_term.specs.declared.Node.{Node}
use Rattle.proof_term.specs.declared.Node.TheVariants.{Ident, Pair, ProjectFst, ProjectSnd, Function, Application, OrLeft, OrRight, Case}
use Rattle.proof_term.specs.declared.Node.TheVariants.{Abort, Ascription, Unit as Nothing}

-- the piece of the term that a node is
abbrev pub piece_of : Node → Piece
piece_of (Ident x) = ident x
piece_of (Pair s t) = pair s t
piece_of (ProjectFst t) = fst t
piece_of (ProjectSnd t) = snd t
piece_of (Function x t) = fn x t
piece_of (Application s t) = app s t
piece_of (OrLeft t) = inl t
piece_of (OrRight t) = inr t
piece_of (Case h x s y t) = case h x s y t
piece_of (Abort t) = abort t
piece_of (Ascription t a) = asc t a
piece_of Nothing = unit

abbrev pub field_as : declared_field.Field → layout.Field
field_as Name = layout.name
field_as Child = layout.child
field_as Formula = layout.formula
field_as Unused = layout.unused

-- what the five hold; there is no such kind where there are none
abbrev pub fields_as : code.Option Fields → Option (List layout.Field)
fields_as (Some f) = some (map field_as f.held)
fields_as None = none

-- "(pair s t), (fst t), .., (as t A)", and "()" for a Unit: what stands before the fields of a kind. An Ident is a name alone, and a kind
-- that is refused has no text
abbrev pub keywords : List (List ℕ)
keywords =
    [] ∷ bytes "(pair" ∷ bytes "(fst" ∷ bytes "(snd" ∷ bytes "(fn" ∷ bytes "(app" ∷ [] ∷ bytes "(inl" ∷ bytes "(inr" ∷
    bytes "(case" ∷ bytes "(abort" ∷ bytes "(as" ∷ bytes "(" ∷ []

unfoldable pub keyword : ℕ → List ℕ
keyword k = get_or keywords k []

-- the keyword that the code gives; a kind that is refused has none
abbrev pub keyword_as : code.Option Fields → List ℕ
keyword_as (Some f) = f.keyword.now
keyword_as None = []

-- "one decision over kind numbers 0 to 13 .. settles layout checking and printing"
pub record Settles (r : code.Option Fields) (kind : ℕ) : Type 0 where
  pub layout : fields_as r ≡ fields_of kind
  pub printing : keyword_as r ≡ keyword kind
