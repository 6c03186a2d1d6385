-- Well-formed trees: what formula words and term nodes can hold. Assumes nothing.
use Rattle.std.specs.Prelude.{ℕ, ◌<◌}
use Rattle.theory.specs.Form.{Form, top, bot, leaf, and, or, imp}
use Rattle.theory.specs.Term.{Term, Ident, Pair, Fst, Snd, Fn, App, Inl, Inr, Case, Abort, Asc, Unit'}

-- the kinds of a leaf
pub data LeafKind : ℕ → Type 0 where
  atom : LeafKind 2
  for_all : LeafKind 6
  exists : LeafKind 7

-- a symbol has 14 bits
abbrev pub WellFormed : Form → Type 0
WellFormed top = Unit {0}
WellFormed bot = Unit {0}
WellFormed (leaf k s) = LeafKind k × (s < 16384)
WellFormed (and A B) = WellFormed A × WellFormed B
WellFormed (or A B) = WellFormed A × WellFormed B
WellFormed (imp A B) = WellFormed A × WellFormed B

-- the names of a term have the property P, and its ascribed formulas are well-formed
abbrev pub WellNamed : (ℕ → Type 0) → Term → Type 0
WellNamed P (Ident x) = P x
WellNamed P (Pair s t) = WellNamed P s × WellNamed P t
WellNamed P (Fst t) = WellNamed P t
WellNamed P (Snd t) = WellNamed P t
WellNamed P (Fn x t) = P x × WellNamed P t
WellNamed P (App s t) = WellNamed P s × WellNamed P t
WellNamed P (Inl t) = WellNamed P t
WellNamed P (Inr t) = WellNamed P t
WellNamed P (Case h x s y t) = WellNamed P h × P x × WellNamed P s × P y × WellNamed P t
WellNamed P (Abort t) = WellNamed P t
WellNamed P (Asc t A) = WellNamed P t × WellFormed A
WellNamed P Unit' = Unit {0}
