-- The nodes that rules of left and of search write one after the other, as the terms of document 01. Assumes nothing.
use Rattle.std.specs.Prelude.{ℕ, ◌+◌, List, [], ◌∷◌}
use Rattle.theory.specs.Term.{Piece, ident, pair, fn, app, inl, inr, asc}
use Rattle.theory.specs.Search.{name}

-- (as (fn a (fn b (app t (pair a b)))) f), from node n on
abbrev pub curried : ℕ → ℕ → ℕ → ℕ → ℕ → List Piece
curried n a b t f =
    ident (name a) ∷ ident (name b) ∷ pair n (1 + n) ∷ app t (2 + n) ∷ fn (name b) (3 + n) ∷ fn (name a) (4 + n) ∷ asc (5 + n) f ∷ []

-- (as (fn a (app t ARG)) f), from node n on, where ARG is a node over the Ident of a: inl and inr of it, or (fn b a)
abbrev pub composed : ℕ → ℕ → Piece → ℕ → ℕ → List Piece
composed n a arg t f = ident (name a) ∷ arg ∷ app t (1 + n) ∷ fn (name a) (2 + n) ∷ asc (3 + n) f ∷ []

-- (as (fn a (app t (inl a))) f) and then the same with b and inr, as g
abbrev pub injected : ℕ → ℕ → ℕ → ℕ → ℕ → ℕ → List Piece
injected n a b t f g =
    ident (name a) ∷ inl n ∷ app t (1 + n) ∷ fn (name a) (2 + n) ∷ asc (3 + n) f ∷ ident (name b) ∷ inr (5 + n) ∷ app t (6 + n)
    ∷ fn (name b) (7 + n) ∷ asc (8 + n) g ∷ []
