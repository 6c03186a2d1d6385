-- What the rules of left ask of the last ordered record, and what rule 4 asks of an unordered one. Assumes nothing.
use Rattle.std.specs.Prelude.{ℕ, ◌+◌, ◌*◌, ◌<◌, ◌≡◌, Bool, ◌&&◌, List, eqb}
use Rattle.meter.specs.declared.Sequent.{Sequent}
use Rattle.context.specs.Moves.{stretch}
use Rattle.context.specs.Area.{Rec, formula_at, term_at, top_place}
use Rattle.search_laws.specs.Reading.{Lent, kind_at, left_at}

-- the last ordered record is t:a, and a is of kind k
pub record Last (x : Lent) (q : Sequent) (k a t : ℕ) : Type 0 where
  pub some : 0 < q.ordered
  pub formula : a ≡ formula_at x.records (top_place q)
  pub term : t ≡ term_at x.records (top_place q)
  pub kind : kind_at x.words a ≡ k

-- the same of an implication that goes from a formula of kind k
pub record LastFrom (x : Lent) (q : Sequent) (k a t : ℕ) : Type 0 where
  pub last : Last x q 5 a t
  pub from : kind_at x.words (left_at x.words a) ≡ k

-- unordered record i of level l is an implication from an implication
abbrev pub nested : List ℕ → List Rec → ℕ → ℕ → Bool
nested f w l i = eqb (kind_at f (formula_at w (l * stretch + i))) 5 && eqb (kind_at f (left_at f (formula_at w (l * stretch + i)))) 5
