-- The start of the search in the lent lists: the assumptions' Idents, their records, the first sequent and the first state; and what the
-- search leaves that starts so. Assumes nothing.
use Rattle.std.specs.Prelude.{ℕ, suc, ◌-◌, ◌≡◌, List, [], ◌∷◌, length, set}
use Rattle.theory.specs.Term.{Piece, ident}
use Rattle.theory.specs.Meter as M
use Rattle.theory.specs.Call.{Claim, searched}
use Rattle.meter.specs.declared.State.{State}
use Rattle.meter.specs.declared.Sequent.{Sequent}
use Rattle.meter.specs.declared.Limits.{Limits}
use Rattle.meter.specs.Moves.{Answer}
use Rattle.context.specs.Moves.{stretch}
use Rattle.context.specs.Area.{Rec, rec}
use Rattle.search_laws.specs.Reading.{Lent, lent, put_nodes}
use Rattle.search_laws.specs.Keeping.{Same, Within, state_of, After}
use Rattle.search_laws.specs.Meaning.{Says}
use Rattle.call.specs.Lent.{limits_for}

-- "An Ident node is first made for each assumption in order", from number i on
unfoldable pub idents_from : ℕ → List ℕ → List Piece
idents_from i [] = []
idents_from i (a ∷ hs) = ident i ∷ idents_from (suc i) hs

-- "all are pushed on the ordered context": from the back of level 0's stretch on, i of them being there
unfoldable pub seated : ℕ → List ℕ → List Rec → List Rec
seated i [] w = w
seated i (a ∷ hs) w = seated (suc i) hs (set w (stretch - 1 - i) (rec a i))

abbrev pub first_sequent : ℕ → ℕ → Sequent
first_sequent assumptions goal = record { level = 0; unordered = 0; ordered = assumptions; goal = goal }

-- what is used before the assumptions' Idents are made, and after it
abbrev pub first_state : ℕ → ℕ → State
first_state count assumptions = record { steps = 0; indices = 0; formulas = count; terms = assumptions }

-- the limits of a claim, and the lists after its assumptions are pushed
abbrev pub limits_in : Claim → Limits
limits_in x = limits_for (length x.words) (length x.terms) x.records x.step_limit

abbrev pub assumed_in : Claim → List Rec → Lent
assumed_in x w = lent x.words (put_nodes x.terms 0 (idents_from 0 x.assumed)) (seated 0 x.assumed w)

-- a claim's whole search ended in the answer r and the lists y: theory's search says so, the given words stand, no list changed its length,
-- and what was found is well-formed
pub record Ends (x : Claim) (w : List Rec) (r : Answer) (y : Lent) : Type 0 where
  pub answer : M.Answer
  pub is : searched x ≡ answer
  pub says : Says y r answer
  pub given : Same 0 x.count x.words y.words
  pub numbers : length y.numbers ≡ length x.terms
  pub records : length y.records ≡ length w
  pub within : Within (limits_in x) (state_of r)
  pub after : After y (first_state x.count 0) r
