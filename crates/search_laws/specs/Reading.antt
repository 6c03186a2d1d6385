-- What the lent lists stand for: the book, the node numbers, the two contexts; and the writes of nodes. Assumes nothing.
use Rattle.std.specs.Prelude.{ℕ, suc, ◌+◌, ◌-◌, ◌*◌, ◌≡◌, List, [], ◌∷◌, length, get_or, take}
use Rattle.theory.specs.Form.{Shape, shape, Book, kind_of, left_of, right_of}
use Rattle.theory.specs.Term.{Piece, six_of}
use Rattle.theory.specs.Layout.{node_width, in_numbers}
use Rattle.theory.specs.Meter as M
use Rattle.proof_term.specs.Put.{put_node}
use Rattle.meter.specs.declared.State.{State}
use Rattle.meter.specs.declared.Sequent.{Sequent}
use Rattle.context.specs.Moves.{stretch}
use Rattle.context.specs.Area.{Rec, formula_at, term_at}
use Rattle.search_laws.specs.Tables.{upto, downto}

-- the three lent lists: formula words, term numbers, work records
pub record Lent : Type 0 where
  pub words : List ℕ
  pub numbers : List ℕ
  pub records : List Rec

abbrev pub lent : List ℕ → List ℕ → List Rec → Lent
lent f t w = record { words = f; numbers = t; records = w }

-- the fields of word i
abbrev pub kind_at : List ℕ → ℕ → ℕ
kind_at f i = kind_of (get_or f i 0)

abbrev pub left_at : List ℕ → ℕ → ℕ
left_at f i = left_of (get_or f i 0)

abbrev pub right_at : List ℕ → ℕ → ℕ
right_at f i = right_of (get_or f i 0)

unfoldable pub shape_at : List ℕ → ℕ → Shape
shape_at f i = shape (get_or f i 0)

-- the shapes of the words below the fill
unfoldable pub book : List ℕ → ℕ → Book
book f n = upto (λ i. shape_at f i) n

unfoldable pub entry_at : List Rec → ℕ → M.Entry
entry_at w i = record { formula = formula_at w i; proof = term_at w i }

-- unordered records from the front of the level's stretch, ordered ones from its back, the last one lowest
unfoldable pub unordered_in : List Rec → ℕ → ℕ → List M.Entry
unordered_in w l n = upto (λ i. entry_at w (l * stretch + i)) n

unfoldable pub ordered_in : List Rec → ℕ → ℕ → List M.Entry
ordered_in w l n = downto (λ i. entry_at w (l * stretch + stretch - 1 - i)) n

abbrev pub seq_of : List Rec → Sequent → M.Sequent
seq_of w q = record {
  unordered = unordered_in w q.level q.unordered;
  ordered = ordered_in w q.level q.ordered;
  goal = q.goal;
  level = q.level;
}

-- the lists below the fills hold what theory's state holds: words read as shapes, nodes laid out as numbers, their rules dropped
pub record Shows (x : Lent) (s : State) (S : M.State) : Type 0 where
  pub words : S.words ≡ book x.words s.formulas
  pub nodes : in_numbers S.nodes ≡ take (s.terms * node_width) x.numbers
  pub many : length S.nodes ≡ s.terms
  pub used : S.used ≡ s.indices
  pub steps : S.steps ≡ s.steps

-- nodes from node n on
unfoldable pub put_nodes : List ℕ → ℕ → List Piece → List ℕ
put_nodes t n [] = t
put_nodes t n (p ∷ ps) = put_nodes (put_node t n (six_of p)) (suc n) ps
