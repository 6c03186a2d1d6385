-- What search's rules 1 and 2 read off the lists: the place of a leaf among the unordered records, and which records fire. Assumes nothing.
use Rattle.std.specs.Prelude.{ℕ, zero, suc, ◌+◌, ◌*◌, ◌≤◌, true, false, ◌≡◌, List, [], ◌∷◌, length, get_or, ltb, eqb}
use Rattle.formula.specs.Leaves.{equal_leaves}
use Rattle.theory.specs.Term.{Piece, Node}
use Rattle.theory.specs.Search.{Fired, fire}
use Rattle.meter.specs.declared.State.{State}
use Rattle.meter.specs.declared.Sequent.{Sequent}
use Rattle.meter.specs.declared.Limits.{Limits}
use Rattle.context.specs.Moves.{stretch}
use Rattle.context.specs.Area as Area
use Rattle.context.specs.Area.{Rec, formula_at}
use Rattle.search_laws.specs.Reading.{Lent, kind_at, left_at, book, unordered_in, put_nodes}
use Rattle.search_laws.specs.Keeping.{Same, Seats, Rep}

-- the word of the formula of unordered record i of level l
abbrev pub word_in : List ℕ → List Rec → ℕ → ℕ → ℕ
word_in f w l i = get_or f (formula_at w (l * stretch + i)) 0

-- the first of k unordered records from i on that is the leaf with word v; i + k where there is none
unfoldable pub leaf_from : List ℕ → List Rec → ℕ → ℕ → ℕ → ℕ → ℕ
leaf_from f w l v i zero = i
leaf_from f w l v i (suc k) = elim (equal_leaves v (word_in f w l i)) [ true ↦ i | false ↦ leaf_from f w l v (suc i) k ]

-- the first of n unordered records that is that leaf, or n
unfoldable pub leaf_place : List ℕ → List Rec → ℕ → ℕ → ℕ → ℕ
leaf_place f w l n v = leaf_from f w l v 0 n

-- the place of the leaf that lets unordered record i fire, of n of them, or n where it does not fire
unfoldable pub fires_by : List ℕ → List Rec → ℕ → ℕ → ℕ → ℕ
fires_by f w l n i =
    elim (eqb (kind_at f (formula_at w (l * stretch + i))) 5) [
      | true ↦ leaf_place f w l n (get_or f (left_at f (formula_at w (l * stretch + i))) 0)
      | false ↦ n
    ]

-- how many of the first k fire, of n of them
unfoldable pub firing_in : List ℕ → List Rec → ℕ → ℕ → ℕ → ℕ
firing_in f w l n zero = 0
firing_in f w l n (suc k) = elim (ltb (fires_by f w l n k) n) [ true ↦ suc (firing_in f w l n k) | false ↦ firing_in f w l n k ]

-- the pieces of nodes
unfoldable pub pieces : List Node → List Piece
pieces [] = []
pieces (n ∷ ns) = n.piece ∷ pieces ns

-- what rule 2 fires, all together: the unordered records of the sequent, base being the next node
abbrev pub fired_all : List ℕ → ℕ → ℕ → List Rec → Sequent → Fired
fired_all f nf base w q =
    fire (book f nf) (unordered_in w q.level q.unordered) base (unordered_in w q.level q.unordered)

-- the lists hold a sequent of search; end is one past the nodes of all that fire, for which there is room
pub record MayFire (m : Limits) (x : Lent) (s : State) (q : Sequent) (end : ℕ) : Type 0 where
  pub rep : Rep m x s q
  pub none : q.ordered ≡ 0
  pub last : end ≡ s.terms + firing_in x.words x.records q.level q.unordered q.unordered
  pub few : end ≤ 16384

-- the lists t and w and the sequent p after all have fired from t0, w0 and q
pub record Fell (m : Limits) (f : List ℕ) (nf base : ℕ) (t0 : List ℕ) (w0 : List Rec) (q : Sequent) (t : List ℕ) (w : List Rec)
    (p : Sequent) : Type 0 where
  pub seats : Seats m nf (base + length (fired_all f nf base w0 q).nodes) w p (fired_all f nf base w0 q).kept (fired_all f nf base w0 q).new
  pub level : p.level ≡ q.level
  pub goal : p.goal ≡ q.goal
  pub lower : Same Area.zeroed (q.level * stretch) w0 w
  pub numbers : t ≡ put_nodes t0 base (pieces (fired_all f nf base w0 q).nodes)
