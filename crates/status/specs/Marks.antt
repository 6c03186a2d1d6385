-- The marks that decide whether the goal is open: which leaves are, what a formula's marked parts leave in the work area, and whether a
-- marked formula is open. Assumes nothing.
use Rattle.std.specs.Prelude.{ℕ, zero, suc, Bool, false, ◌||◌, ◌&&◌, not, List, set, eqb}
use Rattle.theory.specs.Form.{Shape, is_top, is_bot, is_leaf, is_and, is_or, is_imp, Book, form}
use Rattle.theory.specs.Status.{open_leaf, open_form}
use Rattle.context.specs.Area.{Rec, rec, formula_at}

-- a formula whose word alone tells that it is open: a leaf
unfoldable pub open_by_itself : Shape → Bool
open_by_itself is_top = false
open_by_itself is_bot = false
open_by_itself (is_leaf k s) = open_leaf k s
open_by_itself (is_and l r) = false
open_by_itself (is_or l r) = false
open_by_itself (is_imp l r) = false

abbrev pub mark : Rec
mark = rec 1 0

-- the records after both parts of a formula are marked
unfoldable pub parts_marked : Shape → List Rec → List Rec
parts_marked is_top w = w
parts_marked is_bot w = w
parts_marked (is_leaf k s) w = w
parts_marked (is_and l r) w = set (set w l mark) r mark
parts_marked (is_or l r) w = set (set w l mark) r mark
parts_marked (is_imp l r) w = set (set w l mark) r mark

-- a formula that is marked and open
unfoldable pub open_here : Book → List Rec → ℕ → Bool
open_here b w i = not (eqb (formula_at w i) 0) && open_form (form b i)

-- one of the formulas below n is
unfoldable pub some_open : Book → List Rec → ℕ → Bool
some_open b w zero = false
some_open b w (suc n) = open_here b w n || some_open b w n
