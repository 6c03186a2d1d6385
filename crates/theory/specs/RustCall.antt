-- What the Rust is given for a claim, what it returns whatever the depth, if that suffices, and what an answer of the search is in its
-- words. Assumes nothing.
use Rattle.std.specs.Prelude.{ℕ, ◌≤◌, ◌≡◌, true, false, List, [], ◌∷◌, map, leb}
use Rattle.theory.specs.Form.{Form, form}
use Rattle.theory.specs.Term.{term}
use Rattle.theory.specs.NameText.{names_in}
use Rattle.theory.specs.Meter.{Answer, found, failed, short, unfinished}
use Rattle.theory.specs.Call.{Claim, given_book, Outcome, proved, unprovable, shortage, refused}
use Rattle.theory.specs.RustTerm.{named}
use Rattle.theory.specs.RustProver.{Returned, Some, None, overflow, panicked, unended, prove_with_assumptions}

-- names and formulas side by side, in order
unfoldable pub paired : List (List ℕ) → List Form → List (List ℕ × Form)
paired [] As = []
paired (n ∷ ns) [] = []
paired (n ∷ ns) (A ∷ As) = (n, A) ∷ paired ns As

-- the assumptions and the goal of a claim, as trees
unfoldable pub assumptions_of : Claim → List (List ℕ × Form)
assumptions_of x = paired (names_in x.text) (map (form (given_book x)) x.assumed)

unfoldable pub goal_of : Claim → Form
goal_of x = form (given_book x) x.goal

-- `prove_with_assumptions` returns r
pub record Returns (prop : Form) (assumptions : List (List ℕ × Form)) (r : Returned) : Type 0 where
  pub depth : ℕ
  pub is : (d : ℕ) → depth ≤ d → prove_with_assumptions d prop assumptions ≡ r

-- "From 364 on the Rust's power overflows": r, where u indices are used and none of them passes 363
unfoldable pub unless_past : ℕ → Returned → Returned
unless_past u r = elim (leb u 364) [ true ↦ r | false ↦ panicked overflow ]

-- an answer in the Rust's words, names as bytes; a shortage is none
unfoldable pub in_rust : List (List ℕ) → Answer → Returned
in_rust names (found t s) = unless_past s.used (Some (named names (term s.words s.nodes t)) s.used)
in_rust names (failed u n m) = unless_past u (None u)
in_rust names (short l n) = unended
in_rust names unfinished = unended

-- an outcome that is Proved or Unprovable with no index past 363
abbrev pub UpTo363 : Outcome → Type 0
UpTo363 (proved r n u f t) = u ≤ 364
UpTo363 (unprovable n u f t) = u ≤ 364
UpTo363 (shortage l n) = ⊥
UpTo363 (refused f i) = ⊥
