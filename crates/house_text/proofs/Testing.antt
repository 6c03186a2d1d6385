-- The tests of the writer in their order: the first that refuses decides. Assumes nothing.
use Prim.Native.Nat.{ℕ, ◌*◌, ◌≤◌}
use mathlib.Core.Path.{◌≡◌, sym, ap, subst}
use mathlib.Core.Bool.{Bool, true, false, ◌&&◌}
use mathlib.Core.Option.{Option}
use lib.Dec.{T, leb, leb→le}
use lib.ListN.{length, take}
use Rattle.theory.specs.Form.{bad_word}
use Rattle.theory.specs.NameText.{names_in, bad_name}
use Rattle.theory.specs.Layout.{node_width, bad_term}
use Rattle.theory.specs.Refusal.{Sizes, BadFormula, BadAssumption, BadNames, BadTerm, Refused, fault_at, or_else, unless}
use Rattle.theory.specs.Refusal.{formula_sizes, term_sizes, node_sizes, too_many}
use Rattle.theory.specs.Writer.{Draft, writer_refusal}
use Rattle.theory.proofs.Tests.{and_right}

pub wrong_words : {a : Bool} (b : Bool) → false ≡ a → false ≡ (a && b)
wrong_words b e = ap (λ (t : Bool). t && b) e

pub right_words : {a : Bool} (b : Bool) → true ≡ a → b ≡ (a && b)
right_words b e = ap (λ (t : Bool). t && b) e

-- the slice has room for the nodes where the sizes are right
pub nodes_fit : (words count numbers nodes : ℕ) → (formula_sizes words count && node_sizes numbers nodes) ≡ true →
    nodes * node_width ≤ numbers
unfolding node_sizes
nodes_fit words count numbers nodes e =
    leb→le (nodes * node_width) numbers
    (and_right (term_sizes numbers) (leb (nodes * node_width) numbers)
    (and_right (formula_sizes words count) (node_sizes numbers nodes) (subst T (sym e) tt)))

-- what the tests say, in their order
abbrev pub in_order : Bool → Option ℕ → Option ℕ → Option ℕ → Option ℕ → Option Refused
in_order sizes words many names terms =
    or_else (fault_at Sizes (unless sizes)) (or_else (fault_at BadFormula words) (or_else (fault_at BadAssumption many)
    (or_else (fault_at BadNames names) (fault_at BadTerm terms))))

pub in_order_lem : (x : Draft) {s : Bool} {w m n t : Option ℕ} →
    s ≡ (formula_sizes (length x.words) x.count && node_sizes (length x.terms) x.nodes) →
    w ≡ bad_word (take x.count x.words) → m ≡ too_many x.assumptions → n ≡ bad_name x.assumptions x.text →
    t ≡ bad_term (names_in x.text) x.count x.terms x.nodes x.root → in_order s w m n t ≡ writer_refusal x
unfolding writer_refusal
in_order_lem x {s} {w} {m} {n} {t} a b c d e = cc
