-- A text has a byte at least for each node of its tree, so a writer that stops at the end of its buffer stops. Assumes nothing.
use Prim.Native.Nat.{ℕ, suc, ◌+◌, ◌≤◌}
use mathlib.Core.Path.{◌≡◌, refl}
use mathlib.Core.Bool.{Bool, true, false}
use mathlib.Core.List.{List, [], ◌∷◌, ◌++◌}
use native.Mathlib.Omega.{arith}
use lib.Dec.{leb}
use lib.ListN.{length, length-append}
use Rattle.theory.specs.Form.{Form, top, bot, leaf, and, or, imp}
use Rattle.theory.specs.Term.{Term, Ident, Pair, Fst, Snd, Fn, App, Inl, Inr, Case, Abort, Asc, Unit'}
use Rattle.theory.specs.Names.{bytes_of}
use Rattle.theory.specs.WellFormed.{WellNamed}
use Rattle.theory.specs.Text.{bytes, decimal, leaf_text, form_text, term_text}
use Rattle.theory.proofs.Forms.{snoc_length}

-- the nodes of a tree, each as often as it is written
pub form_nodes : Form → ℕ
form_nodes top = 1
form_nodes bot = 1
form_nodes (leaf k s) = 1
form_nodes (and A B) = suc (form_nodes A + form_nodes B)
form_nodes (or A B) = suc (form_nodes A + form_nodes B)
form_nodes (imp A B) = suc (form_nodes A + form_nodes B)

pub term_nodes : Term → ℕ
term_nodes (Ident x) = 1
term_nodes (Pair s t) = suc (term_nodes s + term_nodes t)
term_nodes (Fst t) = suc (term_nodes t)
term_nodes (Snd t) = suc (term_nodes t)
term_nodes (Fn x t) = suc (term_nodes t)
term_nodes (App s t) = suc (term_nodes s + term_nodes t)
term_nodes (Inl t) = suc (term_nodes t)
term_nodes (Inr t) = suc (term_nodes t)
term_nodes (Case h x s y t) = suc (term_nodes h + (term_nodes s + term_nodes t))
term_nodes (Abort t) = suc (term_nodes t)
term_nodes (Asc t A) = suc (term_nodes t + form_nodes A)
term_nodes Unit' = 1

-- two texts with a space between them, and with a bracket behind them
both_length : (x y : List ℕ) → length (x ++ (32 ∷ y)) ≡ suc (length x + length y)
both_length x y = omega (arith, length-append x (32 ∷ y))

two_length : (x y : List ℕ) → length (x ++ (32 ∷ (y ++ (41 ∷ [])))) ≡ 2 + (length x + length y)
two_length x y = omega (arith, both_length x (y ++ (41 ∷ [])), snoc_length y 41)

letter_length : (k : ℕ) → length (leaf_text k) ≡ 1
unfolding leaf_text bytes
letter_length k = go (leb k 2) (leb k 6)
  where
    go : (a b : Bool) → length {A = ℕ} (elim a [ true ↦ bytes "p" | false ↦ elim b [ true ↦ bytes "U" | false ↦ bytes "E" ] ]) ≡ 1
    go true b = refl
    go false true = refl
    go false false = refl

pub form_nodes_lem : (A : Form) → form_nodes A ≤ length (form_text A)
unfolding form_nodes form_text bytes
form_nodes_lem top = omega arith
form_nodes_lem bot = omega arith
form_nodes_lem (leaf k s) = omega (arith, length-append (leaf_text k) (decimal s), letter_length k)
form_nodes_lem (and A B) = omega (arith, form_nodes_lem A, form_nodes_lem B, two_length (form_text A) (form_text B))
form_nodes_lem (or A B) = omega (arith, form_nodes_lem A, form_nodes_lem B, two_length (form_text A) (form_text B))
form_nodes_lem (imp A B) = omega (arith, form_nodes_lem A, form_nodes_lem B, two_length (form_text A) (form_text B))

-- of a term whose names have bytes
pub term_nodes_lem : (names : List (List ℕ)) (t : Term) → WellNamed (λ x. 1 ≤ length (bytes_of names x)) t →
    term_nodes t ≤ length (term_text names t)
unfolding term_nodes term_text bytes_of bytes
term_nodes_lem n (Ident x) g = g
term_nodes_lem n (Pair s t) g = omega (arith, term_nodes_lem n s g.0, term_nodes_lem n t g.1, two_length (term_text n s) (term_text n t))
term_nodes_lem n (Fst t) g = omega (arith, term_nodes_lem n t g, snoc_length (term_text n t) 41)
term_nodes_lem n (Snd t) g = omega (arith, term_nodes_lem n t g, snoc_length (term_text n t) 41)
term_nodes_lem n (Fn x t) g = omega (arith, term_nodes_lem n t g.1, two_length (bytes_of n x) (term_text n t))
term_nodes_lem n (App s t) g = omega (arith, term_nodes_lem n s g.0, term_nodes_lem n t g.1, two_length (term_text n s) (term_text n t))
term_nodes_lem n (Inl t) g = omega (arith, term_nodes_lem n t g, snoc_length (term_text n t) 41)
term_nodes_lem n (Inr t) g = omega (arith, term_nodes_lem n t g, snoc_length (term_text n t) 41)
term_nodes_lem n (Case h x s y t) g =
    let last : List ℕ = bytes_of n y ++ (32 ∷ (term_text n t ++ (41 ∷ []))) in
    let branches : List ℕ = term_text n s ++ (32 ∷ last) in
    omega (
      arith,
      term_nodes_lem n h g.0,
      term_nodes_lem n s g.2,
      term_nodes_lem n t g.4,
      two_length (bytes_of n y) (term_text n t),
      both_length (term_text n s) last,
      both_length (bytes_of n x) branches,
      both_length (term_text n h) (bytes_of n x ++ (32 ∷ branches)),
    )
term_nodes_lem n (Abort t) g = omega (arith, term_nodes_lem n t g, snoc_length (term_text n t) 41)
term_nodes_lem n (Asc t A) g = omega (arith, term_nodes_lem n t g.0, form_nodes_lem A, two_length (term_text n t) (form_text A))
term_nodes_lem n Unit' g = omega arith
