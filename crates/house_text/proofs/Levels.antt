-- Pieces of a text whose tree may have so many nodes on a path: one behind another has the larger depth. Assumes nothing.
use Prim.Native.Nat.{ℕ, suc, ◌≤◌, ◌<◌}
use mathlib.Core.Path.{◌≡◌, refl, sym, ap, ◌∙◌}
use mathlib.Core.Bool.{Bool, true, false}
use mathlib.Core.Option.{Option, none, some}
use mathlib.Core.List.{List, ◌++◌}
use native.Mathlib.Omega.{arith}
use borrow.Author.Tests.{le-leb, lt-leb, leb-true, leb-false}
use lib.Dec.{leb, leb-suc-suc}
use Rattle.theory.specs.Writer.{larger}
use Rattle.house_text.specs.Laid.{joined}
use Rattle.house_text.specs.Pieces.{up_to}
use Rattle.house_text.proofs.Laying.{joined_none}

abbrev Text : Type 0
Text = Option (List ℕ)

pub deep_enough : (l d : ℕ) (x : List ℕ) → d ≤ l → up_to l d x ≡ some x
unfolding up_to
deep_enough l d x h = rw (le-leb d l h, up_to)

pub too_deep : (l d : ℕ) (x : List ℕ) → l < d → up_to l d x ≡ none
unfolding up_to
too_deep l d x h = rw (lt-leb d l h, up_to)

one_more : (l d : ℕ) (x : List ℕ) → up_to l d x ≡ up_to (suc l) (suc d) x
unfolding up_to
one_more l d x = ap (λ (t : Bool). elim t as (λ c. Text) [ true ↦ some x | false ↦ none ]) (sym (leb-suc-suc d l))

-- the larger of two numbers
larger_least : {d e l : ℕ} → d ≤ l → e ≤ l → larger d e ≤ l
unfolding larger
larger_least {d} {e} {l} p q = go (leb d e)
  where
    go : (t : Bool) → elim t [ true ↦ e | false ↦ d ] ≤ l
    go true = q
    go false = p

larger_left : (d e : ℕ) → d ≤ larger d e
unfolding larger
larger_left d e = go (leb d e) refl
  where
    go : (t : Bool) → leb d e ≡ t → d ≤ elim t [ true ↦ e | false ↦ d ]
    go true p = leb-true d e p
    go false p = omega arith

larger_right : (d e : ℕ) → e ≤ larger d e
unfolding larger
larger_right d e = go (leb d e) refl
  where
    go : (t : Bool) → leb d e ≡ t → e ≤ elim t [ true ↦ e | false ↦ d ]
    go true p = omega arith
    go false p = omega (arith, leb-false d e p)

-- p is the text x of a tree with d nodes on its longest path, where l levels are left
pub record Whole (p : Text) (l d : ℕ) (x : List ℕ) : Type 0 where
  pub is : p ≡ up_to l d x

pub whole : (l d : ℕ) (x : List ℕ) → Whole (up_to l d x) l d x
whole l d x = record { is = refl }

-- a node above the tree
pub above : {p : Text} {l d : ℕ} {x : List ℕ} → Whole p l d x → Whole p (suc l) (suc d) x
above {p} {l} {d} {x} w = record { is = w.is ∙ one_more l d x }

pub alone : (l : ℕ) (x : List ℕ) → Whole (some x) (suc l) 1 x
alone l x = record { is = sym (deep_enough (suc l) 1 x (omega arith)) }

-- a text of no tree before it, and behind it
pub before_it : (x : List ℕ) {p : Text} {l d : ℕ} {y : List ℕ} → Whole p l d y → Whole (joined (some x) p) l d (x ++ y)
unfolding joined up_to
before_it x {p} {l} {d} {y} w = record { is = ap (joined (some x)) w.is ∙ go (leb d l) }
  where
    go : (t : Bool) → joined (some x) (elim t as (λ c. Text) [ true ↦ some y | false ↦ none ]) ≡
        elim t as (λ c. Text) [ true ↦ some (x ++ y) | false ↦ none ]
    go true = refl
    go false = refl

pub behind_it : {p : Text} {l d : ℕ} {x : List ℕ} → Whole p l d x → (y : List ℕ) → Whole (joined p (some y)) l d (x ++ y)
unfolding joined up_to
behind_it {p} {l} {d} {x} w y = record { is = ap (λ (q : Text). joined q (some y)) w.is ∙ go (leb d l) }
  where
    go : (t : Bool) → joined (elim t as (λ c. Text) [ true ↦ some x | false ↦ none ]) (some y) ≡
        elim t as (λ c. Text) [ true ↦ some (x ++ y) | false ↦ none ]
    go true = refl
    go false = refl

both : (l d e : ℕ) (x y : List ℕ) → joined (up_to l d x) (up_to l e y) ≡ up_to l (larger d e) (x ++ y)
unfolding joined
both l d e x y = go (leb d l) (leb e l) refl refl
  where
    go : (s t : Bool) → leb d l ≡ s → leb e l ≡ t → joined (up_to l d x) (up_to l e y) ≡ up_to l (larger d e) (x ++ y)
    go true true p q =
        let h : d ≤ l = leb-true d l p in
        let k : e ≤ l = leb-true e l q in
        rw (deep_enough l d x h, deep_enough l e y k) (sym (deep_enough l (larger d e) (x ++ y) (larger_least h k)))
    go true false p q =
        let k : l < e = leb-false e l q in
        ap (joined (up_to l d x)) (too_deep l e y k) ∙ joined_none (up_to l d x)
        ∙ sym (too_deep l (larger d e) (x ++ y) (omega (arith, larger_right d e)))
    go false t p q =
        let h : l < d = leb-false d l p in
        ap (λ (z : Text). joined z (up_to l e y)) (too_deep l d x h)
        ∙ sym (too_deep l (larger d e) (x ++ y) (omega (arith, larger_left d e)))

-- two trees of one node
pub beside : {p q : Text} {l d e : ℕ} {x y : List ℕ} → Whole p l d x → Whole q l e y → Whole (joined p q) l (larger d e) (x ++ y)
beside {p} {q} {l} {d} {e} {x} {y} v w = record {
  is = ap (λ (z : Text). joined z q) v.is ∙ ap (joined (up_to l d x)) w.is ∙ both l d e x y;
}
