-- The kinds and their numbers: a number's kind has that number, and what a kind asks of a word's fields. Assumes nothing.
use Prim.Native.Nat.{ℕ, zero, suc, ◌≤◌, ◌<◌, ◌^◌}
use mathlib.Core.Path.{◌≡◌, refl, sym, ap, ◌∙◌}
use mathlib.Core.Bool.{Bool, false, ◌&&◌}
use native.Mathlib.Omega.{arith}
use lib.Dec.{ltb, eqb}
use borrow.Author.Tests.{ne_eqb, lt-ltb}
use Rattle.theory.specs.Form.{kind_of, left_of, right_of, good_fields, laid_out}
use Rattle.formula.specs.declared.Kind.{Kind}
use Rattle.formula.specs.declared.Kind.TheVariants.{True, False, Atom, And, Or, Impl, ForAll, Exists, Unknown}
use Rattle.formula.specs.Kinds.{kind_named, number_of, is_leaf}
use Rattle.formula.specs.Leaves.{leaf_kind}

pub number_named : (n : ℕ) → number_of (kind_named n) ≡ n
unfolding kind_named
number_named zero = refl
number_named (suc zero) = refl
number_named (suc (suc zero)) = refl
number_named (suc (suc (suc zero))) = refl
number_named (suc (suc (suc (suc zero)))) = refl
number_named (suc (suc (suc (suc (suc zero))))) = refl
number_named (suc (suc (suc (suc (suc (suc zero)))))) = refl
number_named (suc (suc (suc (suc (suc (suc (suc zero))))))) = refl
number_named (suc (suc (suc (suc (suc (suc (suc (suc k)))))))) = refl

-- what a `match` arm says of the number
pub is_kind : {n : ℕ} {k : Kind} → kind_named n ≡ k → n ≡ number_of k
is_kind {n} e = sym (number_named n) ∙ ap number_of e

-- and the other way, with a number for a kind: `kind_is 3` for And
pub kind_is : (m : ℕ) {n : ℕ} → n ≡ m → kind_named n ≡ kind_named m
kind_is m e = ap kind_named e

-- what a default arm says of the number
pub not_kind : (m : ℕ) {n : ℕ} → (kind_named n ≡ kind_named m → ⊥) → n ≡ m → ⊥
not_kind m f e = f (ap kind_named e)

-- from 8 on there is no kind
pub unknown : (n : ℕ) → 8 ≤ n → kind_named n ≡ Unknown n
unfolding kind_named
unknown zero h = absurd (omega arith)
unknown (suc zero) h = absurd (omega arith)
unknown (suc (suc zero)) h = absurd (omega arith)
unknown (suc (suc (suc zero))) h = absurd (omega arith)
unknown (suc (suc (suc (suc zero)))) h = absurd (omega arith)
unknown (suc (suc (suc (suc (suc zero))))) h = absurd (omega arith)
unknown (suc (suc (suc (suc (suc (suc zero)))))) h = absurd (omega arith)
unknown (suc (suc (suc (suc (suc (suc (suc zero))))))) h = absurd (omega arith)
unknown (suc (suc (suc (suc (suc (suc (suc (suc k)))))))) h = refl

no_leaf : (k : ℕ) → 8 ≤ k → leaf_kind k ≡ false
unfolding leaf_kind
no_leaf k h = rw (ne_eqb k 2 (λ e. omega arith), ne_eqb k 6 (λ e. omega arith), ne_eqb k 7 (λ e. omega arith))

-- a kind is a leaf's where its number is
pub leaf_named : (n : ℕ) → is_leaf (kind_named n) ≡ leaf_kind n
unfolding kind_named leaf_kind
leaf_named zero = refl
leaf_named (suc zero) = refl
leaf_named (suc (suc zero)) = refl
leaf_named (suc (suc (suc zero))) = refl
leaf_named (suc (suc (suc (suc zero)))) = refl
leaf_named (suc (suc (suc (suc (suc zero))))) = refl
leaf_named (suc (suc (suc (suc (suc (suc zero)))))) = refl
leaf_named (suc (suc (suc (suc (suc (suc (suc zero))))))) = refl
leaf_named (suc (suc (suc (suc (suc (suc (suc (suc k)))))))) = sym (no_leaf (suc (suc (suc (suc (suc (suc (suc (suc k)))))))) (omega arith))

-- the fields of a word at index i, by its kind
abbrev pub fields_asked : ℕ → ℕ → ℕ → Kind → Bool
fields_asked i l r True = eqb l 0 && eqb r 0
fields_asked i l r False = eqb l 0 && eqb r 0
fields_asked i l r Atom = eqb r 0
fields_asked i l r And = ltb l i && ltb r i
fields_asked i l r Or = ltb l i && ltb r i
fields_asked i l r Impl = ltb l i && ltb r i
fields_asked i l r ForAll = eqb r 0
fields_asked i l r Exists = eqb r 0
fields_asked i l r (Unknown k) = false

by_kind : (i n l r : ℕ) → good_fields i n l r ≡ fields_asked i l r (kind_named n)
unfolding good_fields kind_named
by_kind i zero l r = refl
by_kind i (suc zero) l r = refl
by_kind i (suc (suc zero)) l r = refl
by_kind i (suc (suc (suc zero))) l r = refl
by_kind i (suc (suc (suc (suc zero)))) l r = refl
by_kind i (suc (suc (suc (suc (suc zero))))) l r = refl
by_kind i (suc (suc (suc (suc (suc (suc zero)))))) l r = refl
by_kind i (suc (suc (suc (suc (suc (suc (suc zero))))))) l r = refl
by_kind i (suc (suc (suc (suc (suc (suc (suc (suc k)))))))) l r = refl

-- the layout of a word of 32 bits is what its kind asks of its fields
pub laid_by_kind : (i w : ℕ) → w < 2 ^ 32 → laid_out i w ≡ fields_asked i (left_of w) (right_of w) (kind_named (kind_of w))
unfolding laid_out
laid_by_kind i w h = rw (lt-ltb w 4294967296 h) (by_kind i (kind_of w) (left_of w) (right_of w))
