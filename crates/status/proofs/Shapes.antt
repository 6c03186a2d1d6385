-- What a word's kind tells of its shape: which leaf is open, and which formula has parts. Assumes nothing.
use Prim.Native.Nat.{ℕ, zero, suc, ◌+◌}
use mathlib.Core.Path.{◌≡◌, refl, sym, ap, ◌∙◌}
use mathlib.Core.Bool.{Bool, true, false, ◌||◌, not}
use mathlib.Core.List.{List}
use native.Mathlib.Omega.{arith}
use borrow.Author.Tests.{ne_eqb}
use lib.Dec.{leb}
use lib.ListN.{set}
use Rattle.theory.specs.Form.{kind_of, left_of, right_of, shape, shape_of}
use Rattle.theory.specs.Status.{open_leaf}
use Rattle.formula.specs.declared.Kind.{Kind}
use Rattle.formula.specs.declared.Kind.TheVariants.{True, False, Atom, And, Or, Impl, ForAll, Exists, Unknown}
use Rattle.formula.specs.Kinds.{kind_named}
use Rattle.context.specs.Area.{Rec}
use Rattle.status.specs.Marks.{open_by_itself, mark, parts_marked}

-- whether a word of a kind with this left field is open by itself
abbrev pub open_kind : ℕ → Kind → Bool
open_kind l True = false
open_kind l False = false
open_kind l Atom = leb 8192 l
open_kind l And = false
open_kind l Or = false
open_kind l Impl = false
open_kind l ForAll = true
open_kind l Exists = true
open_kind l (Unknown k) = true

by_kind : (k l r : ℕ) → open_kind l (kind_named k) ≡ open_by_itself (shape_of k l r)
unfolding open_by_itself open_leaf shape_of kind_named
by_kind zero l r = refl
by_kind (suc zero) l r = refl
by_kind (suc (suc zero)) l r = refl
by_kind (suc (suc (suc zero))) l r = refl
by_kind (suc (suc (suc (suc zero)))) l r = refl
by_kind (suc (suc (suc (suc (suc zero))))) l r = refl
by_kind (suc (suc (suc (suc (suc (suc zero)))))) l r = refl
by_kind (suc (suc (suc (suc (suc (suc (suc zero))))))) l r = refl
by_kind (suc (suc (suc (suc (suc (suc (suc (suc k)))))))) l r =
    ap (λ (b : Bool). not b || leb 8192 l) (let e = ne_eqb (6 + suc (suc k)) 2 (λ e. omega arith) in sym e)

-- what a word's kind says of it
pub open_word : (w : ℕ) {k : Kind} → k ≡ kind_named (kind_of w) → open_kind (left_of w) k ≡ open_by_itself (shape w)
unfolding shape
open_word w e = ap (open_kind (left_of w)) e ∙ by_kind (kind_of w) (left_of w) (right_of w)

-- the records after both parts of a word of a kind are marked
abbrev pub kind_marked : ℕ → ℕ → Kind → List Rec → List Rec
kind_marked l r True w = w
kind_marked l r False w = w
kind_marked l r Atom w = w
kind_marked l r And w = set (set w l mark) r mark
kind_marked l r Or w = set (set w l mark) r mark
kind_marked l r Impl w = set (set w l mark) r mark
kind_marked l r ForAll w = w
kind_marked l r Exists w = w
kind_marked l r (Unknown k) w = w

marked_by_kind : (k l r : ℕ) (w : List Rec) → kind_marked l r (kind_named k) w ≡ parts_marked (shape_of k l r) w
unfolding parts_marked shape_of kind_named
marked_by_kind zero l r w = refl
marked_by_kind (suc zero) l r w = refl
marked_by_kind (suc (suc zero)) l r w = refl
marked_by_kind (suc (suc (suc zero))) l r w = refl
marked_by_kind (suc (suc (suc (suc zero)))) l r w = refl
marked_by_kind (suc (suc (suc (suc (suc zero))))) l r w = refl
marked_by_kind (suc (suc (suc (suc (suc (suc zero)))))) l r w = refl
marked_by_kind (suc (suc (suc (suc (suc (suc (suc zero))))))) l r w = refl
marked_by_kind (suc (suc (suc (suc (suc (suc (suc (suc k)))))))) l r w = refl

pub word_marked : (v : ℕ) (w : List Rec) {k : Kind} → k ≡ kind_named (kind_of v) →
    kind_marked (left_of v) (right_of v) k w ≡ parts_marked (shape v) w
unfolding shape
word_marked v w e =
    ap (λ (k : Kind). kind_marked (left_of v) (right_of v) k w) e ∙ marked_by_kind (kind_of v) (left_of v) (right_of v) w

-- a kind that has no parts
pub no_parts : (l r : ℕ) (k : Kind) (w : List Rec) → (k ≡ And → ⊥) → (k ≡ Or → ⊥) → (k ≡ Impl → ⊥) → kind_marked l r k w ≡ w
no_parts l r True w f g h = refl
no_parts l r False w f g h = refl
no_parts l r Atom w f g h = refl
no_parts l r And w f g h = absurd (f refl)
no_parts l r Or w f g h = absurd (g refl)
no_parts l r Impl w f g h = absurd (h refl)
no_parts l r ForAll w f g h = refl
no_parts l r Exists w f g h = refl
no_parts l r (Unknown k) w f g h = refl
