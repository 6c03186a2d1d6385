-- What the words say: shapes by their kinds, children below, and what theory's book has at an index. And the nodes that 16 bits hold.
-- Assumes nothing.
use Prim.Native.Nat.{ℕ, zero, suc, ◌+◌, ◌<◌}
use mathlib.Core.Path.{◌≡◌, refl, ap, ap₂, ◌∙◌, subst}
use mathlib.Core.List.{List}
use native.Mathlib.Omega.{arith}
use lib.ListN.{length, get_or, take}
use lib.Seq.{length-take-le}
use lib.Dec.{lit≤}
use Rattle.theory.specs.Form.{Shape, is_top, is_bot, is_leaf, is_and, is_or, is_imp, shape, shape_of, Book, look, Below}
use Rattle.theory.specs.Term.{Piece, NodeIn, NamesHave}
use Rattle.theory.specs.Meter as M
use Rattle.theory.proofs.Words.{word_below}
use Rattle.proof_term.proofs.NodeLaws.{Fitting, fitting}
use Rattle.meter.specs.declared.State.{State}
use Rattle.meter.specs.declared.Sequent.{Sequent}
use Rattle.meter.specs.declared.Limits.{Limits}
use Rattle.meter.specs.Moves.{spent}
use Rattle.search_laws.specs.Reading.{Lent, kind_at, left_at, right_at, shape_at, book, Shows}
use Rattle.search_laws.specs.Keeping.{Rep}
use Rattle.search_laws.proofs.Tables.{upto_at}

-- what holds of each shape under its kind's number holds of the shape of a kind's number
pub by_kind : (P : Shape → Type 0) (k l r : ℕ) → (k ≡ 0 → P is_top) → (k ≡ 1 → P is_bot) → (k ≡ 3 → P (is_and l r)) →
    (k ≡ 4 → P (is_or l r)) → (k ≡ 5 → P (is_imp l r)) → ((n : ℕ) → P (is_leaf n l)) → P (shape_of k l r)
unfolding shape_of
by_kind P zero l r a b c d e f = a refl
by_kind P (suc zero) l r a b c d e f = b refl
by_kind P (suc (suc zero)) l r a b c d e f = f 2
by_kind P (suc (suc (suc zero))) l r a b c d e f = c refl
by_kind P (suc (suc (suc (suc zero)))) l r a b c d e f = d refl
by_kind P (suc (suc (suc (suc (suc zero))))) l r a b c d e f = e refl
by_kind P (suc (suc (suc (suc (suc (suc k)))))) l r a b c d e f = f (6 + k)

-- the shape of a word by its kind
pub shape_as : (f : List ℕ) (i : ℕ) {k : ℕ} → kind_at f i ≡ k → shape_at f i ≡ shape_of k (left_at f i) (right_at f i)
unfolding shape_at shape
shape_as f i e = ap (λ (k : ℕ). shape_of k (left_at f i) (right_at f i)) e

pub book_at : (f : List ℕ) (n i : ℕ) → i < n → look (book f n) i ≡ shape_at f i
unfolding book
book_at f n i h = upto_at (λ i. shape_at f i) n i is_top h

-- theory's book has the shape of the word
pub look_at : {x : Lent} {s : State} {S : M.State} → Shows x s S → {i : ℕ} → i < s.formulas → {sh : Shape} → shape_at x.words i ≡ sh →
    look S.words i ≡ sh
look_at {x} {s} sh {i} h e = ap (λ (ws : Book). look ws i) sh.words ∙ book_at x.words s.formulas i h ∙ e

-- children have smaller indices
pub children : {m : Limits} {x : Lent} {s : State} {q : Sequent} → Rep m x s q → {i : ℕ} → i < s.formulas → {sh : Shape} →
    shape_at x.words i ≡ sh → Below i sh
unfolding shape_at
children {m} {x} {s} rep {i} h e =
    let n : length (take i x.words) ≡ i = length-take-le i x.words
    (omega (arith, rep.rooms.words_room, rep.within.in_formulas)) in
    subst (Below i) e (subst (λ (k : ℕ). Below k (shape (get_or x.words i 0))) n
    (word_below (take i x.words) (get_or x.words i 0) (rep.laid i h)))

-- a node whose children, formulas and names are numbers of 16 bits
pub fits16 : (p : Piece) → NodeIn 65536 65536 p → NamesHave (λ x. x < 65536) p → Fitting p
fits16 p = fitting 65536 65536 p (lit≤ tt) (lit≤ tt)

-- nothing spent
pub spent_none : (s : State) → s ≡ spent s s.indices 0 0
spent_none s =
    let a : s.formulas ≡ s.formulas + 0 = omega arith in
    let b : s.terms ≡ s.terms + 0 = omega arith in
    ap₂ (λ (f t : ℕ). record { steps = s.steps; indices = s.indices; formulas = f; terms = t }) a b
