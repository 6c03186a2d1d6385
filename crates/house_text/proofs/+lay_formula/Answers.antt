-- `lay_formula` lays a formula by its word, the halves by itself. The measure is the index: the halves have smaller ones. Assumes nothing.
use Prim.Native.Nat.{ℕ}
use mathlib.Core.Path.{refl, ap}
use native.Mathlib.Omega.{arith}
use lib.ListN.{get_or}
use Rattle.theory.specs.Form.{kind_of}
use Rattle.theory.specs.Text.{bytes}
use Rattle.house_text.proofs.Laying.{laid_as, laid_then, laid_stops, laid_none}
use Rattle.house_text.proofs.FormulaPieces.{Opens, opens_and, opens_or, opens_impl, atom_leaf, all_leaf, late_leaf}
use Rattle.house_text.proofs.FormulaPieces.{word_read, no_formula, true_piece, false_piece, leaf_piece, halves_below, halves_piece}
use Rattle.house_text.proofs.+lay_formula.Goals as goal
use Rattle.house_text.proofs.+lay_formula.Goals.{Joined-kind_at, in-And, in-Or, in-Impl}

-- what stands before the halves, whichever arm it comes from
opens : (t : ℕ) (c : Joined-kind_at t) → Opens (kind_of (get_or c.args.words.now c.args.i 0)) c.match-kind_at.opening.now
unfolding bytes
opens t c =
    elim c.match-kind_at.branch [
      | in-And w ↦ opens_and w.in-And.ensures (ap (λ r. r.now) w.opening-is)
      | in-Or w ↦ opens_or w.in-Or.ensures (ap (λ r. r.now) w.opening-is)
      | in-Impl w ↦ opens_impl w.in-Impl.ensures (ap (λ r. r.now) w.opening-is)
    ]

pub returns-then-levels-eq0 : goal.returns-then-levels-eq0
returns-then-levels-eq0 t c =
    let args = c.args in
    laid_as (no_formula args.words.now args.levels args.i c.if-levels-eq0.true) (laid_none args.buf.now args.at)

pub returns-in-True : goal.returns-in-True
unfolding bytes
returns-in-True t c =
    laid_as (true_piece (word_read c.requires.good c.requires.inside refl c.left_at-left.ensures) c.args.levels
    c.if-levels-eq0.false c.in-True.ensures) c.lay.ensures

pub returns-in-False : goal.returns-in-False
unfolding bytes
returns-in-False t c =
    laid_as (false_piece (word_read c.requires.good c.requires.inside refl c.left_at-left.ensures) c.args.levels
    c.if-levels-eq0.false c.in-False.ensures) c.lay-in-False.ensures

pub returns-in-Atom : goal.returns-in-Atom
returns-in-Atom t c =
    laid_as (leaf_piece (word_read c.requires.good c.requires.inside refl c.left_at-left.ensures) c.args.levels
    c.if-levels-eq0.false (atom_leaf c.in-Atom.ensures)) c.lay_leaf.ensures

pub returns-in-ForAll : goal.returns-in-ForAll
returns-in-ForAll t c =
    laid_as (leaf_piece (word_read c.requires.good c.requires.inside refl c.left_at-left.ensures) c.args.levels
    c.if-levels-eq0.false (all_leaf c.in-ForAll.ensures)) c.lay_leaf-in-ForAll.ensures

pub returns-in-Exists : goal.returns-in-Exists
returns-in-Exists t c =
    laid_as (leaf_piece (word_read c.requires.good c.requires.inside refl c.left_at-left.ensures) c.args.levels
    c.if-levels-eq0.false (late_leaf c.kind_at.ensures c.in-Exists.is)) c.lay_leaf-in-Exists.ensures

pub lay_formula-requires : goal.lay_formula-requires
lay_formula-requires t c =
    let below = halves_below (word_read c.requires.good c.requires.inside refl c.left_at-left.ensures) refl
    (opens t (goal.at.lay_formula-requires t c).Joined-kind_at) in
    (omega (arith, below, c.requires), (c.requires.good, omega (arith, below, c.requires)))

pub lay_formula-requires-2 : goal.lay_formula-requires-2
lay_formula-requires-2 t c =
    let below = halves_below (word_read c.requires.good c.requires.inside refl c.left_at-left.ensures) c.right_at.ensures
    (opens t (goal.at.lay_formula-requires-2 t c).Joined-kind_at) in
    (omega (arith, below, c.requires), (c.requires.good, omega (arith, below, c.requires)))

pub returns-in_err-opened : goal.returns-in_err-opened
unfolding bytes
returns-in_err-opened t c =
    rw c.from_residual.ensures (laid_as (halves_piece (word_read c.requires.good c.requires.inside refl c.left_at-left.ensures)
    c.args.levels c.if-levels-eq0.false refl (opens t (goal.at.returns-in_err-opened t c).Joined-kind_at))
    (laid_stops c.in_err-opened.ensures _))

pub returns-in_err-one : goal.returns-in_err-one
unfolding bytes
returns-in_err-one t c =
    rw c.from_residual-in_err-one.ensures (laid_as (halves_piece (word_read c.requires.good c.requires.inside refl c.left_at-left.ensures)
    c.args.levels c.if-levels-eq0.false refl (opens t (goal.at.returns-in_err-one t c).Joined-kind_at))
    (laid_then c.in_ok-opened.ensures (laid_stops c.in_err-one.ensures _)))

pub returns-in_err-between : goal.returns-in_err-between
unfolding bytes
returns-in_err-between t c =
    rw c.from_residual-in_err-between.ensures
    (laid_as (halves_piece (word_read c.requires.good c.requires.inside refl c.left_at-left.ensures)
    c.args.levels c.if-levels-eq0.false refl (opens t (goal.at.returns-in_err-between t c).Joined-kind_at))
    (laid_then c.in_ok-opened.ensures (laid_then c.in_ok-one.ensures (laid_stops c.in_err-between.ensures _))))

pub returns-in_err-two : goal.returns-in_err-two
unfolding bytes
returns-in_err-two t c =
    rw c.from_residual-in_err-two.ensures (laid_as (halves_piece (word_read c.requires.good c.requires.inside refl c.left_at-left.ensures)
    c.args.levels c.if-levels-eq0.false c.right_at.ensures (opens t (goal.at.returns-in_err-two t c).Joined-kind_at))
    (laid_then c.in_ok-opened.ensures (laid_then c.in_ok-one.ensures (laid_then c.in_ok-between.ensures
    (laid_stops c.in_err-two.ensures _)))))

pub returns : goal.returns
unfolding bytes
returns t c =
    laid_as (halves_piece (word_read c.requires.good c.requires.inside refl c.left_at-left.ensures)
    c.args.levels c.if-levels-eq0.false c.right_at.ensures (opens t (goal.at.returns t c).Joined-kind_at))
    (laid_then c.in_ok-opened.ensures (laid_then c.in_ok-one.ensures (laid_then c.in_ok-between.ensures
    (laid_then c.in_ok-two.ensures c.lay-4.ensures))))
