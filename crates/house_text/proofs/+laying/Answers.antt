-- `lay_field` lays a field of a node by what it holds, `lay_term` a node by its keyword and its fields. Assumes nothing.
use Prim.Native.Nat.{◌+◌}
use mathlib.Core.Path.{ap, ◌∙◌}
use mathlib.Core.Option.{some}
use native.Mathlib.Omega.{arith}
use Rattle.std.proofs.lemmas.Bool.Decides.{nat_tests}
use Rattle.theory.specs.Names.{bytes_of}
use Rattle.theory.specs.NameText.{names_in}
use Rattle.theory.specs.Text.{bytes}
use Rattle.house_text.specs.Laid.{joined}
use Rattle.house_text.specs.Pieces.{field_piece}
use Rattle.house_text.proofs.Laying.{laid_as, laid_then, laid_stops, laid_nothing, laid_none}
use Rattle.house_text.proofs.NodePieces.{no_term, front_piece}
use Rattle.house_text.proofs.Nodes.{piece_told}
use Rattle.house_text.proofs.Nodes.{node_read, field_below, refused_piece, name_piece, rest_piece, field_next, last_piece}
use Rattle.house_text.proofs.+laying.Goals as goal

pub lay_field-returns-in-Unused : goal.lay_field-returns-in-Unused
unfolding field_piece
lay_field-returns-in-Unused t c =
    let d = c.args.draft in
    laid_as (piece_told d.words.now d.terms.now (names_in d.names.now) c.args.levels c.in-Unused.is c.number-x.ensures)
    (laid_nothing c.args.buf.now c.args.at)

pub lay_field-returns-in_err-next-in-Name : goal.lay_field-returns-in_err-next-in-Name
unfolding field_piece joined bytes
lay_field-returns-in_err-next-in-Name t c =
    let d = c.args.draft in
    rw c.from_residual.ensures
    (laid_as (piece_told d.words.now d.terms.now (names_in d.names.now) c.args.levels c.in-Name.is c.number-x.ensures)
    (laid_stops c.in_err-next-in-Name.ensures (some (bytes_of (names_in d.names.now) c.number-x.result))))

pub lay_field-returns-in_ok-next-in-Name : goal.lay_field-returns-in_ok-next-in-Name
unfolding field_piece joined bytes
lay_field-returns-in_ok-next-in-Name t c =
    let d = c.args.draft in
    laid_as (piece_told d.words.now d.terms.now (names_in d.names.now) c.args.levels c.in-Name.is c.number-x.ensures)
    (laid_then c.in_ok-next-in-Name.ensures c.lay_name.ensures)

pub lay_field-returns-in_err-next-in-Child : goal.lay_field-returns-in_err-next-in-Child
unfolding field_piece joined bytes
lay_field-returns-in_err-next-in-Child t c =
    let d = c.args.draft in
    rw c.from_residual-in_err-next-in-Child.ensures
    (laid_as (piece_told d.words.now d.terms.now (names_in d.names.now) c.args.levels c.in-Child.is c.number-x.ensures)
    (laid_stops c.in_err-next-in-Child.ensures _))

pub lay_field-returns-in_ok-next-in-Child : goal.lay_field-returns-in_ok-next-in-Child
unfolding field_piece joined bytes
lay_field-returns-in_ok-next-in-Child t c =
    let d = c.args.draft in
    laid_as (piece_told d.words.now d.terms.now (names_in d.names.now) c.args.levels c.in-Child.is c.number-x.ensures)
    (laid_then c.in_ok-next-in-Child.ensures c.lay_term.ensures)

pub lay_field-returns-in_err-next-in-Formula : goal.lay_field-returns-in_err-next-in-Formula
unfolding field_piece joined bytes
lay_field-returns-in_err-next-in-Formula t c =
    let d = c.args.draft in
    rw c.from_residual-in_err-next-in-Formula.ensures
    (laid_as (piece_told d.words.now d.terms.now (names_in d.names.now) c.args.levels c.in-Formula.is c.number-x.ensures)
    (laid_stops c.in_err-next-in-Formula.ensures _))

pub lay_field-returns-in_ok-next-in-Formula : goal.lay_field-returns-in_ok-next-in-Formula
unfolding field_piece joined bytes
lay_field-returns-in_ok-next-in-Formula t c =
    let d = c.args.draft in
    laid_as (piece_told d.words.now d.terms.now (names_in d.names.now) c.args.levels c.in-Formula.is c.number-x.ensures)
    (laid_then c.in_ok-next-in-Formula.ensures c.lay_formula.ensures)

pub lay_term-returns-then-levels-eq0 : goal.lay_term-returns-then-levels-eq0
lay_term-returns-then-levels-eq0 t c =
    let args = c.args in
    let d = args.draft in
    laid_as (no_term d.words.now d.terms.now (names_in d.names.now) args.levels args.i c.if-levels-eq0.true)
    (laid_none args.buf.now args.at)

pub lay_term-returns-in_default : goal.lay_term-returns-in_default
unfolding bytes
lay_term-returns-in_default t c =
    laid_as (refused_piece (node_read c.requires.0 c.requires.1 c.number.ensures) (names_in c.args.draft.names.now) c.args.levels
    c.if-levels-eq0.false c.fields_of.ensures c.in_default.is) c.lay.ensures

pub lay_term-returns-then-is_empty : goal.lay_term-returns-then-is_empty
lay_term-returns-then-is_empty t c =
    let names = names_in c.args.draft.names.now in
    laid_as (ap (λ x. some (bytes_of (names_in c.args.draft.names.now) x)) c.number-then-is_empty.ensures
    ∙ name_piece (node_read c.requires.0 c.requires.1 c.number.ensures) names c.args.levels
    c.if-levels-eq0.false c.fields_of.ensures c.in-Some.is (grind (arith, nat_tests)))
    c.lay_name.ensures

pub lay_term-returns-in_err-next : goal.lay_term-returns-in_err-next
unfolding bytes front_piece
lay_term-returns-in_err-next t c =
    rw c.from_residual.ensures
    (laid_as (rest_piece (node_read c.requires.0 c.requires.1 c.number.ensures) (names_in c.args.draft.names.now) c.args.levels
    c.if-levels-eq0.false c.fields_of.ensures c.in-Some.is (grind (arith, nat_tests)) 0)
    (laid_stops c.in_err-next.ensures _))

pub lay_term-loop-j-init : goal.lay_term-loop-j-init
unfolding bytes front_piece
lay_term-loop-j-init t c =
    c.in_ok-next.ensures

pub lay_term-lay_field-requires : goal.lay_term-lay_field-requires
lay_term-lay_field-requires t c =
    let below = field_below (node_read c.requires.0 c.requires.1 c.number.ensures) c.fields_of.ensures c.in-Some.is
    c.loop-j.j c.loop-j-test.true in
    (omega (arith, below.0, c.decreases), (c.requires.0, below.1))

pub lay_term-returns-in_err-next-2 : goal.lay_term-returns-in_err-next-2
lay_term-returns-in_err-next-2 t c =
    let names = names_in c.args.draft.names.now in
    let node = (node_read c.requires.0 c.requires.1 c.number.ensures) in
    let j = c.loop-j.j in
    rw c.from_residual-in_err-next-2.ensures
    (laid_as (rest_piece node names c.args.levels c.if-levels-eq0.false c.fields_of.ensures c.in-Some.is (grind (arith, nat_tests)) (j + 1))
    (laid_stops (laid_as (field_next node names c.args.levels c.if-levels-eq0.false c.fields_of.ensures c.in-Some.is j c.loop-j-test.true)
    (laid_then c.loop-j.invariant c.in_err-next-2.ensures)) _))

pub lay_term-loop-j-preserved : goal.lay_term-loop-j-preserved
lay_term-loop-j-preserved t c =
    laid_as (field_next (node_read c.requires.0 c.requires.1 c.number.ensures) (names_in c.args.draft.names.now)
    c.args.levels c.if-levels-eq0.false c.fields_of.ensures c.in-Some.is c.loop-j.j c.loop-j-test.true)
    (laid_then c.loop-j.invariant c.in_ok-next-2.ensures)

pub lay_term-returns : goal.lay_term-returns
unfolding bytes
lay_term-returns t c =
    laid_as (last_piece (node_read c.requires.0 c.requires.1 c.number.ensures) (names_in c.args.draft.names.now)
    c.args.levels c.if-levels-eq0.false c.fields_of.ensures c.in-Some.is (grind (arith, nat_tests)) c.loop-j.j (omega arith))
    (laid_then c.loop-j.invariant c.lay-3.ensures)
