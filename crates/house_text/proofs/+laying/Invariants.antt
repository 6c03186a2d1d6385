-- `lay_term` and `lay_field` call each other. The measure of a node is its index, doubled, and one: its children have smaller indices, and
-- a child's field lies between the two. The loop has laid the keyword and the fields before `j`. Assumes nothing.
use Rattle.std.proofs.Common.{◌+◌, ◌-◌, get_or, Some}
use Rattle.std.proofs.Math.Option.{some}
use Rattle.theory.specs.NameText.{names_in}
use Rattle.proof_term.specs.Kinds.{field_as}
use Rattle.house_text.specs.Laid.{Laid}
use Rattle.house_text.proofs.NodePieces.{front_piece}
use Rattle.house_text.proofs.Nodes.{weight, layout_of, numbers_of}
use Rattle.house_text.proofs.+laying.Given as goal

abbrev pub decreases-lay_field : goal.decreases-lay_field
decreases-lay_field l = weight (field_as l.what) (get_or l.draft.terms.now l.place 0)

abbrev pub decreases-lay_term : goal.decreases-lay_term
decreases-lay_term l = l.i + l.i + 1

abbrev pub invariant-lay_term-loop-j : goal.invariant-lay_term-loop-j
invariant-lay_term-loop-j l =
    Laid (front_piece l.draft.words.now l.draft.terms.now (names_in l.draft.names.now) (l.levels - 1)
    (some l.fields.keyword.now) (layout_of l.fields) (numbers_of l.draft.terms.now l.i) l.j) l.fn.buf l.fn.at l.buf
    (Some l.next)
