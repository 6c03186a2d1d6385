-- `proved_lines` writes the text and lays the lines of what the writer answers. Assumes nothing.
use mathlib.Core.Path.{sym, ap, ◌∙◌, subst}
use mathlib.Core.List.{List}
use Prim.Native.Nat.{ℕ, ◌≤◌}
use lib.ListN.{length}
use lib.Seq.{length-take-le}
use Rattle.theory.specs.NameText.{padded}
use Rattle.house_file.proofs.Lines.{size_inside, lines_written, lines_refused, refused_small}
use Rattle.house_file.proofs.proved_lines.Goals as goal

pub slice_bounds-text-end : goal.slice_bounds-text-end
slice_bounds-text-end c = size_inside _ c.in-Ok.ensures.written

pub slice_bounds-text-end-in-Ok : goal.slice_bounds-text-end-in-Ok
slice_bounds-text-end-in-Ok c =
    sym (length-take-le c.in-Ok.size c.write_text.new.buf (size_inside _ c.in-Ok.ensures.written))

pub proved-requires-clause-room : goal.proved-requires-clause-room
proved-requires-clause-room c =
    let args = c.args in
    subst (λ (xs : List ℕ). length xs ≤ length args.out.now)
    (lines_written _ args.used.steps args.used.indices args.used.formulas args.used.terms c.in-Ok.ensures.written) c.requires.room

pub returns-in-Ok : goal.returns-in-Ok
returns-in-Ok c =
    let args = c.args in
    let lines = sym (lines_written _ args.used.steps args.used.indices args.used.formulas args.used.terms c.in-Ok.ensures.written) in
    record {
      out = c.proved.ensures.out ∙ ap (padded (length args.out.now)) lines;
      length = c.proved.ensures.length ∙ ap length lines;
    }

pub refused-requires-clause-printable : goal.refused-requires-clause-printable
refused-requires-clause-printable c = rw c.number.ensures (refused_small _ c.in-Err.refusal c.in-Err.ensures.written)

pub refused-requires-clause-room : goal.refused-requires-clause-room
refused-requires-clause-room c =
    let args = c.args in
    rw c.number.ensures (subst (λ (xs : List ℕ). length xs ≤ length args.out.now)
    (lines_refused _ args.used.steps args.used.indices args.used.formulas args.used.terms c.in-Err.refusal c.in-Err.ensures.written)
    c.requires.room)

pub returns-in-Err : goal.returns-in-Err
returns-in-Err c =
    let args = c.args in
    let refused = c.in-Err.ensures.written in
    let lines = sym (lines_refused _ args.used.steps args.used.indices args.used.formulas args.used.terms c.in-Err.refusal refused) in
    record {
      out = c.refused.ensures.out ∙ rw c.number.ensures (ap (padded (length args.out.now)) lines);
      length = c.refused.ensures.length ∙ rw c.number.ensures (ap length lines);
    }
