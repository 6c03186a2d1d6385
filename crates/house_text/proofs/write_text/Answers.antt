-- `write_text` hands back what `write_term` wrote, or a refusal. Assumes nothing.
use mathlib.Core.Path.{◌≡◌, sym, ◌∙◌}
use mathlib.Core.Option.{none}
use native.Mathlib.Omega.{arith}
use Prim.Native.Nat.{◌*◌}
use lib.Seq.{length-take-le}
use Rattle.theory.specs.Layout.{node_width}
use Rattle.theory.specs.Writer.{writer_refusal}
use Rattle.std.proofs.lemmas.Result.{err_from_is_err_and}
use Rattle.refusal.specs.Table.{refusal_of}
use Rattle.house_text.specs.Drafted.{draft_of}
use Rattle.house_text.proofs.Drafts.{refused_hands, words_there, numbers_there, parts_given, root_there}
use Rattle.house_text.proofs.Drafts.{passed_hands, passed_place}
use Rattle.house_text.proofs.write_text.Goals as goal
use Rattle.house_text.proofs.write_text.Goals.{In_ok-test}

-- the writer of the definition refuses nothing
passed : (c : In_ok-test) → writer_refusal (draft_of c.args.draft c.args.buf.now) ≡ none
unfolding writer_refusal
passed c = sym c.in_ok-test.ensures

-- a refusal of the tests is handed on
pub returns-in_err-test-clause-written : goal.returns-in_err-test-clause-written
unfolding writer_refusal
returns-in_err-test-clause-written c =
    let p = err_from_is_err_and c.from_residual.result c.from_residual.ensures.1 in
    rw (p.1, p.2) (refused_hands (draft_of c.args.draft c.args.buf.now) (refusal_of c.in_err-test.field-0.0) c.in_err-test.ensures).0

pub returns-in_err-test-clause-place : goal.returns-in_err-test-clause-place
unfolding writer_refusal
returns-in_err-test-clause-place c =
    let p = err_from_is_err_and c.from_residual.result c.from_residual.ensures.1 in
    rw (p.1, p.2) (refused_hands (draft_of c.args.draft c.args.buf.now) (refusal_of c.in_err-test.field-0.0) c.in_err-test.ensures).1

pub slice_bounds-given-end : goal.slice_bounds-given-end
slice_bounds-given-end c =
    sym (length-take-le c.args.draft.count c.args.draft.words.now
    (words_there _ (passed (goal.at.slice_bounds-given-end c).In_ok-test)))

pub overflow_mul-given : goal.overflow_mul-given
overflow_mul-given c =
    omega (arith, numbers_there _ (passed (goal.at.overflow_mul-given c).In_ok-test))

pub slice_bounds-given-end-2 : goal.slice_bounds-given-end-2
slice_bounds-given-end-2 c =
    sym (length-take-le (c.args.draft.nodes * node_width) c.args.draft.terms.now
    (numbers_there _ (passed (goal.at.slice_bounds-given-end-2 c).In_ok-test)))

pub write_term-requires : goal.write_term-requires
write_term-requires c =
    record {
      given = parts_given _ (passed (goal.at.write_term-requires c).In_ok-test);
      root = root_there _ (passed (goal.at.write_term-requires c).In_ok-test);
    }

pub returns : goal.returns
returns c =
    record {
      written = passed_hands _ (passed (goal.at.returns c).In_ok-test) c.write_term.ensures.written;
      place = c.write_term.ensures.place ∙ passed_place _ (passed (goal.at.returns c).In_ok-test);
    }
