-- `held_output` fills the arrays, searches, and lays the lines of the answer. Assumes nothing.
use native.Mathlib.Omega.{arith}
use Prim.Native.Nat.{ℕ, ◌≤◌}
use mathlib.Core.Path.{refl, sym, ap, ◌∙◌, subst}
use mathlib.Core.List.{List}
use lib.ListN.{length}
use Rattle.theory.specs.NameText.{padded}
use Rattle.house_file.proofs.Filled.{laid_size, laid_inside}
use Rattle.house_file.proofs.Whole.{printed_goal, goal_room, settled}
use Rattle.house_file.proofs.held_output.Goals as goal

pub slice_bounds-names-end : goal.slice_bounds-names-end
slice_bounds-names-end c = laid_inside _ _ _ _ c.fill_names-size.ensures.text c.fill_names-size.ensures.length

pub slice_bounds-names-end-2 : goal.slice_bounds-names-end-2
slice_bounds-names-end-2 c = laid_size _ _ _ _ c.fill_names-size.ensures.text c.fill_names-size.ensures.length

pub answer_lines-requires : goal.answer_lines-requires
answer_lines-requires c =
    let args = c.args in
    let s =
    settled args.sections args.file.now _ _ _ _ _ _ _ _ _ _ _ c.requires.seen refl refl c.fill_words.ensures
    c.fill_indices.ensures c.fill_names-size.ensures.text c.fill_names-size.ensures.length c.search_claim-outcome.ensures in record {
      printable = s.printable;
      room = subst (λ (xs : List ℕ). length xs ≤ length args.out.now) (sym s.lines)
          (omega (arith, goal_room args.sections args.file.now c.requires.tested, c.requires.room));
    }

pub returns : goal.returns
returns c =
    let args = c.args in
    let s =
    settled args.sections args.file.now _ _ _ _ _ _ _ _ _ _ _ c.requires.seen refl refl c.fill_words.ensures
    c.fill_indices.ensures c.fill_names-size.ensures.text c.fill_names-size.ensures.length c.search_claim-outcome.ensures in
    let lines = s.lines ∙ sym (printed_goal args.sections args.file.now c.requires.tested) in record {
      out = c.answer_lines.ensures.out ∙ ap (padded (length args.out.now)) lines;
      length = c.answer_lines.ensures.length ∙ ap length lines;
    }
