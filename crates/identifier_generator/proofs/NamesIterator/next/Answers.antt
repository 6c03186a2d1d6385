-- `next` cuts the first entry off. Assumes nothing.
use Rattle.std.proofs.Common.{rules}
use Rattle.theory.proofs.Entries.{names_none}
use Rattle.identifier_generator.proofs.Sizes.{no_entry, size_positive, size_within, names_cut, rest_fewer}
use Rattle.identifier_generator.proofs.NamesIterator.next.Goals as goal

pub returns-in_err-size-clause-steps : goal.returns-in_err-size-clause-steps
returns-in_err-size-clause-steps c =
    let text = c.args.self.now.0.now in
    let nothing = names_none text (no_entry text c.in_err-size.ensures) in
    rw c.from_residual.ensures (nothing, nothing)

pub slice_bounds-name-count : goal.slice_bounds-name-count
slice_bounds-name-count c =
    size_positive c.args.self.now.0.now c.in_ok-size.size c.in_ok-size.ensures

pub slice_bounds-name-start : goal.slice_bounds-name-start
slice_bounds-name-start c =
    size_positive c.args.self.now.0.now c.in_ok-size.size c.in_ok-size.ensures

pub slice_bounds-name-end : goal.slice_bounds-name-end
slice_bounds-name-end c =
    size_within c.args.self.now.0.now c.in_ok-size.size c.in_ok-size.ensures

pub slice_bounds-self-count : goal.slice_bounds-self-count
slice_bounds-self-count c =
    size_within c.args.self.now.0.now c.in_ok-size.size c.in_ok-size.ensures

pub slice_bounds-self-start : goal.slice_bounds-self-start
slice_bounds-self-start c =
    size_within c.args.self.now.0.now c.in_ok-size.size c.in_ok-size.ensures

pub returns-clause-steps : goal.returns-clause-steps
returns-clause-steps c =
    names_cut c.args.self.now.0.now c.in_ok-size.size c.in_ok-size.ensures

pub returns-clause-goes : goal.returns-clause-goes
returns-clause-goes c =
    let fewer = rest_fewer c.args.self.now.0.now c.in_ok-size.size c.in_ok-size.ensures in
    search rules
