-- `entry_part` lends the part that `find_entry` finds. Assumes nothing.
use mathlib.Core.Path.{sym, ap}
use lib.ListN.{get_or}
use mathlib.Core.List.{[]}
use Rattle.std.proofs.Common.{Some}
use Rattle.theory.specs.NameText.{names_in}
use Rattle.identifier_generator.specs.Entry.{start_of}
use Rattle.identifier_generator.proofs.EntryPlaces.{Right, found_right}
use Rattle.identifier_generator.proofs.entry_part.Goals as goal
use Rattle.identifier_generator.proofs.entry_part.Goals.{In-Some}

-- the part that was found is the entry
right : (c : In-Some) →
    let args = c.args in
    Right args.text.now (get_or (names_in args.text.now) args.k []) (Some (c.in-Some.start, c.in-Some.end))
right c =
    found_right c.args.text.now c.args.k c.in-Some.ensures

pub slice_bounds-result-count : goal.slice_bounds-result-count
slice_bounds-result-count c =
    (right c).0

pub slice_bounds-result-start : goal.slice_bounds-result-start
slice_bounds-result-start c =
    (right c).0

pub slice_bounds-result-end : goal.slice_bounds-result-end
slice_bounds-result-end c =
    (right c).1

pub returns-in-Some : goal.returns-in-Some
returns-in-Some c =
    let args = c.args in
    record {
      bytes = (right (goal.at.returns-in-Some c).In-Some).2;
      start = ap (start_of args.text.ref_ptr args.assumed.ref_ptr) c.in-Some.ensures;
    }

pub returns-in-None : goal.returns-in-None
returns-in-None c =
    let args = c.args in
    record {
      bytes = sym (found_right args.text.now args.k c.in-None.ensures);
      start = ap (start_of args.text.ref_ptr args.assumed.ref_ptr) c.in-None.ensures;
    }
