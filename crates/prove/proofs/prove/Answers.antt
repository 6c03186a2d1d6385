-- `prove`: a refusal changes nothing; what the search answers is closed as theory closes it. Assumes nothing.
use Rattle.call.proofs.Whole.{tested_passed, called_refused, ends_keeps, called_closed, called_same}
use Rattle.prove.proofs.prove.Goals as goal

pub returns-in-Err : goal.returns-in-Err
returns-in-Err c =
    called_refused _ c.args.work.now c.in-Err.ensures

pub closing-requires : goal.closing-requires
closing-requires c =
    ends_keeps _ c.args.work.now c.start-answer.ensures (tested_passed _ c.in_default.ensures)

pub returns : goal.returns
returns c =
    let e = c.closing.ensures in
    called_same (called_closed _ c.args.work.now c.start-answer.ensures (tested_passed _ c.in_default.ensures)) e.result e.words
    e.terms e.work
