-- What falls in the cycle: eight times the weight of the sequent by right, left or search, and the member's rank among those that are
-- entered with the same sequent. Left and the positions go on in loops; each outcome that fits from here fits from the start.
-- Assumes nothing.
use Rattle.std.proofs.Common.{◌≡◌, ◌+◌, ◌*◌, length}
use Rattle.theory.specs.NameText.{names_in}
use Rattle.theory.specs.Names.{skipped}
use Rattle.theory.specs.Meter as M
use Rattle.search_laws.specs.Reading.{lent}
use Rattle.search_laws.specs.Meaning.{weigh, Onward}
use Rattle.search_laws.proofs.Ranging.{Going}
use Rattle.search_premises.specs.Asked.{weigh_goal}
use Rattle.prove.proofs.+judgement.Given as goal

abbrev pub decreases-attempt : goal.decreases-attempt
decreases-attempt l = weigh M.by_search l.words.now l.state.formulas l.work.now l.sequent * 8 + 4

abbrev pub decreases-branch : goal.decreases-branch
decreases-branch l = weigh M.by_left l.words.now l.state.formulas l.work.now l.sequent * 8 + 5

abbrev pub decreases-left : goal.decreases-left
decreases-left l = weigh M.by_left l.words.now l.state.formulas l.work.now l.sequent * 8 + 7

abbrev pub decreases-left_or : goal.decreases-left_or
decreases-left_or l = weigh M.by_left l.words.now l.state.formulas l.work.now l.sequent * 8 + 6

abbrev pub decreases-positions : goal.decreases-positions
decreases-positions l = weigh M.by_search l.words.now l.state.formulas l.work.now l.sequent * 8 + 5

abbrev pub decreases-premise : goal.decreases-premise
decreases-premise l = weigh_goal l.words.now l.state.formulas l.work.now l.sequent l.goal * 8 + 8

abbrev pub decreases-right : goal.decreases-right
decreases-right l = weigh M.by_right l.words.now l.state.formulas l.work.now l.sequent * 8 + 7

abbrev pub decreases-right_and : goal.decreases-right_and
decreases-right_and l = weigh M.by_right l.words.now l.state.formulas l.work.now l.sequent * 8 + 6

abbrev pub decreases-right_impl : goal.decreases-right_impl
decreases-right_impl l = weigh M.by_right l.words.now l.state.formulas l.work.now l.sequent * 8 + 6

abbrev pub decreases-search : goal.decreases-search
decreases-search l = weigh M.by_search l.words.now l.state.formulas l.work.now l.sequent * 8 + 7

abbrev pub decreases-second_half : goal.decreases-second_half
decreases-second_half l = weigh M.by_search l.words.now l.state.formulas l.work.now l.sequent * 8 + 6

abbrev pub invariant-left-loop-s1 : goal.invariant-left-loop-s1
invariant-left-loop-s1 l =
    (length l.words ≡ length l.initial.words) × (length l.terms ≡ length l.initial.terms) × (length l.work ≡ length l.initial.work) ×
    Onward l.setting.limits (skipped (names_in l.setting.names.now)) (lent l.initial.words l.initial.terms l.initial.work)
    l.initial.s l.initial.p (lent l.words l.terms l.work) l.s l.p

abbrev pub decreases-left-loop-s1 : goal.decreases-left-loop-s1
decreases-left-loop-s1 l = weigh M.by_left l.words l.s.formulas l.work l.p

abbrev pub invariant-positions-loop-i : goal.invariant-positions-loop-i
invariant-positions-loop-i l =
    (length l.words ≡ length l.initial.words) × (length l.terms ≡ length l.initial.terms) × (length l.work ≡ length l.initial.work) ×
    Going l.setting.limits (skipped (names_in l.setting.names.now)) (lent l.initial.words l.initial.terms l.initial.work)
    l.initial.s l.sequent l.i (lent l.words l.terms l.work) l.s
