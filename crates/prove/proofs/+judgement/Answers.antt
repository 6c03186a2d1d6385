-- The members of the cycle answer what their contracts ask: each by the way that its rule takes. Assumes nothing.
use native.Mathlib.Omega.{arith}
use mathlib.Core.Path.{refl, sym, ◌∙◌}
use Prim.Native.Nat.{◌+◌}
use Rattle.theory.specs.NameText.{names_in}
use Rattle.theory.specs.Names.{skipped}
use Rattle.theory.specs.Meter as M
use Rattle.theory.proofs.Derive.{fresh_above}
use Rattle.formula.specs.Kinds.{kind_named}
use Rattle.formula.proofs.KindLaws.{is_kind, not_kind}
use Rattle.meter.proofs.Laws.{carried}
use Rattle.search_laws.proofs.Falls.{weigh_back}
use Rattle.search_laws.proofs.FallsRight.{right_to_left}
use Rattle.search_laws.proofs.Combine.{stop, entered}
use Rattle.search_laws.proofs.Right.{right_true_lem, right_else_lem}
use Rattle.search_laws.proofs.Halves.{tries_else}
use Rattle.search_laws.proofs.Ranging.{going_starts, going_skips, going_fails, ranges_found, ranges_short, ranges_end}
use Rattle.search_left.proofs.LeftMakes.{first_near}
use Rattle.search_premises.specs.Asked.{lacks, asks}
use Rattle.search_premises.proofs.Makes.{tested, raises_short, copy_room}
use Rattle.search_premises.proofs.Asking.{made_for, found_back, raised_found, raised_failed, raised_rep, raised_by}
use Rattle.search_premises.proofs.Asking.{raised_weighs, kind_back, rep_step, weigh_step}
use Rattle.search_premises.proofs.Less.{and_left_less, and_right_less, or_left_less, or_right_less}
use Rattle.search_premises.proofs.RightWays.{and_lost, and_lost_second, and_found, impl_lacks, impl_falls, impl_lost, impl_found}
use Rattle.search_premises.proofs.LeftWays.{onward_trans, turn_goes, turn_ends, turn_misses, turn_parts, turn_tries}
use Rattle.search_premises.proofs.LeftWays.{half_less, left_half, right_half, or_lost, or_lost_second, or_found}
use Rattle.search_premises.proofs.SearchWays.{first_stops, first_found, first_fails, half_stops, half_found, half_fails}
use Rattle.search_premises.proofs.SearchWays.{first_less, second_less}
use Rattle.search_premises.proofs.TryWays.{first_short, first_missed, try_back, try_nested, second_lacks, try_both}
use Rattle.prove.proofs.At.{nested_yes, nested_no}
use Rattle.prove.proofs.+judgement.Goals as goal
use Rattle.prove.proofs.+judgement.Goals.{positions-then-nested+in-Err-Failed, positions-else-nested}

-- right
pub right-returns-then-setting-state : goal.right-returns-then-setting-state
right-returns-then-setting-state t c =
    stop c.if-setting-state.true c.requires.represented.within

pub right-right_and-requires : goal.right-right_and-requires
right-right_and-requires t c = (
  omega (arith, c.decreases, weigh_step c.requires.represented c.if-setting-state.false c.counted-s.ensures M.by_right),
  (rep_step c.requires.represented c.if-setting-state.false c.counted-s.ensures, is_kind (sym c.in-And.ensures)),
)

pub right-right_impl-requires : goal.right-right_impl-requires
right-right_impl-requires t c = (
  omega (arith, c.decreases, weigh_step c.requires.represented c.if-setting-state.false c.counted-s.ensures M.by_right),
  (rep_step c.requires.represented c.if-setting-state.false c.counted-s.ensures, is_kind (sym c.in-Impl.ensures)),
)

pub right-left-requires : goal.right-left-requires
right-left-requires t c = (
  omega (
    arith,
    c.decreases,
    weigh_step c.requires.represented c.if-setting-state.false c.counted-s.ensures M.by_right,
    right_to_left c.args.words.now c.counted-s.result.formulas c.args.work.now c.args.sequent,
  ),
  rep_step c.requires.represented c.if-setting-state.false c.counted-s.ensures,
)

pub right-returns-in-True : goal.right-returns-in-True
right-returns-in-True t c =
    entered c.if-setting-state.false c.counted-s.ensures
    (right_true_lem _ (rep_step c.requires.represented c.if-setting-state.false c.counted-s.ensures) (is_kind (sym c.in-True.ensures))
    c.close.ensures)

pub right-returns-in-And : goal.right-returns-in-And
right-returns-in-And t c =
    entered c.if-setting-state.false c.counted-s.ensures c.right_and.ensures

pub right-returns-in-Impl : goal.right-returns-in-Impl
right-returns-in-Impl t c =
    entered c.if-setting-state.false c.counted-s.ensures c.right_impl.ensures

pub right-returns-in_default : goal.right-returns-in_default
unfolding kind_named
right-returns-in_default t c =
    entered c.if-setting-state.false c.counted-s.ensures
    (right_else_lem _ (rep_step c.requires.represented c.if-setting-state.false c.counted-s.ensures)
    (not_kind 0 (λ e. c.in_default.not-True (c.kind_at.ensures ∙ e))) (not_kind 3 (λ e. c.in_default.not-And (c.kind_at.ensures ∙ e)))
    (not_kind 5 (λ e. c.in_default.not-Impl (c.kind_at.ensures ∙ e))) c.left.ensures)

-- its conjunction
pub right_and-premise-requires : goal.right_and-premise-requires
right_and-premise-requires t c =
    let l = and_left_less c.requires.represented c.requires.goal c.left_at-a.ensures in
    (omega (arith, c.decreases, l.0), (c.requires.represented, l.1))

pub right_and-premise-requires-2 : goal.right_and-premise-requires-2
right_and-premise-requires-2 t c =
    let b = (raised_found c.requires.represented c.in_ok-one.ensures).0 in
    let l = and_right_less b.rep (kind_back b c.requires.represented.seats.goal_in c.requires.goal) c.right_at-b.ensures in
    (omega (arith, c.decreases, l.0, weigh_back M.by_right c.requires.represented b), (b.rep, l.1))

pub right_and-close-requires : goal.right_and-close-requires
right_and-close-requires t c =
    let b = (raised_found c.requires.represented c.in_ok-one.ensures).0 in
    let d = (raised_found b.rep c.in_ok-two.ensures).0 in
    (c.requires.represented.rooms.most_terms, omega (arith, d.rep.within.in_formulas, c.requires.represented.rooms.most_formulas))

pub right_and-returns-in_err-one : goal.right_and-returns-in_err-one
right_and-returns-in_err-one t c =
    rw (carried c.from_residual.ensures)
    (and_lost c.requires.represented c.requires.goal c.left_at-a.ensures c.in_err-one.ensures)

pub right_and-returns-in_err-two : goal.right_and-returns-in_err-two
right_and-returns-in_err-two t c =
    rw (carried c.from_residual-in_err-two.ensures)
    (and_lost_second c.requires.represented c.requires.goal c.left_at-a.ensures c.in_ok-one.ensures c.right_at-b.ensures
    c.in_err-two.ensures)

pub right_and-returns : goal.right_and-returns
right_and-returns t c =
    and_found c.requires.represented c.requires.goal c.left_at-a.ensures c.in_ok-one.ensures c.right_at-b.ensures c.in_ok-two.ensures
    c.close.ensures

-- another goal, a level up
pub premise-copy_up-requires : goal.premise-copy_up-requires
premise-copy_up-requires t c =
    copy_room c.requires.represented (tested c.in_ok-charge.ensures)

pub premise-right-requires : goal.premise-right-requires
premise-right-requires t c = (
  omega (
    arith,
    c.decreases,
    raised_weighs c.requires.represented (tested c.in_ok-charge.ensures) c.requires.goal c.copy_up.ensures c.up.ensures,
  ),
  raised_rep c.requires.represented (tested c.in_ok-charge.ensures) c.requires.goal c.copy_up.ensures c.up.ensures,
)

pub premise-returns-in_err-charge : goal.premise-returns-in_err-charge
premise-returns-in_err-charge t c =
    rw (carried c.from_residual.ensures) (raises_short (tested c.in_err-charge.ensures))

pub premise-returns : goal.premise-returns
premise-returns t c =
    raised_by c.requires.represented (tested c.in_ok-charge.ensures) c.requires.goal c.copy_up.ensures c.up.ensures c.right.ensures

-- right's implication
pub right_impl-body-requires-clause-index : goal.right_impl-body-requires-clause-index
right_impl-body-requires-clause-index t c =
    omega (arith, first_near c.requires.represented c.args.setting.now.names.now c.args.setting.now.few c.fresh-x.ensures)

pub right_impl-right-requires : goal.right_impl-right-requires
right_impl-right-requires t c =
    let b = c.in_ok-s.ensures _ c.fresh-x.ensures in (
      omega (arith, c.decreases, impl_falls _ c.requires.represented c.requires.goal c.fresh-x.ensures b),
      (made_for b).rep,
    )

pub right_impl-overflow_add-x : goal.right_impl-overflow_add-x
right_impl-overflow_add-x t c =
    omega (arith, first_near c.requires.represented c.args.setting.now.names.now c.args.setting.now.few c.fresh-x.ensures)

pub right_impl-returns-in_err-s : goal.right_impl-returns-in_err-s
right_impl-returns-in_err-s t c =
    rw (carried c.from_residual.ensures)
    (impl_lacks _ c.requires.represented c.requires.goal c.fresh-x.ensures (c.in_err-s.ensures _ c.fresh-x.ensures))

pub right_impl-returns-in_err-one : goal.right_impl-returns-in_err-one
right_impl-returns-in_err-one t c =
    rw (carried c.from_residual-in_err-one.ensures)
    (impl_lost _ c.requires.represented c.requires.goal c.fresh-x.ensures (c.in_ok-s.ensures _ c.fresh-x.ensures) c.in_err-one.ensures)

pub right_impl-returns : goal.right_impl-returns
right_impl-returns t c =
    impl_found _ c.requires.represented c.requires.goal c.fresh-x.ensures (c.in_ok-s.ensures _ c.fresh-x.ensures) c.in_ok-one.ensures
    c.close.ensures

-- left
pub left-returns-in_err-s1 : goal.left-returns-in_err-s1
left-returns-in_err-s1 t c =
    rw (carried c.from_residual.ensures) (c.loop-s1.invariant.3.carries _ _ (turn_misses c.in_err-s1.ensures))

pub left-loop-s1-smaller : goal.left-loop-s1-smaller
left-loop-s1-smaller t c =
    (turn_goes (rw c.in-Go.is at c.in_ok-s1.ensures)).less

pub left-loop-s1-preserved : goal.left-loop-s1-preserved
left-loop-s1-preserved t c = (
  omega (arith, c.turn.auto, c.loop-s1.invariant.0),
  omega (arith, c.turn.auto, c.loop-s1.invariant.1),
  omega (arith, c.turn.auto, c.loop-s1.invariant.2),
  onward_trans c.loop-s1.invariant.3 (turn_goes (rw c.in-Go.is at c.in_ok-s1.ensures)).on,
)

pub left-returns-in-End : goal.left-returns-in-End
left-returns-in-End t c =
    c.loop-s1.invariant.3.carries _ _ (turn_ends (rw c.in-End.is at c.in_ok-s1.ensures))

pub left-left_or-requires : goal.left-left_or-requires
left-left_or-requires t c =
    let p = turn_parts (rw c.in-Split.is at c.in_ok-s1.ensures) in
    (omega (arith, c.decreases, p.weighs, c.loop-s1.invariant.3.falls), (p.rep, p.is))

pub left-returns-in-Split : goal.left-returns-in-Split
left-returns-in-Split t c =
    c.loop-s1.invariant.3.carries _ _ ((turn_parts (rw c.in-Split.is at c.in_ok-s1.ensures)).carries _ _ c.left_or.ensures)

pub left-search-requires : goal.left-search-requires
left-search-requires t c =
    let p = turn_tries (rw c.in-Try.is at c.in_ok-s1.ensures) in
    (omega (arith, c.decreases, p.less, c.loop-s1.invariant.3.falls), (p.rep, p.none))

pub left-returns-in-Try : goal.left-returns-in-Try
left-returns-in-Try t c =
    c.loop-s1.invariant.3.carries _ _ ((turn_tries (rw c.in-Try.is at c.in_ok-s1.ensures)).carries _ _ c.search.ensures)

-- its disjunction
pub left_or-branch-words-requires : goal.left_or-branch-words-requires
left_or-branch-words-requires t c = (
  omega (arith, c.decreases),
  (
    c.requires.represented,
    (left_half c.requires.represented c.requires.split c.top-at.ensures c.formula_at-a.ensures c.left_at-l.ensures, c.fresh-x.ensures),
  ),
)

pub left_or-fresh-y-requires : goal.left_or-fresh-y-requires
left_or-fresh-y-requires t c =
    omega (arith, (found_back c.requires.represented c.in_ok-one.ensures).0.rep.within.in_indices)

pub left_or-branch-words-requires-2 : goal.left_or-branch-words-requires-2
left_or-branch-words-requires-2 t c =
    let b = (found_back c.requires.represented c.in_ok-one.ensures).0 in (
      omega (arith, c.decreases, weigh_back M.by_left c.requires.represented b),
      (
        b.rep,
        (
          right_half c.requires.represented c.requires.split c.top-at.ensures c.formula_at-a.ensures b c.right_at-r.ensures,
          c.fresh-y.ensures,
        ),
      ),
    )

pub left_or-overflow_add-node : goal.left_or-overflow_add-node
left_or-overflow_add-node t c =
    omega (arith, first_near c.requires.represented c.args.setting.now.names.now c.args.setting.now.few c.fresh-x.ensures)

pub left_or-overflow_add-node-2 : goal.left_or-overflow_add-node-2
left_or-overflow_add-node-2 t c =
    let b = (found_back c.requires.represented c.in_ok-one.ensures).0 in omega
    (arith, first_near b.rep c.args.setting.now.names.now c.args.setting.now.few c.fresh-y.ensures)

pub left_or-close-requires : goal.left_or-close-requires
left_or-close-requires t c =
    let b = (found_back c.requires.represented c.in_ok-one.ensures).0 in
    let d = (found_back b.rep c.in_ok-two.ensures).0 in
    (c.requires.represented.rooms.most_terms, omega (arith, d.rep.within.in_formulas, c.requires.represented.rooms.most_formulas))

pub left_or-returns-in_err-one : goal.left_or-returns-in_err-one
left_or-returns-in_err-one t c =
    rw (carried c.from_residual.ensures)
    (or_lost c.requires.represented c.requires.split c.top-at.ensures c.formula_at-a.ensures _ c.fresh-x.ensures c.left_at-l.ensures
    c.in_err-one.ensures)

pub left_or-returns-in_err-two : goal.left_or-returns-in_err-two
left_or-returns-in_err-two t c =
    rw (carried c.from_residual-in_err-two.ensures)
    (or_lost_second c.requires.represented c.requires.split c.top-at.ensures c.formula_at-a.ensures _ c.fresh-x.ensures
    c.left_at-l.ensures c.in_ok-one.ensures c.term_at-h.ensures c.right_at-r.ensures c.fresh-y.ensures c.in_err-two.ensures)

pub left_or-returns : goal.left_or-returns
left_or-returns t c =
    or_found c.requires.represented c.requires.split c.top-at.ensures c.formula_at-a.ensures _ c.fresh-x.ensures c.left_at-l.ensures
    c.in_ok-one.ensures c.term_at-h.ensures c.right_at-r.ensures c.fresh-y.ensures c.in_ok-two.ensures c.close.ensures

pub branch-half-requires-clause-half : goal.branch-half-requires-clause-half
branch-half-requires-clause-half t c = (
  c.requires.half.some,
  c.requires.half.inside,
  omega (arith, first_near c.requires.represented c.args.setting.now.names.now c.args.setting.now.few c.requires.fresh),
)

pub branch-left-requires : goal.branch-left-requires
branch-left-requires t c =
    let h = c.in_ok-s.ensures _ c.requires.fresh in (
      omega (arith, c.decreases, half_less _ c.requires.represented c.requires.half c.requires.fresh h),
      (made_for h).rep,
    )

pub branch-returns-in_err-s : goal.branch-returns-in_err-s
branch-returns-in_err-s t c =
    rw (carried c.from_residual.ensures) (lacks (c.in_err-s.ensures _ c.requires.fresh))

pub branch-returns : goal.branch-returns
branch-returns t c =
    asks (c.in_ok-s.ensures _ c.requires.fresh) c.left.ensures

-- search's rule 3
pub search-returns-in_default : goal.search-returns-in_default
unfolding kind_named
search-returns-in_default t c =
    tries_else _ c.requires.represented (not_kind 4 (λ e. c.in_default.not-Or (c.kind_at.ensures ∙ e))) c.positions.ensures

pub search-premise-requires : goal.search-premise-requires
search-premise-requires t c =
    let l = or_left_less c.requires.represented (is_kind (sym c.in-Or.ensures)) c.left_at-a.ensures in
    (omega (arith, c.decreases, l.0), (c.requires.represented, l.1))

pub search-close-requires : goal.search-close-requires
search-close-requires t c =
    let d = (raised_found c.requires.represented c.in-Ok.ensures).0 in
    (c.requires.represented.rooms.most_terms, omega (arith, d.rep.within.in_formulas, c.requires.represented.rooms.most_formulas))

pub search-second_half-requires : goal.search-second_half-requires
search-second_half-requires t c =
    let b = raised_failed c.requires.represented (rw c.in-Err-Failed.field-0-is at c.in-Err-Failed.ensures) in rw c.give_back.ensures (
      omega (arith, c.decreases, weigh_back M.by_search c.requires.represented b),
      (
        b.rep,
        (c.requires.empty, kind_back b c.requires.represented.seats.goal_in (is_kind (sym c.in-Or.ensures))),
      ),
    )

pub search-returns-in-Ok : goal.search-returns-in-Ok
search-returns-in-Ok t c =
    first_found c.requires.represented (is_kind (sym c.in-Or.ensures)) c.left_at-a.ensures c.in-Ok.ensures c.close.ensures

pub search-returns-in-Err-Failed : goal.search-returns-in-Err-Failed
search-returns-in-Err-Failed t c =
    first_fails c.requires.represented (is_kind (sym c.in-Or.ensures)) c.left_at-a.ensures
    (rw c.in-Err-Failed.field-0-is at c.in-Err-Failed.ensures) c.give_back.ensures c.second_half.ensures

pub search-returns-in-Err-Short : goal.search-returns-in-Err-Short
search-returns-in-Err-Short t c =
    first_stops c.requires.represented (is_kind (sym c.in-Or.ensures)) c.left_at-a.ensures
    (rw c.in-Err-Short.field-0-is at c.in-Err-Short.ensures)

pub second_half-premise-requires : goal.second_half-premise-requires
second_half-premise-requires t c =
    let l = or_right_less c.requires.represented c.requires.disjunction.1 c.right_at-b.ensures in
    (omega (arith, c.decreases, l.0), (c.requires.represented, l.1))

pub second_half-close-requires : goal.second_half-close-requires
second_half-close-requires t c =
    let d = (raised_found c.requires.represented c.in-Ok.ensures).0 in
    (c.requires.represented.rooms.most_terms, omega (arith, d.rep.within.in_formulas, c.requires.represented.rooms.most_formulas))

pub second_half-positions-requires : goal.second_half-positions-requires
second_half-positions-requires t c =
    let b = raised_failed c.requires.represented (rw c.in-Err-Failed.field-0-is at c.in-Err-Failed.ensures) in rw c.give_back.ensures
    (omega (arith, c.decreases, weigh_back M.by_search c.requires.represented b), (b.rep, c.requires.disjunction.0))

pub second_half-returns-in-Ok : goal.second_half-returns-in-Ok
second_half-returns-in-Ok t c =
    rw (sym c.right_at-b.ensures) (half_found c.requires.represented c.in-Ok.ensures c.close.ensures)

pub second_half-returns-in-Err-Failed : goal.second_half-returns-in-Err-Failed
second_half-returns-in-Err-Failed t c =
    rw (sym c.right_at-b.ensures)
    (half_fails c.requires.represented (rw c.in-Err-Failed.field-0-is at c.in-Err-Failed.ensures) c.give_back.ensures c.positions.ensures)

pub second_half-returns-in-Err-Short : goal.second_half-returns-in-Err-Short
second_half-returns-in-Err-Short t c =
    rw (sym c.right_at-b.ensures) (half_stops c.requires.represented (rw c.in-Err-Short.field-0-is at c.in-Err-Short.ensures))

-- its positions
pub positions-loop-i-init : goal.positions-loop-i-init
positions-loop-i-init t c =
    (refl, refl, refl, going_starts c.requires.represented)

pub positions-attempt-requires : goal.positions-attempt-requires
positions-attempt-requires t c = (
  omega (arith, c.decreases, weigh_back M.by_search c.requires.represented c.loop-i.invariant.3.past.back),
  (
    c.loop-i.invariant.3.past.back.rep,
    nested_yes _ _ c.requires.empty c.loop-i-test.true (sym c.nested.ensures ∙ c.if-nested.true),
  ),
)

pub positions-returns-in-Ok : goal.positions-returns-in-Ok
positions-returns-in-Ok t c =
    ranges_found c.loop-i.invariant.3 c.loop-i-test.true c.in-Ok.ensures.is

pub positions-loop-i-preserved : goal.positions-loop-i-preserved
positions-loop-i-preserved t c =
    elim c.if-nested.branch [
      | positions-then-nested+in-Err-Failed w ↦ rw
          (w.words-is, w.terms-is, w.work-is, w.s-is) (
            omega (arith, w.attempt.auto, c.loop-i.invariant.0),
            omega (arith, w.attempt.auto, c.loop-i.invariant.1),
            omega (arith, w.attempt.auto, c.loop-i.invariant.2),
            rw w.give_back-s.ensures
                (going_fails c.loop-i.invariant.3 c.loop-i-test.true (rw w.in-Err-Failed.field-0-is at w.in-Err-Failed.ensures).is),
          )
      | positions-else-nested w ↦ rw
          (w.words-is, w.terms-is, w.work-is, w.s-is) (
            c.loop-i.invariant.0,
            c.loop-i.invariant.1,
            c.loop-i.invariant.2,
            going_skips c.loop-i.invariant.3 c.loop-i-test.true
                (nested_no _ c.loop-i.invariant.3.past.back.rep c.requires.empty c.loop-i-test.true
                (sym c.nested.ensures ∙ w.if-nested.false)),
          )
    ]

pub positions-returns-in-Err-Short : goal.positions-returns-in-Err-Short
positions-returns-in-Err-Short t c =
    ranges_short c.loop-i.invariant.3 c.loop-i-test.true (rw c.in-Err-Short.field-0-is at c.in-Err-Short.ensures).is

pub positions-returns : goal.positions-returns
positions-returns t c =
    ranges_end c.loop-i.invariant.3 c.loop-i-test.false

-- a try
pub attempt-first-requires-clause-indices : goal.attempt-first-requires-clause-indices
attempt-first-requires-clause-indices t c = (
  omega (arith, c.next_two-x.ensures.second, fresh_above (skipped (names_in c.args.setting.now.names.now)) (c.next_two-x.result.0 + 1)),
  omega (arith, c.next_two-x.ensures.near),
)

pub attempt-right-requires : goal.attempt-right-requires
attempt-right-requires t c =
    let e = c.next_two-x.ensures in
    let p = c.in_ok-s1.ensures _ e.first e.second in (
      omega (arith, c.decreases, first_less c.requires.represented c.requires.nested _ e.first e.second p),
      (made_for p).rep,
    )

pub attempt-second-requires : goal.attempt-second-requires
attempt-second-requires t c =
    let e = c.next_two-x.ensures in
    let p = c.in_ok-s1.ensures _ e.first e.second in
    let b = try_back _ c.requires.represented c.requires.nested e.first e.second p c.in_ok-one.ensures in
    record {
      represented = b.0.rep;
      nested = try_nested _ c.requires.represented c.requires.nested e.first e.second p c.in_ok-one.ensures;
      proof = b.1;
    }

pub attempt-left-requires : goal.attempt-left-requires
attempt-left-requires t c =
    let e = c.next_two-x.ensures in
    let p = c.in_ok-s1.ensures _ e.first e.second in
    let b = try_back _ c.requires.represented c.requires.nested e.first e.second p c.in_ok-one.ensures in
    let n = try_nested _ c.requires.represented c.requires.nested e.first e.second p c.in_ok-one.ensures in (
      omega (arith, c.decreases, second_less b.0.rep n c.in_ok-s2.ensures, weigh_back M.by_search c.requires.represented b.0),
      (made_for c.in_ok-s2.ensures).rep,
    )

pub attempt-returns-in_err-s1 : goal.attempt-returns-in_err-s1
attempt-returns-in_err-s1 t c =
    let e = c.next_two-x.ensures in
    rw (carried c.from_residual.ensures)
    (first_short _ c.requires.represented c.requires.nested e.first e.second
    (c.in_err-s1.ensures _ e.first e.second))

pub attempt-returns-in_err-one : goal.attempt-returns-in_err-one
attempt-returns-in_err-one t c =
    let e = c.next_two-x.ensures in
    rw (carried c.from_residual-in_err-one.ensures)
    (first_missed _ c.requires.represented c.requires.nested e.first e.second
    (c.in_ok-s1.ensures _ e.first e.second) c.in_err-one.ensures)

pub attempt-returns-in_err-s2 : goal.attempt-returns-in_err-s2
attempt-returns-in_err-s2 t c =
    let e = c.next_two-x.ensures in
    rw (carried c.from_residual-in_err-s2.ensures)
    (second_lacks _ c.requires.represented c.requires.nested e.first e.second
    (c.in_ok-s1.ensures _ e.first e.second) c.in_ok-one.ensures c.in_err-s2.ensures)

pub attempt-returns : goal.attempt-returns
attempt-returns t c =
    let e = c.next_two-x.ensures in
    try_both _ c.requires.represented c.requires.nested e.first e.second
    (c.in_ok-s1.ensures _ e.first e.second) c.in_ok-one.ensures c.in_ok-s2.ensures c.left.ensures
