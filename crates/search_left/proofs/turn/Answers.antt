-- `turn` meets its contract: no step is left, a rule of left, or with nothing ordered a rule of search. Assumes nothing.
use native.Mathlib.Omega.{arith}
use Rattle.theory.specs.NameText.{names_in}
use Rattle.theory.specs.Names.{skipped}
use Rattle.search_left.proofs.Turning.{rep_stepped, turned_stop, turned_left, turned_stop_search, turned_search}
use Rattle.search_left.proofs.turn.Goals as goal

pub returns-then-setting-state : goal.returns-then-setting-state
returns-then-setting-state c =
    turned_stop (skipped (names_in c.args.setting.now.names.now)) c.requires.represented c.if-setting-state.true

pub left_rule-requires : goal.left_rule-requires
left_rule-requires c =
    record {
      represented = rep_stepped c.requires.represented c.if-setting-state.false c.counted-s.ensures;
      some = c.if-sequent-gt0.true;
    }

pub returns-then-sequent-gt0 : goal.returns-then-sequent-gt0
returns-then-sequent-gt0 c =
    turned_left (skipped (names_in c.args.setting.now.names.now)) c.requires.represented c.if-setting-state.false
    c.counted-s.ensures c.left_rule.ensures

pub returns-then-setting-s : goal.returns-then-setting-s
returns-then-setting-s c =
    turned_stop_search (skipped (names_in c.args.setting.now.names.now)) c.requires.represented c.if-setting-state.false
    c.counted-s.ensures
    (omega (arith, c.if-sequent-gt0.false)) c.if-setting-s.true

pub settle-requires : goal.settle-requires
settle-requires c =
    record {
      represented = rep_stepped (rep_stepped c.requires.represented c.if-setting-state.false c.counted-s.ensures) c.if-setting-s.false
          c.counted.ensures;
      empty = (omega (arith, c.if-sequent-gt0.false));
    }

pub returns : goal.returns
returns c =
    turned_search (skipped (names_in c.args.setting.now.names.now)) c.requires.represented c.if-setting-state.false
    c.counted-s.ensures
    (omega (arith, c.if-sequent-gt0.false)) c.if-setting-s.false c.counted.ensures
    (c.settle.ensures (skipped (names_in c.args.setting.now.names.now)))
