-- `left_impl` meets its contract: each kind of what the implication goes from by its law. Assumes nothing.
use Rattle.theory.specs.NameText.{names_in}
use Rattle.theory.specs.Names.{skipped}
use Rattle.search_left.proofs.Charged.{push_room}
use Rattle.search_left.proofs.LeftTurns.{last_from, drop_impl_on, wait_on}
use Rattle.search_left.proofs.left_impl.Goals as goal

pub true_impl-requires : goal.true_impl-requires
true_impl-requires c =
    record {
      represented = c.requires.represented;
      last = last_from c.requires.last c.left_at.ensures c.kind_at.ensures c.in-True.is;
    }

pub returns-in-False : goal.returns-in-False
returns-in-False c =
    drop_impl_on (skipped (names_in c.args.setting.now.names.now)) c.requires.represented
    (last_from c.requires.last c.left_at.ensures c.kind_at.ensures c.in-False.is) c.pop.ensures

pub and_impl-requires : goal.and_impl-requires
and_impl-requires c =
    record {
      represented = c.requires.represented;
      last = last_from c.requires.last c.left_at.ensures c.kind_at.ensures c.in-And.is;
    }

pub or_impl-requires : goal.or_impl-requires
or_impl-requires c =
    record {
      represented = c.requires.represented;
      last = last_from c.requires.last c.left_at.ensures c.kind_at.ensures c.in-Or.is;
    }

pub append-requires : goal.append-requires
append-requires c =
    push_room c.requires.represented c.requires.last.some c.pop-in_default.ensures

pub returns-in_default : goal.returns-in_default
returns-in_default c =
    let d = c.in_default in
    wait_on (skipped (names_in c.args.setting.now.names.now)) c.requires.represented c.pop-in_default.ensures
    c.append.ensures.work c.append.ensures.result c.requires.last c.left_at.ensures c.kind_at.ensures
    d.not-True d.not-False d.not-And d.not-Or
