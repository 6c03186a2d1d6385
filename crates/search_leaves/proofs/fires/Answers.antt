-- Whether a record fires goes by the kind of its formula and of what that goes from. Assumes nothing.
use Rattle.search_leaves.proofs.Walk.{no_implication, by_leaf}
use Rattle.search_leaves.proofs.fires.Goals as goal

pub returns-in_default : goal.returns-in_default
returns-in_default c =
    no_implication _ _ _ _ _ c.formula_at-a.ensures c.kind_at.ensures c.in_default.not-Impl

pub returns : goal.returns
returns c =
    by_leaf _ _ _ _ _ c.formula_at-a.ensures c.kind_at.ensures c.in-Impl.is (cc) c.find_leaf.ensures
