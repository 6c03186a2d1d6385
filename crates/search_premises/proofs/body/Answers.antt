-- `body` meets its contract: what is before the arrow is supposed. Assumes nothing.
use Rattle.search_premises.proofs.Makes.{seated, body_on}
use Rattle.search_premises.proofs.body.Goals as goal

pub suppose-requires : goal.suppose-requires
suppose-requires c =
    record { seated = seated c.requires.represented; index = c.requires.index }

pub returns : goal.returns
returns c =
    body_on c.requires.represented c.requires.goal c.left_at-a.ensures c.right_at-goal.ensures c.suppose.ensures
