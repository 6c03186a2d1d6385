-- `half` meets its contract: the half is supposed in the place of the disjunction. Assumes nothing.
use Rattle.search_premises.proofs.Makes.{half_seated, half_on}
use Rattle.search_premises.proofs.half.Goals as goal

pub suppose-requires : goal.suppose-requires
suppose-requires c =
    record { seated = half_seated c.requires.represented c.requires.half.0 c.pop.ensures; index = c.requires.half.2 }

pub returns : goal.returns
returns c =
    half_on c.requires.represented c.requires.half.0 c.requires.half.1 c.pop.ensures c.suppose.ensures
