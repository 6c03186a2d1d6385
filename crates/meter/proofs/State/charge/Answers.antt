-- `charge` meets its contract: each arm has the tests before it. Assumes nothing.
use native.Mathlib.Omega.{arith}
use borrow.Author.Tests.{le-leb, lt-leb}
use Rattle.theory.specs.Meter.{lacking, fits}
use Rattle.meter.specs.Moves.{limit_of, charged}
use Rattle.meter.proofs.State.charge.Goals as goal

pub returns-then-indices-gt-MOST_INDICES : goal.returns-then-indices-gt-MOST_INDICES
unfolding charged limit_of lacking fits
returns-then-indices-gt-MOST_INDICES c = grind (arith, le-leb, lt-leb)

pub returns-then-limits-formulas : goal.returns-then-limits-formulas
unfolding charged limit_of lacking fits
returns-then-limits-formulas c = grind (arith, le-leb, lt-leb)

pub returns-then-limits-terms : goal.returns-then-limits-terms
unfolding charged limit_of lacking fits
returns-then-limits-terms c = grind (arith, le-leb, lt-leb)

pub returns-then-records-gt-MOST_RECORDS : goal.returns-then-records-gt-MOST_RECORDS
unfolding charged limit_of lacking fits
returns-then-records-gt-MOST_RECORDS c = grind (arith, le-leb, lt-leb)

pub returns-then-limits-level : goal.returns-then-limits-level
unfolding charged limit_of lacking fits
returns-then-limits-level c = grind (arith, le-leb, lt-leb)

pub returns-else-limits-level : goal.returns-else-limits-level
unfolding charged limit_of lacking fits
returns-else-limits-level c = grind (arith, le-leb, lt-leb)
