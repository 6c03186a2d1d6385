-- As many records pass the test as fire. Assumes nothing.
use mathlib.Core.Path.{◌∙◌}
use native.Mathlib.Omega.{arith}
use lib.Dec.{ltb}
use Prim.Native.Nat.{ℕ}
use mathlib.Core.Bool.{Bool}
use Rattle.std.proofs.Common.{rules, tests}
use Rattle.std.proofs.lemmas.Iterator.{YieldsList-from_range}
use Rattle.std.proofs.lemmas.Iterator.Consumers.{YieldsList-from_filter, count_from_yields_List}
use Rattle.std.proofs.lemmas.List.Sums.{length-filter}
use Rattle.search_laws.specs.Leaves.{fires_by}
use Rattle.search_leaves.proofs.Walk.{is_below, counted}
use Rattle.search_leaves.proofs.count_fires.Goals as goal

pub returns : goal.returns
returns c =
    let a = c.args in
    let q = c.args.sequent in
    let test : ℕ → Bool = λ i. ltb (fires_by a.words.now a.work.now q.level q.unordered i) q.unordered in
    count_from_yields_List _ c.count.result c.count.ensures.ran
    (YieldsList-from_filter _ test (YieldsList-from_range 0 q.unordered q.unordered c.filter.ensures.source (omega arith))
    c.filter.ensures.closure
    (λ x b r k. search (rules, tests, is_below)))
    ∙ length-filter test _ ∙ counted a.words.now a.work.now q.level q.unordered q.unordered
