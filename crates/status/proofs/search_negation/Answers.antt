-- `search_negation`: with no room it is short of formulas; else the second claim is searched. Assumes nothing.
use borrow.Author.Rules.{rules}
use mathlib.Core.Path.{refl, ◌∙◌}
use Rattle.theory.specs.Refusal.{lack_number}
use Rattle.status.proofs.Second.{few_words, no_room, appended, second_answers}
use Rattle.status.proofs.search_negation.Goals as goal

pub overflow_add-count : goal.overflow_add-count
overflow_add-count c =
    let a = c.args in
    let few = few_words a.words.now a.count a.goal a.terms.now a.work.now a.steps c.requires.passed in
    search (rules, few)

pub returns-then-words-count : goal.returns-then-words-count
unfolding lack_number
returns-then-words-count c =
    let a = c.args in record {
      result = no_room a.words.now a.count a.goal a.terms.now a.work.now a.steps c.requires.passed c.if-words-count.true;
      kept = refl;
      work = c.requires.work;
    }

pub returns : goal.returns
returns c =
    let a = c.args in
    let words = appended a.words.now a.count a.goal a.terms.now a.work.now a.steps c.requires.passed c.if-words-count.false
    c.pack.ensures c.pack-2.ensures c.store.ensures c.store-2.ensures in
    let r = second_answers a.words.now a.count a.goal a.terms.now a.work.now a.steps c.requires.passed c.if-words-count.false
    words c.search_goal.ensures in record { result = c.refuted.ensures ∙ r.0; kept = r.1; work = r.2 }
