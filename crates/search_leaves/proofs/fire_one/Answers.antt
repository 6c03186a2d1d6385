-- What a record that fires leaves: its node, the area without it, and what it yields. Assumes nothing.
use mathlib.Core.Path.{ap, ◌∙◌}
use Rattle.context.specs.Moves.{pushed}
use Rattle.search_leaves.proofs.Walk.{room_without, node_fired, area_fired}
use Rattle.search_leaves.proofs.fire_one.Goals as goal

pub push-requires : goal.push-requires
push-requires c =
    room_without
    c.remove-q1.ensures.result
    c.requires.places

pub returns : goal.returns
returns c =
    record {
      result = c.push.ensures.result ∙ ap pushed c.remove-q1.ensures.result;
      terms = node_fired _ _
          c.put.ensures
          c.term_at-x.ensures
          c.term_at-y.ensures;
      work = area_fired _ _ _ _
          c.args.words.now
          _
          c.remove-q1.ensures.result
          c.remove-q1.ensures.work
          c.push.ensures.work
          c.right_at-b.ensures
          c.formula_at.ensures;
    }
