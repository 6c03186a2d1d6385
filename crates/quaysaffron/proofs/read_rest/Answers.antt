-- `read_rest`: each turn's read goes on behind those before it. Assumes nothing.
use Rattle.std.proofs.Common.{rules, ℕ, arith, subst, slice_range}
use Rattle.std.specs.Io.KnownBytes.{Consumes}
use Rattle.quaysaffron.proofs.Pieces.{kept_both, took_both}
use Rattle.quaysaffron.proofs.read_rest.Goals as goal

pub loop-done-preserved : goal.loop-done-preserved
loop-done-preserved g c =
    let turn = c.loop-done in
    let next = c.in_ok-all.ensures in
    record {
      kept = kept_both c.args.start turn.done _ _ _ turn.invariant.inside turn.invariant.kept next.grown.kept;
      inside = omega (arith, next.grown.behind);
      room = omega (arith, next.grown.behind);
      long = search rules;
      bytes =
          took_both _ _ _ c.args.start turn.done _ _ _ turn.invariant.inside next.grown.behind.0 next.grown.kept
          turn.invariant.bytes next.bytes;
    }

pub returns-then-all-done-clause-grown : goal.returns-then-all-done-clause-grown
returns-then-all-done-clause-grown g c =
    let turn = c.loop-done in
    let next = c.in_ok-all.ensures in
    record {
      kept = kept_both c.args.start turn.done _ _ _ turn.invariant.inside turn.invariant.kept next.grown.kept;
      behind = (turn.invariant.inside, omega (arith, next.grown.behind));
    }

pub returns-then-all-done-clause-bytes : goal.returns-then-all-done-clause-bytes
returns-then-all-done-clause-bytes g c =
    let turn = c.loop-done in
    let next = c.in_ok-all.ensures in
    subst (λ (n : ℕ). Consumes (g.R.Read.remaining c.args.from.now) (g.R.Read.remaining c.read_more.new.from)
    (slice_range c.read_more.new.buf c.args.start n)) c.if-all-done.true
    (took_both _ _ _ c.args.start turn.done _ _ _ turn.invariant.inside next.grown.behind.0 next.grown.kept
    turn.invariant.bytes next.bytes)
