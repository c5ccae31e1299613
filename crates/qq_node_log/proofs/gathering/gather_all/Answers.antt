use Rattle.qq_node_log.proofs.Gathers.{gathered-more, gathered-none, next-op}
use Rattle.qq_node_log.proofs.gathering.gather_all.Goals as goal

pub ops-init : goal.ops-init
ops-init g c =
    gathered-none g.D.NodeDisk.facts c.args.ops.items c.into_iter-op-iterator.result.rest.items
    c.args.wal.now c.into_iter-op-iterator.ensures.into_iter_gives.0 c.requires.sound c.requires.going c.requires.may
    c.requires.goes_on

pub gather_one-requires-clause-may : goal.gather_one-requires-clause-may
gather_one-requires-clause-may g c =
    (next-op g.D.NodeDisk.facts c.args.ops.items c.ops.op-iterator.rest.items c.next.new.self.rest.items c.in-Some.op
    c.args.wal.now c.ops.wal c.in-Some.ensures.steps.0 c.ops.invariant).0

pub gather_one-requires-clause-goes_on : goal.gather_one-requires-clause-goes_on
gather_one-requires-clause-goes_on g c =
    (next-op g.D.NodeDisk.facts c.args.ops.items c.ops.op-iterator.rest.items c.next.new.self.rest.items c.in-Some.op
    c.args.wal.now c.ops.wal c.in-Some.ensures.steps.0 c.ops.invariant).1

pub ops-preserved : goal.ops-preserved
ops-preserved g c =
    gathered-more g.D.NodeDisk.facts c.args.ops.items c.ops.op-iterator.rest.items c.next.new.self.rest.items
    c.in-Some.op c.args.wal.now c.ops.wal c.gather_one.new.wal c.in-Some.ensures.steps.0
    c.ops.invariant c.gather_one.ensures.sound c.in_ok-gather_one.ensures.ok c.in_ok-gather_one.ensures.ahead
    c.gather_one.ensures.same
