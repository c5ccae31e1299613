use Rattle.std.proofs.Common.{◌+◌, arith}
use Rattle.std.specs.Prelude.{nat_lt}
use Rattle.std.proofs.lemmas.Bool.{le-ltb}
use Rattle.qq_cluster_model.specs.Queue.{Stops}
use Rattle.qq_cluster.proofs.Turned.{below-more, stops-all, turned-sound, turns-more, turns-none}
use Rattle.qq_cluster.proofs.turning.stop_each.Goals as goal

pub queues-init : goal.queues-init
queues-init c =
    turns-none (λ at. nat_lt at 0) (Stops c.args.node.0) c.args.queues.now (λ at. le-ltb at 0 (omega arith))

pub stop_at-requires-clause-place : goal.stop_at-requires-clause-place
stop_at-requires-clause-place c = omega (arith, c.queues.invariant.many)

pub stop_at-requires-clause-sound : goal.stop_at-requires-clause-sound
stop_at-requires-clause-sound c =
    turned-sound (λ at. nat_lt at c.queues.at) (Stops c.args.node.0) c.args.queues.now c.queues.queues
    c.requires c.queues.invariant

pub queues-preserved : goal.queues-preserved
queues-preserved c =
    turns-more (λ at. nat_lt at c.queues.at) (λ at. nat_lt at (c.queues.at + 1)) (Stops c.args.node.0) c.queues.at
    c.args.queues.now c.queues.queues c.stop_at.new.queues c.queues.invariant c.stop_at.ensures
    (le-ltb c.queues.at c.queues.at (omega arith)) (below-more c.queues.at)

pub returns : goal.returns
returns c =
    stops-all c.queues.at (Stops c.args.node.0) c.args.queues.now c.queues.queues
    (omega arith) c.queues.invariant
