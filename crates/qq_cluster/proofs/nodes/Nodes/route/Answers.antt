use Rattle.std.proofs.Common.{◌-◌, length, refl, arith}
use Rattle.std.proofs.lemmas.Option.{slice_get-get_or}
use Rattle.qq_base.proofs.Exits.{at_exit}
use Rattle.qq_cluster.proofs.LineRules.{queue-index}
use Rattle.qq_cluster.proofs.Sent.{gives-all, gives-gave_up, queues-after, routed-gave_up, unrouted}
use Rattle.qq_cluster.proofs.Stands.{can-after, gave_up-same}
use Rattle.qq_cluster.proofs.nodes.Nodes.route.Goals as goal

pub returns-in_err-say_unroutable-clause-err : goal.returns-in_err-say_unroutable-clause-err
returns-in_err-say_unroutable-clause-err g c =
    at_exit _ _ c.from_residual.ensures.1 (gave_up-same c.args.self.now c.args.self.now c.in_err-say_unroutable.field-0.0 refl c.in_err-say_unroutable.ensures.want)

pub returns-then-count-eq0-clause-ok : goal.returns-then-count-eq0-clause-ok
returns-then-count-eq0-clause-ok g c =
    unrouted c.args.session c.args.body c.args.queues.now (omega arith) c.in_ok-say_unroutable.ensures.ok

pub returns-in_err-give_first-clause-err : goal.returns-in_err-give_first-clause-err
returns-in_err-give_first-clause-err g c =
    at_exit _ _ c.from_residual-in_err-give_first.ensures.1 (routed-gave_up c.args.session c.args.body c.args.queues.now (omega arith) c.in_err-give_first.ensures.err)

pub give_at-requires-clause-serve : goal.give_at-requires-clause-serve
give_at-requires-clause-serve g c = can-after c.requires.serve c.in_ok-give_first.ensures.ok

pub give_at-requires-clause-place : goal.give_at-requires-clause-place
give_at-requires-clause-place g c =
    queue-index c.give_first.new.self _
    (queues-after c.args.queues.now c.requires.serve c.in_ok-give_first.ensures.ok c.requires.queues
    (length c.args.queues.now - 1) _ (omega arith))

pub returns-in_err-give_at-clause-err : goal.returns-in_err-give_at-clause-err
returns-in_err-give_at-clause-err g c =
    at_exit _ _ c.from_residual-in_err-give_at.ensures.1 (routed-gave_up c.args.session c.args.body c.args.queues.now (omega arith)
    (gives-gave_up c.args.session c.args.body c.args.queues.now (length c.args.queues.now - 1) _
    (slice_get-get_or c.args.queues.now (length c.args.queues.now - 1) _ (omega arith))
    (c.requires.queues (length c.args.queues.now - 1) _ (omega arith)).0 c.in_ok-give_first.ensures.ok
    c.in_err-give_at.ensures.err))

pub returns-clause-ok : goal.returns-clause-ok
returns-clause-ok g c =
    gives-all c.args.session c.args.body c.args.queues.now (length c.args.queues.now - 1) _
    (slice_get-get_or c.args.queues.now (length c.args.queues.now - 1) _ (omega arith))
    (c.requires.queues (length c.args.queues.now - 1) _ (omega arith)).0 (omega arith)
    c.in_ok-give_first.ensures.ok c.in_ok-give_at.ensures.ok
