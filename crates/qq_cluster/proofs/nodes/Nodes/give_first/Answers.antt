use Rattle.std.proofs.Common.{refl, subst, arith}
use Rattle.std.proofs.lemmas.Option.{slice_get-get_or}
use Rattle.qq_base.proofs.Exits.{at_exit}
use Rattle.qq_cluster.specs.Nodes.{Served}
use Rattle.qq_cluster.specs.Sending.{GivesTo, numbers_of}
use Rattle.qq_cluster.proofs.LineRules.{queue-index}
use Rattle.qq_cluster.proofs.Sent.{gives-copy, gives-copy_gave_up, gives-none, gives-wants, queues-after}
use Rattle.qq_cluster.proofs.Stands.{can-after}
use Rattle.qq_cluster.proofs.nodes.Nodes.give_first.Goals as goal

pub queues-init : goal.queues-init
queues-init g c =
    gives-none c.args.session c.args.body.now (numbers_of c.args.queues.now) c.args.self.now c.args.told.now

pub returns-in_err-own-clause-err : goal.returns-in_err-own-clause-err
returns-in_err-own-clause-err g c =
    at_exit _ _ c.from_residual.ensures.1 (gives-wants c.args.session c.args.body.now (numbers_of c.args.queues.now) c.queues.at refl c.in_err-own.ensures.want
    c.queues.invariant)

pub give_at-requires-clause-serve : goal.give_at-requires-clause-serve
give_at-requires-clause-serve g c = can-after c.requires.serve c.queues.invariant

pub give_at-requires-clause-place : goal.give_at-requires-clause-place
give_at-requires-clause-place g c =
    queue-index c.queues.self _
    (queues-after c.args.queues.now c.requires.serve c.queues.invariant c.requires.queues c.queues.at _
    (omega (arith, c.requires.count)))

pub returns-in_err-give_at-clause-err : goal.returns-in_err-give_at-clause-err
returns-in_err-give_at-clause-err g c =
    at_exit _ _ c.from_residual-in_err-give_at.ensures.1 (gives-copy_gave_up c.args.session c.in_ok-own.own c.args.body.now c.args.queues.now c.queues.at _ c.in_ok-own.ensures.ok
    (slice_get-get_or c.args.queues.now c.queues.at _ (omega (arith, c.requires.count)))
    (c.requires.queues c.queues.at _ (omega (arith, c.requires.count))).0 c.queues.invariant c.in_err-give_at.ensures.err)

pub queues-preserved : goal.queues-preserved
queues-preserved g c =
    gives-copy c.args.session c.in_ok-own.own c.args.body.now c.args.queues.now c.queues.at _ c.in_ok-own.ensures.ok
    (slice_get-get_or c.args.queues.now c.queues.at _ (omega (arith, c.requires.count)))
    (c.requires.queues c.queues.at _ (omega (arith, c.requires.count))).0 c.queues.invariant c.in_ok-give_at.ensures.ok

pub returns-clause-ok : goal.returns-clause-ok
returns-clause-ok g c =
    subst
    (λ n. Served g.D.NodeDisk.facts (GivesTo c.args.session c.args.body.now (numbers_of c.args.queues.now) n)
    c.args.self.now c.queues.self
    c.args.told.now c.queues.told) (omega (arith, c.requires.count)) c.queues.invariant
