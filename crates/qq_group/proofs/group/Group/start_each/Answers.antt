use Rattle.std.proofs.Common.{arith}
use Rattle.qq_group.proofs.Starting.{all-started, begun, goes-on, leads-last, next-starts, started-last, stays-last}
use Rattle.qq_group.proofs.group.Group.start_each.Goals as goal

pub starts-init : goal.starts-init
starts-init g c =
    begun g.Q.Queue.stands g.L.LogView.log g.Q.Queue.applied c.args.starts.items
    c.into_iter-start-iterator.result.rest.items c.args.self.now c.into_iter-start-iterator.ensures.into_iter_gives.0
    c.requires.sound c.requires.each c.requires.apart c.requires.fresh

pub start_one-requires-clause-node : goal.start_one-requires-clause-node
start_one-requires-clause-node g c =
    (next-starts g.Q.Queue.stands g.L.LogView.log g.Q.Queue.applied c.args.starts.items
    c.starts.start-iterator.rest.items c.next.new.self.rest.items c.in-Some.start c.args.self.now c.starts.self
    c.in-Some.ensures.steps.0 c.starts.invariant).0.node

pub start_one-requires-clause-member : goal.start_one-requires-clause-member
start_one-requires-clause-member g c =
    (next-starts g.Q.Queue.stands g.L.LogView.log g.Q.Queue.applied c.args.starts.items
    c.starts.start-iterator.rest.items c.next.new.self.rest.items c.in-Some.start c.args.self.now c.starts.self
    c.in-Some.ensures.steps.0 c.starts.invariant).0.member

pub start_one-requires-clause-fresh : goal.start_one-requires-clause-fresh
start_one-requires-clause-fresh g c =
    (next-starts g.Q.Queue.stands g.L.LogView.log g.Q.Queue.applied c.args.starts.items
    c.starts.start-iterator.rest.items c.next.new.self.rest.items c.in-Some.start c.args.self.now c.starts.self
    c.in-Some.ensures.steps.0 c.starts.invariant).1

pub start_one-requires-clause-ready : goal.start_one-requires-clause-ready
start_one-requires-clause-ready g c =
    (next-starts g.Q.Queue.stands g.L.LogView.log g.Q.Queue.applied c.args.starts.items
    c.starts.start-iterator.rest.items c.next.new.self.rest.items c.in-Some.start c.args.self.now c.starts.self
    c.in-Some.ensures.steps.0 c.starts.invariant).0.ready

pub starts-preserved : goal.starts-preserved
starts-preserved g c =
    goes-on g.Q.Queue.stands g.L.LogView.log g.Q.Queue.applied c.args.starts.items c.starts.start-iterator.rest.items
    c.next.new.self.rest.items c.in-Some.start c.args.self.now c.starts.self c.start_one.new.self
    c.in-Some.ensures.steps.0 c.starts.invariant c.start_one.ensures.sound c.in_ok-start_one.ensures.ok
    c.in_ok-start_one.ensures.started c.start_one.ensures.others c.start_one.ensures.nodes c.start_one.ensures.audit

pub returns-clause-ok : goal.returns-clause-ok
returns-clause-ok g c =
    let w = all-started g.Q.Queue.stands g.L.LogView.log g.Q.Queue.applied c.args.starts.items
    c.starts.start-iterator.rest.items c.args.self.now c.starts.self
    (omega (arith, c.starts.start-iterator.rest.ok.0, c.in-None.ensures.steps.0)) c.starts.invariant in
    leads-last g.L.LogView.log c.args.starts.items c.args.self.now c.starts.self w.leads

pub returns-clause-started : goal.returns-clause-started
returns-clause-started g c =
    let w = all-started g.Q.Queue.stands g.L.LogView.log g.Q.Queue.applied c.args.starts.items
    c.starts.start-iterator.rest.items c.args.self.now c.starts.self
    (omega (arith, c.starts.start-iterator.rest.ok.0, c.in-None.ensures.steps.0)) c.starts.invariant in
    started-last g.Q.Queue.stands c.args.starts.items c.starts.self w.started

pub returns-clause-others : goal.returns-clause-others
returns-clause-others g c =
    let w = all-started g.Q.Queue.stands g.L.LogView.log g.Q.Queue.applied c.args.starts.items
    c.starts.start-iterator.rest.items c.args.self.now c.starts.self
    (omega (arith, c.starts.start-iterator.rest.ok.0, c.in-None.ensures.steps.0)) c.starts.invariant in
    stays-last c.args.starts.items c.args.self.now c.starts.self w.stays c.requires.fresh
