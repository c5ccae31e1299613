use Rattle.std.proofs.Common.{ap}
use Rattle.qq_group.specs.Input.{acts}
use Rattle.qq_group.proofs.Returning.{changes-returned}
use Rattle.qq_group.proofs.Stepped.{adds-step, can-lead, changed-others, dropped-crashes, has-state, shown, stepped}
use Rattle.qq_group.proofs.group.Group.feed.Goals as goal

pub returns-in-Ok-clause-ok : goal.returns-in-Ok-clause-ok
returns-in-Ok-clause-ok g c =
    let made = c.in-Ok.ensures.ok in
    stepped g.Q.Queue.stands g.Q.Queue.step g.L.LogView.log c.what_a_group_committed_stays.ensures.known c.args.node.0
    c.args.input made.seat made.now c.in-Ok.shown.rows.items c.args.self.now c.feed_seat.new.self made.changes
    (has-state g.Q.Queue.stands g.L.LogView.log g.Q.Queue.applied c.args.node.0 made.seat c.args.self.now
    c.requires.sound made.changes.there)
    (can-lead g.Q.Queue.stands g.L.LogView.log g.Q.Queue.applied c.args.node.0 made.seat c.args.self.now
    c.requires.sound made.changes.there) made.fed

pub returns-in-Ok-clause-rows : goal.returns-in-Ok-clause-rows
returns-in-Ok-clause-rows g c =
    let made = c.in-Ok.ensures.ok in
    shown g.Q.Queue.stands g.L.LogView.log (acts g.Q.Queue.step c.args.input) c.args.node.0 made.seat made.now
    c.in-Ok.shown.rows.items c.args.self.now c.feed_seat.new.self made.changes made.fed

pub returns-in-Ok-clause-nodes : goal.returns-in-Ok-clause-nodes
returns-in-Ok-clause-nodes g c = c.in-Ok.ensures.ok.changes.nodes

pub returns-in-Ok-clause-others : goal.returns-in-Ok-clause-others
returns-in-Ok-clause-others g c =
    let made = c.in-Ok.ensures.ok in
    changed-others c.args.node.0 made.seat made.now c.args.self.now c.feed_seat.new.self made.changes

pub returns-in-Ok-clause-returned : goal.returns-in-Ok-clause-returned
returns-in-Ok-clause-returned g c =
    let made = c.in-Ok.ensures.ok in
    changes-returned c.args.node.0 made.seat made.now c.args.self.now c.feed_seat.new.self made.changes
    (ap (λ x. x.returned) made.fed.seat)

pub returns-in-Err-clause-err : goal.returns-in-Err-clause-err
returns-in-Err-clause-err g c =
    let made = c.in-Err.ensures.err in
    dropped-crashes g.L.LogView.log c.args.node.0 c.args.self.now c.feed_seat.new.self made
    (can-lead g.Q.Queue.stands g.L.LogView.log g.Q.Queue.applied c.args.node.0 made.seat c.args.self.now
    c.requires.sound made.changes.there made.dropped.was made.dropped.up)

pub returns-in-Err-clause-nodes : goal.returns-in-Err-clause-nodes
returns-in-Err-clause-nodes g c = c.in-Err.ensures.err.changes.nodes

pub returns-in-Err-clause-others : goal.returns-in-Err-clause-others
returns-in-Err-clause-others g c =
    let made = c.in-Err.ensures.err in
    changed-others c.args.node.0 made.seat made.now c.args.self.now c.feed_seat.new.self made.changes

pub returns-in-Err-clause-returned : goal.returns-in-Err-clause-returned
returns-in-Err-clause-returned g c =
    let made = c.in-Err.ensures.err in
    changes-returned c.args.node.0 made.seat made.now c.args.self.now c.feed_seat.new.self made.changes
    (ap (λ x. x.returned) made.dropped.leaves.seat)

pub returns-in-Ok-clause-adds : goal.returns-in-Ok-clause-adds
returns-in-Ok-clause-adds g c =
    let made = c.in-Ok.ensures.ok in
    adds-step g.Q.Queue.stands g.Q.Queue.step g.L.LogView.log c.args.node.0 c.args.input made.seat made.now
    c.in-Ok.shown.rows.items c.args.self.now c.feed_seat.new.self made.changes
    (has-state g.Q.Queue.stands g.L.LogView.log g.Q.Queue.applied c.args.node.0 made.seat c.args.self.now
    c.requires.sound made.changes.there) made.fed

pub returns-in-Err-clause-adds_err : goal.returns-in-Err-clause-adds_err
returns-in-Err-clause-adds_err g c =
    let made = c.in-Err.ensures.err in
    record { bag_is = made.bag; audit_is = made.audit }
