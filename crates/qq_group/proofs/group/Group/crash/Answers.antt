use Rattle.std.proofs.Common.{ap, refl, sym, ◌∙◌}
use Rattle.qq_group.specs.Group.{server_at, server_by}
use Rattle.qq_group.proofs.Notices.{down-crashes}
use Rattle.qq_group.proofs.Returning.{changes-returned}
use Rattle.qq_group.proofs.Stepped.{can-lead, changed-others, changed-own, dropped-crashes}
use Rattle.qq_group.proofs.Taking.{none-of}
use Rattle.qq_group.proofs.group.Group.crash.Goals as goal

pub returns-then-not-up-clause-made : goal.returns-then-not-up-clause-made
returns-then-not-up-clause-made g c =
    down-crashes g.L.LogView.log c.args.node.0 c.args.self.now c.args.self.now refl
    (none-of (server_at c.args.node.0 c.args.self.now) (sym c.is_up-up.ensures.value ∙ c.if-not-up.true))

pub returns-clause-made : goal.returns-clause-made
returns-clause-made g c =
    let d = c.crash_seat.ensures.dropped in
    dropped-crashes g.L.LogView.log c.args.node.0 c.args.self.now c.crash_seat.new.self d
    (can-lead g.Q.Queue.stands g.L.LogView.log g.Q.Queue.applied c.args.node.0 d.seat c.args.self.now c.requires
    d.changes.there d.dropped.was d.dropped.up)

pub returns-clause-down : goal.returns-clause-down
returns-clause-down g c =
    let d = c.crash_seat.ensures.dropped in
    ap server_by (changed-own c.args.node.0 d.seat d.now c.args.self.now c.crash_seat.new.self d.changes)
    ∙ ap (λ x. x.server) d.dropped.leaves.seat

pub returns-clause-others : goal.returns-clause-others
returns-clause-others g c =
    let d = c.crash_seat.ensures.dropped in
    changed-others c.args.node.0 d.seat d.now c.args.self.now c.crash_seat.new.self d.changes

pub returns-clause-returned : goal.returns-clause-returned
returns-clause-returned g c =
    let d = c.crash_seat.ensures.dropped in
    changes-returned c.args.node.0 d.seat d.now c.args.self.now c.crash_seat.new.self d.changes
    (ap (λ x. x.returned) d.dropped.leaves.seat)

pub returns-clause-adds : goal.returns-clause-adds
returns-clause-adds g c =
    let d = c.crash_seat.ensures.dropped in
    record { bag_is = ap (λ x. x) d.bag; audit_is = d.audit }
