use Rattle.std.proofs.Common.{List, refl, ap, subst, sym, ◌∙◌}
use Rattle.qq_base.specs.declared.ids.NodeId.{NodeId}
use Rattle.qq_raft_core.specs.Raft.{lane_of}
use Rattle.qq_raft_model.specs.Server.{restart}
use Rattle.qq_group.specs.Handing.{returned_at}
use Rattle.qq_group.specs.Restarts.{IsRestartCaused}
use Rattle.qq_group.proofs.Stepped.{changed-own}
use Rattle.qq_group.proofs.Restarting.{finds, has-started, loses, restarts, started-others}
use Rattle.qq_group.proofs.group.Group.restart.Goals as goal

pub returns-then-not-is_intact-clause-cause : goal.returns-then-not-is_intact-clause-cause
returns-then-not-is_intact-clause-cause g c =
    let log = g.L.LogView.log in
    let l = log c.args.log in
    let old = c.args.self.now in
    subst (IsRestartCaused log c.args.node.0 l old) (sym c.lost.ensures)
    (loses log c.args.node.0 l old c.is_intact.result c.is_intact.ensures c.if-not-is_intact.true c.requires.down, refl, refl)

pub returns-clause-found : goal.returns-clause-found
returns-clause-found g c =
    let log = g.L.LogView.log in
    finds log c.args.node.0 (log c.args.log) c.args.self.now (c.is_intact.ensures.0 c.if-not-is_intact.false)
    c.requires.down

pub returns-clause-ok : goal.returns-clause-ok
returns-clause-ok g c =
    let log = g.L.LogView.log in
    let l = log c.args.log in
    let old = c.args.self.now in
    restarts log c.args.node l c.in-Ok.server old c.start.new.self c.requires.member c.requires.down
    (finds log c.args.node.0 l old (c.is_intact.ensures.0 c.if-not-is_intact.false) c.requires.down)
    ((c.in-Ok.ensures.ok c.requires.state.0 c.requires.state.1).raft
    ∙ ap (λ (nodes : List NodeId). restart c.args.node nodes (lane_of old.queue l)) c.as_slice.ensures.value)
    c.in-Ok.ensures.undos c.start.ensures.started

pub returns-clause-started : goal.returns-clause-started
returns-clause-started g c =
    let log = g.L.LogView.log in
    has-started g.Q.Queue.stands log
    (restart c.args.node c.as_slice.result.now (lane_of c.args.self.now.queue (log c.args.log))) c.args.machine
    c.args.node.0 _ c.in-Ok.server c.args.self.now c.start.new.self c.start.ensures.started c.in-Ok.ensures.ok

pub returns-clause-others : goal.returns-clause-others
returns-clause-others g c =
    started-others c.args.node.0 _ c.in-Ok.server c.args.self.now c.start.new.self c.start.ensures.started

pub returns-clause-returned : goal.returns-clause-returned
returns-clause-returned g c =
    ap returned_at
    (changed-own c.args.node.0 c.start.ensures.started.was _ c.args.self.now c.start.new.self
    c.start.ensures.started.changes)
