use Rattle.std.proofs.Common.{refl, subst, sym}
use Rattle.std.proofs.lemmas.Result.{on_ok_weaker}
use Rattle.qq_raft_model.specs.Server.{Input}
use Rattle.qq_raft_model.specs.Group.{Event}
use Rattle.qq_group.specs.Events.{lacks_op, notices}
use Rattle.qq_group.specs.Follows.{Follows}
use Rattle.qq_group.proofs.Following.{feeds-follows}
use Rattle.qq_group.proofs.Notices.{notice-fed, notice-lacks}
use Rattle.qq_group.proofs.group.Group.notice.Goals as goal

pub returns-then-lacks_op-clause-ok : goal.returns-then-lacks_op-clause-ok
returns-then-lacks_op-clause-ok g c =
    notice-lacks g.L.LogView.log c.args.node.0 c.args.op (lacks_op c.args.node.0 c.args.op c.args.self.now)
    c.args.self.now c.args.self.now (sym c.if-lacks_op.ensures) refl

pub returns-clause-ok : goal.returns-clause-ok
returns-clause-ok g c =
    let log = g.L.LogView.log in
    let node = c.args.node.0 in
    on_ok_weaker c.feed.result (λ feeds.
    subst (λ lacks. Follows log (notices node c.args.op lacks) c.args.self.now c.feed.new.self) c.if-lacks_op.ensures
    (feeds-follows log c.what_a_group_committed_stays.ensures.audit node (Input.Notice c.args.op)
    (Event.Notice node c.args.op) c.args.self.now c.feed.new.self
    (λ h r. notice-fed log h node c.args.op c.args.self.now r (sym c.if-lacks_op.ensures)) feeds)) c.feed.ensures.ok
