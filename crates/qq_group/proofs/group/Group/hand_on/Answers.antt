use Rattle.std.proofs.Common.{subst}
use Rattle.std.specs.Prelude.{OnErr}
use Rattle.qq_raft_msg.specs.declared.envelope.Envelope.{Envelope}
use Rattle.qq_raft_model.specs.Group.{happens}
use Rattle.qq_raft_model.specs.Group.Event.{Crash}
use Rattle.qq_group.specs.Follows.{Makes}
use Rattle.qq_group.proofs.group.Group.hand_on.Goals as goal

pub returns-then-takes-clause-err : goal.returns-then-takes-clause-err
returns-then-takes-clause-err g c =
    subst (λ (e : Envelope). OnErr c.feed.result
    (Makes g.L.LogView.log (happens (Crash e.to.0)) c.args.self.now c.feed.new.self)) c.envelope.ensures
    c.feed.ensures.err
