use Rattle.std.proofs.Common.{◌+◌, ◌<◌, length, subst, inr}
use Rattle.qq_base.specs.Causes.{SpentOnlyWhere}
use Rattle.qq_raft_msg.specs.declared.bag.TheConstants.{BAG_LIMIT}
use Rattle.qq_raft_model.specs.State.{Server as Raft}
use Rattle.qq_group.proofs.Inputs.{does-step}
use Rattle.qq_group.proofs.feeding.feed_server.Goals as goal

pub returns-in-Err-settle-clause-cause : goal.returns-in-Err-settle-clause-cause
returns-in-Err-settle-clause-cause g c =
    inr (subst (λ (r : Raft). SpentOnlyWhere c.in-Err-settle.cause BAG_LIMIT
    (BAG_LIMIT < length c.args.bag.now + length r.out))
    (does-step g.Q.Queue.stands g.Q.Queue.step g.L.LogView.log c.args.input c.args.server.now c.act.new.server
    c.requires.serving.state c.in-Ok.ensures.ok) c.in-Err-settle.ensures.cause)
