use Rattle.std.proofs.Common.{refl}
use Rattle.std.proofs.lemmas.Result.{on_ok_weaker}
use Rattle.qq_raft_model.specs.Server.{Input}
use Rattle.qq_raft_model.specs.Group.{Event}
use Rattle.qq_group.proofs.Following.{feeds-follows}
use Rattle.qq_group.proofs.group.Group.flush.Goals as goal

pub returns-clause-ok : goal.returns-clause-ok
returns-clause-ok g c =
    on_ok_weaker c.feed.result (λ feeds.
    feeds-follows g.L.LogView.log c.what_a_group_committed_stays.ensures.audit c.args.node.0 Input.Flush
    (Event.Flush c.args.node.0)
    c.args.self.now c.feed.new.self (λ h r. refl) feeds) c.feed.ensures.ok
