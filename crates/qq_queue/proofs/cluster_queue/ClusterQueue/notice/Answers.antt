use Rattle.std.proofs.Common.{ℕ, ◌∷◌, [], Some, subst, sym, inr}
use Rattle.qq_base.proofs.Exits.{at_exit}
use Rattle.qq_cluster_model.specs.Queue.{Notices}
use Rattle.qq_raft_model.specs.Group.Event.{Notice}
use Rattle.qq_group.specs.declared.event.Event.TheVariants as events
use Rattle.qq_queue.specs.Members.{Makes, moves_of}
use Rattle.qq_queue.specs.Sessions.{standings}
use Rattle.qq_queue.proofs.Happening.{notice-telling, telling-does}
use Rattle.qq_queue.proofs.cluster_queue.ClusterQueue.notice.Goals as goal

pub returns-clause-ok : goal.returns-clause-ok
returns-clause-ok c = λ q st.
    telling-does (standings c.args.sessions.now) c.args.self.now c.tell.new.self c.happen.new.group q
    (Notices c.args.node.0) (Notice c.args.node.0 c.at-op.result ∷ []) (Some c.args.node.0) c.in_ok-rows.rows.items
    c.args.shown.now.items c.tell.new.shown.items st
    (notice-telling (standings c.args.sessions.now) c.args.self.now q c.args.node.0 c.at-op.result st c.at-op.ensures)
    c.in_ok-rows.ensures.ok (c.in_ok-rows.ensures.tells c.args.self.now.args q.group st.group)
    c.in_ok-tell.ensures.ok

pub returns-in_err-tell-clause-left : goal.returns-in_err-tell-clause-left
returns-in_err-tell-clause-left c =
    at_exit _ _ c.from_residual-in_err-tell.ensures.1 (inr
    (subst (λ (op : ℕ). Makes (moves_of (events.Notice c.args.node op)) c.args.self.now.group c.tell.new.self.group)
    c.at-op.ensures
    (subst (Makes (moves_of (events.Notice c.args.node c.at-op.result)) c.args.self.now.group)
    (sym c.tell.ensures.group) c.in_ok-rows.ensures.ok)))
