use Rattle.std.proofs.Common.{◌-◌, subst, sym, inr}
use Rattle.qq_base.proofs.Exits.{at_exit}
use Rattle.qq_cluster_model.specs.Queue.{Delivers}
use Rattle.qq_raft_model.specs.Group.Event.{Deliver}
use Rattle.qq_raft_msg.specs.Bag.{at_place}
use Rattle.qq_group.specs.Reads.{receiver_of}
use Rattle.qq_group.specs.declared.event.Event.TheVariants as events
use Rattle.qq_queue.specs.Members.{Makes, move_at, moves_of, number_of}
use Rattle.qq_queue.specs.Sessions.{standings}
use Rattle.qq_queue.proofs.Happening.{deliver-telling, telling-does}
use Rattle.qq_queue.proofs.cluster_queue.ClusterQueue.deliver.Goals as goal

pub returns-clause-ok : goal.returns-clause-ok
returns-clause-ok c = λ q st.
    telling-does (standings c.args.sessions.now) c.args.self.now c.tell.new.self c.happen.new.group q
    (Delivers (c.args.place - 1)) (move_at Deliver c.args.place)
    (number_of (receiver_of (at_place c.args.place c.args.self.now.group.bag))) c.in_ok-rows.rows.items
    c.args.shown.now.items c.tell.new.shown.items st
    (deliver-telling (standings c.args.sessions.now) c.args.self.now q c.args.place st c.requires.place)
    c.in_ok-rows.ensures.ok (c.in_ok-rows.ensures.tells c.args.self.now.args q.group st.group)
    c.in_ok-tell.ensures.ok

pub returns-in_err-tell-clause-left : goal.returns-in_err-tell-clause-left
returns-in_err-tell-clause-left c =
    at_exit _ _ c.from_residual-in_err-tell.ensures.1 (inr
    (subst (Makes (moves_of (events.Deliver c.args.place)) c.args.self.now.group)
    (sym c.tell.ensures.group) c.in_ok-rows.ensures.ok))
