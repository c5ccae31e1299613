-- What stands at its end where a queue of the nodes refuses an event.
use Rattle.std.proofs.Common.{◌+◌, ℕ, length, sym, subst}
use Rattle.std.proofs.lemmas.Option.{slice_get_within}
use Rattle.qq_base.specs.Ids.{client}
use Rattle.qq_base.specs.declared.memory.Memory.TheVariants.{Spent}
use Rattle.qq_disk.specs.Facts.{DiskFacts}
use Rattle.qq_entry.specs.declared.command.Command.TheVariants.{Down as DownOf}
use Rattle.qq_group.specs.declared.event.Event.TheVariants as events
use Rattle.qq_raft_protocol.specs.Facts.{In}
use Rattle.qq_cluster_model.specs.Cluster.{Cluster, Setup}
use Rattle.qq_cluster_model.specs.Queue.{Queue}
use Rattle.qq_queue.specs.ClusterQueue.{Stands as IsQueue, count_at}
use Rattle.qq_queue.specs.Sessions.{Standings, standings}
use Rattle.qq_queue.specs.declared.cluster_queue.ClusterQueue.{ClusterQueue}
use Rattle.qq_queue.proofs.QueueEnds.{QueueEnds, no-want, offer-ends, resend-ends, steps-end, submit-ends, tells-end}
use Rattle.qq_queue.specs.Events.{IsRefused}
use Rattle.qq_cluster.specs.Ends.{IsRefusedAt}
use Rattle.qq_cluster.specs.Nodes.{Stands}
use Rattle.qq_queue.specs.declared.event.QueueEvent.{QueueEvent}
use Rattle.qq_queue.specs.declared.event.QueueEvent.TheVariants.{Submit, TellEnded, TellNotTaken, Attach, Resend, Fetch, Down, Tick, Notice, Deliver, Lose, Copy, Judge}
use Rattle.qq_cluster.specs.declared.nodes.Nodes.{Nodes as Held}
use Rattle.qq_cluster.proofs.Walks.{in-range}

module _ (sessions : Standings) (d : ClusterQueue) (q : Queue) (st : IsQueue sessions d q) (n : ℕ) where
  event-ends : (event : QueueEvent) → IsRefused event d (Spent n) → QueueEnds n q
  event-ends (Submit session body) cause = submit-ends sessions d q st n session body cause
  event-ends (TellEnded session) cause = no-want n cause
  event-ends (TellNotTaken session id) cause = no-want n cause
  event-ends (Attach session tag taker) cause = no-want n cause
  event-ends (Resend session) cause = resend-ends sessions d q st n session cause
  event-ends (Fetch session) cause = no-want n cause
  event-ends (Down session) cause = offer-ends sessions d q st n (DownOf (client session)) cause
  event-ends (Tick node) cause = steps-end sessions d q st n (events.Tick node) cause
  event-ends (Notice node) cause =
      tells-end sessions d q st n (events.Notice node (count_at d.synced.each node.0)) cause
  event-ends (Deliver place) cause = tells-end sessions d q st n (events.Deliver place) cause
  event-ends (Lose place) cause = absurd cause
  event-ends (Copy place) cause = steps-end sessions d q st n (events.Copy place) cause
  event-ends (Judge verdict) cause = no-want n cause

module _ {D : Type 0} (facts : DiskFacts D) (setup : Setup) (held : Held D) (c : Cluster)
    (st : Stands facts setup held c) (n : ℕ) where
  -- it is a number of the queue at that place
  pub refused-ends : (at : ℕ) (event : QueueEvent) → IsRefusedAt event at held.queues.items (Spent n)
      → In (at + 1) setup.places × QueueEnds n (c.queue (at + 1))
  refused-ends at event r = (
    subst (In (at + 1)) (sym st.set_up.places)
        (in-range (length held.queues.items) at (slice_get_within held.queues.items at r.queue r.here)),
    event-ends (standings held.sessions) r.queue (c.queue (at + 1)) (st.queues at r.queue r.here).stands n event r.caused,
  )
