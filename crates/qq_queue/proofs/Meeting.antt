-- What happens to a queue is the event of its definition.
use Rattle.std.proofs.Common.{◌≡◌, List, sym, subst}
use Rattle.qq_session.specs.declared.shown.Shown.{Shown}
use Rattle.qq_cluster_model.specs.Queue.{Event, said}
use Rattle.qq_queue.specs.ClusterQueue.{Becomes, Does, DoesAlways}
use Rattle.qq_queue.specs.Events.{event_of}
use Rattle.qq_queue.specs.Sessions.{Standings}
use Rattle.qq_queue.specs.declared.cluster_queue.ClusterQueue.{ClusterQueue}
use Rattle.qq_queue.specs.declared.event.QueueEvent.{QueueEvent}
use Rattle.qq_queue.proofs.Showing.{shows-nothing}

pub meets-always : (one : QueueEvent) (event : Event) (sessions : Standings) (old new : ClusterQueue)
    (before after : List Shown) → event_of one ≡ event → DoesAlways event old new before after
    → Does (event_of one) sessions old new before after
meets-always one event sessions old new before after is does =
    subst (λ (e : Event). Does e sessions old new before after) (sym is) (does sessions)

-- where it shows nothing
pub meets-becomes : (one : QueueEvent) (event : Event) (sessions : Standings) (old new : ClusterQueue)
    (before : List Shown) → event_of one ≡ event → Becomes event old new
    → Does (event_of one) sessions old new before before
meets-becomes one event sessions old new before is becomes =
    subst (λ (e : Event). Does e sessions old new before before) (sym is)
    (λ q st. (let both = becomes sessions q st in (both.0, shows-nothing (said q event) before both.1)))
