-- What may happen to a queue as its code has it, and why it is refused.
use Rattle.std.specs.Prelude.{◌≡◌, ◌<◌, ◌-◌}
use Rattle.qq_base.specs.Ids.{client}
use Rattle.qq_base.specs.declared.memory.Memory.{Memory}
use Rattle.qq_base.specs.declared.memory.Memory.TheVariants.{Want}
use Rattle.qq_entry.specs.declared.command.Command.TheVariants.{Down as DownOf}
use Rattle.qq_group.specs.Reads.{leader_of}
use Rattle.qq_group.specs.declared.event.Event.TheVariants as events
use Rattle.qq_cluster_model.specs.Queue.{Event, Submits, TellsEnded, TellsNotTaken, Attaches, Judges, Resends, Fetches, Downs, Ticks, Notices, Delivers, Loses, Copies}
use Rattle.qq_queue.specs.ClusterQueue.{IsOfferCaused, IsResendCaused, IsSubmitCaused, count_at}
use Rattle.qq_queue.specs.Members.{IsStepCaused, IsTellingCaused, LeavesGroup, own_log}
use Rattle.qq_queue.specs.Range.{MayStamp}
use Rattle.qq_queue.specs.declared.cluster_queue.ClusterQueue.{ClusterQueue}
use Rattle.qq_queue.specs.declared.event.QueueEvent.{QueueEvent}
use Rattle.qq_queue.specs.declared.event.QueueEvent.TheVariants.{Submit, TellEnded, TellNotTaken, Attach, Judge, Resend, Fetch, Down, Tick, Notice, Deliver, Lose, Copy}

-- each is the same event of the definition, where messages are counted from 0
abbrev pub event_of : QueueEvent → Event
event_of (Submit session body) = Submits session body
event_of (TellEnded session) = TellsEnded session
event_of (TellNotTaken session id) = TellsNotTaken session id
event_of (Attach session tag number) = Attaches session tag number
event_of (Judge verdict) = Judges verdict
event_of (Resend session) = Resends session
event_of (Fetch session) = Fetches session
event_of (Down session) = Downs session
event_of (Tick node) = Ticks node.0
event_of (Notice node) = Notices node.0
event_of (Deliver place) = Delivers (place - 1)
event_of (Lose place) = Loses (place - 1)
event_of (Copy place) = Copies (place - 1)

-- a command that a queue is handed is a client's, and has bytes; messages are counted from 1
abbrev pub MayHappen : QueueEvent → Type 0
MayHappen (Submit session body) = (0 < session) × MayStamp body
MayHappen (Down session) = 0 < session
MayHappen (Deliver place) = 0 < place
MayHappen (Lose place) = 0 < place
MayHappen (Copy place) = 0 < place
MayHappen _ = Unit {0}

-- why a queue refuses it
abbrev pub IsRefused : QueueEvent → ClusterQueue → Memory → Type 0
IsRefused (Submit session body) d e = IsSubmitCaused session body d e
IsRefused (Resend session) d e = IsResendCaused session d e
IsRefused (Down session) d e = IsOfferCaused (leader_of own_log d.group) (DownOf (client session)) d.group e
IsRefused (Tick node) d e = IsStepCaused (events.Tick node) d.group e
IsRefused (Notice node) d e = IsTellingCaused (events.Notice node (count_at d.synced.each node.0)) d.group e
IsRefused (Deliver place) d e = IsTellingCaused (events.Deliver place) d.group e
IsRefused (Lose place) d e = ⊥
IsRefused (Copy place) d e = IsStepCaused (events.Copy place) d.group e
IsRefused _ d e = e ≡ Want

-- What stands of its members then: nothing was added to the audit, or it has happened to them. Of commands that are sent
-- again some may have reached the leader.
abbrev pub LeavesAudit : QueueEvent → ClusterQueue → ClusterQueue → Type 0
LeavesAudit (Resend session) old new = Unit {0}
LeavesAudit (Notice node) old new =
    LeavesGroup (events.Notice node (count_at old.synced.each node.0)) old.group new.group
LeavesAudit (Deliver place) old new = LeavesGroup (events.Deliver place) old.group new.group
LeavesAudit _ old new = new.group.audit.items ≡ old.group.audit.items
