-- What a queue refuses is refused for want of memory, or a number of it stands at its end.
use Rattle.std.proofs.Common.{◌≡◌, ◌⊎◌, ◌<◌, ◌≤◌, ◌+◌, ℕ, List, [], ◌∷◌, Option, Some, None, get_or, length, refl, sym, ◌∙◌, subst, inl, inr, arith}
use Rattle.std.proofs.lemmas.Option.{slice_get-get_or}
use Rattle.qq_base.specs.declared.ids.NodeId.{NodeId}
use Rattle.qq_base.specs.declared.memory.Memory.{Memory}
use Rattle.qq_base.specs.declared.memory.Memory.TheVariants.{Spent, Want}
use Rattle.qq_base.specs.declared.memory.TheConstants.{NUMBER_END}
use Rattle.qq_disk.specs.Facts.{DiskFacts}
use Rattle.qq_base.specs.Ids.{client}
use Rattle.qq_entry.specs.declared.command.Command.{Command}
use Rattle.qq_entry.specs.declared.command.Command.TheVariants.{Down as DownOf}
use Rattle.qq_group.specs.Reads.{leader_of}
use Rattle.qq_group.specs.declared.event.Event.{Event}
use Rattle.qq_group.specs.declared.event.Event.TheVariants as events
use Rattle.qq_raft_msg.specs.declared.bag.TheConstants.{BAG_LIMIT}
use Rattle.qq_session.specs.Publishing.{next_command}
use Rattle.qq_cluster_model.specs.Cluster.{At, Cluster, Setup}
use Rattle.qq_cluster_model.specs.Rules.{Is}
use Rattle.qq_cluster_laws.proofs.Serves.{gives_up-same}
use Rattle.qq_cluster_laws.specs.Serves.{GivesUp, Seen}
use Rattle.qq_queue.specs.ClusterQueue.{IsOfferCaused, count_at}
use Rattle.qq_queue.specs.Members.{AreSound, IsStepCaused, Members, own_log}
use Rattle.qq_queue.specs.Sessions.{numbers_of}
use Rattle.qq_queue.specs.declared.cluster_queue.ClusterQueue.{ClusterQueue}
use Rattle.qq_queue.specs.Events.{event_of}
use Rattle.qq_cluster.specs.Ends.{IsAtEnd, IsRefusedAt}
use Rattle.qq_queue.specs.Events.{IsRefused}
use Rattle.qq_cluster.specs.Nodes.{EndsAt, GaveUp, InQueue, Stands, seen}
use Rattle.qq_queue.specs.declared.event.QueueEvent.{QueueEvent}
use Rattle.qq_queue.specs.declared.event.QueueEvent.TheVariants.{Submit, TellEnded, TellNotTaken, Attach, Resend, Fetch, Down, Tick, Notice, Deliver, Lose, Copy, Judge}
use Rattle.qq_cluster.specs.declared.nodes.Nodes.{Nodes as Held}
use Rattle.qq_cluster.proofs.Stands.{ends-now, same-logs, same-seen, stands-logs}

-- what the law of refusals says
abbrev pub StepEnds : Type 0
StepEnds =
    (event : Event) (group : Members) (number : ℕ) → AreSound group → IsStepCaused event group (Spent number)
    → (number ≡ BAG_LIMIT) ⊎ (NUMBER_END ≤ number)

no-want : {P : Type 0} (number : ℕ) → Spent number ≡ Want → P
no-want number is = absurd cc

telling-ends : StepEnds → (event : Event) (group : Members) (number : ℕ) → AreSound group
    → ((Spent number ≡ Want) ⊎ IsStepCaused event group (Spent number)) → IsAtEnd number
telling-ends steps event group number sound (inl want) = no-want number want
telling-ends steps event group number sound (inr cause) = steps event group number sound cause

offer-ends : StepEnds → (leader : Option NodeId) (command : Command) (group : Members) (number : ℕ) → AreSound group
    → IsOfferCaused leader command group (Spent number) → IsAtEnd number
offer-ends steps None command group number sound cause = no-want number cause
offer-ends steps (Some node) command group number sound cause =
    steps (events.Submit node 0 command) group number sound cause

event-ends : StepEnds → (event : QueueEvent) (d : ClusterQueue) (number : ℕ) → AreSound d.group
    → IsRefused event d (Spent number) → IsAtEnd number
event-ends steps (Submit session body) d number sound (inl hand) = let e = hand.0 in inr (omega (arith, e))
event-ends steps (Submit session body) d number sound (inr offer) =
    offer-ends steps (leader_of own_log d.group) (next_command body (numbers_of d.publishers session)) d.group number
    sound offer
event-ends steps (TellEnded session) d number sound cause = no-want number cause
event-ends steps (TellNotTaken session id) d number sound cause = no-want number cause
event-ends steps (Attach session tag taker) d number sound cause = no-want number cause
event-ends steps (Fetch session) d number sound cause = no-want number cause
event-ends steps (Resend session) d number sound (inl want) = no-want number want
event-ends steps (Resend session) d number sound (inr refused) =
    offer-ends steps (leader_of own_log d.group) refused.command refused.group number refused.sound refused.cause
event-ends steps (Down session) d number sound cause =
    offer-ends steps (leader_of own_log d.group) (DownOf (client session)) d.group number sound cause
event-ends steps (Tick node) d number sound cause = steps (events.Tick node) d.group number sound cause
event-ends steps (Notice node) d number sound cause =
    telling-ends steps (events.Notice node (count_at d.synced.each node.0)) d.group number sound cause
event-ends steps (Deliver place) d number sound cause =
    telling-ends steps (events.Deliver place) d.group number sound cause
event-ends steps (Lose place) d number sound cause = absurd cause
event-ends steps (Copy place) d number sound cause = steps (events.Copy place) d.group number sound cause
event-ends steps (Judge verdict) d number sound cause = no-want number cause

refused-at : (event : QueueEvent) (at : ℕ) (queues : List ClusterQueue) (d : ClusterQueue) (e : Memory) → at < length queues
    → IsRefused event (get_or queues at d) e → IsRefusedAt event at queues e
refused-at event at queues d e lt caused =
    record { queue = get_or queues at d; here = slice_get-get_or queues at d lt; caused = caused }

pub refused-or : (event : QueueEvent) (at : ℕ) (queues : List ClusterQueue) (d : ClusterQueue) (e : Memory)
    → at < length queues → (e ≡ Want) ⊎ IsRefused event (get_or queues at d) e
    → (e ≡ Want) ⊎ IsRefusedAt event at queues e
refused-or event at queues d e lt (inl want) = inl want
refused-or event at queues d e lt (inr caused) = inr (refused-at event at queues d e lt caused)

module _ {D : Type 0} {facts : DiskFacts D} where
  -- then the call is given up, before anything has happened, or what happened was shown in part
  pub gave_up-refused : StepEnds → (at : ℕ) (event : QueueEvent) (old new : Held D) (memory : Memory)
      → new.nodes ≡ old.nodes → (memory ≡ Want) ⊎ IsRefusedAt event at old.queues.items memory
      → GaveUp facts (λ setup. Is (At (at + 1) (event_of event))) old new memory
  gave_up-refused steps at event old new memory nodes cause = record {
    gives_up = λ setup c r st. subst (λ (b : ℕ → Seen). GivesUp setup c (seen facts old) b)
        (same-seen facts old new nodes) (gives_up-same setup c (seen facts old));
    logs = λ setup c r st. same-logs setup old.nodes new.nodes nodes (stands-logs setup old c st);
    spent = λ number is setup c r st. by cause number is setup c st;
  }
    where
      by : (memory ≡ Want) ⊎ IsRefusedAt event at old.queues.items memory → (number : ℕ) → memory ≡ Spent number
          → (setup : Setup) (c : Cluster) → Stands facts setup old c
          → EndsAt facts setup (Is (At (at + 1) (event_of event))) old c number
      by (inl want) number is setup c st = no-want number (sym is ∙ want)
      by (inr refused) number is setup c st =
          let caused : IsRefused event refused.queue (Spent number) =
          subst (IsRefused event refused.queue) is refused.caused in
          ends-now setup (Is (At (at + 1) (event_of event))) old c number st
          (At (at + 1) (event_of event) ∷ [], refl)
          (InQueue at event (record { queue = refused.queue; here = refused.here; caused = caused }))
          (event-ends steps event refused.queue number (st.queues at refused.queue refused.here).sound caused)
