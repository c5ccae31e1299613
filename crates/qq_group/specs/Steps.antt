-- What each event of a group's code is to its definition.
use Rattle.std.specs.Prelude.{◌≡◌, ⊤, ℕ, List, [], length, IsSome}
use Rattle.qq_base.specs.Causes.{SpentOnlyWhere}
use Rattle.qq_base.specs.declared.ids.Index.{Index}
use Rattle.qq_base.specs.declared.memory.Memory.{Memory}
use Rattle.qq_entry.specs.Range.{IsCommand, HasContent}
use Rattle.qq_entry.specs.declared.command.Entry.{Entry}
use Rattle.qq_log.specs.Log.{LogState}
use Rattle.qq_raft_msg.specs.Bag.{at_place, without}
use Rattle.qq_raft_msg.specs.Queue.{Applied}
use Rattle.qq_raft_msg.specs.declared.bag.TheConstants.{BAG_LIMIT}
use Rattle.qq_raft.specs.Step.{add, flush, tick, submit}
use Rattle.qq_raft.specs.declared.row.AppliedRow.{AppliedRow}
use Rattle.qq_raft_msg.specs.declared.rpc.Rpc.{Rpc}
use Rattle.qq_raft_model.specs.Server.{Input}
use Rattle.qq_raft_model.specs.Group.{Event as GroupEvent, Group as GroupState, happens}
use Rattle.qq_group.specs.Events.{copies, crash_outcome, delivers, delivery_outcome, lacks_op, loses, notice_outcome, notices, place_outcome, refuses, with_copy, AddsDelivery, AddsNotice, HasShownMessage, HasShownNotice, IsDeliveryCaused, ReachesOne}
use Rattle.qq_group.specs.Follows.{AddsNothing, AddsStep, HasShownBy, OthersStay}
use Rattle.qq_group.specs.Group.{server_at}
use Rattle.qq_group.specs.Input.{fed_outcome, IsFeedCaused}
use Rattle.qq_group.specs.declared.event.Event.{Event}
use Rattle.qq_group.specs.declared.event.Event.TheVariants.{Tick, Submit, Add, Flush, Deliver, Lose, Copy, Notice, Crash}
use Rattle.qq_group.specs.declared.group.Group.{Group}
use Rattle.qq_group.specs.declared.input.Input.TheVariants as input
use Rattle.qq_group.specs.declared.outcome.Outcome.{Outcome}

abbrev pub MayHappen : Event → Type 0
MayHappen (Submit node time command) = IsCommand command × HasContent command
MayHappen (Add node time command) = IsCommand command × HasContent command
MayHappen (Flush node) = ⊤
MayHappen (Tick node) = ⊤
MayHappen (Deliver place) = ⊤
MayHappen (Lose place) = ⊤
MayHappen (Copy place) = ⊤
MayHappen (Notice node op) = ⊤
MayHappen (Crash node) = ⊤

abbrev pub made_by : {Q L : Type 0} → Event → Group Q L → GroupState → GroupState
made_by (Tick node) group = happens (GroupEvent.Tick node.0)
made_by (Submit node time command) group = happens (GroupEvent.Submit node.0 time command)
made_by (Add node time command) group = happens (GroupEvent.Add node.0 time command)
made_by (Flush node) group = happens (GroupEvent.Flush node.0)
made_by (Deliver place) group = delivers place
made_by (Lose place) group = loses place
made_by (Copy place) group = copies place
made_by (Notice node op) group = notices node.0 op (lacks_op node.0 op group)
made_by (Crash node) group = happens (GroupEvent.Crash node.0)

-- a refused event: the member that it reached has crashed
abbrev pub refused_by : Event → GroupState → GroupState
refused_by (Tick node) = happens (GroupEvent.Crash node.0)
refused_by (Submit node time command) = happens (GroupEvent.Crash node.0)
refused_by (Add node time command) = happens (GroupEvent.Crash node.0)
refused_by (Flush node) = happens (GroupEvent.Crash node.0)
refused_by (Deliver place) = refuses place
refused_by (Lose place) = λ g. g
refused_by (Copy place) = λ g. g
refused_by (Notice node op) = happens (GroupEvent.Crash node.0)
refused_by (Crash node) = λ g. g

abbrev pub outcome_by : {Q L : Type 0} → (L → LogState) → Event → Group Q L → Outcome
outcome_by log (Tick node) group = fed_outcome log input.Tick (server_at node.0 group)
outcome_by log (Submit node time command) group =
    fed_outcome log (input.Submit time command) (server_at node.0 group)
outcome_by log (Add node time command) group = fed_outcome log (input.Add time command) (server_at node.0 group)
outcome_by log (Flush node) group = fed_outcome log input.Flush (server_at node.0 group)
outcome_by log (Deliver place) group = delivery_outcome log (at_place place group.bag) group
outcome_by log (Lose place) group = place_outcome (at_place place group.bag)
outcome_by log (Copy place) group = place_outcome (at_place place group.bag)
outcome_by log (Notice node op) group = notice_outcome (lacks_op node.0 op group) (server_at node.0 group)
outcome_by log (Crash node) group = crash_outcome (server_at node.0 group)

abbrev pub HasShownEvent :
    {P Q L : Type 0} → (P → Q → Type 0) → (P → Index → Entry → Applied P) → (L → LogState) → Event → Group Q L
    → Group Q L → List AppliedRow → Type 0
HasShownEvent stands step log (Tick node) old new rows =
    HasShownBy stands log tick (server_at node.0 old) (server_at node.0 new) rows
HasShownEvent stands step log (Submit node time command) old new rows =
    HasShownBy stands log (submit time command) (server_at node.0 old) (server_at node.0 new) rows
HasShownEvent stands step log (Add node time command) old new rows =
    HasShownBy stands log (add time command) (server_at node.0 old) (server_at node.0 new) rows
HasShownEvent stands step log (Flush node) old new rows =
    HasShownBy stands log flush (server_at node.0 old) (server_at node.0 new) rows
HasShownEvent stands step log (Deliver place) old new rows =
    HasShownMessage stands step log (at_place place old.bag) old new rows
HasShownEvent stands step log (Lose place) old new rows = rows ≡ []
HasShownEvent stands step log (Copy place) old new rows = rows ≡ []
HasShownEvent stands step log (Notice node op) old new rows =
    HasShownNotice stands step log op (lacks_op node.0 op old) (server_at node.0 old) (server_at node.0 new) rows
HasShownEvent stands step log (Crash node) old new rows = rows ≡ []

-- all members but the one that an event reaches are as they were
abbrev pub ReachesAtMost : {Q L : Type 0} → Event → Group Q L → Group Q L → Type 0
ReachesAtMost (Tick node) old new = OthersStay node.0 old new
ReachesAtMost (Submit node time command) old new = OthersStay node.0 old new
ReachesAtMost (Add node time command) old new = OthersStay node.0 old new
ReachesAtMost (Flush node) old new = OthersStay node.0 old new
ReachesAtMost (Deliver place) old new = ReachesOne (at_place place old.bag) old new
ReachesAtMost (Lose place) old new = new.seats ≡ old.seats
ReachesAtMost (Copy place) old new = new.seats ≡ old.seats
ReachesAtMost (Notice node op) old new = OthersStay node.0 old new
ReachesAtMost (Crash node) old new = OthersStay node.0 old new

-- a copy was one message too many
abbrev pub IsCopyCaused : {Q L : Type 0} → ℕ → Group Q L → Memory → Type 0
IsCopyCaused place old e =
    SpentOnlyWhere e BAG_LIMIT (IsSome (at_place place old.bag) × (length old.bag ≡ BAG_LIMIT))

-- the member that it reaches had a cause, or the bag had
abbrev pub IsEventCaused :
    {P Q L : Type 0} → (P → Q → Type 0) → (P → Index → Entry → Applied P) → (P → Index → Entry → Type 0)
    → (L → LogState) → Event → Group Q L → Memory → Type 0
IsEventCaused stands step passes log (Tick node) old e =
    IsFeedCaused stands step passes log input.Tick old (server_at node.0 old) e
IsEventCaused stands step passes log (Submit node time command) old e =
    IsFeedCaused stands step passes log (input.Submit time command) old (server_at node.0 old) e
IsEventCaused stands step passes log (Add node time command) old e =
    IsFeedCaused stands step passes log (input.Add time command) old (server_at node.0 old) e
IsEventCaused stands step passes log (Flush node) old e =
    IsFeedCaused stands step passes log input.Flush old (server_at node.0 old) e
IsEventCaused stands step passes log (Deliver place) old e =
    IsDeliveryCaused stands step passes log (at_place place old.bag)
    (record old { bag = without place old.bag }) e
IsEventCaused stands step passes log (Lose place) old e = ⊥
IsEventCaused stands step passes log (Copy place) old e = IsCopyCaused place old e
IsEventCaused stands step passes log (Notice node op) old e =
    IsFeedCaused stands step passes log (input.Notice op) old (server_at node.0 old) e
IsEventCaused stands step passes log (Crash node) old e = ⊥

-- what an event leaves of the bag and the audit
abbrev pub AddsEvent : {Q L : Type 0} → (L → LogState) → Event → Group Q L → Group Q L → Type 0
AddsEvent log (Tick node) old new =
    AddsStep log Input.Tick old.bag old.audit.items (server_at node.0 old) new
AddsEvent log (Submit node time command) old new =
    AddsStep log (Input.Submit time command) old.bag old.audit.items (server_at node.0 old) new
AddsEvent log (Add node time command) old new =
    AddsStep log (Input.Add time command) old.bag old.audit.items (server_at node.0 old) new
AddsEvent log (Flush node) old new =
    AddsStep log Input.Flush old.bag old.audit.items (server_at node.0 old) new
AddsEvent log (Deliver place) old new =
    AddsDelivery log (at_place place old.bag) (without place old.bag) old new
AddsEvent log (Lose place) old new = AddsNothing (without place old.bag) old.audit.items new
AddsEvent log (Copy place) old new =
    AddsNothing (with_copy (at_place place old.bag) old.bag) old.audit.items new
AddsEvent log (Notice node op) old new =
    AddsNotice log op (lacks_op node.0 op old) (server_at node.0 old) old new
AddsEvent log (Crash node) old new = AddsNothing old.bag old.audit.items new

-- and a refused one
abbrev pub kept_bag : Event → List Rpc → List Rpc
kept_bag (Deliver place) bag = without place bag
kept_bag _ bag = bag
