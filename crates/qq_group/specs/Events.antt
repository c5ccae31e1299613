-- What each event is to a group. Places of messages are counted from 1.
use Rattle.std.specs.Prelude.{◌≡◌, ◌++◌, ◌∷◌, ℕ, zero, suc, Bool, true, false, List, [], Option, Some, None, is_some, nat_lt, ◌&&◌, if◌then◌else◌, slice_get}
use Rattle.qq_base.specs.declared.ids.Index.{Index}
use Rattle.qq_base.specs.declared.memory.Memory.{Memory}
use Rattle.qq_entry.specs.declared.command.Entry.{Entry}
use Rattle.qq_log.specs.Log.{LogState}
use Rattle.qq_raft_core.specs.Fits.{fits}
use Rattle.qq_raft_core.specs.Raft.{server_of}
use Rattle.qq_raft_msg.specs.Bag.{at_place}
use Rattle.qq_raft_msg.specs.Queue.{Applied}
use Rattle.qq_raft_msg.specs.Rpc.{envelope}
use Rattle.qq_raft_msg.specs.declared.rpc.Rpc.{Rpc}
use Rattle.qq_raft_model.specs.Server.{Input}
use Rattle.qq_raft_model.specs.State.{Server as Raft}
use Rattle.qq_raft.specs.declared.row.AppliedRow.{AppliedRow}
use Rattle.qq_raft.specs.declared.server.Server.{Server}
use Rattle.qq_raft_model.specs.Group.{Group as GroupState, happens}
use Rattle.qq_raft_model.specs.Group.Event.{Deliver, Lose, Copy, Crash, Notice as Notify}
use Rattle.qq_group.specs.Follows.{AddsNothing, AddsStep, HasShownBy, OthersStay, ShowsNothing}
use Rattle.qq_group.specs.Group.{server_at}
use Rattle.qq_group.specs.Handing.{held}
use Rattle.qq_group.specs.Input.{acts, IsFeedCaused}
use Rattle.qq_group.specs.declared.group.Group.{Group}
use Rattle.qq_group.specs.declared.input.Input.TheVariants.{Notice, Receive}
use Rattle.qq_group.specs.declared.outcome.Outcome.{Outcome}
use Rattle.qq_group.specs.declared.outcome.Outcome.TheVariants.{Done, Down, NoSuch, Unfit}
use Rattle.qq_group.specs.declared.seat.Seat.{Seat}

-- ---- messages

abbrev pub loses : ℕ → GroupState → GroupState
loses zero g = g
loses (suc at) g = happens (Lose at) g

abbrev pub copies : ℕ → GroupState → GroupState
copies zero g = g
copies (suc at) g = happens (Copy at) g

-- a server takes only messages that fit; where it is down the message is lost anyway
abbrev pub takes : Option Raft → Rpc → Bool
takes None rpc = true
takes (Some s) rpc = fits s rpc

-- the message at a place reaches its receiver, or is lost where that doesn't take it
abbrev pub delivery : ℕ → Option Rpc → GroupState → GroupState
delivery at None g = g
delivery at (Some rpc) g =
    if takes (g.seat (envelope rpc).to.0).server rpc then happens (Deliver at) g else happens (Lose at) g

abbrev pub delivers : ℕ → GroupState → GroupState
delivers zero g = g
delivers (suc at) g = delivery at (slice_get g.bag at) g

-- a message whose receiver crashes on it is lost
abbrev pub crash_on : Option Rpc → GroupState → GroupState
crash_on None g = g
crash_on (Some rpc) g = happens (Crash (envelope rpc).to.0) g

abbrev pub refuses : ℕ → GroupState → GroupState
refuses place g = crash_on (at_place place g.bag) (loses place g)

-- ---- notices

abbrev pub lacks_by : {Q L : Type 0} → ℕ → Option (Seat Q L) → Bool
lacks_by op None = false
lacks_by op (Some seat) = is_some seat.server && nat_lt (held seat) op

-- a member that is up hasn't handed its log an op with this number
abbrev pub lacks_op : {Q L : Type 0} → ℕ → ℕ → Group Q L → Bool
lacks_op k op group = lacks_by op (slice_get group.seats.items k)

-- a notice of such an op isn't taken
abbrev pub notices : ℕ → ℕ → Bool → GroupState → GroupState
notices k op true g = g
notices k op false g = happens (Notify k op) g

-- ---- outcomes

abbrev pub crash_outcome : {Q L : Type 0} → Option (Server Q L) → Outcome
crash_outcome None = Down
crash_outcome (Some s) = Done

abbrev pub place_outcome : Option Rpc → Outcome
place_outcome None = NoSuch
place_outcome (Some rpc) = Done

abbrev pub taken_outcome : {Q L : Type 0} → (L → LogState) → Rpc → Option (Server Q L) → Outcome
taken_outcome log rpc None = Down
taken_outcome log rpc (Some s) = if fits (server_of log s.raft) rpc then Done else Unfit

abbrev pub delivery_outcome : {Q L : Type 0} → (L → LogState) → Option Rpc → Group Q L → Outcome
delivery_outcome log None group = NoSuch
delivery_outcome log (Some rpc) group = taken_outcome log rpc (server_at (envelope rpc).to.0 group)

-- ---- what a message that is delivered shows, and why it isn't

abbrev pub takes_at : {Q L : Type 0} → (L → LogState) → Rpc → Option (Server Q L) → Bool
takes_at log rpc None = true
takes_at log rpc (Some s) = fits (server_of log s.raft) rpc

abbrev pub OneOf : Bool → Type 0 → Type 0 → Type 0
OneOf true A B = A
OneOf false A B = B

-- the rows are those of the receiver's step; a message that isn't taken changes nothing there and shows none
abbrev pub HasShownMessage :
    {P Q L : Type 0} → (P → Q → Type 0) → (P → Index → Entry → Applied P) → (L → LogState) → Option Rpc
    → Group Q L → Group Q L → List AppliedRow → Type 0
HasShownMessage stands step log None old new rows = rows ≡ []
HasShownMessage stands step log (Some rpc) old new rows =
    let k = (envelope rpc).to.0 in
    OneOf (takes_at log rpc (server_at k old))
    (HasShownBy stands log (acts step (Receive rpc)) (server_at k old) (server_at k new) rows)
    (ShowsNothing (server_at k old) (server_at k new) rows)

-- all members but the message's receiver are as they were
abbrev pub ReachesOne : {Q L : Type 0} → Option Rpc → Group Q L → Group Q L → Type 0
ReachesOne None old new = new.seats ≡ old.seats
ReachesOne (Some rpc) old new = OthersStay (envelope rpc).to.0 old new

abbrev pub IsDeliveryCaused :
    {P Q L : Type 0} → (P → Q → Type 0) → (P → Index → Entry → Applied P) → (P → Index → Entry → Type 0)
    → (L → LogState) → Option Rpc → Group Q L → Memory → Type 0
IsDeliveryCaused stands step passes log None old e = ⊥
IsDeliveryCaused stands step passes log (Some rpc) old e =
    IsFeedCaused stands step passes log (Receive rpc) old (server_at (envelope rpc).to.0 old) e

abbrev pub notice_outcome : {Q L : Type 0} → Bool → Option (Server Q L) → Outcome
notice_outcome lacks None = Down
notice_outcome lacks (Some s) = if lacks then NoSuch else Done

-- a notice that isn't taken changes nothing and shows no rows
abbrev pub HasShownNotice :
    {P Q L : Type 0} → (P → Q → Type 0) → (P → Index → Entry → Applied P) → (L → LogState) → ℕ → Bool
    → Option (Server Q L) → Option (Server Q L) → List AppliedRow → Type 0
HasShownNotice stands step log op lacks old new rows =
    OneOf lacks (ShowsNothing old new rows) (HasShownBy stands log (acts step (Notice op)) old new rows)

-- ---- what is left in the bag, and what the audit gains

-- a message is taken out, and its receiver makes its step, where it takes the message
abbrev pub AddsDelivery :
    {Q L : Type 0} → (L → LogState) → Option Rpc → List Rpc → Group Q L → Group Q L → Type 0
AddsDelivery log None bag old new = AddsNothing bag old.audit.items new
AddsDelivery log (Some rpc) bag old new =
    let server = server_at (envelope rpc).to.0 old in
    let audit = old.audit.items in
    OneOf (takes_at log rpc server) (AddsStep log (Input.Receive rpc) bag audit server new)
    (AddsNothing bag audit new)

abbrev pub with_copy : Option Rpc → List Rpc → List Rpc
with_copy None bag = bag
with_copy (Some rpc) bag = bag ++ rpc ∷ []

abbrev pub AddsNotice :
    {Q L : Type 0} → (L → LogState) → ℕ → Bool → Option (Server Q L) → Group Q L → Group Q L → Type 0
AddsNotice log op lacks server old new =
    let audit = old.audit.items in
    OneOf lacks (AddsNothing old.bag audit new) (AddsStep log (Input.Notice op) old.bag audit server new)
