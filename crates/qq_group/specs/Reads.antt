-- What a group tells of itself.
use Rattle.std.specs.Prelude.{◌≡◌, ◌≤◌, ℕ, Bool, true, List, [], ◌-◌, ◌||◌, drop, take, length, Option, Some, None, is_some, nat_eq, nat_le, nat_lt, ◌&&◌, if◌then◌else◌}
use Rattle.std.specs.List.{fold, list_all}
use Rattle.qq_base.specs.declared.ids.NodeId.{NodeId}
use Rattle.qq_entry.specs.declared.command.Entry.{Entry}
use Rattle.qq_log.specs.Log.{LogState}
use Rattle.qq_raft_core.specs.Raft.{server_of, state_of}
use Rattle.qq_raft_msg.specs.Rpc.{envelope}
use Rattle.qq_raft_msg.specs.declared.rpc.Rpc.{Rpc}
use Rattle.qq_raft_msg.specs.declared.state.MemberState.{MemberState}
use Rattle.qq_raft.specs.declared.server.Server.{Server}
use Rattle.qq_raft_model.specs.Server.{is_ready}
use Rattle.qq_raft_model.specs.State.{Server as Raft}
use Rattle.qq_raft_model.specs.Group.{Group as GroupState}
use Rattle.qq_raft_model.specs.Promises.{IsUp}
use Rattle.qq_group.specs.Group.{server_at}
use Rattle.qq_group.specs.Handing.{held}
use Rattle.qq_group.specs.declared.group.Group.{Group}
use Rattle.qq_group.specs.declared.leading.Leading.{Leading}
use Rattle.qq_group.specs.declared.seat.Seat.{Seat}

abbrev pub receiver_of : Option Rpc → Option NodeId
receiver_of None = None
receiver_of (Some rpc) = Some (envelope rpc).to

abbrev pub member_at : {Q L : Type 0} → (L → LogState) → Option (Server Q L) → Option MemberState
member_at log None = None
member_at log (Some s) = Some (state_of (server_of log s.raft))

abbrev pub machine_at : {Q L : Type 0} → Option (Server Q L) → Option Q
machine_at None = None
machine_at (Some s) = Some s.machine

-- how many ops the log of a member that is up was handed; one that was given back doesn't count
abbrev pub handed_at : {Q L : Type 0} → Option (Seat Q L) → ℕ
handed_at None = 0
handed_at (Some seat) = if is_some seat.server then held seat else 0

-- the number of the last change of a member that is up, and the op up to which it was told that its log is durable
abbrev pub op_at : {Q L : Type 0} → (L → LogState) → Option (Server Q L) → ℕ
op_at log None = 0
op_at log (Some s) = (server_of log s.raft).op

abbrev pub noticed_by : {Q L : Type 0} → (L → LogState) → Option (Server Q L) → ℕ
noticed_by log None = 0
noticed_by log (Some s) = (server_of log s.raft).noticed

-- ---- idle

-- a member that is down, or all of whose changes its log was handed and are durable, as far as it was told
abbrev pub has_settled : {Q L : Type 0} → (L → LogState) → Seat Q L → Option (Server Q L) → Bool
has_settled log seat None = true
has_settled log seat (Some s) = nat_le (server_of log s.raft).op seat.handed && nat_le seat.handed seat.noticed

-- no message is on its way, and no change of a member that is up is open
abbrev pub is_idle : {Q L : Type 0} → (L → LogState) → Group Q L → Bool
is_idle log group =
    nat_eq (length group.bag) 0
    && list_all (λ (seat : Seat _ _). has_settled log seat seat.server) group.seats.items

-- no message is on its way, and each change of a server that is up was handed to its log and noticed to be durable
pub record IsIdle (g : GroupState) : Type 0 where
  pub bag : g.bag ≡ []
  pub settled : (k : ℕ) (s : Raft) → IsUp g k s → (s.ops ≡ []) × (length (g.seat k).ops ≤ (g.seat k).noticed)

-- ---- the leader

-- a member that leads and may take commands
abbrev pub leading_at : {Q L : Type 0} → (L → LogState) → NodeId → Option (Server Q L) → Option Leading
leading_at log node None = None
leading_at log node (Some s) =
    if is_ready (server_of log s.raft) then Some (record { node = node; term = (server_of log s.raft).term }) else None

-- the one of the later term, the first where they are equal
abbrev pub later : Option Leading → Option Leading → Option Leading
later best None = best
later None (Some next) = Some next
later (Some best) (Some next) = if nat_lt best.term.0 next.term.0 then Some next else Some best

abbrev pub node_of : Option Leading → Option NodeId
node_of None = None
node_of (Some leading) = Some leading.node

-- of the members that lead and may take commands the one of the latest term
abbrev pub latest : {Q L : Type 0} → (L → LogState) → Group Q L → List NodeId → Option Leading
latest log group nodes =
    fold (λ best node. later best (leading_at log node (server_at node.0 group))) None nodes

abbrev pub leader_of : {Q L : Type 0} → (L → LogState) → Group Q L → Option NodeId
leader_of log group = node_of (latest log group group.nodes.items)

-- the queue of a node
abbrev pub machine_of : {Q L : Type 0} → Option NodeId → Group Q L → Option Q
machine_of None group = None
machine_of (Some node) group = machine_at (server_at node.0 group)

-- ---- entries

-- those from one index to another, None where the log lacks one of them
abbrev pub entries_from : ℕ → ℕ → List Entry → Option (List Entry)
entries_from first last log =
    if nat_lt last first then Some []
    else if nat_eq first 0 || nat_lt (length log) last then None
    else Some (drop (first - 1) (take last log))

abbrev pub entries_at : {Q L : Type 0} → (L → LogState) → ℕ → ℕ → Option (Server Q L) → Option (List Entry)
entries_at log first last None = None
entries_at log first last (Some s) = entries_from first last (server_of log s.raft).log
