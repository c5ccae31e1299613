-- What the pieces of a step do.
use Rattle.std.specs.Prelude.{◌≡◌, ℕ, List, [], ◌++◌, length, take, drop, Some, None, slice_get, slice_set}
use Rattle.qq_entry.specs.declared.command.Entry.{Entry}
use Rattle.qq_log.specs.Log.{LogState}
use Rattle.qq_raft_core.specs.Raft.{server_of}
use Rattle.qq_raft_core.specs.Undone.{held_by, newest, unnoticed, LeadsBack}
use Rattle.qq_raft_core.specs.declared.lanes.Lanes.{Lanes}
use Rattle.qq_raft_model.specs.State.{Server as Raft}
use Rattle.qq_raft_msg.specs.declared.rpc.Rpc.{Rpc}
use Rattle.qq_raft.specs.Stands.{Does}
use Rattle.qq_raft.specs.Step.{ServerState}
use Rattle.qq_raft.specs.declared.row.AppliedRow.{AppliedRow}
use Rattle.qq_raft.specs.declared.server.Server.{Server}
use Rattle.qq_group.specs.declared.group.Group.{Group}
use Rattle.qq_group.specs.declared.seat.Seat.{Seat}

-- a list that is known to be committed, as far as the audit isn't as long
abbrev pub extended : List Entry → List Entry → List Entry
extended audit known = audit ++ drop (length audit) known

-- one seat changes
pub record ChangesSeat {Q L : Type 0} (k : ℕ) (was now : Seat Q L) (old new : Group Q L) : Type 0 where
  pub there : slice_get old.seats.items k ≡ Some was
  pub seats : new.seats.items ≡ slice_set old.seats.items k now
  pub queue : new.queue ≡ old.queue
  pub nodes : new.nodes ≡ old.nodes

abbrev pub known_by : Raft → List Entry
known_by s = take s.commit s.log

-- a server's messages are in the bag, and what it knows to be committed is in the audit
pub record Publishes {Q L : Type 0} (log : L → LogState) (was now : Server Q L) (bag bag_now : List Rpc)
    (audit audit_now : List Entry) : Type 0 where
  pub server : now ≡ record was { raft = record was.raft { out = now.raft.out } }
  pub raft : server_of log now.raft ≡ record (server_of log was.raft) { out = [] }
  pub bag_is : bag_now ≡ bag ++ (server_of log was.raft).out
  pub audit_is : audit_now ≡ extended audit (known_by (server_of log was.raft))

-- its rows were handed out, and what led back from noticed changes is given up
pub record Settles {Q L : Type 0} (log : L → LogState) (was now : Server Q L) (bag bag_now : List Rpc)
    (audit audit_now : List Entry) (rows : List AppliedRow) : Type 0 where
  pub raft : server_of log now.raft ≡ record (server_of log was.raft) { out = [] }
  pub machine : now.machine ≡ was.machine
  pub applied : now.applied ≡ was.applied
  pub none : now.rows.items ≡ []
  pub rows_are : rows ≡ was.rows.items
  pub undos : now.raft.undos.items ≡ unnoticed was.raft
  pub bag_is : bag_now ≡ bag ++ (server_of log was.raft).out
  pub audit_is : audit_now ≡ extended audit (known_by (server_of log was.raft))

-- a server has made a step, and what that leaves is handed out
pub record IsStepped {P Q L : Type 0} (stands : P → Q → Type 0) (log : L → LogState)
    (f : ServerState P → ServerState P) (was now : Server Q L) (bag bag_now : List Rpc)
    (audit audit_now : List Entry) (rows : List AppliedRow) : Type 0 where
  pub made : Server Q L
  pub does : Does stands log f was made
  pub back : LeadsBack log was.raft made.raft
  pub settles : Settles log made now bag bag_now audit audit_now rows

abbrev pub seated : {Q L : Type 0} → ℕ → Server Q L → Seat Q L → Seat Q L
seated noticed server seat = record seat { server = Some server; noticed = noticed }

-- the server of a seat has made a step
pub record IsFed {P Q L : Type 0} (stands : P → Q → Type 0) (log : L → LogState) (f : ServerState P → ServerState P)
    (old new : Seat Q L) (bag bag_now : List Rpc) (audit audit_now : List Entry) (rows : List AppliedRow) : Type 0
  where
    pub was : Server Q L
    pub now : Server Q L
    pub up : old.server ≡ Some was
    pub seat : new ≡ seated (server_of log now.raft).noticed now old
    pub stepped : IsStepped stands log f was now bag bag_now audit audit_now rows

-- a server has left its log in its seat
pub record IsLeaving {Q L : Type 0} (log : L → LogState) (last : Server Q L) (old new : Seat Q L) : Type 0 where
  pub lanes : Lanes L
  pub newest_is : newest log lanes ≡ held_by log last.raft
  pub undos : lanes.undos.items ≡ last.raft.undos.items
  pub log_is : lanes.log ≡ last.raft.log
  pub seat : new ≡ record old { left = Some lanes }

-- a server is gone, and has left what its last call made of its log
pub record IsDropped {Q L : Type 0} (log : L → LogState) (old new : Seat Q L) : Type 0 where
  pub was : Server Q L
  pub last : Server Q L
  pub up : old.server ≡ Some was
  pub back : LeadsBack log was.raft last.raft
  pub leaves : IsLeaving log last (record old { server = None }) new

-- an input has reached a member
pub record IsFedAt {P Q L : Type 0} (stands : P → Q → Type 0) (log : L → LogState)
    (f : ServerState P → ServerState P) (k : ℕ) (old new : Group Q L) (rows : List AppliedRow) : Type 0 where
  pub seat : Seat Q L
  pub now : Seat Q L
  pub changes : ChangesSeat k seat now old new
  pub fed : IsFed stands log f seat now old.bag new.bag old.audit.items new.audit.items rows

-- a member's server is gone, and nothing else has changed
pub record IsDroppedAt {Q L : Type 0} (log : L → LogState) (k : ℕ) (old new : Group Q L) : Type 0 where
  pub seat : Seat Q L
  pub now : Seat Q L
  pub changes : ChangesSeat k seat now old new
  pub dropped : IsDropped log seat now
  pub bag : new.bag ≡ old.bag
  pub audit : new.audit.items ≡ old.audit.items
