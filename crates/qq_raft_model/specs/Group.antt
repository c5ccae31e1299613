-- A group of servers, the log of each, which keeps what the server hands out, and the messages between them (Ongaro's
-- dissertation, chapter 3). Members are numbers.
use Rattle.std.specs.Prelude.{◌+◌, ℕ, Bool, true, false, List, [], ◌∷◌, ◌++◌, length, take, drop, Option, Some, None, nat_eq, nat_le, ◌&&◌, ◌||◌, if◌then◌else◌}
use Rattle.qq_base.specs.Fronts.{put}
use Rattle.qq_base.specs.declared.ids.NodeId.{NodeId}
use Rattle.qq_base.specs.declared.ids.QueueId.{QueueId}
use Rattle.qq_entry.specs.declared.command.Command.{Command}
use Rattle.qq_entry.specs.declared.command.Entry.{Entry}
use Rattle.qq_log.specs.declared.lane.Lane.{Lane}
use Rattle.qq_log.specs.declared.op.Op.{Op}
use Rattle.qq_log.specs.Stable.{Stable, known_entries, stable}
use Rattle.qq_raft_protocol.specs.Moves.{longer}
use Rattle.qq_raft_msg.specs.Rpc.{envelope}
use Rattle.qq_raft_msg.specs.declared.rpc.Rpc.{Rpc}
use Rattle.qq_raft_model.specs.Server.{Input, restart, step}
use Rattle.qq_raft_model.specs.State.{Server}

-- one member
pub record Seat : Type 0 where
  pub server : Option Server  -- None while it is down
  pub ops : List Op  -- what its log was handed, from the first op on
  pub noticed : ℕ  -- the op up to which the server was told that its log is durable

pub record Group : Type 0 where
  pub queue : QueueId
  pub nodes : List NodeId
  pub seat : ℕ → Seat
  pub bag : List Rpc  -- messages on their way, in any order
  pub audit : List Entry  -- the longest list of entries that a server has known to be committed

abbrev pub empty_seat : Seat
empty_seat = record { server = None; ops = []; noticed = 0 }

-- all members are down, and their logs are empty
abbrev pub new_group : QueueId → List NodeId → Group
new_group queue nodes =
    record { queue = queue; nodes = nodes; seat = λ k. empty_seat; bag = []; audit = [] }

pub data Event : Type 0 where
  -- time passes at a server
  Tick : (node : ℕ) → Event
  -- a client's command reaches a server
  Submit : (node time : ℕ) (command : Command) → Event
  -- the same, but that its entry isn't sent before the next `Flush` of the server
  Add : (node time : ℕ) (command : Command) → Event
  Flush : (node : ℕ) → Event
  -- the message at a place of the bag reaches the server that it is for, or is lost where that is down
  Deliver : (at : ℕ) → Event
  Lose : (at : ℕ) → Event
  Copy : (at : ℕ) → Event
  -- a server's next op is handed to its log
  Take : (node : ℕ) → Event
  -- a server is told that its log is durable up to an op
  Notice : (node op : ℕ) → Event
  -- a server loses all but what its log was handed
  Crash : (node : ℕ) → Event
  -- it restarts, where its log lost what is behind an op
  Restart : (node op : ℕ) → Event

-- ---- steps of a server

-- what a server sends goes into the bag, and what it knows to be committed into the audit
abbrev pub after_step : ℕ → Server → Group → Group
after_step k s g =
    record g {
      seat = put k (record {
        server = Some (record s { out = [] });
        ops = (g.seat k).ops;
        noticed = s.noticed;
      }) g.seat;
      bag = g.bag ++ s.out;
      audit = longer g.audit (take s.commit s.log);
    }

abbrev pub feed_by : ℕ → Input → Option Server → Group → Group
feed_by k input None g = g
feed_by k input (Some s) g = after_step k (step s input) g

-- an input reaches a server that is up
abbrev pub feed : ℕ → Input → Group → Group
feed k input g = feed_by k input (g.seat k).server g

-- ---- messages

abbrev pub deliver_by : List Rpc → List Rpc → Group → Group
deliver_by before [] g = g
deliver_by before (rpc ∷ rest) g = feed (envelope rpc).to.0 (Input.Receive rpc) (record g { bag = before ++ rest })

-- ---- logs

abbrev pub take_by : ℕ → Server → List Op → Group → Group
take_by k s [] g = g
take_by k s (op ∷ ops) g =
    record g {
      seat = put k (record {
        server = Some (record s { ops = ops });
        ops = (g.seat k).ops ++ op ∷ [];
        noticed = (g.seat k).noticed;
      }) g.seat;
    }

abbrev pub take_op : ℕ → Option Server → Group → Group
take_op k None g = g
take_op k (Some s) g = take_by k s s.ops g

abbrev pub is_down : Option Server → Bool
is_down None = true
is_down (Some s) = false

abbrev pub has_node : ℕ → List NodeId → Bool
has_node k [] = false
has_node k (n ∷ nodes) = nat_eq n.0 k || has_node k nodes

-- a member that is down, and an op of its log that isn't older than what was noticed
abbrev pub may_restart : ℕ → ℕ → Group → Bool
may_restart k op g =
    is_down (g.seat k).server
    && (has_node k g.nodes && (nat_le (g.seat k).noticed op && nat_le op (length (g.seat k).ops)))

-- what recovery hands out of a log's state
abbrev pub lane_with : QueueId → Stable → Lane
lane_with queue state =
    record {
      queue = queue;
      op = state.op;
      term = state.term;
      vote = state.vote;
      base = state.base;
      shadow = None;
      entries = known_entries state.log;
      places = [];
    }

abbrev pub restart_by : ℕ → ℕ → Option Stable → Group → Group
restart_by k op None g = g
restart_by k op (Some state) g =
    record g {
      seat = put k (record {
        server = Some (restart (record { 0 = k }) g.nodes (lane_with g.queue state));
        ops = take op (g.seat k).ops;
        noticed = op;
      }) g.seat;
    }

-- ---- events

-- an event that can't be changes nothing
abbrev pub happens : Event → Group → Group
happens (Tick k) g = feed k Input.Tick g
happens (Submit k time command) g = feed k (Input.Submit time command) g
happens (Add k time command) g = feed k (Input.Add time command) g
happens (Flush k) g = feed k Input.Flush g
happens (Deliver at) g = deliver_by (take at g.bag) (drop at g.bag) g
happens (Lose at) g = record g { bag = take at g.bag ++ drop (at + 1) g.bag }
happens (Copy at) g = record g { bag = g.bag ++ take 1 (drop at g.bag) }
happens (Take k) g = take_op k (g.seat k).server g
happens (Notice k op) g = if nat_le op (length (g.seat k).ops) then feed k (Input.Notice op) g else g
happens (Crash k) g =
    record g {
      seat = put k (record { server = None; ops = (g.seat k).ops; noticed = (g.seat k).noticed }) g.seat;
    }
happens (Restart k op) g =
    if may_restart k op g then restart_by k op (stable (take op (g.seat k).ops)) g else g

abbrev pub group_after : Group → List Event → Group
group_after g [] = g
group_after g (e ∷ es) = group_after (happens e g) es
