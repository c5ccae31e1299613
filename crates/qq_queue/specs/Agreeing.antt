-- Queues whose members have just gone on with what was found, and the groups whose logs that is.
use Rattle.std.specs.Prelude.{◌≡◌, ℕ, List, [], length, Option, Some, None, option_map, slice_get, unwrap_or}
use Rattle.qq_base.specs.declared.ids.NodeId.{NodeId}
use Rattle.qq_log.specs.Stable.{Stable, stable}
use Rattle.qq_log.specs.declared.op.Op.{Op}
use Rattle.qq_raft_protocol.specs.Facts.{In}
use Rattle.qq_raft_protocol.specs.World.{Lane, no_lane}
use Rattle.qq_raft_model.specs.Group.{Group as GroupState}
use Rattle.qq_raft_model.specs.Handing.{plain_state}
use Rattle.qq_raft_model.specs.Promises.{members_of}
use Rattle.qq_raft_model.specs.Refines.{number}
use Rattle.qq_group.specs.Group.{Represents, server_at}
use Rattle.qq_group.specs.Opening.{IsAllDown}
use Rattle.qq_queue.specs.Members.{Member, own_log}
use Rattle.qq_queue.specs.declared.cluster_queue.ClusterQueue.{ClusterQueue}

-- ---- what the members went on with

-- the vote of each node's log, as it was found
abbrev pub found_vote : List (Option NodeId) → ℕ → Option NodeId
found_vote votes k = unwrap_or (slice_get votes k) None

-- the state of a member's log, as it was found with this vote
abbrev pub found_state : Option NodeId → Member → Stable
found_state vote s = plain_state s.raft.op s.raft.term vote s.raft.log.entries

-- the same as the protocol's lane, a new one where the member is down
abbrev pub lane_by : Option NodeId → Option Member → Lane
lane_by vote None = no_lane
lane_by vote (Some s) =
    record {
      op = s.raft.op;
      term = s.raft.term.0;
      vote = option_map number vote;
      log = s.raft.log.entries;
    }

abbrev pub lane_of : ClusterQueue → ℕ → Lane
lane_of d k = lane_by (found_vote d.votes.each k) (server_at k d.group)

-- ---- and the logs which that is

-- Each member that is up went on with what these ops come to, by its node, and has done nothing since.
pub record BeginsWith (logs : ℕ → List Op) (d : ClusterQueue) : Type 0 where
  pub group : GroupState
  pub represents : Represents own_log group d.group
  pub ops : (k : ℕ) → (group.seat k).ops ≡ logs k
  pub noticed : (k : ℕ) → (group.seat k).noticed ≡ length (logs k)
  pub each : (k : ℕ) (s : Member) → server_at k d.group ≡ Some s
      → stable (logs k) ≡ Some (found_state (found_vote d.votes.each k) s)

-- All members of a group are down, and its logs are those that the queue's members went on with: all of each is
-- noticed, a member that is down has no ops, and neither has a node without a member.
pub record HasItsLogs (d : ClusterQueue) (g : GroupState) : Type 0 where
  pub down : IsAllDown d.args.queue d.group.nodes.items [] g
  pub noticed : (k : ℕ) → (g.seat k).noticed ≡ length (g.seat k).ops
  pub begins : BeginsWith (λ k. (g.seat k).ops) d
  pub empty : (k : ℕ) → server_at k d.group ≡ None → (g.seat k).ops ≡ []
  pub others : (k : ℕ) → (In k (members_of g.nodes) → ⊥) → (g.seat k).ops ≡ []
