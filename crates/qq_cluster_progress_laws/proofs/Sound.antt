-- What holds of a queue, whatever happens.
use Rattle.std.proofs.Common.{◌≡◌, ℕ, ◌+◌, List, [], ◌∷◌, length, sym, subst}
use Rattle.qq_base.specs.declared.ids.NodeId.{NodeId}
use Rattle.qq_entry.specs.declared.command.Entry.{Entry}
use Rattle.qq_raft_model.specs.Group.{Event as Move, Group, group_after}
use Rattle.qq_raft_model.specs.Promises.{AreDistinct, IsOpened, IsUp}
use Rattle.qq_raft_model.specs.State.{Server}
use Rattle.qq_cluster_model.specs.Queue.{Queue, Event, after, happens, moves}
use Rattle.qq_cluster_model.proofs.Counts.{IsCounted, counted-event}
use Rattle.qq_cluster_model.proofs.Groups.{Reached, reached-next}
use Rattle.qq_cluster_progress_laws.proofs.Fit.{AreFit, fit-after}

-- what the law of groups says of a server's changes
abbrev pub AreHanded : Type 0
AreHanded =
    (g : Group) (whole : List Entry) (made : List Move) (k : ℕ) (s : Server) → AreDistinct g.nodes → IsOpened g whole
    → IsUp (group_after g made) k s → s.op ≡ length ((group_after g made).seat k).ops + length s.ops

pub record IsSound (nodes : List NodeId) (q : Queue) : Type 0 where
  pub fit : AreFit nodes q.group
  pub counted : IsCounted q
  pub reached : Reached q

pub sound-event : (nodes : List NodeId) (q : Queue) (event : Event) → IsSound nodes q → IsSound nodes (happens q event)
sound-event nodes q event sound = record {
  fit = fit-after nodes (moves q event) q.group sound.fit;
  counted = counted-event q event sound.counted;
  reached = reached-next q event sound.reached;
}

pub sound-all : (nodes : List NodeId) (q : Queue) (events : List Event) → IsSound nodes q → IsSound nodes (after q events)
sound-all nodes q [] sound = sound
sound-all nodes q (event ∷ events) sound = sound-all nodes (happens q event) events (sound-event nodes q event sound)

-- a server's changes are those of its log, and those that it still holds
pub ops-counted : AreHanded → (nodes : List NodeId) (q : Queue) → IsSound nodes q → (k : ℕ) (s : Server)
    → IsUp q.group k s → s.op ≡ length (q.group.seat k).ops + length s.ops
ops-counted handed nodes q sound k s up =
    let r = sound.reached in
    subst (λ (g : Group). s.op ≡ length (g.seat k).ops + length s.ops) (sym r.is)
    (handed r.start r.begun.whole r.made k s r.begun.distinct r.begun.opened (subst (λ (g : Group). IsUp g k s) r.is up))
