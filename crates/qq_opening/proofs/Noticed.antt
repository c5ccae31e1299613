-- Of a member that has just gone on with what was found, all of that is noticed.
use Rattle.std.proofs.Common.{◌≡◌, ◌<◌, ℕ, true, List, Option, Some, None, get_or, length, sym, ap, ◌∙◌}
use Rattle.std.specs.Prelude.{is_some, slice_get}
use Rattle.std.proofs.lemmas.Bool.{false≢true}
use Rattle.qq_group.specs.Group.{IsSeat, IsSeatBy, server_at, server_by}
use Rattle.qq_group.specs.Restarts.{noticed_at}
use Rattle.qq_group.specs.declared.seat.Seat.{Seat}
use Rattle.qq_log.specs.Log.{LogState}
use Rattle.qq_log.specs.declared.op.Op.{Op}
use Rattle.qq_raft_model.specs.Group.{Seat as SeatState}
use Rattle.qq_queue.specs.declared.machine_queue.MachineQueue.{MachineQueue}
use Rattle.qq_queue.specs.Agreeing.{BeginsWith}
use Rattle.qq_queue.specs.Members.{Member, own_log}
use Rattle.qq_queue.specs.declared.cluster_queue.ClusterQueue.{ClusterQueue}
use Rattle.qq_cluster.proofs.Items.{item-here}

seat-noticed : (state : SeatState) (o : Option (Seat MachineQueue LogState)) → IsSeat own_log state o
    → is_some (server_by o) ≡ true → noticed_at o ≡ state.noticed
seat-noticed state None is up = absurd (false≢true up)
seat-noticed state (Some seat) is up = by seat.server is up
  where
    by : (server : Option Member) → IsSeatBy own_log state seat server → is_some server ≡ true
        → seat.noticed ≡ state.noticed
    by None own none = absurd (false≢true none)
    by (Some s) own some = sym own.1.noticed

pub begun-noticed : (d : ClusterQueue) (logs : ℕ → List Op) (k : ℕ) → BeginsWith logs d
    → is_some (server_at k d.group) ≡ true → noticed_at (slice_get d.group.seats.items k) ≡ length (logs k)
begun-noticed d logs k begun up =
    seat-noticed (begun.group.seat k) (slice_get d.group.seats.items k) (begun.represents.seats k) up ∙ begun.noticed k

some-queue : (a b : ClusterQueue) → Some a ≡ Some b → a ≡ b
some-queue a b e = cc

-- and so of the queue at an index
pub noticed-at : (queues : List ClusterQueue) (at k found : ℕ) (own : ClusterQueue) → at < length queues
    → own ≡ get_or queues at own → found ≡ noticed_at (slice_get own.group.seats.items k) → (d : ClusterQueue)
    (logs : ℕ → List Op) → slice_get queues at ≡ Some d → BeginsWith logs d → is_some (server_at k d.group) ≡ true
    → found ≡ length (logs k)
noticed-at queues at k found own lt here is d logs there begun up =
    is
    ∙ ap (λ (x : ClusterQueue). noticed_at (slice_get x.group.seats.items k))
    (some-queue own d (sym (item-here queues at own lt here) ∙ there))
    ∙ begun-noticed d logs k begun up
