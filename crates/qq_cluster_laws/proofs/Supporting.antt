-- What disks keep of a log's promise supports each audit.
use Rattle.std.proofs.Common.{◌≡◌, ◌≤◌, ℕ, Bool, true, List, [], ◌∷◌, Some, sym, ap, ◌∙◌, subst, inl, inr, arith}
use Rattle.std.specs.List.{AllByRecursion}
use Rattle.std.specs.Prelude.{filter}
use Rattle.std.proofs.lemmas.Bool.{cond_both, cond-true}
use Rattle.qq_raft_protocol.specs.Facts.{In}
use Rattle.qq_disk.specs.Disk.{Disk}
use Rattle.qq_entry.specs.declared.command.Entry.{Entry}
use Rattle.qq_lots.specs.Kept.{KeepsPromised}
use Rattle.qq_lots.specs.Left.{IsBetween, LeavesBetween, ReadsBetween, state_in}
use Rattle.qq_lots.specs.Lots.{Lot, Parts}
use Rattle.qq_raft_model.specs.Group.{Event as Move, Group, group_after, has_node}
use Rattle.qq_raft_model.specs.Handing.{lane_in}
use Rattle.qq_raft_model.specs.Promises.{AreDistinct, IsLeft, IsOpened, members_of, whole_audit}
use Rattle.qq_raft_protocol.specs.Safe.{IsSupported}
use Rattle.qq_raft_protocol.specs.World.{Lane}
use Rattle.qq_raft_protocol.proofs.Fewer.{supported-fewer}
use Rattle.qq_base.proofs.Fronts.{front-refl}
use Rattle.qq_wal_chain.specs.Lanes.{Lanes}
use Rattle.qq_cluster_model.specs.Cluster.{Cluster, ClusterEvent, Setup, cluster_after, members, new_cluster, parts_of}
use Rattle.qq_cluster_model.specs.ClusterLaws.{HasGroups}
use Rattle.qq_cluster_model.specs.Laws.{all_moves, queue_after}
use Rattle.qq_cluster_model.specs.Queue.{Queue, begin}
use Rattle.qq_cluster_model.proofs.Counts.{counts-rise}
use Rattle.qq_cluster_model.proofs.EachQueue.{has-queues}
use Rattle.qq_cluster_model.proofs.Groups.{group-is}
use Rattle.qq_cluster_laws.specs.Held.{MayHold, Supports, whole_at}
use Rattle.qq_cluster_laws.specs.Linked.{IsPromised, lot_of, parts_at}

-- what the laws below say
abbrev pub Between : Type 0
Between = (lot : Lot) (parts : Parts) (d : Disk) → KeepsPromised lot parts d → LeavesBetween lot parts d

abbrev pub SupportsAudits : Type 0
SupportsAudits =
    (g : Group) (whole : List Entry) (made : List Move) → AreDistinct g.nodes → IsOpened g whole
    → IsSupported (members_of g.nodes) (IsLeft (group_after g made)) (whole_audit whole (group_after g made))

in-filter : (passes : ℕ → Bool) (x : ℕ) (xs : List ℕ) → In x xs → passes x ≡ true → In x (filter passes xs)
in-filter passes x [] here is = absurd here
in-filter passes x (y ∷ ys) (inl same) is =
    subst (In x) (sym (cond-true (passes y) (y ∷ filter passes ys) (filter passes ys) (ap passes (sym same) ∙ is)))
    (inl same)
in-filter passes x (y ∷ ys) (inr later) is =
    cond_both (passes y) (y ∷ filter passes ys) (filter passes ys) (In x) (λ _. inr (in-filter passes x ys later is))
    (λ _. in-filter passes x ys later is)

all-in : (P : ℕ → Type 0) (x : ℕ) (xs : List ℕ) → AllByRecursion P xs → In x xs → P x
all-in P x [] each here = absurd here
all-in P x (y ∷ ys) each (inl same) = subst P (sym same) each.0
all-in P x (y ∷ ys) each (inr later) = all-in P x ys each.1 later

some-same : {A : Type 0} (x y : A) → Some x ≡ Some y → x ≡ y
some-same x y e = cc

module _ (between : Between) (supports : SupportsAudits) (setup : Setup) (groups : HasGroups setup)
    (events : List ClusterEvent) (disks : ℕ → Disk)
    (promised : (k : ℕ) → In k setup.nodes
    → IsPromised setup (cluster_after (new_cluster setup) events) k (disks k)) where
  abbrev c : Cluster
  c = cluster_after (new_cluster setup) events

  -- a queue's own events make it
  queue-is : (place : ℕ)
      → c.queue place ≡ queue_after (setup.args place) (setup.group place) (parts_of place events)
  queue-is place = has-queues setup events place

  noticed-low : (place k : ℕ) → ((c.queue place).group.seat k).noticed ≤ (c.queue place).synced k
  noticed-low place k =
      subst (λ (q : Queue). (q.group.seat k).noticed ≤ q.synced k) (sym (queue-is place))
      (counts-rise (setup.args place) (setup.group place) (parts_of place events) k (groups place)).noticed

  -- what recovery may read of a queue is a lane that its member's log may be left with
  may-left : (place : ℕ) → In place setup.places → (k : ℕ) (lane : Lane) → MayHold setup disks place k lane
      → IsLeft (c.queue place).group k lane
  may-left place here k lane may =
      let reads : ReadsBetween (lot_of setup k) (parts_at c k) _ =
      between (lot_of setup k) (parts_at c k) (disks k) (promised k may.node) may.image may.is_image may.honest in
      let same : reads.lanes ≡ may.lanes = some-same reads.lanes may.lanes (sym reads.is ∙ may.read) in
      let in_lot = in-filter (λ (p : ℕ). has_node k (members setup p)) place setup.places here may.member in
      let own : IsBetween (parts_at c k place) (state_in reads.lanes (setup.args place).queue) =
      all-in (λ (p : ℕ). IsBetween (parts_at c k p) (state_in reads.lanes ((lot_of setup k).id p))) place
      (lot_of setup k).places reads.each in_lot in
      let low = noticed-low place k in
      let least = own.least in
      record {
        upto = (state_in reads.lanes (setup.args place).queue).op;
        noticed = omega (arith, low, least);
        handed = own.most;
        state = state_in reads.lanes (setup.args place).queue;
        is = own.is;
        lane_is = may.is
            ∙ ap (λ (lanes : Lanes). lane_in (state_in lanes (setup.args place).queue)) (sym same);
      }

  group-made : (place : ℕ)
      → (c.queue place).group
      ≡ group_after (setup.group place) (all_moves (begin (setup.args place) (setup.group place)) (parts_of place events))
  group-made place =
      ap (λ (q : Queue). q.group) (queue-is place)
      ∙ group-is (begin (setup.args place) (setup.group place)) (parts_of place events)

  left-supported : (place : ℕ)
      → IsSupported (members_of (members setup place)) (IsLeft (c.queue place).group) (whole_at setup groups c place)
  left-supported place =
      subst (λ (g : Group). IsSupported (members_of (members setup place)) (IsLeft g)
      (whole_audit (groups place).whole g)) (sym (group-made place))
      (supports (setup.group place) (groups place).whole
      (all_moves (begin (setup.args place) (setup.group place)) (parts_of place events)) (groups place).distinct
      (groups place).opened)

  pub promised-supports : Supports setup groups (cluster_after (new_cluster setup) events) disks
  promised-supports = record {
    read = λ k node image is_image honest.
        (let reads = between (lot_of setup k) (parts_at c k) (disks k) (promised k node) image is_image honest in
        (reads.lanes, reads.is));
    each = λ place here.
        supported-fewer (may-left place here) (front-refl (whole_at setup groups c place)) (left-supported place);
  }
