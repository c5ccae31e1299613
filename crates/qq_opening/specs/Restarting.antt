-- What a restart and the opening of nodes have done, and why nodes aren't restarted.
use Rattle.qq_cluster_model.specs.Outcome.{Outcome}
use Rattle.std.specs.Prelude.{◌≡◌, ◌++◌, ◌∷◌, ℕ, Bool, true, false, List, [], Some, Ok, Err, take, IsTrue, Contains}
use Rattle.std.specs.List.{AllByRecursion, list_any}
use Rattle.qq_base.specs.declared.ids.NodeId.{NodeId}
use Rattle.qq_base.specs.declared.ids.QueueId.{QueueId}
use Rattle.qq_base.specs.declared.memory.Memory.TheVariants.{Spent}
use Rattle.qq_disk.specs.Disk.{now}
use Rattle.qq_disk.specs.Facts.{DiskFacts}
use Rattle.qq_log.specs.Stable.{Stable, stable}
use Rattle.qq_lots.specs.Left.{state_in}
use Rattle.qq_lots.specs.Lots.{ids_of}
use Rattle.qq_raft_model.specs.Group.{may_restart}
use Rattle.qq_raft_protocol.specs.Facts.{In}
use Rattle.qq_recover.specs.Answer.{Answer}
use Rattle.qq_recover.specs.Reading.{lanes_read, shown}
use Rattle.qq_recover.specs.declared.fault.RecoverFault.TheVariants as recover_faults
use Rattle.qq_wal_chain.specs.Lanes.{Lanes}
use Rattle.qq_cluster_model.specs.Cluster.{Cluster, ClusterEvent, Setup, cluster_after, members}
use Rattle.qq_cluster_model.specs.ClusterLaws.{findings}
use Rattle.qq_cluster_model.specs.Queue.{Queue}
use Rattle.qq_cluster_model.specs.Rules.{ForEach, IsFirstTick, IsOpening, IsPump, IsRestart, Then}
use Rattle.qq_cluster_laws.specs.Linked.{IsLinked, IsReached, lot_of}
use Rattle.qq_cluster_laws.specs.Serves.{GivesUp, Serves, fails_at}
use Rattle.qq_cluster.specs.Nodes.{EndsAt, HaveLogs, Stands, seen}
use Rattle.qq_cluster.specs.declared.nodes.Nodes.{Nodes as Held}
use Rattle.qq_opening.specs.declared.restarting.RestartFault.{RestartFault}
use Rattle.qq_opening.specs.declared.restarting.RestartFault.TheVariants.{Damaged, Version, Lost, Memory}

-- ---- what an opening has done

-- each node is restarted: some that was down is up then; or there is none, and of each that was down the disk failed
abbrev pub RestartEachTo : Bool → Setup → Cluster → List ClusterEvent → Type 0
RestartEachTo true setup c events = ForEach setup.nodes (IsRestart setup) c events × (findings events ≡ [] → ⊥)
RestartEachTo false setup c events =
    ForEach setup.nodes (IsRestart setup) c events
    × ((k : ℕ) → In k setup.nodes → c.up k ≡ false → fails_at k events ≡ true)

-- and then opened
abbrev pub IsOpenedTo : Bool → Setup → Cluster → List ClusterEvent → Type 0
IsOpenedTo true setup c events = IsOpening setup c events × (findings events ≡ [] → ⊥)
IsOpenedTo false setup c events =
    IsOpening setup c events × ((k : ℕ) → In k setup.nodes → c.up k ≡ false → fails_at k events ≡ true)

-- ---- what opening nodes again has done

-- each node is restarted, and then some node is up, or none
pub record IsRestartedTo (some : Bool) (setup : Setup) (c : Cluster) (events : List ClusterEvent) : Type 0 where
  pub restarted : ForEach setup.nodes (IsRestart setup) c events
  pub up : list_any (cluster_after c events).up setup.nodes ≡ some

-- and what follows an opening's restarts
abbrev pub IsReopening : Bool → Setup → Cluster → List ClusterEvent → Type 0
IsReopening some setup =
    Then (IsRestartedTo some setup) (Then (ForEach setup.places (IsFirstTick setup)) (IsPump setup))

-- ---- why a node isn't restarted

-- what recovery reads of a node's disk as it is now
abbrev pub lanes_at : {D : Type 0} → DiskFacts D → Setup → Held D → ℕ → Answer Lanes
lanes_at facts setup held k =
    lanes_read (ids_of (lot_of setup k)) (shown (now (seen facts held k).past))

-- a member may go on with a state: it is what so many of the ops come to that its log was handed
abbrev pub MayTakeUp : ℕ → Queue → Stable → Type 0
MayTakeUp k q state =
    (may_restart k state.op q.group ≡ true) × (stable (take state.op (q.group.seat k).ops) ≡ Some state)

-- Of a queue a state was found with which its member may not go on. Where the disk tells its contents, recovery reads
-- it.
pub record IsLostAt {D : Type 0} (facts : DiskFacts D) (setup : Setup) (held : Held D) (c : Cluster) (node : NodeId)
    (queue : QueueId) (noticed found : ℕ) : Type 0 where
  pub among : Contains setup.places queue.0
  pub member : Contains (members setup queue.0) node
  pub state : Stable
  pub read : IsTrue (seen facts held node.0).tells
      → (lanes : Lanes) × (lanes_at facts setup held node.0 ≡ Ok lanes) × (state ≡ state_in lanes queue)
  pub refused : MayTakeUp node.0 (c.queue queue.0) state → ⊥
  pub noticed_is : noticed ≡ ((c.queue queue.0).group.seat node.0).noticed
  pub found_is : found ≡ state.op

-- Nodes of a list were restarted in order, and this one isn't: those before it have restarted, and it is down.
pub record RestartsTo {D : Type 0} (facts : DiskFacts D) (setup : Setup) (c : Cluster) (list : List ℕ) (old : Held D)
    (before : Outcome) (node : ℕ) : Type 0 where
  pub first : List ℕ
  pub later : List ℕ
  pub are : list ≡ first ++ node ∷ later
  pub mid : Held D
  pub said : Outcome
  pub serves : Serves setup c (ForEach first (IsRestart setup) c) (Stands facts setup mid) (seen facts old)
      (seen facts mid) before said
  pub down : (cluster_after c serves.did.events).up node ≡ false

-- Why it isn't: its files break the rules of a log, first at this place, or are of another version, as recovery reads
-- them of a disk that tells its contents; or a queue is lost.
abbrev pub IsRefused : {D : Type 0} → DiskFacts D → Setup → Cluster → List ℕ → Held D
    → Outcome → RestartFault → Type 0
IsRefused facts setup c list old before (Damaged node file place) =
    (to : RestartsTo facts setup c list old before node.0) × (IsTrue (seen facts to.mid node.0).tells
    → lanes_at facts setup to.mid node.0 ≡ Err (recover_faults.Damaged file place))
IsRefused facts setup c list old before (Version node file byte) =
    (to : RestartsTo facts setup c list old before node.0) × (IsTrue (seen facts to.mid node.0).tells
    → lanes_at facts setup to.mid node.0 ≡ Err (recover_faults.Version file byte))
IsRefused facts setup c list old before (Lost node queue noticed found) =
    (to : RestartsTo facts setup c list old before node.0)
    × IsLostAt facts setup to.mid (cluster_after c to.serves.did.events) node queue noticed found
IsRefused facts setup c list old before (Memory memory) = Unit {0}

-- there was no memory, or a number is at its end
abbrev pub IsOfMemory : RestartFault → Type 0
IsOfMemory (Memory memory) = Unit {0}
IsOfMemory _ = ⊥

-- each of these nodes has a disk that tells its contents, and its log is linked
abbrev pub AreLinked : {D : Type 0} → DiskFacts D → Setup → Held D → Cluster → List ℕ
    → Type 0
AreLinked facts setup held c list =
    AllByRecursion
    (λ (k : ℕ). IsTrue (seen facts held k).tells × IsLinked setup c k (now (seen facts held k).past)) list

-- What a call leaves that restarts these nodes in order, by a rule, and is given up. Of whatever cluster they stood
-- for: each disk keeps at each moment what the events so far promised, and is still in its node's log; one of the
-- nodes isn't restarted, but for want of memory or numbers; a number stands at its end where it is that; and it is none
-- of the others where each of the nodes' logs is linked.
pub record Refuses {D : Type 0} (facts : DiskFacts D) (list : Setup → List ℕ)
    (Rule : Setup → Cluster → List ClusterEvent → Type 0) (old new : Held D) (before : Outcome) (fault : RestartFault)
    : Type 0 where
  pub gives_up : (setup : Setup) (c : Cluster) → IsReached setup c → Stands facts setup old c
      → GivesUp setup c (seen facts old) (seen facts new)
  pub logs : (setup : Setup) (c : Cluster) → IsReached setup c → Stands facts setup old c
      → HaveLogs setup new.nodes.items
  pub refused : (setup : Setup) (c : Cluster) → IsReached setup c → Stands facts setup old c
      → IsRefused facts setup c (list setup) old before fault
  pub spent : (number : ℕ) → fault ≡ Memory (Spent number) → (setup : Setup) (c : Cluster)
      → IsReached setup c → Stands facts setup old c → EndsAt facts setup (Rule setup) old c number
  pub never : (setup : Setup) (c : Cluster) → IsReached setup c → Stands facts setup old c
      → AreLinked facts setup old c (list setup) → IsOfMemory fault

-- these nodes alone
abbrev pub this_node : ℕ → Setup → List ℕ
this_node k setup = k ∷ []

abbrev pub all_nodes : Setup → List ℕ
all_nodes setup = setup.nodes
