-- All nodes are opened, and the logs of some queue support no audit.
use Rattle.qq_cluster_model.specs.Outcome.{Outcome}
use Rattle.std.proofs.Common.{◌≡◌, ◌⊎◌, ◌<◌, ◌≤◌, ◌+◌, ◌-◌, ℕ, zero, suc, Bool, true, List, [], ◌∷◌, Option, Some, None, length, refl, sym, ap, ◌∙◌, subst, inl, inr, arith, append-nil}
use Rattle.std.specs.Prelude.{Contains, is_some, slice_get}
use Rattle.std.specs.List.{range_with_len}
use Rattle.std.proofs.lemmas.Bool.{false≢true}
use Rattle.std.proofs.lemmas.Option.{slice_get_within}
use Rattle.qq_base.specs.Causes.{Rose}
use Rattle.qq_base.specs.declared.ids.NodeId.{NodeId}
use Rattle.qq_base.specs.declared.ids.QueueId.{QueueId}
use Rattle.qq_base.specs.declared.memory.Memory.TheVariants.{Spent, Want}
use Rattle.qq_disk.specs.Facts.{DiskFacts}
use Rattle.qq_group.specs.Group.{server_at}
use Rattle.qq_log.specs.Stable.{stable}
use Rattle.qq_log.specs.declared.op.Op.{Op}
use Rattle.qq_lots.proofs.Counts.{state-count}
use Rattle.qq_lots.specs.Left.{state_in}
use Rattle.qq_raft_protocol.specs.Facts.{In}
use Rattle.qq_route.specs.declared.queue_row.QueueRow.{QueueRow}
use Rattle.qq_wal_chain.specs.Lanes.{Lanes}
use Rattle.qq_cluster_model.specs.Cluster.{Setup, new_cluster}
use Rattle.qq_cluster_model.specs.ClusterLaws.{HasGroups}
use Rattle.qq_cluster_model.specs.Laws.{IsBegun}
use Rattle.qq_cluster_laws.specs.Serves.{Seen}
use Rattle.qq_queue.specs.Agreeing.{BeginsWith}
use Rattle.qq_queue.specs.declared.cluster_queue.ClusterQueue.{ClusterQueue}
use Rattle.qq_cluster.specs.Nodes.{seen}
use Rattle.qq_cluster.specs.Setting.{AreNew, ids_on, is_among}
use Rattle.qq_cluster.specs.declared.nodes.Nodes.{Nodes as Held}
use Rattle.qq_opening.specs.Opened.{AreOpened, Disagrees, IsLostAt, IsOpenedNode, IsOpenedQueue, IsUpWith, OpenedTo, TellsLost}
use Rattle.qq_opening.specs.Opening.{AreReadLogs, GivesUpOver, IsLostOver, IsOpenCaused, IsSetupWith, Logs, MayNotOpen, state_read, told_of}
use Rattle.qq_opening.specs.Restarting.{AreLinked, IsOfMemory}
use Rattle.qq_opening.specs.declared.restarting.RestartFault.{RestartFault}
use Rattle.qq_opening.specs.declared.restarting.RestartFault.TheVariants as faults_of
use Rattle.qq_opening.proofs.HavingLogs.{opened-logs}
use Rattle.qq_opening.proofs.Agreed.{begun-none, item-of, lost-logs}
use Rattle.qq_opening.proofs.LostQueues.{contains-node}
use Rattle.qq_opening.proofs.NewNodes.{own-at}
use Rattle.qq_opening.proofs.OpenedAll.{are, read-later, read_logs}
use Rattle.qq_opening.proofs.OpenedDisks.{Keeps, keeps-give_up, linked-read, same-keeps, was-keeps, was-read_of}
use Rattle.qq_opening.proofs.OpenedLost.{cases_le}
use Rattle.qq_opening.proofs.OpenedMore.{seen-same}
use Rattle.qq_opening.proofs.RowsOf.{is-among}
use Rattle.qq_opening.proofs.Untouched.{in-first, range-below}

-- an item that a list contains
from-contains : {A : Type 0} (x : A) (xs : List A) → Contains xs x → In x xs
from-contains x [] (i, lt, is) = absurd (omega (arith, lt))
from-contains x (y ∷ xs) (zero, lt, is) = inl (sym is)
from-contains x (y ∷ xs) (suc i, lt, is) = inr (from-contains x xs (i, omega (arith, lt), is))

module _ {D : Type 0} {facts : DiskFacts D} (rows : List QueueRow) (old : Held D) (new : AreNew facts rows old)
    (some : Bool) (held : Held D) (before middle : Outcome)
    (to : OpenedTo facts rows (length old.nodes.items) some old held before middle) where
  abbrev n : ℕ
  n = length old.nodes.items

  abbrev o : AreOpened facts rows n old held
  o = to.opened

  abbrev a : ℕ → Seen
  a = seen facts old

  abbrev b : ℕ → Seen
  b = seen facts held

  all-keep : (k : ℕ) → Keeps (ids_on rows k) (a k) (b k)
  all-keep zero = same-keeps (ids_on rows 0) (a 0) (b 0) refl
  all-keep (suc j) = by (cases_le (suc j) n)
    where
      by : (suc j ≤ n) ⊎ (n < suc j) → Keeps (ids_on rows (suc j)) (a (suc j)) (b (suc j))
      by (inl within) =
          was-keeps (ids_on rows (suc j)) (a (suc j)) (b (suc j)) (o.lanes (suc j))
          (o.disks (suc j) (omega arith) within)
      by (inr past_end) =
          same-keeps (ids_on rows (suc j)) (a (suc j)) (b (suc j))
          (seen-same facts old held (suc j) (omega arith) (o.left (suc j - 1) (omega (arith, past_end))))

  give-up : GivesUpOver facts rows old held
  give-up = inl (λ logs setup sw. keeps-give_up facts rows old held logs setup sw all-keep)

  linked-all : (logs : Logs) (setup : Setup) → (sw : IsSetupWith setup rows n logs) → HasGroups setup
      → AreLinked facts setup old (new_cluster setup) setup.nodes
      → ((k : ℕ) → In k setup.nodes → Rose (a k).faults (b k).faults
      → (place : ℕ) → In place setup.places → logs place k ≡ [])
      → AreReadLogs rows (range_with_len 1 n) o.lanes logs
  linked-all logs setup sw groups linked none =
      linked-read facts rows old held logs setup sw groups linked none n o.lanes
      (λ k here. (let within = range-below 1 n k here in
      let first = within.0 in let last = within.1 in (
        subst (In k) (sym sw.nodes) here,
        was-read_of (ids_on rows k) (a k) (b k) (o.lanes k) (o.disks k (omega (arith, first)) (omega (arith, last))),
      )))

  -- ---- the queue at an index

  module _ (at : ℕ) (lt : at < length held.queues.items)
      (disagrees : (d : ClusterQueue) → slice_get held.queues.items at ≡ Some d → Disagrees d) (node : NodeId)
      (queue : QueueId) (found : ℕ) (lost : IsLostAt at held node.0 queue found) where
    abbrev d : ClusterQueue
    d = (item-of held.queues.items at lt).0

    there : slice_get held.queues.items at ≡ Some d
    there = (item-of held.queues.items at lt).1

    own-node : IsOpenedNode rows (lost.index + 1) (o.lanes (lost.index + 1)) lost.own
    own-node =
        o.opened lost.index lost.own
        (let within = slice_get_within held.nodes.items lost.index lost.own lost.here in
        let many = o.node_count in omega (arith, within, many)) lost.here

    number : lost.index + 1 ≡ node.0
    number = sym own-node.id_is ∙ lost.id_is

    is-node : IsOpenedNode rows node.0 (o.lanes node.0) lost.own
    is-node = subst (λ (k : ℕ). IsOpenedNode rows k (o.lanes k) lost.own) number own-node

    low : 0 < node.0
    low = omega (arith, number)

    high : node.0 ≤ n
    high =
        let within = slice_get_within held.nodes.items lost.index lost.own lost.here in
        let many = o.node_count in
        omega (arith, within, many, number)

    in-ids : In queue (ids_on rows node.0)
    in-ids =
        subst (In queue) is-node.queues_are (from-contains queue lost.own.queues.items lost.among)

    has-row : (row : QueueRow) × (slice_get rows at ≡ Some row)
    has-row =
        item-of rows at (let many = o.queue_count in let count = new.queues.count in omega (arith, lt, many, count))

    abbrev row : QueueRow
    row = has-row.0

    here : slice_get rows at ≡ Some row
    here = has-row.1

    own : (row.args.queue ≡ queue) × (is_among node.0 row.members ≡ true)
    own = own-at rows old new node.0 at queue row in-ids lost.place here

    q : IsOpenedQueue row o.lanes n d
    q = o.queues at row d here there

    -- something was read of it
    read-some : (l : Lanes) × (o.lanes node.0 ≡ Some l)
    read-some = by (o.lanes node.0) refl
      where
        by : (x : Option Lanes) → o.lanes node.0 ≡ x → (l : Lanes) × (o.lanes node.0 ≡ Some l)
        by None is =
            absurd (false≢true (sym (is-node.up_is ∙ ap (λ (y : Option Lanes). is_some y) is) ∙ lost.up))
        by (Some l) is = (l, is)

    abbrev l : Lanes
    l = read-some.0

    begun-with : BeginsWith (λ (k : ℕ). read_logs rows old new some held before middle to (at + 1) k) d
    begun-with =
        q.begins (λ (k : ℕ). read_logs rows old new some held before middle to (at + 1) k)
        (λ k first last member. are rows old new some held before middle to k at row
        (in-first n k first last) here member)

    is-up : is_some (server_at node.0 d.group) ≡ true
    is-up =
        subst (λ (x : Option Lanes). IsUpWith x (server_at node.0 d.group)) read-some.1 (q.up node.0 low high own.1)

    comes-to : stable (read_logs rows old new some held before middle to (at + 1) node.0)
        ≡ Some (told_of (state_in l queue))
    comes-to =
        are rows old new some held before middle to node.0 at row (in-first n node.0 low high) here own.1
        ∙ ap (λ (x : Option Lanes). Some (state_read x row.args.queue)) read-some.1
        ∙ ap (λ (id : QueueId). Some (told_of (state_in l id))) own.0

    -- logs of the queue are what was read
    abbrev FitOwn : (ℕ → List Op) → Type 0
    FitOwn logs =
        (k : ℕ) → In k (range_with_len 1 n) → is_among k row.members ≡ true
        → stable (logs k) ≡ Some (state_read (o.lanes k) queue)

    fit-own : (logs : Logs) → AreReadLogs rows (range_with_len 1 n) o.lanes logs → FitOwn (logs queue.0)
    fit-own logs are' k first member =
        ap (λ (p : ℕ). stable (logs p k)) lost.place ∙ are' k at row first here member
        ∙ ap (λ (id : QueueId). Some (state_read (o.lanes k) id)) own.0

    refused : (logs : Logs) (setup : Setup) → IsSetupWith setup rows n logs → FitOwn (logs queue.0)
        → IsBegun (setup.group queue.0) → ⊥
    refused logs setup sw fits begun =
        let own-begun : IsBegun (setup.group (at + 1)) =
        subst (λ (p : ℕ). IsBegun (setup.group p)) lost.place begun in
        lost-logs rows n o.lanes logs setup sw at row here
        (λ k first last member. ap (λ (p : ℕ). stable (logs p k)) (sym lost.place)
        ∙ fits k (in-first n k first last) member
        ∙ ap (λ (id : QueueId). Some (state_read (o.lanes k) id)) (sym own.0)) d q
        (λ k other. begun-none row (setup.group (at + 1)) k (logs (at + 1) k) own-begun
        (sw.each at row here).down.nodes_is
        (sw.seats (at + 1) k) other)
        (disagrees d there) own-begun

    lost-over : IsLostOver facts rows old held node queue found
    lost-over = record {
      low = (let e = lost.place in omega (arith, e));
      row = row;
      here = ap (slice_get rows) (let e = lost.place in let f : queue.0 - 1 ≡ at = omega (arith, e) in f) ∙ here;
      queue_is = own.0;
      member = contains-node node row.members (sym (is-among node.0 row.members) ∙ own.1);
      first = range_with_len 1 n;
      later = [];
      are = sym (append-nil (range_with_len 1 n));
      among = in-first n node.0 low high;
      read = record {
        lanes = o.lanes;
        each = read-later rows old new some held before middle to held (λ k. omega arith);
      };
      own = l;
      own_is = read-some.1;
      found_is = lost.found_is d (λ (k : ℕ). read_logs rows old new some held before middle to
          (at + 1) k) there begun-with
          is-up
          ∙ sym (state-count (read_logs rows old new some held before middle to (at + 1) node.0)
          (told_of (state_in l queue)) comes-to);
      refused = refused;
    }

  -- ---- the call

  pub lost-opens : (at : ℕ) → at < length held.queues.items
      → ((d : ClusterQueue) → slice_get held.queues.items at ≡ Some d → Disagrees d) → (fault : RestartFault)
      → TellsLost at held fault → MayNotOpen facts rows old held fault
  lost-opens at lt disagrees fault told = record {
    cause = caused fault told;
    gives_up = give-up;
    count = o.node_count;
    logs = opened-logs rows old new n held o;
    never = never fault told;
  }
    where
      caused : (f : RestartFault) → TellsLost at held f → IsOpenCaused facts rows old held f
      caused (faults_of.Damaged node file place) told' = absurd told'
      caused (faults_of.Version node file byte) told' = absurd told'
      caused (faults_of.Lost node queue noticed found) told' =
          (told'.0, lost-over at lt disagrees node queue found told'.1)
      caused (faults_of.Memory Want) told' = tt
      caused (faults_of.Memory (Spent number)) told' = absurd (let e : Spent number ≡ Want = told' in cc)

      never : (f : RestartFault) → TellsLost at held f → (logs : Logs) (setup : Setup)
          → IsSetupWith setup rows n logs → HasGroups setup
          → AreLinked facts setup old (new_cluster setup) setup.nodes
          → ((k : ℕ) → In k setup.nodes → Rose (a k).faults (b k).faults
          → (place : ℕ) → In place setup.places → logs place k ≡ []) → IsOfMemory f
      never (faults_of.Damaged node file place) told' logs setup sw groups linked none = absurd told'
      never (faults_of.Version node file byte) told' logs setup sw groups linked none = absurd told'
      never (faults_of.Lost node queue noticed found) told' logs setup sw groups linked none =
          refused at lt disagrees node queue found told'.1 logs setup sw
          (fit-own at lt disagrees node queue found told'.1 logs (linked-all logs setup sw groups linked none))
          (groups queue.0)
      never (faults_of.Memory memory) told' logs setup sw groups linked none = tt
