-- Nodes that weren't opened yet, and what may be done with the next of them.
use Rattle.std.proofs.Common.{◌≡◌, ◌<◌, ◌≤◌, ◌+◌, ◌-◌, ℕ, true, List, [], ◌∷◌, Some, None, get_or, length, refl, sym, ap, ◌∙◌, subst, inl, inr, arith}
use Rattle.std.specs.Prelude.{All, slice_get}
use Rattle.std.specs.List.{AllByRecursion}
use Rattle.std.proofs.lemmas.List.Elements.{All-from_all_within}
use Rattle.std.proofs.lemmas.Option.{get_or_from_slice_get, slice_get-get_or, slice_get_within}
use Rattle.qq_base.specs.declared.ids.NodeId.{NodeId}
use Rattle.qq_base.specs.declared.ids.QueueId.{QueueId}
use Rattle.qq_disk.specs.Facts.{DiskFacts}
use Rattle.qq_log.specs.declared.limits.TheConstants.{NODE_LIMIT}
use Rattle.qq_lots.specs.Lots.{ids_of}
use Rattle.qq_node_log.specs.Found.{AreDistinct}
use Rattle.qq_node_log.specs.declared.node_log.NodeLog.TheVariants.{Closed}
use Rattle.qq_raft_model.specs.Group.{has_node}
use Rattle.qq_raft_protocol.specs.Facts.{In}
use Rattle.qq_route.specs.declared.queue_row.QueueRow.{QueueRow}
use Rattle.qq_cluster_model.specs.Cluster.{Setup, new_cluster}
use Rattle.qq_cluster_laws.specs.Linked.{lot_of}
use Rattle.qq_queue.specs.Members.{AreSound}
use Rattle.qq_queue.specs.declared.cluster_queue.ClusterQueue.{ClusterQueue}
use Rattle.qq_cluster.specs.Nodes.{IsNodeAt, Stands}
use Rattle.qq_cluster.specs.Setting.{AreNew, IsNewNode, IsQueueFor, IsSetupOver, IsWhole, ids_on, is_among}
use Rattle.qq_cluster.specs.declared.node.Node.{Node}
use Rattle.qq_cluster.specs.declared.nodes.Nodes.{Nodes as Held}
use Rattle.qq_cluster.proofs.Begun.{ids-are, item-at, new-stands}
use Rattle.qq_opening.specs.Opened.{AreOpened, IsOpenedQueue}
use Rattle.qq_opening.specs.Taking.{MayStep, MayTakeAt, MayTakeEach, index_of}
use Rattle.qq_opening.proofs.FoundEach.{own-distinct, own-low}
use Rattle.qq_opening.proofs.RowsOf.{At, id-at, id-row, is-among, row-id}

-- a node as it is before it is opened
pub record IsStill {D : Type 0} (facts : DiskFacts D) (rows : List QueueRow) (k : ℕ) (own : Node D) : Type 0 where
  pub disk : D
  pub is : IsNewNode rows k disk own
  pub whole : IsWhole facts disk

module _ {D : Type 0} {facts : DiskFacts D} (rows : List QueueRow) (old : Held D) (new : AreNew facts rows old) where
  -- a setup of these rows
  abbrev pub some_setup : Setup
  some_setup = new.set.0

  abbrev pub is_set : IsSetupOver some_setup rows (length old.nodes.items)
  is_set = new.set.1

  pub some-stands : Stands facts some_setup old (new_cluster some_setup)
  some-stands = new-stands rows old new some_setup is_set

  pub some-ids : (k : ℕ) → ids_on rows k ≡ ids_of (lot_of some_setup k)
  some-ids k = ids-are some_setup rows is_set.set_up.places is_set.each k

  pub own-id : (i : ℕ) (row : QueueRow) → slice_get rows i ≡ Some row → row.args.queue.0 ≡ i + 1
  own-id = row-id rows some_setup is_set.set_up.places is_set.set_up.ids is_set.each

  pub own-row : (k : ℕ) (id : QueueId) → In id (ids_on rows k)
      → At rows (λ row. (row.args.queue ≡ id) × (is_among k row.members ≡ true))
  own-row = id-row rows some_setup is_set.set_up.places is_set.set_up.ids is_set.each

  pub own-at : (k i : ℕ) (id : QueueId) (row : QueueRow) → In id (ids_on rows k) → id.0 ≡ i + 1
      → slice_get rows i ≡ Some row → (row.args.queue ≡ id) × (is_among k row.members ≡ true)
  own-at = id-at rows some_setup is_set.set_up.places is_set.set_up.ids is_set.each

  pub apart-on : (k : ℕ) → AreDistinct (ids_on rows k)
  apart-on k =
      subst AreDistinct (sym (some-ids k)) (own-distinct some_setup (new_cluster some_setup) k old some-stands)

  pub low-on : (k : ℕ) → AllByRecursion (λ (id : QueueId). 0 < id.0) (ids_on rows k)
  low-on k =
      subst (AllByRecursion (λ (id : QueueId). 0 < id.0)) (sym (some-ids k))
      (own-low some_setup (new_cluster some_setup) k old some-stands)

  pub low-in : (k : ℕ) (id : QueueId) → In id (ids_on rows k) → 0 < id.0
  low-in k id here = all-in (ids_on rows k) (low-on k) here
    where
      all-in : (l : List QueueId) → AllByRecursion (λ (q : QueueId). 0 < q.0) l → In id l → 0 < id.0
      all-in [] each none = absurd none
      all-in (q ∷ l) each (inl same) = subst (λ (r : QueueId). 0 < r.0) (sym same) each.0
      all-in (q ∷ l) each (inr later) = all-in l each.1 later

  pub own-still : (i : ℕ) (own : Node D) → slice_get old.nodes.items i ≡ Some own → IsStill facts rows (i + 1) own
  own-still i own here =
      let disk = item-at new.disks old.nodes.items i own new.nodes.count here in
      record {
        disk = disk.0;
        is = new.nodes.each i disk.0 own disk.1 here;
        whole = whole-at new.disks disk.0 i new.whole disk.1;
      }
    where
      whole-at : (disks : List D) (x : D) (at : ℕ) → All (IsWhole facts) disks → slice_get disks at ≡ Some x
          → IsWhole facts x
      whole-at disks x at all there =
          subst (IsWhole facts) (get_or_from_slice_get disks at x x there)
          (all at x (slice_get_within disks at x there))

  pub few-nodes : length old.nodes.items ≤ NODE_LIMIT
  few-nodes = let few = new.few in let count = new.nodes.count in omega (arith, few, count)

  -- each queue is a row's
  pub queue-row : (queues : List ClusterQueue) (i : ℕ) (d : ClusterQueue)
      → length queues ≡ length old.queues.items → slice_get queues i ≡ Some d
      → (row : QueueRow) × (slice_get rows i ≡ Some row)
  queue-row queues i d many here =
      item-at rows queues i d (many ∙ new.queues.count) here

  -- ---- before anything was opened

  pub opened-none : AreOpened facts rows 0 old old
  opened-none = record {
    lanes = λ k. None;
    same = refl;
    node_count = refl;
    queue_count = refl;
    left = λ i le. refl;
    opened = λ i own lt here. absurd (omega (arith, lt));
    queues = λ i row d here there. queue-none row d (new.queues.each i row d here there);
    disks = λ k low high. absurd (omega (arith, low, high));
  }
    where
      queue-none : (row : QueueRow) (d : ClusterQueue) → IsQueueFor row d
          → IsOpenedQueue row (λ k. None) 0 d
      queue-none row d own = record {
        sound = own.sound;
        args_is = own.args_is;
        nodes_is = own.nodes_is;
        begins = λ logs fits. own.begins logs;
        up = λ k low high member. tt;
        down = λ k lt. own.down k;
      }

  pub sound-each : (at : ℕ) (held : Held D) → AreOpened facts rows at old held
      → All (λ (d : ClusterQueue). AreSound d.group) held.queues.items
  sound-each at held o =
      All-from_all_within (λ (d : ClusterQueue). AreSound d.group) held.queues.items
      (λ i d low high. (let own = get_or held.queues.items i d in
      let here : slice_get held.queues.items i ≡ Some own = slice_get-get_or held.queues.items i d high in
      let row = queue-row held.queues.items i own o.queue_count here in
      (o.queues i row.0 own row.1 here).sound))

  -- ---- the next node may be opened

  module _ (at : ℕ) (held : Held D) (o : AreOpened facts rows at old held) (node : NodeId) (is : node.0 ≡ at + 1)
      (lt : at < length old.nodes.items) where
    index : node.0 - 1 ≡ at
    index = omega (arith, is)

    -- it is as it was
    pub next-was : (own : Node D) → slice_get held.nodes.items (node.0 - 1) ≡ Some own
        → slice_get old.nodes.items at ≡ Some own
    next-was own here =
        sym (o.left at (omega arith)) ∙ ap (slice_get held.nodes.items) (sym index) ∙ here

    pub next-still : (own : Node D) → slice_get held.nodes.items (node.0 - 1) ≡ Some own
        → IsStill facts rows node.0 own
    next-still own here =
        subst (λ (k : ℕ). IsStill facts rows k own) (sym is) (own-still at own (next-was own here))

    next-at : IsNodeAt node held
    next-at = (omega (arith, is), (let many = o.node_count in omega (arith, is, lt, many)))

    take-at : (id : QueueId) → In id (ids_on rows node.0) → MayTakeAt node.0 held.queues.items id
    take-at id here =
        let own = own-row node.0 id here in
        let number : id.0 ≡ own.index + 1 =
        ap (λ (q : QueueId). q.0) (sym own.holds.0) ∙ own-id own.index own.item own.here in
        let at_index : index_of id ≡ own.index = omega (arith, number) in
        record {
          some = omega (arith, number);
          place = (let within = slice_get_within rows own.index own.item own.here in
              let count = new.queues.count in let many = o.queue_count in
              omega (arith, within, count, many, at_index));
          member = λ d there. (let q = o.queues own.index own.item d own.here
              (ap (slice_get held.queues.items) (sym at_index) ∙ there) in
              ap (has_node node.0) q.nodes_is ∙ sym (is-among node.0 own.item.members) ∙ own.holds.1);
          down = λ d there. (o.queues own.index own.item d own.here
              (ap (slice_get held.queues.items) (sym at_index) ∙ there)).down node.0 (omega (arith, is));
        }

    take-each : (ids : List QueueId) → ((id : QueueId) → In id ids → MayTakeAt node.0 held.queues.items id)
        → MayTakeEach node.0 held.queues.items ids
    take-each [] each = tt
    take-each (id ∷ ids) each = (each id (inl refl), take-each ids (λ other later. each other (inr later)))

    pub next-may : MayStep facts node held
    next-may = record {
      go_on = record {
        place = next-at;
        within = (omega (arith, is), (let few = few-nodes in omega (arith, is, lt, few)));
        sound = sound-each at held o;
        apart = λ own here. subst AreDistinct (sym (next-still own here).is.queues_are) (apart-on node.0);
        take = λ own here. subst (MayTakeEach node.0 held.queues.items) (sym (next-still own here).is.queues_are)
            (take-each (ids_on rows node.0) take-at);
      };
      recover = λ own here. (let still = next-still own here in
          (Closed still.disk, still.is.log_is, still.whole own.queues.items));
    }
