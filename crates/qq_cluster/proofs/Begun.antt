-- New nodes stand for a new cluster, whatever logs it begins with.
use Rattle.std.proofs.Common.{◌≡◌, ◌⊎◌, ◌<◌, ◌≤◌, ◌+◌, ◌-◌, ℕ, suc, Bool, true, false, ◌||◌, cond, List, [], ◌∷◌, Option, Some, None, get_or, length, map, refl, sym, ap, ◌∙◌, subst, inl, inr, arith}
use Rattle.std.specs.Prelude.{All, filter, is_some, nat_eq, slice_get}
use Rattle.std.specs.List.{AllByRecursion, list_all, range_with_len}
use Rattle.std.proofs.lemmas.Bool.{and_from, eq-eqb, false≢true}
use Rattle.std.proofs.lemmas.Option.{get_or_from_slice_get, slice_get_cases, slice_get_within}
use Rattle.qq_base.specs.declared.ids.NodeId.{NodeId}
use Rattle.qq_base.specs.declared.ids.QueueId.{QueueId}
use Rattle.qq_disk.specs.Facts.{DiskFacts}
use Rattle.qq_entry.specs.declared.queue.QueueArgs.{QueueArgs}
use Rattle.qq_group.specs.Group.{IsReached as IsGroupReached}
use Rattle.qq_log.specs.declared.limits.TheConstants.{NODE_LIMIT}
use Rattle.qq_lots.specs.Lots.{ids_of}
use Rattle.qq_raft_model.specs.Group.{has_node}
use Rattle.qq_raft_model.specs.State.{Server}
use Rattle.qq_raft_protocol.specs.Facts.{In}
use Rattle.qq_route.specs.declared.queue_row.QueueRow.{QueueRow}
use Rattle.qq_cluster_model.specs.Cluster.{Setup, members, new_cluster}
use Rattle.qq_cluster_model.specs.Queue.{begin}
use Rattle.qq_cluster_model.specs.Rules.{is_quiet, is_quiet_at}
use Rattle.qq_cluster_laws.specs.Linked.{lot_of}
use Rattle.qq_queue.specs.ClusterQueue.{Stands as IsQueue, all_present}
use Rattle.qq_queue.specs.Sessions.{standings}
use Rattle.qq_queue.specs.declared.cluster_queue.ClusterQueue.{ClusterQueue}
use Rattle.qq_node_log.specs.declared.node_log.NodeLog.TheVariants.{Closed}
use Rattle.qq_cluster.specs.Disks.{AreBareNodes, GetDisks}
use Rattle.qq_cluster.specs.Nodes.{IsNodeOf, IsQueueOf, IsSetUp, Stands}
use Rattle.qq_cluster.specs.Setting.{AreNew, AreNodesFor, AreQueuesFor, HaveDisks, IsNewNode, IsQueueFor, IsRowOf, IsSetupOver, IsWhole, ids_on, is_among}
use Rattle.qq_cluster.specs.declared.node.Node.{Node}
use Rattle.qq_cluster.specs.declared.nodes.Nodes.{Nodes as Held}
use Rattle.qq_cluster.proofs.OwnStands.{seen-own}
use Rattle.qq_cluster.proofs.Putting.{bare-new}
use Rattle.qq_cluster.proofs.Quiet.{all-from}
use Rattle.qq_cluster.proofs.Walks.{in-range}

-- an item at each index
pub item-at : {A B : Type 0} (xs : List A) (ys : List B) (at : ℕ) (y : B) → length ys ≡ length xs → slice_get ys at ≡ Some y
    → (x : A) × (slice_get xs at ≡ Some x)
item-at {A} {B} xs ys at y many here = by (slice_get_cases xs at).1
  where
    by : ((x : A) × (at < length xs) × (slice_get xs at ≡ Some x) × (get_or xs at x ≡ x))
        ⊎ ((length xs ≤ at) × (slice_get xs at ≡ None)) → (x : A) × (slice_get xs at ≡ Some x)
    by (inl found) = (found.0, found.2)
    by (inr past_end) =
        let lt = slice_get_within ys at y here in let le = past_end.0 in absurd (omega (arith, lt, le, many))

-- ---- the queues of a node

is-member : (k : ℕ) (nodes : List NodeId) → is_among k nodes ≡ has_node k nodes
is-member k [] = refl
is-member k (n ∷ nodes) = ap (λ (b : Bool). nat_eq n.0 k || b) (is-member k nodes)

ids-from : (setup : Setup) (k a : ℕ) (rows : List QueueRow)
    → ((at : ℕ) (row : QueueRow) → slice_get rows at ≡ Some row → IsRowOf setup (a + at) row)
    → ids_on rows k
    ≡ map (λ (place : ℕ). (setup.args place).queue)
    (filter (λ (place : ℕ). has_node k (members setup place)) (range_with_len a (length rows)))
ids-from setup k a [] each = refl
ids-from setup k a (row ∷ rows) each =
    by (is_among k row.members) (has_node k (members setup a)) same
    (ids-from setup k (a + 1) rows (λ at r here. subst (λ (i : ℕ). IsRowOf setup i r)
    (let e : a + suc at ≡ (a + 1) + at = omega arith in e) (each (suc at) r here)))
  where
    own : IsRowOf setup a row
    own = subst (λ (i : ℕ). IsRowOf setup i row) (let e : a + 0 ≡ a = omega arith in e) (each 0 row refl)

    same : is_among k row.members ≡ has_node k (members setup a)
    same = is-member k row.members ∙ ap (has_node k) (sym own.down.nodes_is)

    later : List ℕ
    later = filter (λ (place : ℕ). has_node k (members setup place)) (range_with_len (a + 1) (length rows))

    own_rows : List QueueRow
    own_rows = filter (λ (r : QueueRow). is_among k r.members) rows

    by : (b d : Bool) → b ≡ d
        → ids_on rows k ≡ map (λ (place : ℕ). (setup.args place).queue) later
        → map (λ (r : QueueRow). r.args.queue) (cond b (row ∷ own_rows) own_rows)
        ≡ map (λ (place : ℕ). (setup.args place).queue) (cond d (a ∷ later) later)
    by true true is rest =
        ap (λ (l : List QueueId). row.args.queue ∷ l) rest
        ∙ ap (λ (args : QueueArgs). args.queue ∷ map (λ (place : ℕ). (setup.args place).queue) later) own.args_is
    by true false is rest = absurd cc
    by false true is rest = absurd cc
    by false false is rest = rest

all-of : {A : Type 0} (P : A → Type 0) (xs : List A) → ((x : A) → P x) → AllByRecursion P xs
all-of P [] each = tt
all-of P (x ∷ xs) each = (each x, all-of P xs each)

-- the queues of which a node has a member
pub ids-are : (setup : Setup) (rows : List QueueRow) → setup.places ≡ range_with_len 1 (length rows)
    → ((at : ℕ) (row : QueueRow) → slice_get rows at ≡ Some row → IsRowOf setup (at + 1) row) → (k : ℕ)
    → ids_on rows k ≡ ids_of (lot_of setup k)
ids-are setup rows places each k =
    ids-from setup k 1 rows
    (λ i row here. subst (λ (p : ℕ). IsRowOf setup p row) (let e : i + 1 ≡ 1 + i = omega arith in e) (each i row here))
    ∙ ap (λ (l : List ℕ). map (λ (place : ℕ). (setup.args place).queue)
    (filter (λ (place : ℕ). has_node k (members setup place)) l)) (sym places)

module _ (setup : Setup) (rows : List QueueRow) (count : ℕ) (set : IsSetupOver setup rows count) where
  queue-begins : (at : ℕ) (row : QueueRow) (d : ClusterQueue) → slice_get rows at ≡ Some row
      → IsQueueFor row d → IsQueueOf setup (standings []) (new_cluster setup) (at + 1) d
  queue-begins at row d here own = record {
    stands = subst (λ (args : QueueArgs). IsQueue all_present d (begin args (setup.group (at + 1)))) is.args_is
        (own.opens (setup.group (at + 1)) reached is.down);
    sound = own.sound;
    name_is = own.name_is ∙ is.name_is;
    place_is = ap (λ (a : QueueArgs). a.queue.0) own.args_is ∙ ap (λ (a : QueueArgs). a.queue.0) is.args_is
        ∙ set.set_up.ids (at + 1) among;
  }
    where
      among : In (at + 1) setup.places
      among =
          subst (In (at + 1)) (sym set.set_up.places)
          (in-range (length rows) at (slice_get_within rows at row here))

      is : IsRowOf setup (at + 1) row
      is = set.each at row here

      reached : IsGroupReached (setup.group (at + 1))
      reached =
          let begun = set.set_up.groups (at + 1) in record {
            start = setup.group (at + 1);
            whole = begun.whole;
            distinct = begun.distinct;
            opened = begun.opened;
            events = [];
            is = refl;
          }

  queue-quiet : (at : ℕ) (row : QueueRow) → slice_get rows at ≡ Some row
      → is_quiet setup (new_cluster setup).up ((new_cluster setup).queue (at + 1)) ≡ true
  queue-quiet at row here =
      and_from (nat_eq (length (setup.group (at + 1)).bag) 0)
      (list_all (is_quiet_at ((new_cluster setup).queue (at + 1)) (λ k. false)) setup.nodes)
      (eq-eqb (length (setup.group (at + 1)).bag) 0 (ap length (set.each at row here).down.bag))
      (all-from (is_quiet_at ((new_cluster setup).queue (at + 1)) (λ k. false)) setup.nodes (λ k there. refl))

  module _ {D : Type 0} {facts : DiskFacts D} where
    node-begins : (at : ℕ) (disk : D) (node : Node D) → at < NODE_LIMIT → IsWhole facts disk
        → IsNewNode rows (at + 1) disk node → IsNodeOf facts setup (new_cluster setup) (at + 1) node
    node-begins at disk node few whole own = record {
      id_is = own.id_is;
      few = omega (arith, few);
      up_is = own.up_is;
      fresh = λ never. absurd (false≢true (sym own.empty_is ∙ never));
      queues_are = own.queues_are ∙ ids-are setup rows set.set_up.places set.each (at + 1);
      members = all-of (λ (place : ℕ). is_some (((new_cluster setup).queue place).group.seat (at + 1)).server ≡ false)
          (lot_of setup (at + 1)).places
          (λ place. ap (λ (o : Option Server). is_some o) ((set.set_up.groups place).opened.down.down (at + 1)));
      own = Closed disk;
      log_is = own.log_is;
      log = record {
        running = λ up. absurd (false≢true up);
        whole = whole (ids_of (lot_of setup (at + 1)));
      };
    }

    pub nodes-begin : (held : Held D) (disks : List D) → count ≡ length disks → length disks ≤ NODE_LIMIT
        → All (IsWhole facts) disks → AreQueuesFor rows held.queues.items
        → AreNodesFor rows disks held.nodes.items → held.sessions ≡ [] → held.active ≡ [] → held.auto ≡ true
        → Stands facts setup held (new_cluster setup)
    nodes-begin held disks long few whole queues nodes sessions active auto = record {
      set_up = subst (λ (n : ℕ). IsSetUp setup n (length held.nodes.items)) (sym queues.count)
          (subst (IsSetUp setup (length rows)) (long ∙ sym nodes.count) set.set_up);
      queues = λ at d here. (let row = item-at rows held.queues.items at d queues.count here in
          subst (λ (l : List _). IsQueueOf setup (standings l) (new_cluster setup) (at + 1) d) (sym sessions)
          (queue-begins at row.0 d row.1 (queues.each at row.0 d row.1 here)));
      nodes = λ at node here. (let disk = item-at disks held.nodes.items at node nodes.count here in
          node-begins at disk.0 node
          (let lt = slice_get_within disks at disk.0 disk.1 in omega (arith, lt, few))
          (subst (IsWhole facts) (get_or_from_slice_get disks at disk.0 disk.0 disk.1)
          (whole at disk.0 (slice_get_within disks at disk.0 disk.1)))
          (nodes.each at disk.0 node disk.1 here));
      auto = auto;
      within = subst (AllByRecursion (λ (at : ℕ). at < length held.queues.items)) (sym active) tt;
      quiet = λ at lt calm.
          (queue-quiet at (row-at at lt).0 (row-at at lt).1);
    }
      where
        row-at : (at : ℕ) → at < length held.queues.items → (row : QueueRow) × (slice_get rows at ≡ Some row)
        row-at at lt = by (slice_get_cases rows at).1
          where
            by : ((row : QueueRow) × (at < length rows) × (slice_get rows at ≡ Some row) × (get_or rows at row ≡ row))
                ⊎ ((length rows ≤ at) × (slice_get rows at ≡ None))
                → (row : QueueRow) × (slice_get rows at ≡ Some row)
            by (inl found) = (found.0, found.2)
            by (inr past_end) =
                let le = past_end.0 in let many = queues.count in absurd (omega (arith, le, lt, many))

module _ {D : Type 0} {facts : DiskFacts D} where
  pub new-nodes : (rows : List QueueRow) (held : Held D) (disks : List D)
      → ((setup : Setup) × IsSetupOver setup rows (length disks)) → length disks ≤ NODE_LIMIT
      → All (IsWhole facts) disks → AreQueuesFor rows held.queues.items
      → AreNodesFor rows disks held.nodes.items → held.sessions ≡ [] → held.active ≡ [] → held.auto ≡ true
      → AreNew facts rows held
  new-nodes rows held disks set few whole queues nodes sessions active auto = record {
    set = (set.0, subst (IsSetupOver set.0 rows) (sym nodes.count) set.1);
    queues = queues;
    disks = disks;
    nodes = nodes;
    few = few;
    whole = whole;
    sessions = sessions;
    active = active;
    auto = auto;
  }

  pub new-stands : (rows : List QueueRow) (held : Held D) → AreNew facts rows held → (setup : Setup)
      → IsSetupOver setup rows (length held.nodes.items) → Stands facts setup held (new_cluster setup)
  new-stands rows held new setup set =
      nodes-begin setup rows (length held.nodes.items) set held new.disks new.nodes.count new.few new.whole new.queues
      new.nodes new.sessions new.active new.auto

-- each node has its disk
pub have-disks : {D : Type 0} (facts : DiskFacts D) (rows : List QueueRow) (disks : List D) (held : Held D)
    → AreNodesFor rows disks held.nodes.items
    → HaveDisks facts disks held
have-disks facts rows disks held nodes at disk here =
    let node = item-at held.nodes.items disks at disk (sym nodes.count) here in
    let own = nodes.each at disk node.0 here node.1 in
    seen-own facts held (at + 1) node.0 (Closed disk) (omega arith)
    (subst (λ (i : ℕ). slice_get held.nodes.items i ≡ Some node.0) (let e : at ≡ (at + 1) - 1 = omega arith in e)
    node.1)
    own.log_is

-- ---- bare nodes that got their disks

pub record IsMade {D : Type 0} (rows : List QueueRow) (disks : List D) (held : Held D) : Type 0 where
  pub queues : AreQueuesFor rows held.queues.items
  pub nodes : AreNodesFor rows disks held.nodes.items
  pub sessions : held.sessions ≡ []
  pub active : held.active ≡ []
  pub auto : held.auto ≡ true

pub are-made : {D : Type 0} (rows : List QueueRow) (disks : List D) (count : ℕ) (bare held : Held D)
    → held ≡ record bare { nodes = held.nodes } → AreQueuesFor rows bare.queues.items
    → AreBareNodes rows count bare.nodes.items → GetDisks disks bare.nodes.items held.nodes.items
    → bare.sessions ≡ [] → bare.active ≡ [] → bare.auto ≡ true → IsMade rows disks held
are-made {D} rows disks count bare held same queues nodes get sessions active auto =
    subst (IsMade rows disks) (sym same) (record {
      queues = queues;
      nodes = bare-new rows disks count bare.nodes.items held.nodes.items nodes get;
      sessions = sessions;
      active = active;
      auto = auto;
    })
