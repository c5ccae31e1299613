-- One more node is opened: its queues, and the nodes.
use Rattle.std.proofs.Common.{◌≡◌, ◌≢◌, ◌<◌, ◌≤◌, ◌+◌, ◌-◌, ℕ, zero, suc, true, List, Option, Some, None, length, refl, sym, ap, ◌∙◌, subst, inl, inr, arith}
use Rattle.std.specs.Prelude.{slice_get, slice_set}
use Rattle.std.proofs.lemmas.Bool.{cases_eq}
use Rattle.qq_base.proofs.Puts.{put-other, put-same}
use Rattle.qq_base.specs.Fronts.{put}
use Rattle.qq_base.specs.declared.ids.NodeId.{NodeId}
use Rattle.qq_base.specs.declared.ids.QueueId.{QueueId}
use Rattle.qq_disk.specs.Facts.{DiskFacts}
use Rattle.qq_group.specs.Group.{server_at}
use Rattle.qq_log.specs.Stable.{stable}
use Rattle.qq_route.specs.declared.queue_row.QueueRow.{QueueRow}
use Rattle.qq_wal_chain.specs.Lanes.{Lanes}
use Rattle.qq_cluster_laws.specs.Serves.{Seen}
use Rattle.qq_queue.specs.declared.cluster_queue.ClusterQueue.{ClusterQueue}
use Rattle.qq_cluster.specs.Nodes.{node_at, seen, seen_in}
use Rattle.qq_cluster.specs.Setting.{AreNew, ids_on, is_among}
use Rattle.qq_cluster.specs.declared.node.Node.{Node}
use Rattle.qq_cluster.specs.declared.nodes.Nodes.{Nodes as Held}
use Rattle.qq_cluster.proofs.OwnStands.{seen-others, set-here}
use Rattle.qq_cluster.proofs.Turned.{set-other}
use Rattle.qq_opening.specs.Opened.{AreOpened, IsOpenedNode, IsOpenedQueue, IsUpWith, WasRead}
use Rattle.qq_opening.specs.Opening.{state_read}
use Rattle.qq_opening.proofs.Changing.{set-long}

-- ---- what is seen of a disk

node-is : {D : Type 0} (k : ℕ) (nodes : List (Node D)) → 0 < k → node_at k nodes ≡ slice_get nodes (k - 1)
node-is zero nodes low = absurd (omega (arith, low))
node-is (suc k) nodes low = ap (slice_get nodes) (let e : k ≡ suc k - 1 = omega arith in e)

pub seen-same : {D : Type 0} (facts : DiskFacts D) (a b : Held D) (k : ℕ) → 0 < k
    → slice_get b.nodes.items (k - 1) ≡ slice_get a.nodes.items (k - 1)
    → seen facts b k ≡ seen facts a k
seen-same facts a b k low is =
    ap (seen_in facts) (node-is k b.nodes.items low ∙ is ∙ sym (node-is k a.nodes.items low))

-- ---- what is known of others

more-lanes : (P : ℕ → Option Lanes → Type 0) (k : ℕ) (x : Option Lanes) (lanes : ℕ → Option Lanes) (j : ℕ) → (j ≢ k)
    → P j (lanes j) → P j (put k x lanes j)
more-lanes P k x lanes j other here = subst (P j) (sym (put-other k x lanes j other)) here

less-lanes : (P : ℕ → Option Lanes → Type 0) (k : ℕ) (x : Option Lanes) (lanes : ℕ → Option Lanes) (j : ℕ) → (j ≢ k)
    → P j (put k x lanes j) → P j (lanes j)
less-lanes P k x lanes j other here = subst (P j) (put-other k x lanes j other) here

-- what holds of the first so many, and of one more
pub one-more : (P : ℕ → Type 0) (at j : ℕ) → j ≤ at + 1 → (j ≤ at → P j) → P (at + 1) → P j
one-more P at j le before here = elim (cases_eq j (at + 1)) [
  | inl same ↦ subst P (sym same) here
  | inr other ↦ before (omega (arith, le, other))
]

-- a queue that has no member there, or none that is up
pub queue-still : (row : QueueRow) (lanes : ℕ → Option Lanes) (at : ℕ) (x : Option Lanes) (d : ClusterQueue)
    → (is_among (at + 1) row.members ≡ true → x ≡ None) → IsOpenedQueue row lanes at d
    → IsOpenedQueue row (put (at + 1) x lanes) (at + 1) d
queue-still row lanes at x d none q = record {
  sound = q.sound;
  args_is = q.args_is;
  nodes_is = q.nodes_is;
  begins = λ logs fits. q.begins logs
      (λ k low high member. less-lanes (λ j y. stable (logs j) ≡ Some (state_read y row.args.queue)) (at + 1) x lanes k
      (λ e. absurd (omega (arith, e, high))) (fits k low (omega (arith, high)) member));
  up = λ k low high. one-more (λ j. is_among j row.members ≡ true
      → IsUpWith (put (at + 1) x lanes j) (server_at j d.group)) at k high
      (λ before member. more-lanes (λ j y. IsUpWith y (server_at j d.group)) (at + 1) x lanes k
      (λ e. absurd (omega (arith, e, before))) (q.up k low before member))
      (λ member. subst (λ (y : Option Lanes). IsUpWith y (server_at (at + 1) d.group))
      (sym (put-same (at + 1) x lanes ∙ none member)) tt);
  down = λ k lt. q.down k (omega (arith, lt));
}

-- a disk that was read, as it is seen
was-read : (ids : List QueueId) (a b a' b' : Seen) (lanes : Option Lanes) → a' ≡ a → b' ≡ b → WasRead ids a b lanes
    → WasRead ids a' b' lanes
was-read ids a b a' b' lanes first second was =
    subst (λ (x : Seen). WasRead ids x b' lanes) (sym first)
    (subst (λ (y : Seen). WasRead ids a y lanes) (sym second) was)

module _ {D : Type 0} {facts : DiskFacts D} (rows : List QueueRow) (old : Held D) (new : AreNew facts rows old) (at : ℕ)
    (held : Held D) (o : AreOpened facts rows at old held) (node : NodeId) (is : node.0 ≡ at + 1)
    (lt : at < length old.nodes.items) where
  low : 0 < node.0
  low = omega (arith, is)

  high : node.0 ≤ length held.nodes.items
  high = let many = o.node_count in omega (arith, is, lt, many)

  index : node.0 - 1 ≡ at
  index = omega (arith, is)

  -- one node has changed: what holds of the nodes, and of the other disks
  module _ (left : Held D) (x z : Node D) (lanes : Option Lanes)
      (here : slice_get held.nodes.items (node.0 - 1) ≡ Some x)
      (nodes : left.nodes.items ≡ slice_set held.nodes.items (node.0 - 1) z)
      (same : left ≡ record held { queues = left.queues; nodes = left.nodes })
      (many : length left.queues.items ≡ length held.queues.items)
      (own : IsOpenedNode rows node.0 lanes z)
      (queues : (i : ℕ) (row : QueueRow) (d : ClusterQueue) → slice_get rows i ≡ Some row
      → slice_get left.queues.items i ≡ Some d → IsOpenedQueue row (put (at + 1) lanes o.lanes) (at + 1) d)
      (disk : WasRead (ids_on rows node.0) (seen facts held node.0) (seen facts left node.0) lanes)
    where
      abbrev all_lanes : ℕ → Option Lanes
      all_lanes = put (at + 1) lanes o.lanes

      left-same : left ≡ record old { queues = left.queues; nodes = left.nodes }
      left-same = same ∙ ap (λ (h : Held D). record h { queues = left.queues; nodes = left.nodes }) o.same

      left-count : length left.nodes.items ≡ length old.nodes.items
      left-count = ap length nodes ∙ set-long held.nodes.items (node.0 - 1) z ∙ o.node_count

      others : (i : ℕ) → (i ≢ at) → slice_get left.nodes.items i ≡ slice_get held.nodes.items i
      others i other =
          ap (λ (l : List (Node D)). slice_get l i) nodes
          ∙ set-other held.nodes.items (node.0 - 1) i z (λ e. other (omega (arith, e, index)))

      own-node : (own : Node D) → slice_get left.nodes.items at ≡ Some own → own ≡ z
      own-node y there =
          some-same y z (sym there ∙ ap (slice_get left.nodes.items) (sym index)
          ∙ ap (λ (l : List (Node D)). slice_get l (node.0 - 1)) nodes
          ∙ set-here node.0 held.nodes.items x z here)
        where
          some-same : (a b : Node D) → Some a ≡ Some b → a ≡ b
          some-same a b e = cc

      opened-node : (i : ℕ) (y : Node D) → i < at + 1 → slice_get left.nodes.items i ≡ Some y
          → IsOpenedNode rows (i + 1) (all_lanes (i + 1)) y
      opened-node i y below there = elim (cases_eq i at) [
        | inl e ↦ subst (λ (j : ℕ). IsOpenedNode rows (j + 1) (all_lanes (j + 1)) y) (sym e)
            (subst (λ (l : Option Lanes). IsOpenedNode rows (at + 1) l y) (sym (put-same (at + 1) lanes o.lanes))
            (subst (λ (j : ℕ). IsOpenedNode rows j lanes y) is
            (subst (IsOpenedNode rows node.0 lanes) (sym (own-node y (sym (ap (slice_get left.nodes.items) e) ∙ there)))
            own)))
        | inr other ↦ more-lanes (λ j l. IsOpenedNode rows j l y) (at + 1) lanes o.lanes (i + 1)
            (λ e. other (omega (arith, e)))
            (o.opened i y (omega (arith, below, other)) (sym (others i other) ∙ there))
      ]

      seen-other : (j : ℕ) → (j ≢ node.0) → seen facts left j ≡ seen facts held j
      seen-other = seen-others facts node.0 held left z low nodes

      -- the disk was as it is at first
      seen-first : seen facts held node.0 ≡ seen facts old node.0
      seen-first =
          seen-same facts old held node.0 low (ap (slice_get held.nodes.items) index ∙ o.left at (omega arith)
          ∙ ap (slice_get old.nodes.items) (sym index))

      disks : (k : ℕ) → 0 < k → k ≤ at + 1
          → WasRead (ids_on rows k) (seen facts old k) (seen facts left k) (all_lanes k)
      disks k some le =
          one-more (λ j. WasRead (ids_on rows j) (seen facts old j) (seen facts left j) (all_lanes j)) at k le
          (λ before. more-lanes (λ j l. WasRead (ids_on rows j) (seen facts old j) (seen facts left j) l) (at + 1) lanes
          o.lanes k (λ e. absurd (omega (arith, e, before)))
          (was-read (ids_on rows k) (seen facts old k) (seen facts held k) (seen facts old k)
          (seen facts left k) (o.lanes k) refl (seen-other k (λ e. absurd (omega (arith, e, is, before))))
          (o.disks k some before)))
          (subst (λ (l : Option Lanes). WasRead (ids_on rows (at + 1)) (seen facts old (at + 1))
          (seen facts left (at + 1)) l) (sym (put-same (at + 1) lanes o.lanes))
          (subst (λ (j : ℕ). WasRead (ids_on rows j) (seen facts old j) (seen facts left j) lanes) is
          (was-read (ids_on rows node.0) (seen facts held node.0) (seen facts left node.0) (seen facts old node.0)
          (seen facts left node.0) lanes (sym seen-first) refl disk)))

      -- with these lanes
      pub opened-one : (more : AreOpened facts rows (at + 1) old left) × (more.lanes ≡ put (at + 1) lanes o.lanes)
      opened-one = (
        record {
          lanes = all_lanes;
          same = left-same;
          node_count = left-count;
          queue_count = many ∙ o.queue_count;
          left = λ i le. others i (λ e. absurd (omega (arith, e, le))) ∙ o.left i (omega (arith, le));
          opened = opened-node;
          queues = queues;
          disks = disks;
        },
        refl,
      )
