-- One more node is opened: it was recovered, or its disk has failed.
use Rattle.std.proofs.Common.{◌≡◌, ◌≢◌, ◌⊎◌, ◌<◌, ◌+◌, ◌-◌, ℕ, true, false, List, Option, Some, None, length, refl, sym, ap, ◌∙◌, subst, inl, inr, arith}
use Rattle.std.specs.Global.{Vec}
use Rattle.std.specs.Prelude.{is_some, slice_get, slice_set}
use Rattle.qq_base.proofs.Puts.{put-other, put-same}
use Rattle.qq_base.specs.Fronts.{put}
use Rattle.qq_base.specs.declared.ids.NodeId.{NodeId}
use Rattle.qq_base.specs.declared.ids.QueueId.{QueueId}
use Rattle.qq_disk.proofs.Moments.{adds-now}
use Rattle.qq_disk.specs.Disk.{now}
use Rattle.qq_disk.specs.Facts.{DiskFacts}
use Rattle.qq_group.specs.Group.{server_at, server_by}
use Rattle.qq_log.specs.Stable.{Stable, stable}
use Rattle.qq_log.specs.declared.lane.Lane.{Lane}
use Rattle.qq_lots.specs.Kept.{KeepsPromised}
use Rattle.qq_lots.specs.Left.{state_in}
use Rattle.qq_node_log.specs.Found.{AreLanes}
use Rattle.qq_node_log.specs.Log.{disk_in}
use Rattle.qq_node_log.specs.declared.node_log.NodeLog.TheVariants.{Open, Closed}
use Rattle.qq_raft_protocol.specs.Facts.{In}
use Rattle.qq_recover.specs.Reading.{lanes_read, shown}
use Rattle.qq_recover.specs.declared.fault.RecoverFault.TheVariants as recover_faults
use Rattle.qq_route.specs.declared.queue_row.QueueRow.{QueueRow}
use Rattle.qq_wal_chain.specs.Lanes.{Lanes}
use Rattle.qq_cluster_laws.specs.Serves.{Seen, seen_of}
use Rattle.qq_queue.specs.declared.cluster_queue.ClusterQueue.{ClusterQueue}
use Rattle.qq_cluster.specs.Logs.{NodeTurns}
use Rattle.qq_cluster.specs.Nodes.{IsNodeAt, seen}
use Rattle.qq_cluster.specs.Setting.{AreNew, ids_on, is_among}
use Rattle.qq_cluster.specs.declared.node.Node.{Node}
use Rattle.qq_cluster.specs.declared.nodes.Nodes.{Nodes as Held}
use Rattle.qq_cluster.proofs.OwnStands.{seen-own, set-here, set-twice}
use Rattle.qq_opening.specs.Opened.{AreOpened, IsOfOpsState, IsOpenedNode, IsOpenedQueue, IsUpWith, WasRead}
use Rattle.qq_opening.specs.Opening.{state_read, told_of}
use Rattle.qq_opening.specs.Taking.{AllChange, FailsToRecover, FindsLanes, FindsNone, Recovers, StepsUp, TakesUpOne, lane_state, pair_index, pairs}
use Rattle.qq_opening.specs.declared.taking.Handed.TheVariants.{AsFound}
use Rattle.qq_opening.proofs.Changing.{AreApart, Became, all-became, all-long}
use Rattle.qq_opening.proofs.FoundLanes.{HasLane, pair-has, pair-of, pairs-apart}
use Rattle.qq_opening.proofs.LaneRead.{all-taken, from-in, lane-of_ops, lane-read, to-in}
use Rattle.qq_opening.proofs.NewNodes.{apart-on, low-in, low-on, next-still, own-at, own-id}
use Rattle.qq_opening.proofs.OpenedMore.{one-more, opened-one, queue-still}
use Rattle.qq_opening.proofs.Restarted.{nodes-are, take-own}
use Rattle.qq_opening.proofs.RowsOf.{to-passing}

module _ {D : Type 0} {facts : DiskFacts D} (rows : List QueueRow) (old : Held D) (new : AreNew facts rows old) (at : ℕ)
    (held : Held D) (o : AreOpened facts rows at old held) (node : NodeId) (is : node.0 ≡ at + 1)
    (lt : at < length old.nodes.items) where
  low : 0 < node.0
  low = omega (arith, is)

  at-node : IsNodeAt node held
  at-node = (low, (let many = o.node_count in omega (arith, is, lt, many)))

  abbrev ids : List QueueId
  ids = ids_on rows node.0

  -- ---- what was found on it

  module _ (finds : FindsLanes facts node held) where
    abbrev x : Node D
    x = finds.turn.old

    abbrev rec : Recovers facts held.log_bytes x finds.turn.new finds.lanes
    rec = finds.turn.turns

    abbrev pub own_lanes : Lanes
    own_lanes = rec.has.lanes

    x-ids : x.queues.items ≡ ids
    x-ids = (next-still rows old new at held o node is lt x finds.turn.here).is.queues_are

    pub zip : AreLanes ids own_lanes finds.lanes
    zip =
        subst (AreLanes ids own_lanes) (sym rec.lanes_are)
        (subst (λ (l : List QueueId). AreLanes l own_lanes rec.found.lanes.items) x-ids rec.has.each)

    pub own-apart : AreApart pair_index (pairs ids finds.lanes)
    own-apart =
        pairs-apart ids own_lanes finds.lanes zip (apart-on rows old new node.0) (low-on rows old new node.0)

    -- how the disk is seen, before and after it was read
    pub seen-x : seen facts held node.0 ≡ seen_of facts (disk_in rec.own)
    seen-x = seen-own facts held node.0 x rec.own low finds.turn.here rec.was

    -- it was read, whatever the members make of that
    pub read-x : (b : Seen) → b ≡ seen_of facts rec.found.wal.disk
        → ((id : QueueId) → In id ids → IsOfOpsState (state_in own_lanes id))
        → WasRead ids (seen facts held node.0) b (Some own_lanes)
    read-x b seen-b of_ops =
        subst (λ (s : Seen). WasRead ids s b (Some own_lanes)) (sym seen-x)
        (subst (λ (s : Seen). WasRead ids (seen_of facts (disk_in rec.own)) s (Some own_lanes)) (sym seen-b) (record {
          told = rec.disk.told;
          rises = rec.disk.later;
          keeps = λ tell lot parts same promised.
              (let s = rec.has.settles tell lot parts (x-ids ∙ same) promised in (
                s.stays,
                adds-now (KeepsPromised lot parts)
                    (facts.past (disk_in rec.own)) (facts.past rec.found.wal.disk) s.stays promised,
              ));
          read = (
            (λ tell. ap (λ (l : List QueueId). lanes_read l (shown (now (facts.past (disk_in rec.own))))) (sym x-ids)
                ∙ rec.has.read tell),
            (λ tell lot parts same promised.
                (rec.has.settles tell lot parts (x-ids ∙ same) promised).between),
            of_ops,
          );
        }))

  -- ---- its members go on

  module _ (left : Held D) (step : StepsUp facts node true held left) where
    abbrev finds' : FindsLanes facts node held
    finds' = step.found

    abbrev found_lanes : Lanes
    found_lanes = own_lanes finds'

    abbrev own_pairs : List (QueueId × Option Lane)
    own_pairs = pairs ids finds'.lanes

    abbrev own_x : Node D
    own_x = finds'.turn.old

    pub taken : AllChange pair_index (TakesUpOne node.0 AsFound) own_pairs held.queues.items left.queues.items
    taken =
        subst (λ (l : List QueueId). AllChange pair_index (TakesUpOne node.0 AsFound) (pairs l finds'.lanes)
        held.queues.items left.queues.items) (x-ids finds')
        (take-own node held at-node finds' true left step.goes)

    abbrev lanes : ℕ → Option Lanes
    lanes = put (at + 1) (Some found_lanes) o.lanes

    many : length left.queues.items ≡ length held.queues.items
    many = all-long pair_index (TakesUpOne node.0 AsFound) own_pairs held.queues.items left.queues.items taken

    -- one of them
    queue-up : (i : ℕ) (row : QueueRow) (d e : ClusterQueue) (y : QueueId × Option Lane) → slice_get rows i ≡ Some row
        → IsOpenedQueue row o.lanes at d → In y own_pairs → pair_index y ≡ i → TakesUpOne node.0 AsFound y d e
        → IsOpenedQueue row lanes (at + 1) e
    queue-up i row d e y here q among index takes = record {
      sound = takes.sound;
      args_is = takes.same.args_is ∙ q.args_is;
      nodes_is = ap (λ (v : Vec NodeId). v.items) takes.same.nodes_is ∙ q.nodes_is;
      begins = λ logs fits. takes.begins logs
          (q.begins logs (λ k some le member. subst (λ (l : Option Lanes).
          stable (logs k) ≡ Some (state_read l row.args.queue))
          (put-other (at + 1) (Some found_lanes) o.lanes k (λ same. absurd (omega (arith, same, le))))
          (fits k some (omega (arith, le)) member)))
          (subst (λ (k : ℕ). stable (logs k) ≡ Some (lane_state y.1)) (sym is)
          (fits (at + 1) (omega arith) (omega arith) own-member
          ∙ ap (λ (l : Option Lanes). Some (state_read l row.args.queue))
          (put-same (at + 1) (Some found_lanes) o.lanes)
          ∙ ap (λ (s : Stable). Some s) (ap (λ (id : QueueId). told_of (state_in found_lanes id)) own.0
          ∙ sym (lane-read y.0 found_lanes y.1 has.is takes.base))));
      up = λ k some le. one-more (λ j. is_among j row.members ≡ true
          → IsUpWith (lanes j) (server_at j e.group)) at k le
          (λ before member. subst (λ (l : Option Lanes). IsUpWith l (server_at k e.group))
          (sym (put-other (at + 1) (Some found_lanes) o.lanes k (λ same. absurd (omega (arith, same, before)))))
          (subst (IsUpWith (o.lanes k)) (sym (other k (λ same. absurd (omega (arith, same, before, is)))))
          (q.up k some before member)))
          (λ member. subst (λ (l : Option Lanes). IsUpWith l (server_at (at + 1) e.group))
          (sym (put-same (at + 1) (Some found_lanes) o.lanes))
          (subst (λ (k : ℕ). is_some (server_at k e.group) ≡ true) is takes.up));
      down = λ k above. other k (λ same. absurd (omega (arith, same, above, is)))
          ∙ q.down k (omega (arith, above));
    }
      where
        has : HasLane ids found_lanes y
        has = pair-has y ids found_lanes finds'.lanes (zip finds') among

        in-ids : In y.0 ids
        in-ids = from-in y.0 ids has.among

        number : y.0.0 ≡ i + 1
        number = let some = low-in rows old new node.0 y.0 in-ids in omega (arith, some, index)

        own : (row.args.queue ≡ y.0) × (is_among node.0 row.members ≡ true)
        own = own-at rows old new node.0 i y.0 row in-ids number here

        own-member : is_among (at + 1) row.members ≡ true
        own-member = subst (λ (k : ℕ). is_among k row.members ≡ true) is own.1

        other : (k : ℕ) → (k ≢ node.0) → server_at k e.group ≡ server_at k d.group
        other k apart = ap server_by (takes.others k apart)

    queue-each : (i : ℕ) (row : QueueRow) (e : ClusterQueue) → slice_get rows i ≡ Some row
        → slice_get left.queues.items i ≡ Some e → IsOpenedQueue row lanes (at + 1) e
    queue-each i row e here there = by became.how
      where
        became : Became pair_index (TakesUpOne node.0 AsFound) own_pairs held.queues.items i e
        became =
            all-became pair_index (TakesUpOne node.0 AsFound) own_pairs held.queues.items left.queues.items i e
            (own-apart finds') taken there

        q : IsOpenedQueue row o.lanes at became.old
        q = o.queues i row became.old here became.was

        by : ((y : QueueId × Option Lane) × In y own_pairs × (pair_index y ≡ i)
            × TakesUpOne node.0 AsFound y became.old e)
            ⊎ (((y : QueueId × Option Lane) → In y own_pairs → pair_index y ≡ i → ⊥) × (e ≡ became.old))
            → IsOpenedQueue row lanes (at + 1) e
        by (inl (y, among, index, takes)) = queue-up i row became.old e y here q among index takes
        by (inr (none, same)) =
            subst (IsOpenedQueue row lanes (at + 1)) (sym same)
            (queue-still row o.lanes at (Some found_lanes) became.old
            (λ member. absurd (has-none (subst (λ (k : ℕ). is_among k row.members ≡ true) (sym is) member))) q)
          where
            has-none : is_among node.0 row.members ≡ true → ⊥
            has-none member =
                let among : In row.args.queue ids =
                to-passing (λ (r : QueueRow). r.args.queue) (λ (r : QueueRow). is_among node.0 r.members) rows i row
                here member in
                let pair = pair-of row.args.queue ids found_lanes finds'.lanes (zip finds')
                (to-in row.args.queue ids among) in
                let number = own-id rows old new i row here in
                none (row.args.queue, pair.0) pair.1
                (let e : row.args.queue.0 - 1 ≡ i = omega (arith, number) in e)

    -- what was read is what ops may come to
    pub of-ops : (id : QueueId) → In id ids → IsOfOpsState (state_in found_lanes id)
    of-ops id here =
        let pair = pair-of id ids found_lanes finds'.lanes (zip finds') (to-in id ids here) in
        let takes = all-taken node.0 AsFound own_pairs held.queues.items left.queues.items taken (id, pair.0) pair.1 in
        lane-of_ops id found_lanes pair.0
        (pair-has (id, pair.0) ids found_lanes finds'.lanes (zip finds') pair.1).is (takes.2.of_ops refl)

    pub left-nodes : left.nodes.items ≡ slice_set held.nodes.items (node.0 - 1)
        (record finds'.turn.new { up = true; empty = false })
    left-nodes = nodes-are node held at-node finds' true left step.goes

    same-else : left ≡ record held { queues = left.queues; nodes = left.nodes }
    same-else = step.goes.is

    pub seen-left : seen facts left node.0 ≡ seen_of facts (rec finds').found.wal.disk
    seen-left =
        seen-own facts left node.0 (record finds'.turn.new { up = true; empty = false })
        (Open (rec finds').found.wal) low
        (ap (λ (l : List (Node D)). slice_get l (node.0 - 1)) left-nodes
        ∙ set-here node.0 held.nodes.items own_x
        (record finds'.turn.new { up = true; empty = false }) finds'.turn.here)
        (ap (λ (y : Node D). y.log) (rec finds').is)

    own-node : IsOpenedNode rows node.0 (Some found_lanes) (record finds'.turn.new { up = true; empty = false })
    own-node =
        let still = (next-still rows old new at held o node is lt own_x finds'.turn.here).is in
        record {
          id_is = ap (λ (y : Node D). y.id.0) (rec finds').is ∙ still.id_is;
          up_is = refl;
          empty_is = refl;
          queues_are = ap (λ (y : Node D). y.queues.items) (rec finds').is ∙ still.queues_are;
          has_log = (Open (rec finds').found.wal, ap (λ (y : Node D). y.log) (rec finds').is);
        }

    pub opened-up : (more : AreOpened facts rows (at + 1) old left)
        × (more.lanes ≡ put (at + 1) (Some found_lanes) o.lanes)
    opened-up =
        opened-one rows old new at held o node is lt left own_x (record finds'.turn.new { up = true; empty = false })
        (Some found_lanes) finds'.turn.here left-nodes same-else many own-node queue-each
        (read-x finds' (seen facts left node.0) seen-left of-ops)

  -- ---- or its disk has failed

  module _ (left : Held D) (none : FindsNone facts node held left recover_faults.Disk) (last : Held D)
      (marked : NodeTurns (λ (y z : Node D). z ≡ record y { up = false; empty = true }) at left.nodes.items
      last.nodes.items) (same : last ≡ record left { nodes = last.nodes }) where
    abbrev y : Node D
    y = none.turn.old

    abbrev fails : FailsToRecover facts y none.turn.new recover_faults.Disk
    fails = none.turn.turns

    abbrev z : Node D
    z = record none.turn.new { up = false; empty = true }

    index : node.0 - 1 ≡ at
    index = omega (arith, is)

    there : slice_get left.nodes.items at ≡ Some none.turn.new
    there =
        ap (slice_get left.nodes.items) (sym index)
        ∙ ap (λ (l : List (Node D)). slice_get l (node.0 - 1)) none.turn.is
        ∙ set-here node.0 held.nodes.items y none.turn.new none.turn.here

    some-node : (a b : Node D) → Some a ≡ Some b → a ≡ b
    some-node a b e = cc

    marked-is : marked.new ≡ z
    marked-is =
        marked.turns
        ∙ ap (λ (n : Node D). record n { up = false; empty = true })
        (some-node marked.old none.turn.new (sym marked.here ∙ there))

    pub last-nodes : last.nodes.items ≡ slice_set held.nodes.items (node.0 - 1) z
    last-nodes =
        marked.is ∙ ap (slice_set left.nodes.items at) marked-is
        ∙ ap (λ (l : List (Node D)). slice_set l at z) none.turn.is
        ∙ ap (λ (i : ℕ). slice_set (slice_set held.nodes.items (node.0 - 1) none.turn.new) i z) (sym index)
        ∙ set-twice held.nodes.items (node.0 - 1) none.turn.new z

    pub last-queues : last.queues ≡ held.queues
    last-queues = ap (λ (h : Held D). h.queues) same ∙ ap (λ (h : Held D). h.queues) none.same

    pub last-same : last ≡ record held { queues = last.queues; nodes = last.nodes }
    last-same =
        same ∙ ap (λ (h : Held D). record h { nodes = last.nodes }) none.same
        ∙ ap (λ (q : Vec ClusterQueue). record held { queues = q; nodes = last.nodes }) (sym last-queues)

    queue-kept : (i : ℕ) (row : QueueRow) (d : ClusterQueue) → slice_get rows i ≡ Some row
        → slice_get last.queues.items i ≡ Some d → IsOpenedQueue row (put (at + 1) None o.lanes) (at + 1) d
    queue-kept i row d here found =
        queue-still row o.lanes at None d (λ member. refl)
        (o.queues i row d here (ap (λ (q : Vec ClusterQueue). slice_get q.items i) (sym last-queues) ∙ found))

    y-still : y.queues.items ≡ ids
    y-still = (next-still rows old new at held o node is lt y none.turn.here).is.queues_are

    seen-y : seen facts held node.0 ≡ seen_of facts (disk_in fails.own)
    seen-y = seen-own facts held node.0 y fails.own low none.turn.here fails.was

    seen-last : seen facts last node.0 ≡ seen_of facts fails.left
    seen-last =
        seen-own facts last node.0 z (Closed fails.left) low
        (ap (λ (l : List (Node D)). slice_get l (node.0 - 1)) last-nodes
        ∙ set-here node.0 held.nodes.items y z none.turn.here) (ap (λ (n : Node D). n.log) fails.is)

    disk-failed : WasRead ids (seen facts held node.0) (seen facts last node.0) None
    disk-failed =
        subst (λ (s : Seen). WasRead ids s (seen facts last node.0) None) (sym seen-y)
        (subst (λ (s : Seen). WasRead ids (seen_of facts (disk_in fails.own)) s None) (sym seen-last) (record {
          told = fails.disk.told;
          rises = fails.disk.later;
          keeps = λ tell lot parts e promised. (fails.keeps tell lot parts (y-still ∙ e) promised).1;
          read = fails.cause;
        }))

    empty-node : IsOpenedNode rows node.0 None z
    empty-node =
        let still = (next-still rows old new at held o node is lt y none.turn.here).is in
        record {
          id_is = ap (λ (n : Node D). n.id.0) fails.is ∙ still.id_is;
          up_is = refl;
          empty_is = refl;
          queues_are = ap (λ (n : Node D). n.queues.items) fails.is ∙ still.queues_are;
          has_log = (Closed fails.left, ap (λ (n : Node D). n.log) fails.is);
        }

    pub opened-empty : (more : AreOpened facts rows (at + 1) old last) × (more.lanes ≡ put (at + 1) None o.lanes)
    opened-empty =
        opened-one rows old new at held o node is lt last y z None none.turn.here last-nodes last-same
        (ap (λ (q : Vec ClusterQueue). length q.items) last-queues) empty-node queue-kept disk-failed
