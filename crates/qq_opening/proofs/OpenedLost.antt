-- A node isn't opened, after others were.
use Rattle.std.proofs.Common.{◌≡◌, ◌≢◌, ◌⊎◌, ◌<◌, ◌≤◌, ◌+◌, ◌-◌, ℕ, zero, suc, true, List, [], ◌∷◌, ◌++◌, Option, Some, None, length, refl, sym, ap, ◌∙◌, subst, inl, inr, arith, append_assoc}
use Rattle.std.specs.Global.{Vec}
use Rattle.std.specs.Prelude.{slice_get}
use Rattle.std.specs.List.{range_with_len}
use Rattle.std.proofs.lemmas.Bool.{cases_eq}
use Rattle.qq_base.proofs.Puts.{put-other, put-same}
use Rattle.qq_base.specs.Causes.{Rose}
use Rattle.qq_base.specs.Fronts.{put}
use Rattle.qq_base.specs.declared.ids.NodeId.{NodeId}
use Rattle.qq_base.specs.declared.ids.QueueId.{QueueId}
use Rattle.qq_base.specs.declared.memory.Memory.TheVariants.{Spent, Want}
use Rattle.qq_disk.proofs.Moments.{adds-now}
use Rattle.qq_disk.specs.Disk.{now}
use Rattle.qq_disk.specs.Facts.{DiskFacts}
use Rattle.qq_log.specs.Stable.{stable}
use Rattle.qq_log.specs.declared.op.Op.{Op}
use Rattle.qq_lots.specs.Kept.{KeepsPromised}
use Rattle.qq_lots.specs.Left.{state_in}
use Rattle.qq_node_log.specs.Log.{disk_in}
use Rattle.qq_node_log.specs.declared.node_log.NodeLog.TheVariants.{Open}
use Rattle.qq_raft_protocol.specs.Facts.{In}
use Rattle.qq_recover.specs.Reading.{lanes_read, shown}
use Rattle.qq_route.specs.declared.queue_row.QueueRow.{QueueRow}
use Rattle.qq_wal_chain.specs.Lanes.{Lanes}
use Rattle.qq_cluster_model.specs.Cluster.{Setup, new_cluster}
use Rattle.qq_cluster_model.specs.ClusterLaws.{HasGroups}
use Rattle.qq_cluster_model.specs.Laws.{IsBegun}
use Rattle.qq_cluster_laws.specs.Serves.{Seen, seen_of}
use Rattle.qq_cluster.specs.Nodes.{seen}
use Rattle.qq_cluster.specs.Setting.{AreNew, ids_on, is_among}
use Rattle.qq_cluster.specs.declared.node.Node.{Node}
use Rattle.qq_cluster.specs.declared.nodes.Nodes.{Nodes as Held}
use Rattle.qq_cluster.proofs.Logged.{each-with}
use Rattle.qq_cluster.proofs.OwnStands.{seen-others, seen-own, set-here}
use Rattle.qq_opening.specs.Opened.{AreOpened}
use Rattle.qq_opening.specs.Opening.{AreReadLogs, GivesUpOver, HasRead, IsLostOver, IsOpenCaused, IsReadAs, IsSetupWith, Logs, MayNotOpen, state_read, told_of}
use Rattle.qq_opening.specs.Restarting.{AreLinked, IsOfMemory}
use Rattle.qq_opening.specs.Taking.{FindsLanes, IsLostAmong, IsTakeEachCaused, Recovers, StepsBack, pairs}
use Rattle.qq_opening.specs.declared.restarting.RestartFault.{RestartFault}
use Rattle.qq_opening.specs.declared.restarting.RestartFault.TheVariants as faults_of
use Rattle.qq_opening.specs.declared.taking.Handed.TheVariants.{AsFound}
use Rattle.qq_opening.proofs.Changing.{set-long}
use Rattle.qq_opening.proofs.FoundLanes.{HasLane, lane-op, pair-has}
use Rattle.qq_opening.proofs.HavingLogs.{opened-logs}
use Rattle.qq_opening.proofs.LaneRead.{from-in, lane-from}
use Rattle.qq_opening.proofs.LostQueues.{contains-node, in-middle}
use Rattle.qq_opening.proofs.NewNodes.{next-still, own-id, own-row}
use Rattle.qq_opening.proofs.OpenedDisks.{IsReadOf, IsStateOf, Keeps, begun-state, keeps-give_up, linked-read, same-keeps, was-keeps, was-read_of}
use Rattle.qq_opening.proofs.OpenedMore.{one-more, seen-same}
use Rattle.qq_opening.proofs.OpenedStep.{own_lanes, seen-x, zip}
use Rattle.qq_opening.proofs.RowsOf.{At, is-among}
use Rattle.qq_opening.proofs.Untouched.{in-first, range-below, range-more}

-- a range, up to one of its numbers
pub range-split : (a at n : ℕ) → at < n
    → range_with_len a n ≡ range_with_len a at ++ (a + at) ∷ range_with_len (a + at + 1) (n - at - 1)
range-split a at zero lt = absurd (omega (arith, lt))
range-split a zero (suc n) lt =
    λ i. (let e : a ≡ a + 0 = omega arith in e i) ∷ range_with_len ((let e : a + 1 ≡ a + 0 + 1 = omega arith in e) i)
    ((let e : n ≡ suc n - 0 - 1 = omega arith in e) i)
range-split a (suc at) (suc n) lt =
    ap (λ (l : List ℕ). a ∷ l)
    (range-split (a + 1) at n (omega (arith, lt))
    ∙ (λ i. range_with_len (a + 1) at ++ (let e : a + 1 + at ≡ a + suc at = omega arith in e) i
    ∷ range_with_len ((let e : a + 1 + at + 1 ≡ a + suc at + 1 = omega arith in e) i)
    ((let e : n - at - 1 ≡ suc n - suc at - 1 = omega arith in e) i)))

-- at most another number, or more
pub cases_le : (k n : ℕ) → (k ≤ n) ⊎ (n < k)
cases_le zero n = inl (omega arith)
cases_le (suc k) zero = inr (omega arith)
cases_le (suc k) (suc n) = elim (cases_le k n) [
  | inl le ↦ inl (omega (arith, le))
  | inr lt ↦ inr (omega (arith, lt))
]

append-first : (xs : List ℕ) (x : ℕ) (ys : List ℕ) → (xs ++ x ∷ []) ++ ys ≡ xs ++ x ∷ ys
append-first xs x ys = append_assoc xs (x ∷ []) ys

-- as it is told
pub read-as : {D : Type 0} (facts : DiskFacts D) (rows : List QueueRow) (old left : Held D) (k : ℕ)
    (lanes : Option Lanes)
    → IsReadOf (ids_on rows k) (seen facts old k) (seen facts left k) lanes → IsReadAs facts rows old left k lanes
read-as facts rows old left k None read = read
read-as facts rows old left k (Some lanes) read = read.0

module _ {D : Type 0} {facts : DiskFacts D} (rows : List QueueRow) (old : Held D) (new : AreNew facts rows old) (at : ℕ)
    (held : Held D) (o : AreOpened facts rows at old held) (node : NodeId) (is : node.0 ≡ at + 1)
    (lt : at < length old.nodes.items) where
  low : 0 < node.0
  low = omega (arith, is)

  index : node.0 - 1 ≡ at
  index = omega (arith, is)

  abbrev a : ℕ → Seen
  a = seen facts old

  seen-first : seen facts held node.0 ≡ a node.0
  seen-first =
      seen-same facts old held node.0 low
      (ap (slice_get held.nodes.items) index ∙ o.left at (omega arith) ∙ ap (slice_get old.nodes.items) (sym index))

  -- the nodes so far, and this one
  module _ (left : Held D) (others : (j : ℕ) → (j ≢ node.0)
      → seen facts left j ≡ seen facts held j)
      (own : Keeps (ids_on rows node.0) (seen facts held node.0) (seen facts left node.0)) where
    abbrev b : ℕ → Seen
    b = seen facts left

    untouched : (k : ℕ) → at + 1 < k → b k ≡ a k
    untouched k above =
        others k (λ e. absurd (omega (arith, e, above, is)))
        ∙ seen-same facts old held k (omega (arith, above)) (o.left (k - 1) (omega (arith, above)))

    pub all-keep : (k : ℕ) → Keeps (ids_on rows k) (a k) (b k)
    all-keep zero = same-keeps (ids_on rows 0) (a 0) (b 0) refl
    all-keep (suc j) = by (cases_le (suc j) at)
      where
        later : (suc j ≡ at + 1) ⊎ (suc j ≢ at + 1) → at < suc j → Keeps (ids_on rows (suc j)) (a (suc j)) (b (suc j))
        later (inl same) above =
            subst (λ (k : ℕ). Keeps (ids_on rows k) (a k) (b k)) (is ∙ sym same)
            (subst (λ (s : Seen). Keeps (ids_on rows node.0) s (b node.0)) seen-first own)
        later (inr other) above =
            same-keeps (ids_on rows (suc j)) (a (suc j)) (b (suc j)) (untouched (suc j) (omega (arith, above, other)))

        by : (suc j ≤ at) ⊎ (at < suc j) → Keeps (ids_on rows (suc j)) (a (suc j)) (b (suc j))
        by (inl before) =
            subst (λ (s : Seen). Keeps (ids_on rows (suc j)) (a (suc j)) s)
            (sym (others (suc j) (λ e. absurd (omega (arith, e, before, is)))))
            (was-keeps (ids_on rows (suc j)) (a (suc j)) (seen facts held (suc j)) (o.lanes (suc j))
            (o.disks (suc j) (omega arith) before))
        by (inr above) = later (cases_eq (suc j) (at + 1)) above

    -- those before it were read
    pub before-read : (k : ℕ) → 0 < k → k ≤ at → IsReadOf (ids_on rows k) (a k) (b k) (o.lanes k)
    before-read k some le =
        subst (λ (s : Seen). IsReadOf (ids_on rows k) (a k) s (o.lanes k))
        (sym (others k (λ e. absurd (omega (arith, e, le, is)))))
        (was-read_of (ids_on rows k) (a k) (seen facts held k) (o.lanes k) (o.disks k some le))

    pub all-give_up : GivesUpOver facts rows old left
    all-give_up = inl (λ logs setup sw. keeps-give_up facts rows old left logs setup sw all-keep)

    in-nodes : (logs : Logs) (setup : Setup) → IsSetupWith setup rows (length old.nodes.items) logs → (k : ℕ) → 0 < k
        → k ≤ at + 1 → In k setup.nodes
    in-nodes logs setup sw k some le =
        subst (In k) (sym sw.nodes) (in-first (length old.nodes.items) k some (omega (arith, le, lt)))

    -- ---- of this one it is known what was read

    module _ (lanes : Option Lanes) (read : IsReadOf (ids_on rows node.0) (seen facts held node.0) (b node.0) lanes)
      where
        abbrev pub with_own : ℕ → Option Lanes
        with_own = put (at + 1) lanes o.lanes

        pub with-read : (k : ℕ) → 0 < k → k ≤ at + 1 → IsReadOf (ids_on rows k) (a k) (b k) (with_own k)
        with-read k some le =
            one-more (λ j. IsReadOf (ids_on rows j) (a j) (b j) (with_own j)) at k le
            (λ before. subst (IsReadOf (ids_on rows k) (a k) (b k))
            (sym (put-other (at + 1) lanes o.lanes k (λ e. absurd (omega (arith, e, before)))))
            (before-read k some before))
            (subst (IsReadOf (ids_on rows (at + 1)) (a (at + 1)) (b (at + 1))) (sym (put-same (at + 1) lanes o.lanes))
            (subst (λ (j : ℕ). IsReadOf (ids_on rows j) (a j) (b j) lanes) is
            (subst (λ (s : Seen). IsReadOf (ids_on rows node.0) s (b node.0) lanes) seen-first read)))

        pub has-with : HasRead facts rows (range_with_len 1 (at + 1)) old left
        has-with = record {
          lanes = with_own;
          each = λ k here. (let within = range-below 1 (at + 1) k here in
              let first = within.0 in let last = within.1 in
              read-as facts rows old left k (with_own k) (with-read k (omega (arith, first)) (omega (arith, last))));
        }

        -- over disks that keep what the logs promised these are what was read
        pub linked-with : (logs : Logs) (setup : Setup) → (sw : IsSetupWith setup rows (length old.nodes.items) logs)
            → HasGroups setup → AreLinked facts setup old (new_cluster setup) setup.nodes
            → ((k : ℕ) → In k setup.nodes → Rose (a k).faults (b k).faults
            → (place : ℕ) → In place setup.places → logs place k ≡ [])
            → AreReadLogs rows (range_with_len 1 (at + 1)) with_own logs
        linked-with logs setup sw groups linked none =
            linked-read facts rows old left logs setup sw groups linked none (at + 1) with_own
            (λ k here. (let within = range-below 1 (at + 1) k here in
            let first = within.0 in let last = within.1 in (
              in-nodes logs setup sw k (omega (arith, first)) (omega (arith, last)),
              with-read k (omega (arith, first)) (omega (arith, last)),
            )))

  -- ---- what was found of it is no log

  module _ (left : Held D) (fault : RestartFault) (back : StepsBack facts node true held left fault) where
    abbrev finds : FindsLanes facts node held
    finds = back.found

    abbrev x : Node D
    x = finds.turn.old

    abbrev rec : Recovers facts held.log_bytes x finds.turn.new finds.lanes
    rec = finds.turn.turns

    abbrev found_lanes : Lanes
    found_lanes = own_lanes rows old new at held o node is lt finds

    abbrev ids : List QueueId
    ids = ids_on rows node.0

    x-ids : x.queues.items ≡ ids
    x-ids = (next-still rows old new at held o node is lt x finds.turn.here).is.queues_are

    nodes-are : left.nodes.items ≡ finds.nodes.items
    nodes-are = ap (λ (v : Vec (Node D)). v.items) back.nodes_are

    back-others : (j : ℕ) → (j ≢ node.0) → seen facts left j ≡ seen facts held j
    back-others = seen-others facts node.0 held left finds.turn.new low (nodes-are ∙ finds.turn.is)

    seen-back : seen facts left node.0 ≡ seen_of facts rec.found.wal.disk
    seen-back =
        seen-own facts left node.0 finds.turn.new (Open rec.found.wal) low
        (ap (λ (l : List (Node D)). slice_get l (node.0 - 1)) (nodes-are ∙ finds.turn.is)
        ∙ set-here node.0 held.nodes.items x finds.turn.new finds.turn.here) (ap (λ (y : Node D). y.log) rec.is)

    as-seen : (P : Seen → Seen → Type 0)
        → P (seen_of facts (disk_in rec.own)) (seen_of facts rec.found.wal.disk)
        → P (seen facts held node.0) (seen facts left node.0)
    as-seen P own =
        subst (λ (s : Seen). P s (seen facts left node.0)) (sym (seen-x rows old new at held o node is lt finds))
        (subst (λ (s : Seen). P (seen_of facts (disk_in rec.own)) s) (sym seen-back) own)

    back-keeps : Keeps ids (seen facts held node.0) (seen facts left node.0)
    back-keeps = as-seen (Keeps ids) (record {
      told = rec.disk.told;
      rises = rec.disk.later;
      keeps = λ tell lot parts same promised.
          (let s = rec.has.settles tell lot parts (x-ids ∙ same) promised in (
            s.stays,
            adds-now (KeepsPromised lot parts)
                (facts.past (disk_in rec.own)) (facts.past rec.found.wal.disk) s.stays promised,
          ));
    })

    back-read : IsReadOf ids (seen facts held node.0) (seen facts left node.0) (Some found_lanes)
    back-read = as-seen (λ s t. IsReadOf ids s t (Some found_lanes)) (
      (λ tell. ap (λ (l : List QueueId). lanes_read l (shown (now (facts.past (disk_in rec.own))))) (sym x-ids)
          ∙ rec.has.read tell),
      λ tell lot parts same promised. (rec.has.settles tell lot parts (x-ids ∙ same) promised).between,
    )

    abbrev all_lanes : ℕ → Option Lanes
    all_lanes = with_own left back-others back-keeps (Some found_lanes) back-read

    some-node : (p q : Node D) → Some p ≡ Some q → p ≡ q
    some-node p q e = cc

    -- why one of its members doesn't go on
    caused : IsTakeEachCaused node.0 AsFound (pairs ids finds.lanes) held.queues.items fault
    caused =
        let there : slice_get finds.nodes.items (node.0 - 1) ≡ Some finds.turn.new =
        ap (λ (l : List (Node D)). slice_get l (node.0 - 1)) finds.turn.is
        ∙ set-here node.0 held.nodes.items x finds.turn.new finds.turn.here in
        let queues : back.stays.own.queues.items ≡ ids =
        ap (λ (y : Node D). y.queues.items)
        (some-node back.stays.own finds.turn.new (sym back.stays.here ∙ there) ∙ rec.is)
        ∙ x-ids in
        subst (λ (l : List QueueId). IsTakeEachCaused node.0 AsFound
        (pairs l finds.lanes) held.queues.items fault) queues
        back.stays.cause

    module _ (queue : QueueId) (noticed found : ℕ)
        (lost : IsLostAmong node.0 AsFound (pairs ids finds.lanes) held.queues.items queue noticed found) where
      has : HasLane ids found_lanes (queue, lost.lane)
      has =
          pair-has (queue, lost.lane) ids found_lanes finds.lanes (zip rows old new at held o node is lt finds)
          (subst (In (queue, lost.lane)) (sym lost.are) (in-middle (queue, lost.lane) lost.before lost.behind))

      in-ids : In queue ids
      in-ids = from-in queue ids has.among

      own : At rows (λ (row : QueueRow). (row.args.queue ≡ queue) × (is_among node.0 row.members ≡ true))
      own = own-row rows old new node.0 queue in-ids

      own-place : own.index + 1 ≡ queue.0
      own-place =
          let same = ap (λ (q : QueueId). q.0) own.holds.0 in
          let number = own-id rows old new own.index own.item own.here in
          omega (arith, same, number)

      -- logs of the queue are what was read of the nodes so far
      abbrev FitOwn : (ℕ → List Op) → Type 0
      FitOwn logs =
          (k : ℕ) → In k (range_with_len 1 (at + 1)) → is_among k own.item.members ≡ true
          → stable (logs k) ≡ Some (state_read (all_lanes k) queue)

      fit-own : (logs : Logs) → AreReadLogs rows (range_with_len 1 (at + 1)) all_lanes logs → FitOwn (logs queue.0)
      fit-own logs are k here member =
          ap (λ (p : ℕ). stable (logs p k)) (sym own-place) ∙ are k own.index own.item here own.here member
          ∙ ap (λ (q : QueueId). Some (state_read (all_lanes k) q)) own.holds.0

      -- the queue doesn't begin with them
      lost-refused : (logs : Logs) (setup : Setup) → IsSetupWith setup rows (length old.nodes.items) logs
          → FitOwn (logs queue.0) → IsBegun (setup.group queue.0) → ⊥
      lost-refused logs setup sw fits begun =
          let read : stable (logs queue.0 node.0) ≡ Some (told_of (state_in found_lanes queue)) =
          fits node.0 (in-first (at + 1) node.0 low (omega (arith, is))) own.holds.1
          ∙ ap (λ (l : Option Lanes). Some (state_read l queue))
          (ap all_lanes is ∙ put-same (at + 1) (Some found_lanes) o.lanes) in
          let state : IsStateOf (told_of (state_in found_lanes queue)) =
          begun-state (setup.group queue.0) node.0 (logs queue.0 node.0) (told_of (state_in found_lanes queue)) begun
          (sw.seats queue.0 node.0) read in
          lost.lost.refused (lane-from queue found_lanes lost.lane has.is state.base state.unused)

      lost-over : IsLostOver facts rows old left node queue found
      unfolding has-with
      lost-over =
          let index' : own.index ≡ queue.0 - 1 = omega (arith, own-place) in
          record {
            low = omega (arith, own-place);
            row = own.item;
            here = ap (slice_get rows) (sym index') ∙ own.here;
            queue_is = own.holds.0;
            member = contains-node node own.item.members (sym (is-among node.0 own.item.members) ∙ own.holds.1);
            first = range_with_len 1 (at + 1);
            later = range_with_len (1 + at + 1) (length old.nodes.items - at - 1);
            are = range-split 1 at (length old.nodes.items) lt
                ∙ sym (append-first (range_with_len 1 at) (1 + at)
                (range_with_len (1 + at + 1) (length old.nodes.items - at - 1)))
                ∙ ap (λ (l : List ℕ). l ++ range_with_len (1 + at + 1) (length old.nodes.items - at - 1))
                (sym (range-more 1 at) ∙ ap (range_with_len 1) (let e : suc at ≡ at + 1 = omega arith in e));
            among = in-first (at + 1) node.0 low (omega (arith, is));
            read = has-with left back-others back-keeps (Some found_lanes) back-read;
            own = found_lanes;
            own_is = ap all_lanes is ∙ put-same (at + 1) (Some found_lanes) o.lanes;
            found_is = lost.lost.found_is ∙ lane-op queue found_lanes lost.lane has.is;
            refused = lost-refused;
          }

    back-caused : (f : RestartFault) → IsTakeEachCaused node.0 AsFound (pairs ids finds.lanes) held.queues.items f
        → IsOpenCaused facts rows old left f
    back-caused (faults_of.Damaged other file place) cause = absurd cause
    back-caused (faults_of.Version other file byte) cause = absurd cause
    back-caused (faults_of.Lost other queue noticed found) cause = (
      cause.1.lost.noticed_is,
      subst (λ (n : NodeId). IsLostOver facts rows old left n queue found) (λ i. record { 0 = sym cause.0 i })
          (lost-over queue noticed found cause.1),
    )
    back-caused (faults_of.Memory Want) cause = tt
    back-caused (faults_of.Memory (Spent number)) cause = absurd (let e : Spent number ≡ Want = cause in cc)

    back-never : (f : RestartFault) → IsTakeEachCaused node.0 AsFound (pairs ids finds.lanes) held.queues.items f
        → (logs : Logs) (setup : Setup) → IsSetupWith setup rows (length old.nodes.items) logs
        → HasGroups setup → AreLinked facts setup old (new_cluster setup) setup.nodes → ((k : ℕ) → In k setup.nodes
        → Rose (seen facts old k).faults (seen facts left k).faults
        → (place : ℕ) → In place setup.places → logs place k ≡ []) → IsOfMemory f
    back-never (faults_of.Damaged other file place) cause logs setup sw groups linked none = absurd cause
    back-never (faults_of.Version other file byte) cause logs setup sw groups linked none = absurd cause
    back-never (faults_of.Lost other queue noticed found) cause logs setup sw groups linked none =
        lost-refused queue noticed found cause.1 logs setup sw
        (fit-own queue noticed found cause.1 logs
        (linked-with left back-others back-keeps (Some found_lanes) back-read logs setup sw groups linked none))
        (groups queue.0)
    back-never (faults_of.Memory memory) cause logs setup sw groups linked none = tt

    pub back-opens : MayNotOpen facts rows old left fault
    back-opens = record {
      cause = back-caused fault caused;
      gives_up = all-give_up left back-others back-keeps;
      count = ap length (nodes-are ∙ finds.turn.is) ∙ set-long held.nodes.items (node.0 - 1) finds.turn.new
          ∙ o.node_count;
      logs = each-with held.nodes.items left.nodes.items (node.0 - 1) finds.turn.new (Open rec.found.wal)
          (nodes-are ∙ finds.turn.is) (ap (λ (y : Node D). y.log) rec.is) (opened-logs rows old new at held o);
      never = back-never fault caused;
    }
