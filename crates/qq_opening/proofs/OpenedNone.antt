-- A node's log isn't recovered as it is opened, after others were.
use Rattle.qq_cluster.proofs.Outcomes.{no_outcome}
use Rattle.std.proofs.Common.{◌≡◌, ◌≢◌, ◌<◌, ◌+◌, ◌-◌, ℕ, true, List, [], ◌∷◌, ◌++◌, Some, length, refl, sym, ap, ◌∙◌, subst, inl, inr, arith}
use Rattle.std.specs.Prelude.{Err, IsTrue, slice_get}
use Rattle.std.specs.List.{range_with_len}
use Rattle.qq_base.specs.declared.ids.NodeId.{NodeId}
use Rattle.qq_base.specs.declared.ids.QueueId.{QueueId}
use Rattle.qq_base.specs.declared.memory.Memory.TheVariants.{Spent, Want}
use Rattle.qq_disk.specs.Disk.{now}
use Rattle.qq_disk.specs.Facts.{DiskFacts}
use Rattle.qq_lots.specs.Left.{state_in}
use Rattle.qq_node_log.specs.Log.{disk_in}
use Rattle.qq_node_log.specs.declared.node_log.NodeLog.TheVariants.{Closed}
use Rattle.qq_raft_protocol.specs.Facts.{In}
use Rattle.qq_recover.specs.Answer.{Fails as ReadsAs}
use Rattle.qq_recover.specs.Reading.{lanes_read, shown}
use Rattle.qq_recover.specs.Recovered.{IsNoRefusal}
use Rattle.qq_recover.specs.declared.fault.RecoverFault.{RecoverFault}
use Rattle.qq_recover.specs.declared.fault.RecoverFault.TheVariants as recover_faults
use Rattle.qq_route.specs.declared.queue_row.QueueRow.{QueueRow}
use Rattle.qq_wal_chain.specs.Lanes.{Lanes}
use Rattle.qq_cluster_model.specs.Cluster.{Setup, new_cluster}
use Rattle.qq_cluster_model.specs.ClusterLaws.{HasGroups}
use Rattle.qq_cluster_model.specs.Rules.{ForEach, IsOpening, IsRestart}
use Rattle.qq_cluster_laws.specs.Linked.{IsLinked, lot_of, parts_at}
use Rattle.qq_cluster_laws.specs.Serves.{Seen, seen_of}
use Rattle.qq_cluster.specs.Nodes.{Begins, EndsAt, Stands, seen}
use Rattle.qq_cluster.specs.Setting.{AreNew, IsSetupOver, ids_on, is_among}
use Rattle.qq_cluster.specs.declared.node.Node.{Node}
use Rattle.qq_cluster.specs.declared.nodes.Nodes.{Nodes as Held}
use Rattle.qq_cluster.proofs.Begun.{ids-are, new-stands}
use Rattle.qq_cluster.proofs.Logged.{each-with}
use Rattle.qq_cluster.proofs.OwnStands.{seen-others, seen-own, set-here}
use Rattle.qq_cluster.proofs.Total.{Allowed, total-each, total-then}
use Rattle.qq_opening.specs.Opened.{AreOpened, IsOfOpsState, WasRead}
use Rattle.qq_opening.specs.Opening.{GivesUpOver, HoldLogs, IsOpenCaused, IsReadAs, IsRefusedOver, IsSetupWith, Logs, MayNotOpen, StopsBefore}
use Rattle.qq_opening.specs.Restarting.{AreLinked, IsOfMemory}
use Rattle.qq_opening.specs.Taking.{FailsToRecover, FindsNone, IsFaultOf, MayNotStep}
use Rattle.qq_opening.specs.declared.restarting.RestartFault.{RestartFault}
use Rattle.qq_opening.specs.declared.restarting.RestartFault.TheVariants as faults_of
use Rattle.qq_opening.proofs.NewNodes.{next-still, next-was}
use Rattle.qq_opening.proofs.Opened.{Opens, total-opens}
use Rattle.qq_opening.proofs.OpenedDisks.{Keeps}
use Rattle.qq_opening.proofs.Changing.{set-long}
use Rattle.qq_opening.proofs.HavingLogs.{opened-logs}
use Rattle.qq_opening.proofs.OpenedLost.{all-give_up, back-opens, before-read, range-split, read-as}
use Rattle.qq_opening.proofs.OpenedMore.{seen-same}
use Rattle.qq_opening.proofs.ReadLogs.{logs-come, logs_read, read-logs}
use Rattle.qq_opening.proofs.Recovering.{spent-end, spent-log}
use Rattle.qq_opening.proofs.RefusedEach.{total-restart}
use Rattle.qq_opening.proofs.RowsOf.{to-passing}
use Rattle.qq_opening.proofs.Serving.{serves-none}
use Rattle.qq_opening.proofs.Untouched.{in-first, range-below, stops-before}

-- ---- setups

-- one whose logs support an audit
pub setup-over : (setup : Setup) (rows : List QueueRow) (count : ℕ) (logs : Logs) → IsSetupWith setup rows count logs
    → HasGroups setup → IsSetupOver setup rows count
setup-over setup rows count logs sw groups = record {
  set_up = record {
    groups = groups;
    own = sw.own;
    first = sw.first;
    places = sw.places;
    nodes = sw.nodes;
    ids = sw.ids;
    among = sw.among;
  };
  each = sw.each;
}

-- a node has a member of each of the rows' queues that it is among
pub row-in : (rows : List QueueRow) (k i : ℕ) (row : QueueRow) → slice_get rows i ≡ Some row
    → is_among k row.members ≡ true → In row.args.queue (ids_on rows k)
row-in rows k i row here member =
    to-passing (λ (r : QueueRow). r.args.queue) (λ (r : QueueRow). is_among k r.members) rows i row here member

module _ {D : Type 0} {facts : DiskFacts D} (rows : List QueueRow) (old : Held D) (at : ℕ) (held : Held D)
    (o : AreOpened facts rows at old held) where
  pub of-ops : (k : ℕ) (l : Lanes) (id : QueueId) → In k (range_with_len 1 at) → o.lanes k ≡ Some l
      → In id (ids_on rows k)
      → IsOfOpsState (state_in l id)
  of-ops k l id here read among =
      let within = range-below 1 at k here in
      let first = within.0 in
      let last = within.1 in
      let was : WasRead (ids_on rows k) (seen facts old k) (seen facts held k) (o.lanes k) =
      o.disks k (omega (arith, first)) (omega (arith, last)) in
      (subst (WasRead (ids_on rows k) (seen facts old k) (seen facts held k)) read was).read.2 id among

  -- there are logs that are what was read so far
  abbrev pub hold_first : (left : Held D)
      → ((k : ℕ) → In k (range_with_len 1 at) → IsReadAs facts rows old left k (o.lanes k))
      → HoldLogs facts rows (range_with_len 1 at) old left
  hold_first left read = record {
    read = record { lanes = o.lanes; each = read };
    logs = logs_read rows o.lanes;
    own = read-logs rows o.lanes;
    are = logs-come rows (range_with_len 1 at) o.lanes of-ops (row-in rows);
  }

module _ {D : Type 0} {facts : DiskFacts D} (rows : List QueueRow) (old : Held D) (new : AreNew facts rows old) (at : ℕ)
    (held : Held D) (o : AreOpened facts rows at old held) (node : NodeId) (is : node.0 ≡ at + 1)
    (lt : at < length old.nodes.items) (left : Held D) (cause : RecoverFault)
    (none : FindsNone facts node held left cause) where
  low : 0 < node.0
  low = omega (arith, is)

  index : node.0 - 1 ≡ at
  index = omega (arith, is)

  abbrev y : Node D
  y = none.turn.old

  abbrev fails : FailsToRecover facts y none.turn.new cause
  fails = none.turn.turns

  abbrev a : ℕ → Seen
  a = seen facts old

  y-ids : y.queues.items ≡ ids_on rows node.0
  y-ids = (next-still rows old new at held o node is lt y none.turn.here).is.queues_are

  others : (j : ℕ) → (j ≢ node.0) → seen facts left j ≡ seen facts held j
  others = seen-others facts node.0 held left none.turn.new low none.turn.is

  seen-y : seen facts held node.0 ≡ seen_of facts (disk_in fails.own)
  seen-y = seen-own facts held node.0 y fails.own low none.turn.here fails.was

  seen-left : seen facts left node.0 ≡ seen_of facts fails.left
  seen-left =
      seen-own facts left node.0 none.turn.new (Closed fails.left) low
      (ap (λ (l : List (Node D)). slice_get l (node.0 - 1)) none.turn.is
      ∙ set-here node.0 held.nodes.items y none.turn.new none.turn.here) (ap (λ (n : Node D). n.log) fails.is)

  -- it was as it is at first
  seen-first : a node.0 ≡ seen_of facts (disk_in fails.own)
  seen-first =
      sym (seen-same facts old held node.0 low
      (ap (slice_get held.nodes.items) index ∙ o.left at (omega arith) ∙ ap (slice_get old.nodes.items) (sym index)))
      ∙ seen-y

  none-keeps : Keeps (ids_on rows node.0) (seen facts held node.0) (seen facts left node.0)
  none-keeps =
      subst (λ (s : Seen). Keeps (ids_on rows node.0) s (seen facts left node.0)) (sym seen-y)
      (subst (λ (s : Seen). Keeps (ids_on rows node.0) (seen_of facts (disk_in fails.own)) s) (sym seen-left) (record {
        told = fails.disk.told;
        rises = fails.disk.later;
        keeps = λ tell lot parts same promised. (fails.keeps tell lot parts (y-ids ∙ same) promised).1;
      }))

  -- ---- a file breaks the rules

  reads-as : IsTrue (a node.0).tells
      → ReadsAs cause (lanes_read (ids_on rows node.0) (shown (now (a node.0).past)))
  reads-as =
      subst (λ (s : Seen). IsTrue s.tells → ReadsAs cause (lanes_read (ids_on rows node.0) (shown (now s.past))))
      (sym seen-first)
      (subst (λ (ids : List QueueId). IsTrue (facts.tells (disk_in fails.own))
      → ReadsAs cause (lanes_read ids (shown (now (facts.past (disk_in fails.own)))))) y-ids fails.refused)

  refused-over : (fault : RecoverFault)
      → (IsTrue (a node.0).tells → lanes_read (ids_on rows node.0) (shown (now (a node.0).past)) ≡ Err fault)
      → IsRefusedOver facts rows old left node.0 fault
  refused-over fault read = record {
    first = range_with_len 1 at;
    later = range_with_len (1 + at + 1) (length old.nodes.items - at - 1);
    are = range-split 1 at (length old.nodes.items) lt
        ∙ ap (λ (k : ℕ). range_with_len 1 at ++ k ∷ range_with_len (1 + at + 1) (length old.nodes.items - at - 1))
        (let e : 1 + at ≡ node.0 = omega (arith, is) in e);
    hold = hold_first rows old at held o left
        (λ k here. (let within = range-below 1 at k here in
        let first = within.0 in let last = within.1 in
        read-as facts rows old left k (o.lanes k)
        (before-read rows old new at held o node is lt left others none-keeps k (omega (arith, first))
        (omega (arith, last)))));
    read = read;
    stops = λ setup sw. subst (λ (k : ℕ). StopsBefore setup (range_with_len 1 at) k o.lanes) (sym is)
        (stops-before setup o.lanes (logs_read rows o.lanes) sw.seats at);
  }

  -- and that of a disk that keeps what logs promised doesn't
  none-refused : (logs : Logs) (setup : Setup) → IsSetupWith setup rows (length old.nodes.items) logs
      → AreLinked facts setup old (new_cluster setup) setup.nodes → IsNoRefusal cause
  none-refused logs setup sw linked =
      subst (λ (s : Seen). IsTrue s.tells × IsLinked setup (new_cluster setup) node.0 (now s.past) → IsNoRefusal cause)
      (sym seen-first)
      (λ both. (fails.keeps both.0 (lot_of setup node.0) (parts_at (new_cluster setup) node.0)
      (y-ids ∙ ids-are setup rows sw.places sw.each node.0) both.1.promised).0)
      (by setup.nodes linked (subst (In node.0) (sym sw.nodes)
      (in-first (length old.nodes.items) node.0 low (omega (arith, is, lt)))))
    where
      by : (list : List ℕ) → AreLinked facts setup old (new_cluster setup) list → In node.0 list
          → IsTrue (a node.0).tells × IsLinked setup (new_cluster setup) node.0 (now (a node.0).past)
      by [] all here = absurd here
      by (j ∷ list) all (inl same) =
          subst (λ (i : ℕ). IsTrue (a i).tells × IsLinked setup (new_cluster setup) i (now (a i).past)) (sym same) all.0
      by (j ∷ list) all (inr later) = by list all.1 later

  -- ---- a number is at its end

  spent-none : (number : ℕ) → cause ≡ recover_faults.Memory (Spent number) → (logs : Logs) (setup : Setup)
      → IsSetupWith setup rows (length old.nodes.items) logs → HasGroups setup
      → (e : EndsAt facts setup (IsOpening setup) old (new_cluster setup) number) × (e.serves.did.events ≡ [])
  spent-none number is_spent logs setup sw groups =
      let more : Allowed (IsOpening setup) (new_cluster setup) =
      total-then (ForEach setup.nodes (IsRestart setup)) (Opens setup)
      (total-each setup.nodes (IsRestart setup) (total-restart setup)) (total-opens setup) (new_cluster setup) in (
        record {
          mid = old;
          before = no_outcome;
          said = no_outcome;
          serves = serves-none setup (new_cluster setup) (Begins (IsOpening setup) (new_cluster setup))
              (Stands facts setup old) a no_outcome (record { rest = more.0; allowed = more.1 })
              (new-stands rows old new setup (setup-over setup rows (length old.nodes.items) logs sw groups));
          at = spent-log facts at old y none.turn.new (next-was rows old new at held o node is lt y none.turn.here)
              cause fails number is_spent;
          end = inr (spent-end facts at old y none.turn.new
              (next-was rows old new at held o node is lt y none.turn.here) cause fails number is_spent);
        },
        refl,
      )

  pub give-up : GivesUpOver facts rows old left
  give-up = all-give_up rows old new at held o node is lt left others none-keeps

  pub refuses : (fault : RestartFault) → IsOpenCaused facts rows old left fault
      → ((logs : Logs) (setup : Setup) → IsSetupWith setup rows (length old.nodes.items) logs
      → AreLinked facts setup old (new_cluster setup) setup.nodes → IsOfMemory fault)
      → MayNotOpen facts rows old left fault
  refuses fault caused never = record {
    cause = caused;
    gives_up = give-up;
    count = ap length none.turn.is ∙ set-long held.nodes.items (node.0 - 1) none.turn.new ∙ o.node_count;
    logs = each-with held.nodes.items left.nodes.items (node.0 - 1) none.turn.new (Closed fails.left) none.turn.is
        (ap (λ (n : Node D). n.log) fails.is) (opened-logs rows old new at held o);
    never = λ logs setup sw groups linked rose. never logs setup sw linked;
  }

pub none-opens : {D : Type 0} {facts : DiskFacts D} (rows : List QueueRow) (old : Held D) (new : AreNew facts rows old)
    (at : ℕ) (held : Held D)
    (o : AreOpened facts rows at old held) (node : NodeId) (is : node.0 ≡ at + 1) (lt : at < length old.nodes.items)
    (left : Held D) (cause : RecoverFault) (fault : RestartFault)
    → FindsNone facts node held left cause → IsFaultOf node cause fault → MayNotOpen facts rows old left fault
none-opens {facts = facts} rows old new at held o node is lt left recover_faults.Disk
    fault none told =
    subst (MayNotOpen facts rows old left) (sym told)
    (refuses rows old new at held o node is lt left recover_faults.Disk none (faults_of.Memory Want) tt
    (λ logs setup sw linked. tt))
none-opens {facts = facts} rows old new at held o node is lt left (recover_faults.Damaged file place) fault none told =
    subst (MayNotOpen facts rows old left) (sym told)
    (refuses rows old new at held o node is lt left (recover_faults.Damaged file place) none
    (faults_of.Damaged node file place)
    (refused-over rows old new at held o node is lt left (recover_faults.Damaged file place) none
    (recover_faults.Damaged file place)
    (reads-as rows old new at held o node is lt left (recover_faults.Damaged file place) none))
    (λ logs setup sw linked. absurd (none-refused rows old new at held o node is lt left
    (recover_faults.Damaged file place) none logs setup sw linked)))
none-opens {facts = facts} rows old new at held o node is lt left (recover_faults.Version file byte) fault none told =
    subst (MayNotOpen facts rows old left) (sym told)
    (refuses rows old new at held o node is lt left (recover_faults.Version file byte) none
    (faults_of.Version node file byte)
    (refused-over rows old new at held o node is lt left (recover_faults.Version file byte) none
    (recover_faults.Version file byte)
    (reads-as rows old new at held o node is lt left (recover_faults.Version file byte) none))
    (λ logs setup sw linked. absurd (none-refused rows old new at held o node is lt left
    (recover_faults.Version file byte) none logs setup sw linked)))
none-opens {facts = facts} rows old new at held o node is lt left (recover_faults.Memory Want) fault none told =
    subst (MayNotOpen facts rows old left) (sym told)
    (refuses rows old new at held o node is lt left (recover_faults.Memory Want) none (faults_of.Memory Want) tt
    (λ logs setup sw linked. tt))
none-opens {facts = facts} rows old new at held o node is lt left
    (recover_faults.Memory (Spent number)) fault none told =
    subst (MayNotOpen facts rows old left) (sym told)
    (refuses rows old new at held o node is lt left (recover_faults.Memory (Spent number)) none
    (faults_of.Memory (Spent number))
    (inl (spent-none rows old new at held o node is lt left (recover_faults.Memory (Spent number)) none number refl))
    (λ logs setup sw linked. tt))

-- the next node isn't opened
pub step-stops : {D : Type 0} {facts : DiskFacts D} (rows : List QueueRow) (old : Held D) (new : AreNew facts rows old)
    (at : ℕ) (held : Held D)
    (o : AreOpened facts rows at old held) (node : NodeId) (is : node.0 ≡ at + 1) (lt : at < length old.nodes.items)
    (left : Held D) (fault : RestartFault)
    → MayNotStep facts node true held left fault → MayNotOpen facts rows old left fault
step-stops rows old new at held o node is lt left fault (inl back) =
    back-opens rows old new at held o node is lt left fault back
step-stops rows old new at held o node is lt left fault (inr (cause, none, told)) =
    none-opens rows old new at held o node is lt left cause fault none told
