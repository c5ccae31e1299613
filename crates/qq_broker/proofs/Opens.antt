-- The nodes of a run were opened, or each disk has failed.
use Rattle.std.proofs.Common.{◌≡◌, ◌⊎◌, ◌<◌, ◌≤◌, ◌+◌, ◌-◌, ℕ, zero, suc, Bool, true, false, List, [], ◌∷◌, get_or, length, Ok, Option, Some, None, refl, sym, ap, subst, ◌∙◌, inl, inr, arith}
use Rattle.std.specs.Prelude.{IsTrue, is_some, nat_eq, slice_get, ◌||◌}
use Rattle.std.specs.List.{range_with_len}
use Rattle.std.proofs.lemmas.List.FromFn.{length-range_with_len}
use Rattle.std.proofs.lemmas.Option.{slice_get_cases}
use Rattle.qq_base.specs.Causes.{Rose}
use Rattle.qq_base.specs.declared.ids.NodeId.{NodeId}
use Rattle.qq_base.specs.declared.ids.QueueId.{QueueId}
use Rattle.qq_disk.specs.Disk.{Disk, now}
use Rattle.qq_disk.specs.Facts.{DiskFacts}
use Rattle.qq_entry.specs.declared.queue.QueueArgs.{QueueArgs}
use Rattle.qq_log.specs.declared.op.Op.{Op}
use Rattle.qq_log.specs.Stable.{new_state, stable}
use Rattle.qq_lots.specs.Lots.{ids_of}
use Rattle.qq_lots.proofs.Counts.{state-count}
use Rattle.qq_model.proofs.Lists.{AllByRecursion-from_in}
use Rattle.qq_raft_model.specs.Group.{has_node}
use Rattle.qq_raft_protocol.specs.Facts.{In}
use Rattle.qq_raft_protocol.proofs.Lists.{In-filter}
use Rattle.qq_recover.specs.Reading.{lanes_read, shown}
use Rattle.qq_route.specs.declared.queue_row.QueueRow.{QueueRow}
use Rattle.qq_route.specs.declared.setup.Setup.{Setup}
use Rattle.qq_wal_chain.specs.Lanes.{Lanes}
use Rattle.qq_cluster_model.specs.Outcome.{Outcome}
use Rattle.qq_cluster_model.specs.Cluster.{Cluster, ClusterEvent, Setup as ClusterSetup, cluster_after, members, new_cluster}
use Rattle.qq_cluster_model.specs.ClusterLaws.{HasGroups}
use Rattle.qq_cluster_laws.specs.Linked.{lot_of}
use Rattle.qq_cluster_laws.specs.Restarts.{first_restart}
use Rattle.qq_cluster_laws.specs.Serves.{Seen, Serves}
use Rattle.qq_cluster_run.specs.Endings.{Ending, yard_fault}
use Rattle.qq_cluster_run.specs.Runs.{MayNotOpen}
use Rattle.qq_cluster_run.specs.Service.{HasOpened}
use Rattle.qq_cluster_run.specs.Setup.{Logs, cluster_over, cluster_setup, new_logs}
use Rattle.qq_cluster.specs.Nodes.{Stands, seen}
use Rattle.qq_cluster.specs.Setting.{ids_on, is_among}
use Rattle.qq_cluster.specs.declared.nodes.Nodes.{Nodes}
use Rattle.qq_cluster.proofs.Begun.{ids-are}
use Rattle.qq_opening.specs.Opening.{AreReadLogs, HoldLogs, IsReadAs, IsSetupWith, OpensOver, OpensTo, all_of, state_read}
use Rattle.qq_opening.specs.Restarting.{IsOpenedTo}
use Rattle.qq_broker.specs.Lives.{Became, BeginsBy, Giving, IsGiven, failures, log_at}
use Rattle.qq_broker.specs.Nodes.{Had, HasFailed, Holds, IsDiskOf, MayRun, Meets}
use Rattle.qq_broker.specs.Serving.{AreUnopened, IsYardEnding}
use Rattle.qq_broker.proofs.Beginning.{is-apart, is-with, own-changes}
use Rattle.qq_broker.proofs.Failing.{opening-once}
use Rattle.qq_broker.proofs.GoingOn.{disk-there, had-so, in-range, served-disk}
use Rattle.qq_broker.proofs.Living.{goes-on, one-none}

pub yard-closes : {D : Type 0} (given : Giving D) (facts : DiskFacts D) (before after : ℕ) (s : Setup) (ending : Ending)
    → IsYardEnding before after ending
    → MayNotOpen (Meets given facts before after) s ending
yard-closes given facts before after s ending (inl failed) =
    inr (new_logs, inr (inl (inl failed.0, failed.1)))
yard-closes given facts before after s ending (inr want) = inr (new_logs, inl want)

some-there : (n : ℕ) → 0 < n → range_with_len 1 n ≡ [] → ⊥
some-there zero some is = absurd (omega (arith, some))
some-there (suc n) some is = absurd cc

-- ops that come to a new state are none
pub no-ops : (ops : List Op) → stable ops ≡ Some new_state → ops ≡ []
no-ops [] is = refl
no-ops (op ∷ ops) is =
    let count : 0 ≡ length (op ∷ ops) = state-count (op ∷ ops) new_state is in
    absurd (let e : 0 ≡ suc (length ops) = count in omega (arith, e))

-- ---- the rows

is-member : (k : ℕ) (nodes : List NodeId) → is_among k nodes ≡ has_node k nodes
is-member k [] = refl
is-member k (n ∷ nodes) = ap (λ (b : Bool). nat_eq n.0 k || b) (is-member k nodes)

-- the row of a queue of which a node has a member
record IsRowOn (setup : ClusterSetup) (rows : List QueueRow) (k place : ℕ) : Type 0 where
  at : ℕ
  row : QueueRow
  here : slice_get rows at ≡ Some row
  place_is : at + 1 ≡ place
  member : is_among k row.members ≡ true
  args_is : row.args ≡ setup.args place

row-on : (setup : ClusterSetup) (rows : List QueueRow) (count : ℕ) (logs : Logs) → IsSetupWith setup rows count logs
    → (k place : ℕ) → In place (lot_of setup k).places → IsRowOn setup rows k place
row-on setup rows count logs with' k place there =
    let parts = In-filter (λ (p : ℕ). has_node k (members setup p)) place setup.places there in
    let within = in-range place 1 (length rows) (subst (In place) with'.places parts.0) in
    by parts.1 (omega (arith, within.0)) (omega (arith, within.0, within.1)) (slice_get_cases rows (place - 1)).1
  where
    by : has_node k (members setup place) ≡ true → place - 1 + 1 ≡ place → place - 1 < length rows
        → ((x : QueueRow) × (place - 1 < length rows) × (slice_get rows (place - 1) ≡ Some x)
        × (get_or rows (place - 1) x ≡ x)) ⊎ ((length rows ≤ place - 1) × (slice_get rows (place - 1) ≡ None))
        → IsRowOn setup rows k place
    by has same less (inl (row, lt, here, is)) =
        let own = with'.each (place - 1) row here in
        record {
          at = place - 1;
          row = row;
          here = here;
          place_is = same;
          member = is-member k row.members
              ∙ ap (has_node k) (sym own.down.nodes_is ∙ ap (members setup) same) ∙ has;
          args_is = own.args_is ∙ ap (λ (p : ℕ). setup.args p) same;
        }
    by has same less (inr (past_end, none)) = absurd (omega (arith, less, past_end))

module _ {D : Type 0} (given : Giving D) (facts : DiskFacts D) (s : Setup) (may : MayRun s)
    (begins : HasGroups (cluster_setup s)) (old : Nodes D)
    (u : AreUnopened given facts s old) where
  abbrev pub See : Nodes D → ℕ → Seen
  See held = seen facts held

  -- there is a node for each of the setup's
  pub count-is : length old.nodes.items ≡ s.nodes
  count-is =
      sym (length-range_with_len 1 (length old.nodes.items)) ∙ ap length (sym u.stands.set_up.nodes)
      ∙ length-range_with_len 1 s.nodes

  pub nodes-are : all_of old ≡ range_with_len 1 s.nodes
  nodes-are = ap (range_with_len 1) count-is

  -- the disk that was given for a node
  pub own-disk : (k : ℕ) → In k (range_with_len 1 s.nodes)
      → (disk : D) × IsDiskOf facts old k disk × IsGiven given facts k disk
  own-disk k there = u.disks k there

  pub as-read : (P : List Disk → Type 0) (k : ℕ) (disk : D) → IsDiskOf facts old k disk
      → (IsTrue (See old k).tells → P (See old k).past) → IsTrue (facts.tells disk) → P (facts.past disk)
  as-read P k disk is so tell =
      subst (λ (v : Seen). P v.past) is (so (subst IsTrue (sym (ap (λ (v : Seen). v.tells) is)) tell))

  -- ---- the logs with which nodes begin

  module _ (logs : Logs) (with' : IsSetupWith (cluster_over s logs) s.queues (length old.nodes.items) logs) where
    abbrev S : ClusterSetup
    S = cluster_over s logs

    pub ids-on : (k : ℕ) → ids_on s.queues k ≡ ids_of (lot_of S k)
    ids-on k = ids-are S s.queues with'.places with'.each k

    module _ (nodes : List ℕ) (new : Nodes D) (lanes : ℕ → Option Lanes)
        (each : (k : ℕ) → In k nodes → IsReadAs facts s.queues old new k (lanes k))
        (are : AreReadLogs s.queues nodes lanes logs) where
      -- a queue's log on a node is what was read
      log-is : (k place : ℕ) → In k nodes → In place (lot_of S k).places
          → stable (log_at S k place) ≡ Some (state_read (lanes k) (S.args place).queue)
      log-is k place there on =
          let r = row-on S s.queues (length old.nodes.items) logs with' k place on in
          subst (λ (p : ℕ). stable (logs p k) ≡ Some (state_read (lanes k) (S.args place).queue)) r.place_is
          (are k r.at r.row there r.here r.member
          ∙ ap (λ (a : QueueArgs). Some (state_read (lanes k) a.queue)) r.args_is)

      pub begins-read : (k : ℕ) → In k nodes → (disk : D) → IsDiskOf facts old k disk
          → (restarted : Option Bool) → restarted ≡ Some (is_some (lanes k))
          → BeginsBy facts S k disk restarted
      begins-read k there disk is restarted first =
          subst (BeginsBy facts S k disk) (sym first)
          (by (lanes k) (each k there) (λ place on. log-is k place there on))
        where
          by : (read : Option Lanes) → IsReadAs facts s.queues old new k read
              → ((place : ℕ) → In place (lot_of S k).places
              → stable (log_at S k place) ≡ Some (state_read read (S.args place).queue))
              → BeginsBy facts S k disk (Some (is_some read))
          by None failed hold = λ place on. no-ops (log_at S k place) (hold place on)
          by (Some l) read hold = λ tell. record {
            lanes = l;
            read = ap (λ (ids : List QueueId). lanes_read ids (shown (now (facts.past disk)))) (sym (ids-on k))
                ∙ as-read (λ (p : List Disk). lanes_read (ids_on s.queues k) (shown (now p)) ≡ Ok l) k disk is read tell;
            each = hold;
          }

    -- what has become of a node's disk since it was given
    module _ (Allowed : List ClusterEvent → Type 0) (After : Cluster → Type 0) (new : Nodes D) (before later : Outcome)
        (sv : Serves S (new_cluster S) Allowed After (See old) (See new) before later)
        (few : (k : ℕ) → failures k sv.did.events ≤ 1) where
      pub became-first : (k : ℕ) (there : In k S.nodes) (last : D) → IsDiskOf facts new k last
          → BeginsBy facts S k (own-disk k there).0 (first_restart k sv.did.events)
          → Became given facts S sv.did.events k last
      became-first k there last is begun =
          let own = own-disk k there in
          record {
            first = own.0;
            given_is = own.2;
            begins = begun;
            lives = goes-on given facts S k (new_cluster S) sv.did.events own.0 last (sv.no_crash k)
                (served-disk given facts S (new_cluster S) Allowed After old new before later sv k there (few k)
                own.0 last own.1 is)
                (new_cluster S) [] own.0 refl (one-none facts S k (new_cluster S) own.0);
          }

  -- logs that the disks hold
  pub held-with : (nodes : List ℕ) (new : Nodes D) → (hold : HoldLogs facts s.queues nodes old new)
      → IsSetupWith (cluster_over s hold.logs) s.queues (length old.nodes.items) hold.logs
  held-with nodes new hold =
      is-with s may hold.logs begins (is-apart s may hold.logs hold.own) (length old.nodes.items) count-is

  -- ---- the nodes were opened

  module _ (new : Nodes D) (before later : Outcome) where
    module _ (some : Bool) (so : OpensOver facts s.queues some old new before later) where
      abbrev L : Logs
      L = so.hold.logs

      abbrev T : ClusterSetup
      T = cluster_over s L

      to : OpensTo facts T so.hold.read.lanes some old new before later
      to = so.opens T (held-with (all_of old) new so.hold)

      here : (k : ℕ) → In k T.nodes → In k (all_of old)
      here k there = subst (In k) (sym nodes-are) there

    pub has-opened : (some : Bool) → some ≡ true → OpensOver facts s.queues some old new before later
        → HasOpened (Had given facts) s (Holds given facts s new) before later
    has-opened false is so = absurd cc
    has-opened true is so =
        let logs : Logs = so.hold.logs in
        let setup : ClusterSetup = cluster_over s logs in
        let opens = to true so in
        let sv = opens.serves in
        let with' = held-with (all_of old) new so.hold in
        let holds : Holds given facts s new (record { lines = 0; logs = logs; events = sv.did.events }) =
        record {
          stands = sv.did.stands;
          restarted = λ k there. ap is_some (opens.came k (here true so k there));
          disks = λ k there.
              (let last = disk-there given facts setup new (cluster_after (new_cluster setup) sv.did.events)
              sv.did.stands k there in
              let own = own-disk k there in (
                last.0,
                last.1,
                became-first logs with' (IsOpenedTo true setup (new_cluster setup)) (Stands facts setup new) new before
                    later sv
                    (λ j. opening-once j setup s.nodes refl (new_cluster setup) sv.did.events sv.did.means.0) k there last.0
                    last.1
                    (begins-read logs with' (all_of old) new so.hold.read.lanes so.hold.read.each so.hold.are k
                    (here true so k there) own.0 own.1 (first_restart k sv.did.events) (opens.came k (here true so k there))),
              ));
        } in
        record {
          logs = logs;
          begins = record {
            own = own-changes (length s.queues) logs (is-apart s may logs so.hold.own);
            groups = opens.groups;
          };
          events = sv.did.events;
          allowed = sv.did.means.0;
          opened = sv.did.means.1;
          disks = had-so given facts s new (record { lines = 0; logs = logs; events = sv.did.events }) holds;
          stands = holds;
          says = sv.did.says;
          sees = sv.did.sees;
        }

    -- ---- each disk has failed

    failed-at : (so : OpensOver facts s.queues false old new before later) → (k : ℕ) → In k (T false so).nodes
        → HasFailed given facts k
    failed-at so k there =
        let setup : ClusterSetup = cluster_over s so.hold.logs in
        let sv = (to false so).serves in
        let own = own-disk k there in
        let last = disk-there given facts setup new (cluster_after (new_cluster setup) sv.did.events)
        sv.did.stands k there in
        record {
          first = own.0;
          given_is = own.2;
          last = last.0;
          told = sym (ap (λ (v : Seen). v.tells) last.1) ∙ sv.did.told k ∙ ap (λ (v : Seen). v.tells) own.1;
          rose = subst (λ (n : ℕ). Rose n (facts.faults last.0)) (ap (λ (v : Seen). v.faults) own.1)
              (subst (λ (n : ℕ). Rose (See old k).faults n) (ap (λ (v : Seen). v.faults) last.1)
              (sv.cause k (sv.did.means.1 k there refl)));
        }

    pub no-disk : (first last : ℕ) (some : Bool) → some ≡ false → 0 < s.nodes
        → OpensOver facts s.queues some old new before later → MayNotOpen (Meets given facts first last) s yard_fault
    no-disk first last true is many so = absurd cc
    no-disk first last false is many so =
        inr (
          so.hold.logs,
          inr (inl (
            inr (
              some-there s.nodes many,
              AllByRecursion-from_in (HasFailed given facts) (cluster_over s so.hold.logs).nodes (failed-at so),
            ),
            refl,
          )),
        )
