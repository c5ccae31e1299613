-- All nodes are opened: the logs that were read support an audit, or those of some queue support none.
use Rattle.qq_cluster_model.specs.Outcome.{Outcome}
use Rattle.qq_cluster.proofs.Outcomes.{outcome_after}
use Rattle.std.proofs.Common.{◌≡◌, ◌⊎◌, ◌<◌, ◌≤◌, ◌+◌, ℕ, zero, suc, Bool, true, false, List, ◌++◌, Option, Some, None, length, refl, sym, ap, ◌∙◌, subst, inl, inr, arith, append_assoc}
use Rattle.std.specs.Prelude.{All, is_some, slice_get}
use Rattle.std.specs.List.{range_with_len}
use Rattle.std.proofs.lemmas.List.FromFn.{length-range_with_len}
use Rattle.qq_base.specs.Causes.{Rose}
use Rattle.qq_base.specs.declared.ids.NodeId.{NodeId}
use Rattle.qq_base.specs.declared.ids.QueueId.{QueueId}
use Rattle.qq_base.specs.declared.memory.Memory.{Memory}
use Rattle.qq_base.specs.declared.memory.Memory.TheVariants.{Spent, Want}
use Rattle.qq_disk.specs.Facts.{DiskFacts}
use Rattle.qq_raft_model.specs.Group.{new_group}
use Rattle.qq_raft_model.specs.Promises.{AreDistinct}
use Rattle.qq_raft_protocol.specs.Facts.{In}
use Rattle.qq_route.specs.declared.queue_row.QueueRow.{QueueRow}
use Rattle.qq_wal_chain.specs.Lanes.{Lanes}
use Rattle.qq_cluster_model.specs.Cluster.{Cluster, ClusterEvent, Setup, cluster_after, new_cluster}
use Rattle.qq_cluster_model.specs.ClusterLaws.{HasGroups}
use Rattle.qq_cluster_model.specs.Laws.{IsBegun}
use Rattle.qq_cluster_model.specs.Rules.{ForEach, IsOpening, IsRestart}
use Rattle.qq_cluster_laws.specs.Linked.{IsReached}
use Rattle.qq_cluster_laws.specs.Serves.{GivesUp, Serves}
use Rattle.qq_cluster_laws.proofs.Restarts.{first-stays}
use Rattle.qq_cluster_laws.proofs.Serves.{gives_up-behind, serves-both}
use Rattle.qq_cluster.specs.Nodes.{Begins, CanServe, EndsAt, GaveUp, HaveLogs, Served, Stands, seen}
use Rattle.qq_cluster.specs.Setting.{AreNew, ids_on}
use Rattle.qq_cluster.specs.declared.nodes.Nodes.{Nodes as Held}
use Rattle.qq_cluster.proofs.Stands.{serves-from}
use Rattle.qq_opening.specs.Opened.{AreOpened, Agrees, OpenedServes, OpenedTo, RestartedTo, WasRead}
use Rattle.qq_opening.specs.Opening.{AreLogsOf, AreReadLogs, HaveRestarted, HoldLogs, IsOpenCaused, IsReadAs, IsSetupWith, Logs, MayNotOpen, OpensOver, OpensTo}
use Rattle.qq_opening.specs.Restarting.{IsOpenedTo, RestartEachTo}
use Rattle.qq_opening.specs.declared.restarting.RestartFault.TheVariants as faults_of
use Rattle.qq_opening.proofs.Agreed.{all-begun}
use Rattle.qq_opening.proofs.Opened.{Opens, opens-to}
use Rattle.qq_opening.proofs.OpenedNone.{of-ops, row-in}
use Rattle.qq_opening.proofs.ReadLogs.{logs-come, logs_read, read-logs}
use Rattle.qq_opening.proofs.RestartRules.{restarted-whole}
use Rattle.qq_opening.proofs.Serving.{serves-same}
use Rattle.qq_opening.proofs.SomeSetup.{is-setup_with, setup_with}
use Rattle.qq_opening.proofs.Untouched.{range-below}

-- a count that rose, and didn't fall later
rose-still : (a m b : ℕ) → a ≤ m → Rose a m → m ≤ b → Rose a b
rose-still a m b before (inl less) more = inl (omega (arith, less, more))
rose-still a m b before (inr end) more = by (cases_less m b more)
  where
    cases_less : (x y : ℕ) → x ≤ y → (x ≡ y) ⊎ (x < y)
    cases_less zero zero le = inl refl
    cases_less zero (suc y) le = inr (omega arith)
    cases_less (suc x) zero le = absurd (omega (arith, le))
    cases_less (suc x) (suc y) le = elim (cases_less x y (omega (arith, le))) [
      | inl same ↦ inl (ap suc same)
      | inr less ↦ inr (omega (arith, less))
    ]

    by : (m ≡ b) ⊎ (m < b) → Rose a b
    by (inl same) = inr (sym same ∙ end)
    by (inr less) = inl (omega (arith, before, less))

module _ {D : Type 0} {facts : DiskFacts D} (rows : List QueueRow) (old : Held D) (new : AreNew facts rows old)
    (some : Bool) (held : Held D) (before middle : Outcome)
    (to : OpenedTo facts rows (length old.nodes.items) some old held before middle) where
  abbrev n : ℕ
  n = length old.nodes.items

  abbrev o : AreOpened facts rows n old held
  o = to.opened

  abbrev pub read_logs : Logs
  read_logs = logs_read rows o.lanes

  pub own : AreLogsOf rows read_logs
  own = read-logs rows o.lanes

  pub are : AreReadLogs rows (range_with_len 1 n) o.lanes read_logs
  are = logs-come rows (range_with_len 1 n) o.lanes (of-ops rows old n held o) (row-in rows)

  -- they are what was read, also of the disks as they are later
  pub read-later : (final : Held D)
      → ((k : ℕ) → (seen facts held k).faults ≤ (seen facts final k).faults) → (k : ℕ)
      → In k (range_with_len 1 n) → IsReadAs facts rows old final k (o.lanes k)
  read-later final rises k here =
      by (o.lanes k) (o.disks k (let low = (range-below 1 n k here).0 in omega (arith, low))
      (let high = (range-below 1 n k here).1 in omega (arith, high)))
    where
      by : (l : Option Lanes)
          → WasRead (ids_on rows k) (seen facts old k) (seen facts held k) l → IsReadAs facts rows old final k l
      by None was =
          rose-still (seen facts old k).faults (seen facts held k).faults (seen facts final k).faults was.rises
          was.read (rises k)
      by (Some lanes) was = was.read.0

  abbrev pub hold_all : (final : Held D)
      → ((k : ℕ) → (seen facts held k).faults ≤ (seen facts final k).faults)
      → HoldLogs facts rows (range_with_len 1 n) old final
  hold_all final rises = record {
    read = record { lanes = o.lanes; each = read-later final rises };
    logs = read_logs;
    own = own;
    are = are;
  }

  -- ---- all queues agree

  module _ (agree : All Agrees held.queues.items)
      (may : (queue : QueueId) (nodes : List NodeId) → AreDistinct nodes → IsBegun (new_group queue nodes)) where
    distinct : (i : ℕ) (row : QueueRow) → slice_get rows i ≡ Some row → AreDistinct row.members
    distinct i row here =
        subst AreDistinct (new.set.1.each i row here).down.nodes_is (new.set.1.set_up.groups (i + 1)).distinct

    pub groups-of : (setup : Setup) → IsSetupWith setup rows n read_logs → HasGroups setup
    groups-of setup sw =
        all-begun rows n o.lanes read_logs own are held.queues.items (o.queue_count ∙ new.queues.count) agree o.queues
        distinct setup sw

    pub serves-of : (setup : Setup) → IsSetupWith setup rows n read_logs
        → OpenedServes facts setup n o.lanes some old held before middle
    serves-of setup sw = to.serves read_logs setup sw (groups-of setup sw) own are

    abbrev own_setup : Setup
    own_setup = setup_with new.set.0 rows read_logs

    own-with : IsSetupWith own_setup rows n read_logs
    own-with = is-setup_with new.set.0 rows n new.set.1 read_logs own may

    -- they stand for a cluster that something has led to
    pub can-open : CanServe facts held
    can-open =
        let s = serves-of own_setup own-with in (
          own_setup,
          cluster_after (new_cluster own_setup) s.serves.did.events,
          (s.serves.did.events, refl),
          s.serves.did.stands,
        )

    -- ---- and that is followed by the rest

    module _ (setup : Setup) (sw : IsSetupWith setup rows n read_logs) where
      abbrev s : Serves setup (new_cluster setup) (RestartedTo n some setup (new_cluster setup))
          (Stands facts setup held) (seen facts old) (seen facts held) before middle
      s = (serves-of setup sw).serves

      abbrev c : Cluster
      c = cluster_after (new_cluster setup) s.did.events

      r : IsReached setup c
      r = (s.did.events, refl)

      restarts : RestartEachTo some setup (new_cluster setup) s.did.events
      restarts =
          restarted-whole n some n setup (new_cluster setup) s.did.events sw.nodes (omega arith) s.did.means

      plain : ForEach setup.nodes (IsRestart setup) (new_cluster setup) s.did.events
      plain = by some restarts
        where
          by : (b : Bool) → RestartEachTo b setup (new_cluster setup) s.did.events
              → ForEach setup.nodes (IsRestart setup) (new_cluster setup) s.did.events
          by true rule = rule.0
          by false rule = rule.0

      came-later : (others : List ClusterEvent) → HaveRestarted (range_with_len 1 n) o.lanes (s.did.events ++ others)
      came-later others k here =
          first-stays k s.did.events others (is_some (o.lanes k)) ((serves-of setup sw).came k here)

      -- it was served
      module _ (final : Held D) (later : Outcome) (served : Served facts Opens held final middle later) where
        t : Serves setup c (Opens setup c) (Stands facts setup final) (seen facts held) (seen facts final) middle later
        t = served.serves setup c r s.did.stands

        abbrev Both : List ClusterEvent → Type 0
        Both all = IsOpenedTo some setup (new_cluster setup) all × HaveRestarted (range_with_len 1 n) o.lanes all

        whole : Serves setup (new_cluster setup) Both (Stands facts setup final) (seen facts old)
            (seen facts final) before later
        whole =
            serves-both setup (new_cluster setup) (RestartedTo n some setup (new_cluster setup)) (Opens setup c) Both
            (Stands facts setup held) (Stands facts setup final) (seen facts old) (seen facts held) (seen facts final)
            before middle later s t (
              opens-to some setup (new_cluster setup) s.did.events t.did.events restarts t.did.means,
              came-later t.did.events,
            )

        opens-setup : OpensTo facts setup o.lanes some old final before later
        opens-setup = record {
          groups = groups-of setup sw;
          serves = serves-same whole whole.did.means.0;
          came = whole.did.means.1;
        }

        pub rises-served : (k : ℕ)
            → (seen facts held k).faults ≤ (seen facts final k).faults
        rises-served = t.rises

      -- or given up
      module _ (final : Held D) (memory : Memory) (gave : GaveUp facts Opens held final memory) where
        up : GivesUp setup c (seen facts held) (seen facts final)
        up = gave.gives_up setup c r s.did.stands

        gives-up : GivesUp setup (new_cluster setup) (seen facts old) (seen facts final)
        gives-up =
            gives_up-behind setup (new_cluster setup) (RestartedTo n some setup (new_cluster setup))
            (Stands facts setup held) (seen facts old) (seen facts held) (seen facts final) before middle s up

        still-there : HaveLogs setup final.nodes.items
        still-there = gave.logs setup c r s.did.stands

        still-many : length final.nodes.items ≡ length old.nodes.items
        still-many =
            sym (length-range_with_len 1 (length final.nodes.items)) ∙ ap length (sym still-there.nodes_are ∙ sw.nodes)
            ∙ length-range_with_len 1 (length old.nodes.items)

        module _ (number : ℕ) (is : memory ≡ Spent number) where
          e : EndsAt facts setup (Opens setup) held c number
          e = gave.spent number is setup c r s.did.stands

          abbrev early : List ClusterEvent
          early = e.serves.did.events

          abbrev rest : List ClusterEvent
          rest = e.serves.did.means.rest

          abbrev said : Outcome
          said = outcome_after setup c early middle

          abbrev Spending : List ClusterEvent → Type 0
          Spending all =
              Begins (IsOpening setup) (new_cluster setup) all × HaveRestarted (range_with_len 1 n) o.lanes all

          spending : Serves setup (new_cluster setup) Spending (Stands facts setup e.mid) (seen facts old)
              (seen facts e.mid) before said
          spending =
              serves-both setup (new_cluster setup) (RestartedTo n some setup (new_cluster setup))
              (Begins (Opens setup) c) Spending (Stands facts setup held) (Stands facts setup e.mid)
              (seen facts old) (seen facts held) (seen facts e.mid) before middle said s (serves-from middle e.serves) (
                record {
                  rest = rest;
                  allowed = record {
                    early = s.did.events;
                    late = early ++ rest;
                    is = append_assoc s.did.events early rest;
                    first = plain;
                    second = e.serves.did.means.allowed;
                  };
                },
                came-later early,
              )

          ends-setup : (x : EndsAt facts setup (IsOpening setup) old (new_cluster setup) number)
              × HaveRestarted (range_with_len 1 n) o.lanes x.serves.did.events
          ends-setup = (
            record {
              mid = e.mid;
              before = before;
              said = said;
              serves = serves-same spending spending.did.means.0;
              at = e.at;
              end = e.end;
            },
            spending.did.means.1,
          )

    -- ---- the calls

    pub opens-over : (final : Held D) (later : Outcome) → Served facts Opens held final middle later
        → OpensOver facts rows some old final before later
    opens-over final later served = record {
      hold = hold_all final (rises-served own_setup own-with final later served);
      opens = λ setup sw. opens-setup setup sw final later served;
    }

    pub opens-gave_up : (final : Held D) (memory : Memory) → GaveUp facts Opens held final memory
        → MayNotOpen facts rows old final (faults_of.Memory memory)
    opens-gave_up final memory gave = record {
      cause = by memory refl;
      gives_up = inr (hold_all final rises, λ setup sw. gives-up setup sw final memory gave);
      count = still-many own_setup own-with final memory gave;
      logs = (still-there own_setup own-with final memory gave).each;
      never = λ logs setup sw groups linked none. tt;
    }
      where
        rises : (k : ℕ) → (seen facts held k).faults ≤ (seen facts final k).faults
        rises = (up own_setup own-with final memory gave).rises

        by : (m : Memory) → memory ≡ m → IsOpenCaused facts rows old final (faults_of.Memory m)
        by Want is = tt
        by (Spent number) is = inr (record {
          hold = hold_all final rises;
          ends = λ setup sw. (let own' = ends-setup setup sw final memory gave number is in
              (groups-of setup sw, own'.0, own'.1));
        })
