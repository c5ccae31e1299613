-- Over new disks a run begins with new logs.
use Rattle.std.proofs.Common.{◌≡◌, ℕ, Bool, true, false, List, [], ◌∷◌, Ok, Option, Some, None, refl, sym, ap, subst, ◌∙◌, inl, inr}
use Rattle.std.specs.Prelude.{IsTrue, is_some, unwrap_or}
use Rattle.std.proofs.Math.Path.{fun_ext}
use Rattle.std.proofs.lemmas.Bool.{cases_Bool, false≢true}
use Rattle.qq_base.specs.Fronts.{IsFront}
use Rattle.qq_base.specs.declared.ids.QueueId.{QueueId}
use Rattle.qq_defs.specs.Runnable.{IsRunnable}
use Rattle.qq_disk.specs.Disk.{Disk, now}
use Rattle.qq_disk.specs.Facts.{DiskFacts}
use Rattle.qq_log.specs.declared.op.Op.{Op}
use Rattle.qq_log.specs.Stable.{Stable, new_state}
use Rattle.qq_lots.specs.Lots.{ids_of}
use Rattle.qq_ports.specs.Yard.{IsNew}
use Rattle.qq_raft_model.specs.Group.{has_node}
use Rattle.qq_raft_protocol.specs.Facts.{In}
use Rattle.qq_recover.specs.Reading.{lanes_read, shown}
use Rattle.qq_recover.specs.Recovery.{IsReadable}
use Rattle.qq_route.specs.declared.setup.Setup.{Setup}
use Rattle.qq_route.specs.Setup.{state_of}
use Rattle.qq_wal.specs.Running.{top}
use Rattle.qq_wal_chain.specs.Lanes.{IsStateOf, Lanes}
use Rattle.qq_wal_chain.specs.Laws.{KeepsPromise}
use Rattle.qq_cluster_model.specs.Cluster.{Setup as ClusterSetup, members}
use Rattle.qq_cluster_laws.specs.Linked.{lot_of}
use Rattle.qq_cluster_laws.specs.Restarts.{first_restart}
use Rattle.qq_cluster_run.specs.Inputs.{Input}
use Rattle.qq_cluster_run.specs.Serving.{Behind, setup_behind}
use Rattle.qq_cluster_run.specs.Setup.{new_logs}
use Rattle.qq_broker.specs.Lives.{Became, BeginsBy, Giving, IsGiven, log_at, under}
use Rattle.qq_broker.specs.Takers.{RunHad}
use Rattle.qq_taker.specs.Takers.{Takers}
use Rattle.qq_broker.proofs.Opens.{no-ops}
use Rattle.qq_broker.proofs.Restarted.{member-there, node-has, restarted}

-- ---- nothing is read of a new disk

front-none : (ops : List Op) → IsFront ops [] → ops ≡ []
front-none [] f = refl
front-none (op ∷ ops) f = absurd (cc f.is)

module _ (readable : (queues : List QueueId) (noticed given : List Op) (d : Disk)
    → KeepsPromise queues top noticed given d
    → IsReadable queues noticed given d)
    (empty : (queues : List QueueId) (bound : ℕ) → KeepsPromise queues bound [] [] (λ file. None)) where
  pub nothing-read : (queues : List QueueId) (past : List Disk) (lanes : Lanes) → IsNew past
      → lanes_read queues (shown (now past)) ≡ Ok lanes → (id : ℕ) → lanes id ≡ None
  nothing-read queues past lanes new read id =
      let so : IsReadable queues [] [] (now past) =
      readable queues [] [] (now past)
      (subst (λ (p : List Disk). KeepsPromise queues top [] [] (now p)) (sym new) (empty queues top)) in
      let same : lanes ≡ so.lanes = let e : Ok lanes ≡ Ok so.lanes = sym read ∙ so.read in cc in
      let lane = so.recovers.each id in
      let found : so.recovers.lanes ≡ so.lanes =
      let e : Some so.lanes ≡ Some so.recovers.lanes = so.recovers.is in cc in
      ap (λ (l : Lanes). l id) (same ∙ sym found)
      ∙ subst (λ (ops : List Op). IsStateOf ops (so.recovers.lanes id)) (front-none lane.ops lane.front) lane.is

  -- a node that was restarted has no ops in a log over a new disk
  pub no-log : {D : Type 0} (facts : DiskFacts D) (setup : ClusterSetup) (k place : ℕ) (disk : D)
      → IsTrue (facts.tells disk) → IsNew (facts.past disk) → In place (lot_of setup k).places
      → (restarted : Option Bool)
      → is_some restarted ≡ true → BeginsBy facts setup k disk restarted → log_at setup k place ≡ []
  no-log facts setup k place disk tell new on None some begins = absurd cc
  no-log facts setup k place disk tell new on (Some true) some begins =
      let hold = begins tell in
      let id : QueueId = (setup.args place).queue in
      let lane : hold.lanes id.0 ≡ None =
      nothing-read (ids_of (lot_of setup k)) (facts.past disk) hold.lanes new hold.read id.0 in
      no-ops (log_at setup k place)
      (hold.each place on
      ∙ ap (λ (o : Option Stable). Some (record (unwrap_or o new_state) { snapshot = 0 })) lane)
  no-log facts setup k place disk tell new on (Some false) some begins = begins place on

  -- ---- the logs

  module _ {D : Type 0} (is_given : Option (List ℕ) → ℕ → D → Bool) (facts : DiskFacts D) (first : Takers) (s : Setup)
      (all left : List Input) (b : Behind (RunHad (under is_given None) facts first) s all left)
      (runs : IsRunnable (state_of s)) (shows : (disk : D) → IsTrue (facts.tells disk)) where
    abbrev given : Giving D
    given = under is_given None

    abbrev S : ClusterSetup
    S = setup_behind b

    new-disk : (k : ℕ) (disk : D) → IsGiven given facts k disk → IsNew (facts.past disk)
    new-disk k disk is = is.new (shows disk)

    -- what a member's log holds
    own-new : (k place : ℕ) → In k S.nodes → In place (lot_of S k).places → b.logs place k ≡ []
    own-new k place there on =
        let became : (last : D) × Became given facts S b.events k last = b.disks.0 k there in
        let given_disk : D = became.1.first in
        no-log facts S k place given_disk (shows given_disk) (new-disk k given_disk became.1.given_is) on
        (first_restart k b.events)
        (restarted s all left b k there) became.1.begins

    -- and nobody else has a log
    log-new : (place k : ℕ) → b.logs place k ≡ []
    log-new place k = elim (cases_Bool (has_node k (members S place))) [
      | inl has ↦ let there = member-there s all left b runs k place has in own-new k place there.0 there.1
      | inr hasnt ↦
          (b.begins.groups place).opened.down.others k (λ there. false≢true (sym hasnt
          ∙ node-has k (members S place) there))
    ]

    pub logs-new : b.logs ≡ new_logs
    logs-new = fun_ext (λ place. fun_ext (λ k. log-new place k))
