-- What is met in a node's disk is what recovery reads of it; without junk that is neither damaged nor lost.
use Rattle.std.proofs.Common.{◌≡◌, ℕ, Bool, true, false, List, [], take, Ok, Err, Option, Some, None, refl, sym, ap, subst, ◌∙◌}
use Rattle.std.specs.Prelude.{IsTrue, is_some, unwrap_or}
use Rattle.qq_base.proofs.Lists.{AllByRecursion-in}
use Rattle.qq_base.specs.declared.ids.QueueId.{QueueId}
use Rattle.qq_disk.specs.declared.name.FileName.{FileName}
use Rattle.qq_disk.specs.Disk.{Disk, now}
use Rattle.qq_disk.specs.Facts.{DiskFacts}
use Rattle.qq_log.specs.declared.op.Op.{Op}
use Rattle.qq_log.specs.Stable.{Stable, new_state, stable}
use Rattle.qq_lots.specs.Left.{AllBetween, IsBetween, ops_found, state_in}
use Rattle.qq_lots.specs.Lots.{ids_of}
use Rattle.qq_lots.proofs.Between.{all-between}
use Rattle.qq_raft_model.specs.Group.{may_restart}
use Rattle.qq_raft_protocol.specs.Facts.{In}
use Rattle.qq_recover.specs.Answer.{Answer}
use Rattle.qq_recover.specs.Reading.{lanes_read, shown}
use Rattle.qq_recover.specs.Recovery.{IsReadable}
use Rattle.qq_recover.specs.declared.fault.RecoverFault.{RecoverFault}
use Rattle.qq_recover.specs.declared.fault.RecoverFault.TheVariants as recover_faults
use Rattle.qq_wal_chain.specs.Lanes.{Lanes}
use Rattle.qq_cluster_model.specs.Cluster.{Cluster, ClusterEvent, Setup, cluster_after, new_cluster}
use Rattle.qq_cluster_model.specs.ClusterLaws.{HasGroups}
use Rattle.qq_cluster_laws.specs.Linked.{IsLinked, MembersFollow, lot_of, parts_at}
use Rattle.qq_cluster_laws.specs.Restarts.{first_restart}
use Rattle.qq_cluster_laws.proofs.Links.{TakesUp, all-take_up}
use Rattle.qq_cluster_run.specs.Troubles.{Damage, AtPlace, OfVersion}
use Rattle.qq_broker.specs.Lives.{Became, Giving}
use Rattle.qq_broker.specs.Nodes.{HoldsQueue, IsBroken, damage_of}
use Rattle.qq_broker.proofs.Keeping.{AreNew, HasNoJunks, IsEmptyPromised, IsHonestWithoutJunk, IsReadWherePromised, kept-new, new-keeps}
use Rattle.qq_broker.proofs.NewLogs.{nothing-read}

-- ---- the place of a damage

damage-place : (fault : RecoverFault) (number place : ℕ) → damage_of fault ≡ Some (AtPlace number place)
    → (file : FileName) × (file.number ≡ number) × (fault ≡ recover_faults.Damaged file place)
damage-place (recover_faults.Damaged file at) number place is =
    let some : Some (AtPlace file.number at) ≡ Some (AtPlace number place) = is in (
      file,
      let same : file.number ≡ number = cc in
          same,
      ap (recover_faults.Damaged file) (let same : at ≡ place = cc in same),
    )
damage-place (recover_faults.Version file byte) number place is =
    absurd (let e : Some (OfVersion file.number byte) ≡ Some (AtPlace number place) = is in cc)
damage-place _ number place is = absurd cc

damage-version : (fault : RecoverFault) (number byte : ℕ) → damage_of fault ≡ Some (OfVersion number byte)
    → (file : FileName) × (file.number ≡ number) × (fault ≡ recover_faults.Version file byte)
damage-version (recover_faults.Version file at) number byte is =
    let some : Some (OfVersion file.number at) ≡ Some (OfVersion number byte) = is in (
      file,
      let same : file.number ≡ number = cc in
          same,
      ap (recover_faults.Version file) (let same : at ≡ byte = cc in same),
    )
damage-version (recover_faults.Damaged file place) number byte is =
    absurd (let e : Some (AtPlace file.number place) ≡ Some (OfVersion number byte) = is in cc)
damage-version _ number byte is = absurd cc

-- what recovery reads of a node's disk
abbrev read_of : {D : Type 0} → (D → List Disk) → Setup → ℕ → D → Answer Lanes
read_of past setup k disk = lanes_read (ids_of (lot_of setup k)) (shown (now (past disk)))

module _ {D : Type 0} (given : Giving D) (facts : DiskFacts D) (setup : Setup) (events : List ClusterEvent) (k : ℕ)
    (shows : (disk : D) → IsTrue (facts.tells disk)) where
  pub broken-place : (number place : ℕ) → IsBroken given facts setup events k (AtPlace number place)
      → (last : D) × ((file : FileName) × Became given facts setup events k last
      × (file.number ≡ number) × (read_of facts.past setup k last ≡ Err (recover_faults.Damaged file place)))
  broken-place number place b = by (damage-place b.fault number place b.is)
    where
      by : (file : FileName) × (file.number ≡ number) × (b.fault ≡ recover_faults.Damaged file place)
          → (last : D) × ((file : FileName) × Became given facts setup events k last
          × (file.number ≡ number) × (read_of facts.past setup k last ≡ Err (recover_faults.Damaged file place)))
      by (file, same, is) =
          (b.last, (file, b.became, same, b.read (shows b.last) ∙ ap (λ (f : RecoverFault). Err f) is))

  pub broken-version : (number byte : ℕ) → IsBroken given facts setup events k (OfVersion number byte)
      → (last : D) × ((file : FileName) × Became given facts setup events k last
      × (file.number ≡ number) × (read_of facts.past setup k last ≡ Err (recover_faults.Version file byte)))
  broken-version number byte b = by (damage-version b.fault number byte b.is)
    where
      by : (file : FileName) × (file.number ≡ number) × (b.fault ≡ recover_faults.Version file byte)
          → (last : D) × ((file : FileName) × Became given facts setup events k last
          × (file.number ≡ number) × (read_of facts.past setup k last ≡ Err (recover_faults.Version file byte)))
      by (file, same, is) =
          (b.last, (file, b.became, same, b.read (shows b.last) ∙ ap (λ (f : RecoverFault). Err f) is))

  pub queue-read : (place : ℕ) (lane : Stable) → HoldsQueue given facts setup events k place lane
      → (last : D) × ((lanes : Lanes) × Became given facts setup events k last
      × (read_of facts.past setup k last ≡ Ok lanes) × (lane ≡ state_in lanes (setup.args place).queue))
  queue-read place lane h = by (h.read (shows h.last))
    where
      by : (lanes : Lanes) × (read_of facts.past setup k h.last ≡ Ok lanes)
          × (lane ≡ state_in lanes (setup.args place).queue)
          → (last : D) × ((lanes : Lanes) × Became given facts setup events k last
          × (read_of facts.past setup k last ≡ Ok lanes) × (lane ≡ state_in lanes (setup.args place).queue))
      by (lanes, read, is) = (h.last, (lanes, h.became, read, is))

-- ---- without junk

module _ (readable : IsReadWherePromised) (empty : IsEmptyPromised) (honest : IsHonestWithoutJunk) {D : Type 0}
    (given : Giving D) (facts : DiskFacts D) (setup : Setup) (events : List ClusterEvent) (k : ℕ)
    (all_new : AreNew given facts k) (shows : (disk : D) → IsTrue (facts.tells disk)) where
  abbrev BecameSo : D → Type 0
  BecameSo last = Became given facts setup events k last

  abbrev Ids : List QueueId
  Ids = ids_of (lot_of setup k)

  -- before the first restart the disk is a new one
  new-read : (disk : D) (b : BecameSo disk) → (first_restart k events ≡ None → disk ≡ b.first)
      → first_restart k events ≡ None → IsReadable Ids [] [] (now (facts.past disk))
  new-read disk b as_given unseen =
      subst (λ (d : D). IsReadable Ids [] [] (now (facts.past d))) (sym (as_given unseen))
      (readable Ids [] [] (now (facts.past b.first))
      (new-keeps readable empty given facts setup k b.first (all_new b.first b.given_is (shows b.first))))

  linked : (disk : D) → HasGroups setup → is_some (first_restart k events) ≡ true → HasNoJunks k events → BecameSo disk
      → IsLinked setup (cluster_after (new_cluster setup) events) k (now (facts.past disk))
  linked disk groups some clean b =
      kept-new readable empty honest given facts setup k events disk groups all_new (shows disk) some clean b

  refuses : {A : Type 0} (disk : D) (noticed ops : List Op) (fault : RecoverFault)
      → IsReadable Ids noticed ops (now (facts.past disk)) → read_of facts.past setup k disk ≡ Err fault → A
  refuses disk noticed ops fault so read = absurd (let e : Ok so.lanes ≡ Err fault = sym so.read ∙ read in cc)

  -- before the first restart no file breaks a rule, and none does later
  pub first-whole : (damage : Damage) → first_restart k events ≡ None
      → IsBroken given facts setup events k damage → ⊥
  first-whole damage unseen b =
      refuses b.last [] [] b.fault (new-read b.last b.became b.as_given unseen) (b.read (shows b.last))

  pub not-broken : (damage : Damage) → HasGroups setup → HasNoJunks k events
      → IsBroken given facts setup events k damage → ⊥
  not-broken damage groups clean b = by (first_restart k events) refl
    where
      by : (o : Option Bool) → first_restart k events ≡ o → ⊥
      by None unseen = first-whole damage unseen b
      by (Some up) seen =
          let promised = (linked b.last groups (ap is_some seen) clean b.became).promised in
          refuses b.last promised.noticed promised.given b.fault
          (readable Ids promised.noticed promised.given (now (facts.past b.last)) promised.promise)
          (b.read (shows b.last))

  -- nothing is found of a queue on a new disk
  pub nothing-found : (place : ℕ) (lane : Stable) → first_restart k events ≡ None
      → HoldsQueue given facts setup events k place lane → lane ≡ new_state
  nothing-found place lane unseen h = by (h.read (shows h.last))
    where
      by : (lanes : Lanes) × (read_of facts.past setup k h.last ≡ Ok lanes)
          × (lane ≡ state_in lanes (setup.args place).queue)
          → lane ≡ new_state
      by (lanes, read, is) =
          let first : read_of facts.past setup k h.became.first ≡ Ok lanes =
          subst (λ (d : D). read_of facts.past setup k d ≡ Ok lanes) (h.as_given unseen) read in
          is ∙ ap (λ (o : Option Stable). unwrap_or o new_state)
          (nothing-read readable empty Ids (facts.past h.became.first) lanes
          (all_new h.became.first h.became.given_is (shows h.became.first)) first
          (setup.args place).queue.0)

  abbrev C : Cluster
  C = cluster_after (new_cluster setup) events

  abbrev May : ℕ → Stable → Type 0
  May place state =
      (may_restart k state.op (C.queue place).group ≡ true)
      × (stable (take state.op ((C.queue place).group.seat k).ops) ≡ Some state)

  -- what is found a member that is down may take up
  pub takes-found : (place : ℕ) (lane : Stable) → HasGroups setup → is_some (first_restart k events) ≡ true
      → HasNoJunks k events → (cluster_after (new_cluster setup) events).up k ≡ false
      → MembersFollow setup (cluster_after (new_cluster setup) events) k → In place (lot_of setup k).places
      → HoldsQueue given facts setup events k place lane
      → (may_restart k lane.op ((cluster_after (new_cluster setup) events).queue place).group ≡ true)
      × (stable (take lane.op (((cluster_after (new_cluster setup) events).queue place).group.seat k).ops) ≡ Some lane)
  takes-found place lane groups some clean down follow on h = by (h.read (shows h.last))
    where
      by : (lanes : Lanes) × (read_of facts.past setup k h.last ≡ Ok lanes)
          × (lane ≡ state_in lanes (setup.args place).queue) → May place lane
      by (lanes, read, is) =
          let promised = (linked h.last groups some clean h.became).promised in
          let so = readable Ids promised.noticed promised.given (now (facts.past h.last)) promised.promise in
          let same : so.recovers.lanes ≡ lanes =
          let e : Ok so.lanes ≡ Ok lanes = sym so.read ∙ read in
          let f : Some so.lanes ≡ Some so.recovers.lanes = so.recovers.is in cc in
          let between : AllBetween (lot_of setup k) (parts_at C k) so.recovers.lanes =
          all-between (lot_of setup k) (parts_at C k) promised.noticed promised.given so.recovers.lanes promised.each
          (λ p. so.recovers.each ((lot_of setup k).id p).0) in
          let takes : TakesUp k (ops_found (lot_of setup k) so.recovers.lanes place) (C.queue place) =
          AllByRecursion-in (λ (p : ℕ). TakesUp k (ops_found (lot_of setup k) so.recovers.lanes p) (C.queue p)) place
          (lot_of setup k).places
          (all-take_up setup C k groups (events, refl) so.recovers.lanes down follow between) on in
          let own : IsBetween (parts_at C k place) (state_in so.recovers.lanes ((lot_of setup k).id place)) =
          AllByRecursion-in (λ (p : ℕ). IsBetween (parts_at C k p) (state_in so.recovers.lanes ((lot_of setup k).id p)))
          place (lot_of setup k).places between on in
          subst (May place) (sym is)
          (subst (λ (l : Lanes). May place (state_in l (setup.args place).queue)) same (takes.may, own.is))
