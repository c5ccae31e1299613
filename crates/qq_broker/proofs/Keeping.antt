-- What the disks of a run keep, as long as crashes leave images without junk.
use Rattle.std.proofs.Common.{◌≡◌, ◌≤◌, ℕ, Bool, true, false, List, [], ◌∷◌, ◌++◌, length, take, Ok, Option, Some, None, refl, sym, ap, subst, ◌∙◌, inl, inr, append-nil, append_assoc, arith}
use Rattle.std.specs.Prelude.{IsTrue, is_some}
use Rattle.std.proofs.lemmas.Bool.{eq-eqb, false≢true}
use Rattle.qq_base.proofs.Lists.{AllByRecursion-in}
use Rattle.qq_base.proofs.Puts.{put-same}
use Rattle.qq_base.specs.declared.ids.QueueId.{QueueId}
use Rattle.qq_disk.specs.declared.image.Image.{Image}
use Rattle.qq_disk.specs.declared.name.FileName.{FileName}
use Rattle.qq_disk.specs.Disk.{Disk, now}
use Rattle.qq_disk.specs.Facts.{DiskFacts}
use Rattle.qq_disk.specs.Image.{image_of}
use Rattle.qq_disk.proofs.Moments.{adds-now}
use Rattle.qq_log.specs.declared.op.Op.{Op}
use Rattle.qq_log.specs.Stable.{stable}
use Rattle.qq_lots.specs.Kept.{IsPromised as HasPromised}
use Rattle.qq_lots.specs.Left.{state_in}
use Rattle.qq_lots.specs.Lots.{ids_of, ops_at}
use Rattle.qq_model.proofs.Lists.{AllByRecursion-from_in}
use Rattle.qq_ports.specs.Yard.{IsNew}
use Rattle.qq_raft_protocol.specs.Facts.{In}
use Rattle.qq_recover.specs.Reading.{lanes_read, shown}
use Rattle.qq_recover.specs.Recovery.{IsReadable}
use Rattle.qq_wal.specs.Running.{top}
use Rattle.qq_wal_chain.specs.Image.{HasNoJunk}
use Rattle.qq_wal_chain.specs.Lanes.{Lanes}
use Rattle.qq_wal_chain.specs.Laws.{IsHonestImage, KeepsPromise}
use Rattle.qq_cluster_model.specs.Cluster.{Cluster, ClusterEvent, Crashes, FindsEach, Setup, cluster_after, cluster_happens, new_cluster}
use Rattle.qq_cluster_model.specs.ClusterLaws.{HasGroups}
use Rattle.qq_cluster_laws.specs.Linked.{IsLinked, IsPromised, lot_of, parts_at}
use Rattle.qq_cluster_laws.specs.Restarts.{first_of, first_restart}
use Rattle.qq_cluster_laws.specs.Traced.{HasNoCrash, IsFair, IsNoCrash, IsTracedAt, KeepsWhere}
use Rattle.qq_cluster_laws.proofs.Links.{begins-linked, crashed-linked, stopped-promised}
use Rattle.qq_cluster_laws.proofs.Reached.{after-both}
use Rattle.qq_cluster_laws.proofs.Restarts.{first-both}
use Rattle.qq_cluster_laws.proofs.Traces.{trace-end}
use Rattle.qq_broker.specs.Lives.{Became, Giving, IsGiven, IsLeft, IsOneDisk, Lives, at_crash, crash_of, log_at}
use Rattle.qq_broker.proofs.Lifetimes.{calm-more, crash-is, left-told, lives-told, one-disk}
use Rattle.qq_broker.proofs.NewLogs.{no-log}

-- crashes of a node leave images without junk
abbrev pub HasNoJunks : ℕ → List ClusterEvent → Type 0
HasNoJunks k events = (image : Image) → In (Crashes k image) events → HasNoJunk image

-- ---- what a restart finds

fair-event : (setup : Setup) (k : ℕ) (event : ClusterEvent) (d : Disk) → IsNoCrash k event → IsFair setup k event d
fair-event setup k (Crashes j image) d calm = λ same. absurd (calm same)
fair-event setup k _ d calm = tt

-- the disk was this at one moment
abbrev pub HasFound : Setup → Cluster → ℕ → (ℕ → ℕ) → List Disk → Type 0
HasFound setup c k ops past =
    (read : List Disk) × ((later : List Disk) × ((lanes : Lanes)
    × (past ≡ later ++ read) × IsPromised setup c k (now read)
    × (lanes_read (ids_of (lot_of setup k)) (shown (now read)) ≡ Ok lanes)
    × ((place : ℕ) → In place (lot_of setup k).places
    → stable (take (ops place) ((c.queue place).group.seat k).ops) ≡ Some (state_in lanes (setup.args place).queue))))

module _ (setup : Setup) (k : ℕ) (ops : ℕ → ℕ) where
  pub traced-found : (c : Cluster) (events : List ClusterEvent) (old new : List Disk) → HasNoCrash k events
      → IsTracedAt setup c k (events ++ FindsEach k ops ∷ []) old new
      → HasFound setup (cluster_after c events) k ops new
  traced-found c [] old new calm (promised, start, mid, first, keeps', rest) =
      by (subst (λ (b : Bool). KeepsWhere b setup c k (FindsEach k ops) start mid) (eq-eqb k k refl) keeps') (rest tt)
    where
      by : KeepsWhere true setup c k (FindsEach k ops) start mid
          → IsTracedAt setup (cluster_happens c (FindsEach k ops)) k [] mid new → HasFound setup c k ops new
      by (found, stays') (later, adds, linked) = (
        start,
        (
          adds.more ++ stays'.more,
          (
            found.lanes,
            adds.is ∙ ap (λ (ds : List Disk). adds.more ++ ds) stays'.is
                ∙ sym (append_assoc adds.more stays'.more start),
            adds-now (IsPromised setup c k) old start first promised,
            found.read,
            λ place on. AllByRecursion-in
                (λ (p : ℕ). stable (take (ops p) (parts_at c k p).ops) ≡ Some
                (state_in found.lanes ((lot_of setup k).id p)))
                place (lot_of setup k).places found.each on,
          ),
        ),
      )
  traced-found c (event ∷ events) old new calm (promised, start, mid, first, keeps', rest) =
      traced-found (cluster_happens c event) events mid new calm.1 (rest (fair-event setup k event (now start) calm.0))

-- ---- the disk since the node was crashed last

abbrev pub IsHonestWithoutJunk : Type 0
IsHonestWithoutJunk =
    (queues : List QueueId) (image : Image) (newest : Option FileName) (d : Disk) → HasNoJunk image
    → IsHonestImage queues d (image_of image newest d)

module _ (honest : IsHonestWithoutJunk) {D : Type 0} (given : Giving D) (facts : DiskFacts D)
    (setup : Setup) (k : ℕ) where
  abbrev One : Cluster → List ClusterEvent → D → D → Type 0
  One c events first last = IsOneDisk facts setup k c events first last

  abbrev Live : Cluster → List ClusterEvent → List ClusterEvent → D → D → Type 0
  Live c since events first last = Lives given facts setup k c since events first last

  abbrev LinkedOn : Cluster → D → Type 0
  LinkedOn c disk = IsLinked setup c k (now (facts.past disk))

  abbrev Next : Cluster → List ClusterEvent → ClusterEvent → Cluster
  Next c since event = cluster_happens (cluster_after c since) event

  -- the log is linked to what a crash leaves, where it was linked before
  crash-linked : (c : Cluster) (since : List ClusterEvent) (event : ClusterEvent) (image : Image) (first old new : D)
      → event ≡ Crashes k image → HasNoCrash k since → HasNoJunk image → IsTrue (facts.tells first) → LinkedOn c first
      → One c since first old → IsLeft given facts image old new → LinkedOn (Next c since event) new
  crash-linked c since event image first old new is calm clean tell linked ends left =
      subst (λ (e : ClusterEvent). LinkedOn (cluster_happens (cluster_after c since) e) new) (sym is) (by left)
    where
      linked_old : LinkedOn (cluster_after c since) old
      linked_old = trace-end IsLinked setup k c since (facts.past first) (facts.past old) calm (ends.traced tell linked)

      by : IsLeft given facts image old new → LinkedOn (cluster_happens (cluster_after c since) (Crashes k image)) new
      by (inl named) =
          let after = named.left (subst IsTrue (sym ends.told) tell) in
          crashed-linked setup (cluster_after c since) k image (facts.past old) (facts.past new) linked_old.promised
          (after.left, after.alone)
          (λ newest is_newest. honest (ids_of (lot_of setup k)) image newest (now (facts.past old)) clean)
      by (inr (hand, same)) =
          subst (LinkedOn (cluster_happens (cluster_after c since) (Crashes k image))) (sym same) (record {
            promised =
                stopped-promised setup (cluster_after c since) k (Crashes k image)
                (now (facts.past old)) (λ place. refl) linked_old.promised;
            tied = λ up. absurd (false≢true (sym (put-same k false (cluster_after c since).up) ∙ up));
          })

  -- What follows of the last disk and of the events since the node was crashed last, with some more, follows of all.
  module _ (end : Cluster) (more : List ClusterEvent) (last : D) (P : Type 0)
      (follows : (begun : Cluster) (since : List ClusterEvent) (first : D) → HasNoCrash k since
      → cluster_after begun since ≡ end → One begun (since ++ more) first last → IsTrue (facts.tells first)
      → LinkedOn begun first → P) where
    pub last-linked : (c : Cluster) (since events : List ClusterEvent) (first : D)
        → cluster_after (cluster_after c since) events ≡ end → HasNoCrash k since → HasNoCrash k more
        → HasNoJunks k events → IsTrue (facts.tells first) → LinkedOn c first → Live c since
        (events ++ more) first last → P
    last-linked c since [] first at calm calm_more clean tell linked so =
        follows c since first calm at (one-disk given facts setup k c since more first last calm_more so) tell linked
    last-linked c since (event ∷ events) first at calm calm_more clean tell linked so =
        by (crash_of k event) refl
        (λ calm' same. last-linked c (since ++ event ∷ []) events first
        (ap (λ (d : Cluster). cluster_after d events) (after-both c since (event ∷ [])) ∙ at) calm' calm_more
        (λ image there. clean image (inr there)) tell linked same)
        (λ new tell' linked' goes. last-linked (Next c since event) [] events new at tt calm_more
        (λ image there. clean image (inr there)) tell'
        linked' goes) so
      where
        by : (o : Option Image) → crash_of k event ≡ o
            → (HasNoCrash k (since ++ event ∷ []) → Live c (since ++ event ∷ []) (events ++ more) first last → P)
            → ((new : D) → IsTrue (facts.tells new) → LinkedOn (Next c since event) new
            → Live (Next c since event) [] (events ++ more) new last → P)
            → at_crash o (λ old. One c since first old) (IsLeft given facts)
            (λ new. Live (Next c since event) [] (events ++ more) new last)
            (Live c (since ++ event ∷ []) (events ++ more) first last)
            → P
        by None is further next same = further (calm-more k since event calm is) same
        by (Some image) is further next (old, (new, ends, left, goes)) =
            let crash : event ≡ Crashes k image = crash-is k event image is in
            next new (subst IsTrue (sym (left-told given facts setup k image old new left))
            (subst IsTrue (sym ends.told) tell))
            (crash-linked c since event image first old new crash calm (clean image (inl (sym crash))) tell linked
            ends left)
            goes

  -- the log is linked to the last disk
  pub lives-linked : (events : List ClusterEvent) (first last : D) → HasNoJunks k events → IsTrue (facts.tells first)
      → LinkedOn (new_cluster setup) first → Live (new_cluster setup) [] events first last
      → LinkedOn (cluster_after (new_cluster setup) events) last
  lives-linked events first last clean tell linked so =
      let end : Cluster = cluster_after (new_cluster setup) events in
      last-linked end [] last (LinkedOn end last)
      (λ begun since one_first calm at one tell' linked'.
      subst (λ (d : Cluster). LinkedOn d last) at
      (trace-end IsLinked setup k begun since (facts.past one_first) (facts.past last) calm
      ((subst (λ (l : List ClusterEvent). One begun l one_first last) (append-nil since) one).traced tell' linked')))
      (new_cluster setup) [] events first refl tt tt clean tell linked
      (subst (λ (l : List ClusterEvent). Live (new_cluster setup) [] l first last) (sym (append-nil events)) so)

  -- and a restart has found what the last disk read
  pub lives-found : (events : List ClusterEvent) (ops : ℕ → ℕ) (first last : D) → HasNoJunks k events
      → IsTrue (facts.tells first) → LinkedOn (new_cluster setup) first
      → Live (new_cluster setup) [] (events ++ FindsEach k ops ∷ []) first last
      → HasFound setup (cluster_after (new_cluster setup) events) k ops (facts.past last)
  lives-found events ops first last clean tell linked so =
      let end : Cluster = cluster_after (new_cluster setup) events in
      last-linked end (FindsEach k ops ∷ []) last (HasFound setup end k ops (facts.past last))
      (λ begun since one_first calm at one tell' linked'.
      subst (λ (d : Cluster). HasFound setup d k ops (facts.past last)) at
      (traced-found setup k ops begun since (facts.past one_first) (facts.past last) calm (one.traced tell' linked')))
      (new_cluster setup) [] events first refl tt (tt, tt) clean tell linked so

-- ---- over a disk that is given

-- the disks that are given for a node are new ones
abbrev pub AreNew : {D : Type 0} → Giving D → DiskFacts D → ℕ → Type 0
AreNew {D} given facts k =
    (disk : D) → IsGiven given facts k disk → IsTrue (facts.tells disk) → IsNew (facts.past disk)

abbrev pub IsReadWherePromised : Type 0
IsReadWherePromised =
    (queues : List QueueId) (noticed given : List Op) (d : Disk) → KeepsPromise queues top noticed given d
    → IsReadable queues noticed given d

abbrev pub IsEmptyPromised : Type 0
IsEmptyPromised = (queues : List QueueId) (bound : ℕ) → KeepsPromise queues bound [] [] (λ file. None)

pub finds-first : (k : ℕ) (events : List ClusterEvent) (ops : ℕ → ℕ)
    → is_some (first_restart k (events ++ FindsEach k ops ∷ [])) ≡ true
finds-first k events ops =
    ap is_some (first-both k events (FindsEach k ops ∷ []))
    ∙ by (first_restart k events) (first_restart k (FindsEach k ops ∷ [])) (rw (eq-eqb k k refl) refl)
  where
    by : (first later : Option Bool) → later ≡ Some true → is_some (first_of first later) ≡ true
    by None later is = ap is_some is
    by (Some up) later is = refl

module _ (readable : IsReadWherePromised) (empty : IsEmptyPromised) {D : Type 0} (given : Giving D)
    (facts : DiskFacts D) (setup : Setup) (k : ℕ) where
  -- a new disk keeps the promise of no ops
  pub new-keeps : (disk : D) → IsNew (facts.past disk) → KeepsPromise (ids_of (lot_of setup k)) top [] []
      (now (facts.past disk))
  new-keeps disk new =
      subst (λ (p : List Disk). KeepsPromise (ids_of (lot_of setup k)) top [] [] (now p)) (sym new)
      (empty (ids_of (lot_of setup k)) top)

  -- the log of a node that was restarted is linked to a new disk
  pub new-linked : (events : List ClusterEvent) (last : D) (b : Became given facts setup events k last)
      → HasGroups setup → AreNew given facts k → IsTrue (facts.tells b.first) → is_some (first_restart k events) ≡ true
      → IsLinked setup (new_cluster setup) k (now (facts.past b.first))
  new-linked events last b groups all_new tell some =
      let new : IsNew (facts.past b.first) = all_new b.first b.given_is tell in
      begins-linked setup k (now (facts.past b.first)) (record {
        noticed = [];
        given = [];
        each = AllByRecursion-from_in
            (λ (place : ℕ). HasPromised (parts_at (new_cluster setup) k place) (ops_at (lot_of setup k) place [])
            (ops_at (lot_of setup k) place [])) (lot_of setup k).places
            (λ place on. record {
              front = record { rest = ((setup.group place).seat k).ops; is = refl };
              covers = (let within : ((setup.group place).seat k).noticed ≤ length (log_at setup k place) =
                  (groups place).opened.down.noticed k in
                  let nothing : length (log_at setup k place) ≡ 0 =
                  ap length (no-log readable empty facts setup k place b.first tell new on
                  (first_restart k events) some b.begins) in
                  let covered : ((setup.group place).seat k).noticed ≤ 0 = omega (arith, within, nothing) in covered);
            });
        promise = new-keeps b.first new;
      })

  -- the first disk shows its contents where the last one does
  pub first-tells : (events : List ClusterEvent) (last : D) (b : Became given facts setup events k last)
      → IsTrue (facts.tells last) → IsTrue (facts.tells b.first)
  first-tells events last b tell =
      subst IsTrue (lives-told given facts setup k (new_cluster setup) [] events b.first last b.lives) tell

module _ (readable : IsReadWherePromised) (empty : IsEmptyPromised) (honest : IsHonestWithoutJunk) {D : Type 0}
    (given : Giving D) (facts : DiskFacts D) (setup : Setup) (k : ℕ) where
  abbrev BecameSo : List ClusterEvent → D → Type 0
  BecameSo events last = Became given facts setup events k last

  -- a disk that kept what the logs promise at first
  pub kept-begun : (events : List ClusterEvent) (last : D)
      → ((first : D) → IsGiven given facts k first → IsTrue (facts.tells first)
      → IsPromised setup (new_cluster setup) k (now (facts.past first))) → IsTrue (facts.tells last)
      → HasNoJunks k events
      → BecameSo events last → IsLinked setup (cluster_after (new_cluster setup) events) k (now (facts.past last))
  kept-begun events last begins tell clean b =
      let tell_first = first-tells readable empty given facts setup k events last b tell in
      lives-linked honest given facts setup k events b.first last clean tell_first
      (begins-linked setup k (now (facts.past b.first)) (begins b.first b.given_is tell_first)) b.lives

  -- and a new one
  pub kept-new : (events : List ClusterEvent) (last : D) → HasGroups setup → AreNew given facts k
      → IsTrue (facts.tells last)
      → is_some (first_restart k events) ≡ true → HasNoJunks k events → BecameSo events last
      → IsLinked setup (cluster_after (new_cluster setup) events) k (now (facts.past last))
  kept-new events last groups all_new tell some clean b =
      let tell_first = first-tells readable empty given facts setup k events last b tell in
      lives-linked honest given facts setup k events b.first last clean tell_first
      (new-linked readable empty given facts setup k events last b groups all_new tell_first some) b.lives

  -- a restart finds what it reads
  pub found-new : (events : List ClusterEvent) (ops : ℕ → ℕ) (last : D) → HasGroups setup → AreNew given facts k
      → IsTrue (facts.tells last) → HasNoJunks k events → BecameSo (events ++ FindsEach k ops ∷ []) last
      → HasFound setup (cluster_after (new_cluster setup) events) k ops (facts.past last)
  found-new events ops last groups all_new tell clean b =
      let all : List ClusterEvent = events ++ FindsEach k ops ∷ [] in
      let tell_first = first-tells readable empty given facts setup k all last b tell in
      lives-found honest given facts setup k events ops b.first last clean tell_first
      (new-linked readable empty given facts setup k all last b groups all_new tell_first
      (finds-first k events ops)) b.lives
