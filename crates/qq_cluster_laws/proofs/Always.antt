-- At each time the disks of all nodes support each audit.
use Rattle.std.proofs.Common.{◌≡◌, ◌≢◌, ◌⊎◌, ℕ, true, false, List, [], ◌∷◌, ◌++◌, Option, Some, None, refl, sym, ap, ◌∙◌, subst, inl, inr}
use Rattle.std.specs.List.{AllByRecursion}
use Rattle.std.proofs.lemmas.Bool.{cases_eq, eq-eqb}
use Rattle.qq_disk.specs.Disk.{Disk, now}
use Rattle.qq_disk.specs.Moments.{Adds}
use Rattle.qq_disk.proofs.Moments.{adds-now}
use Rattle.qq_lots.specs.Kept.{KeepsPromised}
use Rattle.qq_lots.specs.Lots.{Parts}
use Rattle.qq_raft_protocol.specs.Facts.{In}
use Rattle.qq_cluster_model.specs.Cluster.{Cluster, ClusterEvent, Setup, Sets, Alike, At, NodeWrites, NodeSyncs, Fails, Crashes, FindsEach, Shows, SaysDown, SaysNoSuch, SaysUnroutable, SaysBusy, SaysEnded, cluster_happens}
use Rattle.qq_cluster_model.specs.ClusterLaws.{HasGroups}
use Rattle.qq_cluster_model.proofs.Groups.{KeepsCommits}
use Rattle.qq_cluster_laws.specs.Always.{SupportAlways, SupportBetween, is_crash}
use Rattle.qq_cluster_laws.specs.Held.{Supports}
use Rattle.qq_cluster_laws.specs.Linked.{IsPromised, IsReached, lot_of}
use Rattle.qq_cluster_laws.specs.Traced.{IsFair, IsNoCrash, KeepsAt, StaysPromised, TracesTo}
use Rattle.qq_cluster_laws.specs.Unseen.{is_node, seen_by, sees}
use Rattle.qq_cluster_laws.proofs.Moments.{KnowsWhole, one-log, supports-at, supports-earlier}
use Rattle.qq_cluster_laws.proofs.Reached.{reached-after}
use Rattle.qq_cluster_laws.proofs.Supporting.{Between, SupportsAudits}
use Rattle.qq_cluster_laws.proofs.Traces.{Beside, event-moments}
use Rattle.qq_cluster_laws.proofs.Unseen.{parts-stay, unseen-promised}

-- a number is among these or not
in_list : (k : ℕ) (nodes : List ℕ) → In k nodes ⊎ (In k nodes → ⊥)
in_list k [] = inr (λ here. here)
in_list k (n ∷ nodes) = by (cases_eq k n) (in_list k nodes)
  where
    by : ((k ≡ n) ⊎ (k ≢ n)) → (In k nodes ⊎ (In k nodes → ⊥)) → In k (n ∷ nodes) ⊎ (In k (n ∷ nodes) → ⊥)
    by (inl same) rest = inl (inl same)
    by (inr other) (inl later) = inl (inr later)
    by (inr other) (inr none) = inr (λ here. elim here [ inl same ↦ other same | inr later ↦ none later ])

no_crash-of : (event : ClusterEvent) → is_crash event ≡ false → (k : ℕ) → IsNoCrash k event
no_crash-of (Sets auto) is k = tt
no_crash-of (Alike event) is k = tt
no_crash-of (At place event) is k = tt
no_crash-of (NodeWrites j) is k = tt
no_crash-of (NodeSyncs j) is k = tt
no_crash-of (Fails j) is k = tt
no_crash-of (Crashes j image) is k = absurd (let e : true ≡ false = is in cc)
no_crash-of (FindsEach j ops) is k = tt
no_crash-of (Shows place) is k = tt
no_crash-of (SaysDown j) is k = tt
no_crash-of SaysNoSuch is k = tt
no_crash-of SaysUnroutable is k = tt
no_crash-of SaysBusy is k = tt
no_crash-of SaysEnded is k = tt

disk-in : (P : Disk → Type 0) (d : Disk) (ds : List Disk) → AllByRecursion P ds → In d ds → P d
disk-in P d [] each is = absurd is
disk-in P d (e ∷ ds) each (inl same) = subst P (sym same) each.0
disk-in P d (e ∷ ds) each (inr later) = disk-in P d ds each.1 later

-- what was added to each node's past, and what holds of each of it
module _ (nodes : List ℕ) (P : ℕ → Disk → Type 0) (old new : ℕ → List Disk)
    (adds : (k : ℕ) → In k nodes → Adds (P k) (old k) (new k)) where
  abbrev added_by : (k : ℕ) → (In k nodes ⊎ (In k nodes → ⊥)) → List Disk
  added_by k (inl here) = (adds k here).more
  added_by k (inr none) = []

  abbrev added : ℕ → List Disk
  added k = added_by k (in_list k nodes)

  added-is : (k : ℕ) → In k nodes → new k ≡ added k ++ old k
  added-is k node = by (in_list k nodes)
    where
      by : (o : In k nodes ⊎ (In k nodes → ⊥)) → new k ≡ added_by k o ++ old k
      by (inl here) = (adds k here).is
      by (inr none) = absurd (none node)

  added-each : (k : ℕ) (d : Disk) → In k nodes → In d (added k) → P k d
  added-each k d node is = by (in_list k nodes) is
    where
      by : (o : In k nodes ⊎ (In k nodes → ⊥)) → In d (added_by k o) → P k d
      by (inl here) is = disk-in (P k) d (adds k here).more (adds k here).each is
      by (inr none) is = absurd (none node)

-- ---- the first event of traces

-- what a trace says of its first event
record Stage (End : Setup → Cluster → ℕ → Disk → Type 0) (setup : Setup) (c : Cluster) (event : ClusterEvent)
    (events : List ClusterEvent) (k : ℕ) (old start mid new : List Disk) : Type 0 where
  promised : IsPromised setup c k (now old)
  adds : StaysPromised setup c k old start
  holds : KeepsAt setup c k event start mid
  rest : IsFair setup k event (now start) → TracesTo End setup (cluster_happens c event) k events mid new

module _ (End : Setup → Cluster → ℕ → Disk → Type 0) (setup : Setup) (c : Cluster) (event : ClusterEvent)
    (events : List ClusterEvent) (old new : ℕ → List Disk)
    (traces : (k : ℕ) → In k setup.nodes → TracesTo End setup c k (event ∷ events) (old k) (new k)) where
  abbrev start_by : (k : ℕ) → (In k setup.nodes ⊎ (In k setup.nodes → ⊥)) → List Disk
  start_by k (inl here) = (traces k here).1
  start_by k (inr none) = old k

  abbrev mid_by : (k : ℕ) → (In k setup.nodes ⊎ (In k setup.nodes → ⊥)) → List Disk
  mid_by k (inl here) = (traces k here).2
  mid_by k (inr none) = old k

  abbrev starts : ℕ → List Disk
  starts k = start_by k (in_list k setup.nodes)

  abbrev mids : ℕ → List Disk
  mids k = mid_by k (in_list k setup.nodes)

  stage : (k : ℕ) → In k setup.nodes → Stage End setup c event events k (old k) (starts k) (mids k) (new k)
  stage k node = by (in_list k setup.nodes)
    where
      by : (o : In k setup.nodes ⊎ (In k setup.nodes → ⊥))
          → Stage End setup c event events k (old k) (start_by k o) (mid_by k o) (new k)
      by (inl here) = record {
        promised = (traces k here).0;
        adds = (traces k here).3;
        holds = (traces k here).4;
        rest = (traces k here).5;
      }
      by (inr none) = absurd (none node)

module _ (between : Between) (supports : SupportsAudits) (grows : KeepsCommits) (knows : KnowsWhole) (setup : Setup)
    (groups : HasGroups setup) where
  -- while each disk keeps what is promised
  promised-between : (c : Cluster) (old new : ℕ → List Disk) → IsReached setup c
      → ((k : ℕ) → In k setup.nodes → IsPromised setup c k (now (old k)))
      → ((k : ℕ) → In k setup.nodes → StaysPromised setup c k (old k) (new k))
      → SupportBetween setup groups c old new
  promised-between c old new r promised adds = record {
    more = added setup.nodes (IsPromised setup c) old new adds;
    is = added-is setup.nodes (IsPromised setup c) old new adds;
    each = λ disks are. supports-at between supports grows knows setup groups c disks r
        (λ k node. elim (are k node) [
          | inl same ↦ subst (IsPromised setup c k) (sym same) (promised k node)
          | inr later ↦ added-each setup.nodes (IsPromised setup c) old new adds k (disks k) node later
        ]);
  }

  -- ---- while an event happens

  module _ (c : Cluster) (event : ClusterEvent) (r : IsReached setup c) (disks : ℕ → Disk)
      (are : (k : ℕ) → In k setup.nodes → Beside setup k c event (disks k)) where
    before : (j : ℕ) (d : Disk) → sees j event ≡ false → Beside setup j c event d → IsPromised setup c j d
    before j d unseen (inl own) = own
    before j d unseen (inr own) =
        subst (λ (parts : Parts). KeepsPromised (lot_of setup j) parts d) (parts-stay c j event unseen) own

    behind : (j : ℕ) (d : Disk) → sees j event ≡ false → Beside setup j c event d
        → IsPromised setup (cluster_happens c event) j d
    behind j d unseen own = unseen-promised setup c j event d unseen (before j d unseen own)

    all-before : ((j : ℕ) → In j setup.nodes → IsPromised setup c j (disks j)) → Supports setup groups c disks
    all-before promised = supports-at between supports grows knows setup groups c disks r promised

    all-behind : ((j : ℕ) → In j setup.nodes → IsPromised setup (cluster_happens c event) j (disks j))
        → Supports setup groups c disks
    all-behind promised =
        supports-earlier between supports grows knows setup groups c event disks r
        (supports-at between supports grows knows setup groups (cluster_happens c event) disks
        (reached-after setup c (event ∷ []) r) promised)

    beside-supports : Supports setup groups c disks
    beside-supports = by (seen_by event) refl
      where
        at : (k : ℕ) → seen_by event ≡ Some k → (j : ℕ) → (j ≡ k → ⊥) → sees j event ≡ false
        at k is j other = one-log k j (seen_by event) (ap (is_node k) is ∙ eq-eqb k k refl) other

        own : (k : ℕ) → seen_by event ≡ Some k → Beside setup k c event (disks k) → Supports setup groups c disks
        own k is (inl here) =
            all-before (λ j node. elim (cases_eq j k) [
              | inl same ↦ subst (λ (i : ℕ). IsPromised setup c i (disks i)) (sym same) here
              | inr other ↦ before j (disks j) (at k is j other) (are j node)
            ])
        own k is (inr here) =
            all-behind (λ j node. elim (cases_eq j k) [
              | inl same ↦ subst (λ (i : ℕ). IsPromised setup (cluster_happens c event) i (disks i)) (sym same) here
              | inr other ↦ behind j (disks j) (at k is j other) (are j node)
            ])

        by : (o : Option ℕ) → seen_by event ≡ o → Supports setup groups c disks
        by None is = all-before (λ j node. before j (disks j) (ap (is_node j) is) (are j node))
        by (Some k) is = elim (in_list k setup.nodes) [
          | inl here ↦ own k is (are k here)
          | inr none ↦
              all-before (λ j node. before j (disks j)
              (at k is j (λ same. none (subst (λ (i : ℕ). In i setup.nodes) same node))) (are j node))
        ]

  event-between : (c : Cluster) (event : ClusterEvent) (start mid : ℕ → List Disk) → IsReached setup c
      → is_crash event ≡ false → ((k : ℕ) → In k setup.nodes → IsPromised setup c k (now (start k)))
      → ((k : ℕ) → In k setup.nodes → KeepsAt setup c k event (start k) (mid k))
      → SupportBetween setup groups c start mid
  event-between c event start mid r calm promised keeps' =
      let adds : (k : ℕ) → In k setup.nodes → Adds (Beside setup k c event) (start k) (mid k) =
      λ k node. event-moments setup k c event (start k) (mid k) (no_crash-of event calm k) (keeps' k node) in
      record {
        more = added setup.nodes (λ (k : ℕ). Beside setup k c event) start mid adds;
        is = added-is setup.nodes (λ (k : ℕ). Beside setup k c event) start mid adds;
        each = λ disks are. beside-supports c event r disks
            (λ k node. elim (are k node) [
              | inl same ↦ inl (subst (IsPromised setup c k) (sym same) (promised k node))
              | inr later ↦
                  added-each setup.nodes (λ (k : ℕ). Beside setup k c event) start mid adds k (disks k) node later
            ]);
      }

  -- ---- lists of events

  pub always : (End : Setup → Cluster → ℕ → Disk → Type 0) (c : Cluster) (events : List ClusterEvent)
      (old new : ℕ → List Disk) → IsReached setup c
      → ((k : ℕ) → In k setup.nodes → TracesTo End setup c k events (old k) (new k))
      → SupportAlways setup groups c events old new
  always End c [] old new r traces =
      promised-between c old new r (λ k node. (traces k node).0) (λ k node. (traces k node).1)
  always End c (event ∷ events) old new r traces = (
    starts End setup c event events old new traces,
    mids End setup c event events old new traces,
    promised-between c old (starts End setup c event events old new traces) r
        (λ k node. (stage End setup c event events old new traces k node).promised)
        (λ k node. (stage End setup c event events old new traces k node).adds),
    λ k node. (stage End setup c event events old new traces k node).holds,
    λ calm. event-between c event (starts End setup c event events old new traces)
        (mids End setup c event events old new traces) r calm
        (λ k node. adds-now (IsPromised setup c k) (old k) (starts End setup c event events old new traces k)
        (stage End setup c event events old new traces k node).adds
        (stage End setup c event events old new traces k node).promised)
        (λ k node. (stage End setup c event events old new traces k node).holds),
    λ fair. always End (cluster_happens c event) events (mids End setup c event events old new traces) new
        (reached-after setup c (event ∷ []) r)
        (λ k node. (stage End setup c event events old new traces k node).rest (fair k node)),
  )
