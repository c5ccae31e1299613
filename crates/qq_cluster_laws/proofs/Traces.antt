-- Events one after the other, and what a trace says of the disk.
use Rattle.std.proofs.Common.{◌≡◌, ◌⊎◌, ℕ, Bool, true, false, List, [], ◌∷◌, ◌++◌, refl, inl, inr}
use Rattle.std.proofs.lemmas.Bool.{eqb-true}
use Rattle.qq_disk.specs.Disk.{Disk, now}
use Rattle.qq_disk.specs.Moments.{Adds}
use Rattle.qq_disk.proofs.Moments.{adds-none, adds-now, adds-same, adds-then, adds-weaker}
use Rattle.qq_cluster_model.specs.Cluster.{Cluster, ClusterEvent, Setup, Sets, Alike, At, NodeWrites, NodeSyncs, Fails, Crashes, FindsEach, Shows, SaysDown, SaysNoSuch, SaysUnroutable, SaysBusy, SaysEnded, cluster_after, cluster_happens}
use Rattle.qq_cluster_laws.specs.Linked.{IsLinked, IsPromised}
use Rattle.qq_cluster_laws.specs.Traced.{HasNoCrash, IsBrokenAt, IsFair, IsNoCrash, IsPromisedSince, IsTracedAt, Keeps, KeepsAt, KeepsWhere, StaysPromised, TracesTo}
use Rattle.qq_cluster_laws.specs.Unseen.{sees}

-- ---- events without a crash

module _ (setup : Setup) (k : ℕ) where
  no_crash-fair : (event : ClusterEvent) (d : Disk) → IsNoCrash k event → IsFair setup k event d
  no_crash-fair (Sets auto) d calm = tt
  no_crash-fair (Alike event) d calm = tt
  no_crash-fair (At place event) d calm = tt
  no_crash-fair (NodeWrites j) d calm = tt
  no_crash-fair (NodeSyncs j) d calm = tt
  no_crash-fair (Fails j) d calm = tt
  no_crash-fair (Crashes j image) d calm = λ same. absurd (calm same)
  no_crash-fair (FindsEach j ops) d calm = tt
  no_crash-fair (Shows place) d calm = tt
  no_crash-fair (SaysDown j) d calm = tt
  no_crash-fair SaysNoSuch d calm = tt
  no_crash-fair SaysUnroutable d calm = tt
  no_crash-fair SaysBusy d calm = tt
  no_crash-fair SaysEnded d calm = tt

  -- the disk keeps what is promised before an event, or behind it
  abbrev pub Beside : Cluster → ClusterEvent → Disk → Type 0
  Beside c event d = IsPromised setup c k d ⊎ IsPromised setup (cluster_happens c event) k d

  before-moments : (c : Cluster) (event : ClusterEvent) (old new : List Disk) → StaysPromised setup c k old new
      → Adds (Beside c event) old new
  before-moments c event old new adds =
      adds-weaker (IsPromised setup c k) (Beside c event) old new (λ d promised. inl promised) adds

  pub own-moments : (c : Cluster) (event : ClusterEvent) (old new : List Disk) → IsNoCrash k event
      → sees k event ≡ true → Keeps setup c k event old new → Adds (Beside c event) old new
  own-moments c (Sets auto) old new calm own keeps' = before-moments c (Sets auto) old new keeps'
  own-moments c (Alike event) old new calm own keeps' = before-moments c (Alike event) old new keeps'
  own-moments c (At place event) old new calm own keeps' = before-moments c (At place event) old new keeps'
  own-moments c (NodeWrites j) old new calm own keeps' =
      adds-weaker (IsPromised setup (cluster_happens c (NodeWrites j)) k) (Beside c (NodeWrites j)) old new
      (λ d promised. inr promised) keeps'
  own-moments c (NodeSyncs j) old new calm own keeps' = before-moments c (NodeSyncs j) old new keeps'
  own-moments c (Fails j) old new calm own keeps' = before-moments c (Fails j) old new keeps'
  own-moments c (Crashes j image) old new calm own keeps' = absurd (calm (eqb-true j k own))
  own-moments c (FindsEach j ops) old new calm own keeps' = before-moments c (FindsEach j ops) old new keeps'.1
  own-moments c (Shows place) old new calm own keeps' = before-moments c (Shows place) old new keeps'
  own-moments c (SaysDown j) old new calm own keeps' = before-moments c (SaysDown j) old new keeps'
  own-moments c SaysNoSuch old new calm own keeps' = before-moments c SaysNoSuch old new keeps'
  own-moments c SaysUnroutable old new calm own keeps' = before-moments c SaysUnroutable old new keeps'
  own-moments c SaysBusy old new calm own keeps' = before-moments c SaysBusy old new keeps'
  own-moments c SaysEnded old new calm own keeps' = before-moments c SaysEnded old new keeps'

  pub event-moments : (c : Cluster) (event : ClusterEvent) (old new : List Disk) → IsNoCrash k event
      → KeepsAt setup c k event old new → Adds (Beside c event) old new
  event-moments c event old new calm keeps' = by (sees k event) refl keeps'
    where
      by : (b : Bool) → sees k event ≡ b → KeepsWhere b setup c k event old new → Adds (Beside c event) old new
      by true is own = own-moments c event old new calm is own
      by false is same = adds-same (Beside c event) old new same

  since-now : (c : Cluster) (events : List ClusterEvent) (d : Disk) → IsPromised setup c k d
      → IsPromisedSince setup c k events d
  since-now c [] d promised = promised
  since-now c (event ∷ events) d promised = inl promised

  since-beside : (c : Cluster) (event : ClusterEvent) (events : List ClusterEvent) (d : Disk) → Beside c event d
      → IsPromisedSince setup c k (event ∷ events) d
  since-beside c event events d (inl promised) = inl promised
  since-beside c event events d (inr promised) = inr (since-now (cluster_happens c event) events d promised)

-- ---- one trace behind another

module _ (End : Setup → Cluster → ℕ → Disk → Type 0) (setup : Setup) (k : ℕ) where
  -- moments before others
  traces-later : (c : Cluster) (events : List ClusterEvent) (old mid new : List Disk) → IsPromised setup c k (now old)
      → StaysPromised setup c k old mid → TracesTo End setup c k events mid new → TracesTo End setup c k events old new
  traces-later c [] old mid new promised first (there, adds, ended) =
      (promised, adds-then (IsPromised setup c k) old mid new first adds, ended)
  traces-later c (event ∷ events) old mid new promised first (there, start, next, adds, keeps', rest) =
      (promised, start, next, adds-then (IsPromised setup c k) old mid start first adds, keeps', rest)

  -- one list of events and then another, where the log is linked between
  pub traces-then : (c : Cluster) (events others : List ClusterEvent) (old mid new : List Disk)
      → IsTracedAt setup c k events old mid
      → (IsLinked setup (cluster_after c events) k (now mid)
      → TracesTo End setup (cluster_after c events) k others mid new)
      → TracesTo End setup c k (events ++ others) old new
  traces-then c [] others old mid new (promised, adds, linked) second =
      traces-later c others old mid new promised adds (second linked)
  traces-then c (event ∷ events) others old mid new (promised, start, next, adds, keeps', rest) second = (
    promised,
    start,
    next,
    adds,
    keeps',
    λ fair. traces-then (cluster_happens c event) events others next mid new (rest fair) second,
  )

  -- at each moment the disk keeps what was promised at some time
  pub trace-moments : (c : Cluster) (events : List ClusterEvent) (old new : List Disk) → HasNoCrash k events
      → TracesTo End setup c k events old new → Adds (IsPromisedSince setup c k events) old new
  trace-moments c [] old new calm (promised, adds, ended) = adds
  trace-moments c (event ∷ events) old new calm (promised, start, mid, first, keeps', rest) =
      adds-then (IsPromisedSince setup c k (event ∷ events)) old start new
      (adds-weaker (IsPromised setup c k) (IsPromisedSince setup c k (event ∷ events)) old start
      (λ d promised. inl promised) first)
      (adds-then (IsPromisedSince setup c k (event ∷ events)) start mid new
      (adds-weaker (Beside setup k c event) (IsPromisedSince setup c k (event ∷ events)) start mid (since-beside setup k c event events)
      (event-moments setup k c event start mid calm.0 keeps'))
      (adds-weaker (IsPromisedSince setup (cluster_happens c event) k events)
      (IsPromisedSince setup c k (event ∷ events)) mid new (λ d since. inr since)
      (trace-moments (cluster_happens c event) events mid new calm.1
      (rest (no_crash-fair setup k event (now start) calm.0)))))

  -- and the end is as it is said
  pub trace-end : (c : Cluster) (events : List ClusterEvent) (old new : List Disk) → HasNoCrash k events
      → TracesTo End setup c k events old new → End setup (cluster_after c events) k (now new)
  trace-end c [] old new calm (promised, adds, ended) = ended
  trace-end c (event ∷ events) old new calm (promised, start, mid, first, keeps', rest) =
      trace-end (cluster_happens c event) events mid new calm.1 (rest (no_crash-fair setup k event (now start) calm.0))

-- the same with an end that follows
pub traces-weaker : (End More : Setup → Cluster → ℕ → Disk → Type 0) (setup : Setup) (k : ℕ)
    → ((c : Cluster) (j : ℕ) (d : Disk) → End setup c j d → More setup c j d) → (c : Cluster)
    (events : List ClusterEvent) (old new : List Disk) → TracesTo End setup c k events old new
    → TracesTo More setup c k events old new
traces-weaker End More setup k ends c [] old new (promised, adds, ended) = (promised, adds, ends c k (now new) ended)
traces-weaker End More setup k ends c (event ∷ events) old new (promised, start, mid, first, keeps', rest) = (
  promised,
  start,
  mid,
  first,
  keeps',
  λ fair. traces-weaker End More setup k ends (cluster_happens c event) events mid new (rest fair),
)

-- ---- short traces

-- nothing happens
pub traced-none : (setup : Setup) (c : Cluster) (k : ℕ) (past : List Disk) → IsLinked setup c k (now past)
    → IsTracedAt setup c k [] past past
traced-none setup c k past linked = (linked.promised, adds-none (IsPromised setup c k) past, linked)

-- one event, and then others
pub traces-event : (End : Setup → Cluster → ℕ → Disk → Type 0) (setup : Setup) (c : Cluster) (k : ℕ)
    (event : ClusterEvent) (events : List ClusterEvent) (old mid new : List Disk) → IsPromised setup c k (now old)
    → KeepsAt setup c k event old mid
    → (IsFair setup k event (now old) → TracesTo End setup (cluster_happens c event) k events mid new)
    → TracesTo End setup c k (event ∷ events) old new
traces-event End setup c k event events old mid new promised keeps' rest =
    (promised, old, mid, adds-none (IsPromised setup c k) old, keeps', rest)

-- one alone
pub traced-one : (setup : Setup) (c : Cluster) (k : ℕ) (event : ClusterEvent) (old new : List Disk)
    → IsPromised setup c k (now old) → KeepsAt setup c k event old new
    → (IsFair setup k event (now old) → IsLinked setup (cluster_happens c event) k (now new))
    → IsTracedAt setup c k (event ∷ []) old new
traced-one setup c k event old new promised keeps' linked =
    traces-event IsLinked setup c k event [] old new new promised keeps'
    (λ fair. traced-none setup (cluster_happens c event) k new (linked fair))

-- one that is perhaps unfinished
pub broken-one : (setup : Setup) (c : Cluster) (k : ℕ) (event : ClusterEvent) (old new : List Disk)
    → IsPromised setup c k (now old) → KeepsAt setup c k event old new
    → IsPromised setup (cluster_happens c event) k (now new) → IsBrokenAt setup c k (event ∷ []) old new
broken-one setup c k event old new promised keeps' last =
    traces-event IsPromised setup c k event [] old new new promised keeps'
    (λ fair. (last, adds-none (IsPromised setup (cluster_happens c event) k) new, last))

-- or none at all
pub broken-none : (setup : Setup) (c : Cluster) (k : ℕ) (old new : List Disk) → IsPromised setup c k (now old)
    → StaysPromised setup c k old new → IsBrokenAt setup c k [] old new
broken-none setup c k old new promised adds =
    (promised, adds, adds-now (IsPromised setup c k) old new adds promised)
