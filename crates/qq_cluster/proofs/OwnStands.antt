-- What stands where one node and the queues change, by events of that node's log.
use Rattle.std.proofs.Common.{◌≡◌, ◌≢◌, ◌⊎◌, ◌<◌, ◌≤◌, ◌+◌, ◌-◌, ℕ, zero, suc, Bool, true, false, List, [], ◌∷◌, Some, length, refl, sym, ap, ◌∙◌, subst, inl, inr, arith}
use Rattle.std.specs.Prelude.{IsTrue, nat_lt, slice_get, slice_set}
use Rattle.std.specs.List.{AllByRecursion}
use Rattle.std.proofs.lemmas.Bool.{false≢true, lt-ltb}
use Rattle.qq_base.specs.Causes.{Rose}
use Rattle.qq_disk.specs.Disk.{Disk, now}
use Rattle.qq_disk.specs.Facts.{DiskFacts}
use Rattle.qq_lots.specs.Lots.{Lot, Parts, ids_of}
use Rattle.qq_raft_protocol.specs.Facts.{In}
use Rattle.qq_cluster_model.specs.Cluster.{Cluster, ClusterEvent, Fails, Setup, cluster_after, cluster_happens}
use Rattle.qq_cluster_model.specs.Queue.{Event, Stops, happens}
use Rattle.qq_cluster_model.specs.Rules.{is_quiet}
use Rattle.qq_cluster_laws.specs.Linked.{IsLinked, lot_of, parts_at}
use Rattle.qq_cluster_laws.specs.Serves.{GivesUp, Seen, Serves, fails_at, seen_of}
use Rattle.qq_cluster_laws.specs.Traced.{IsBrokenAt, IsTracedAt}
use Rattle.qq_queue.specs.ClusterQueue.{Stands as IsQueue}
use Rattle.qq_queue.specs.Sessions.{Standings, standings}
use Rattle.qq_queue.specs.declared.cluster_queue.ClusterQueue.{ClusterQueue}
use Rattle.qq_node_log.specs.Log.{IsRunningIn, IsWhole, disk_in}
use Rattle.qq_node_log.specs.Steps.{AlwaysKeeps, SameDisk}
use Rattle.qq_node_log.specs.declared.node_log.NodeLog.{NodeLog}
use Rattle.qq_cluster_model.specs.Outcome.{Outcome}
use Rattle.qq_cluster.specs.Active.{is_in}
use Rattle.qq_cluster.specs.Logs.{ChangesLog, NodeTurns}
use Rattle.qq_cluster.specs.Nodes.{IsNodeOf, IsQueueOf, IsSetUp, Stands, node_at, seen, seen_in, seen_log}
use Rattle.qq_cluster.specs.Turning.{HasStopped, TurnsWhere}
use Rattle.qq_cluster.specs.declared.node.Node.{Node}
use Rattle.qq_cluster.specs.declared.nodes.Nodes.{Nodes as Held}
use Rattle.qq_cluster.proofs.OneQueue.{node-stays, set-get, set-long}
use Rattle.qq_cluster.proofs.Owned.{AllOwn, gives_up-own, other-sees, serves-own}
use Rattle.qq_cluster.proofs.Turned.{set-other, within-length}
use Rattle.qq_cluster.proofs.Walks.{in-range}
use Rattle.std.proofs.lemmas.Option.{slice_get-get_or}
use Rattle.std.specs.Prelude.{get_or}
use Rattle.qq_cluster.proofs.Outcomes.{outcome_after}

-- ---- queues

abbrev pub QueuesOf : Setup → Standings → Cluster → List ClusterQueue → Type 0
QueuesOf setup sessions c queues =
    (at : ℕ) (d : ClusterQueue) → slice_get queues at ≡ Some d → IsQueueOf setup sessions c (at + 1) d

pub turned-queues : (test : ℕ → Bool) (event : Event) (setup : Setup) (sessions : Standings) (c d : Cluster)
    (olds news : List ClusterQueue) → TurnsWhere test event olds news → QueuesOf setup sessions c olds
    → ((at : ℕ) → at < length olds → test at ≡ true → d.queue (at + 1) ≡ happens (c.queue (at + 1)) event)
    → ((at : ℕ) → at < length olds → test at ≡ false → d.queue (at + 1) ≡ c.queue (at + 1))
    → QueuesOf setup sessions d news
turned-queues test event setup sessions c d olds news turns was own other at e there = by (test at) refl
  where
    lt : at < length olds
    lt = let many = turns.many in let here = within-length news at e there in omega (arith, many, here)

    by : (b : Bool) → test at ≡ b → IsQueueOf setup sessions d (at + 1) e
    by true is =
        let first : ClusterQueue = get_or olds at e in
        let here : slice_get olds at ≡ Some first = slice_get-get_or olds at e lt in
        let turn = turns.own at first e here there is in
        let old = was at first here in
        record {
          stands = subst (IsQueue sessions e) (sym (own at lt is))
              (turn.becomes sessions (c.queue (at + 1)) old.stands).0;
          sound = turn.sound;
          name_is = turn.same.name_is ∙ old.name_is;
          place_is = ap (λ a. a.queue.0) turn.same.args_is ∙ old.place_is;
        }
    by false is =
        let old = was at e (sym (turns.others at is) ∙ there) in
        record {
          stands = subst (IsQueue sessions e) (sym (other at lt is)) old.stands;
          sound = old.sound;
          name_is = old.name_is;
          place_is = old.place_is;
        }

-- ---- nodes

some-as : {A : Type 0} (x y : A) → Some x ≡ Some y → x ≡ y
some-as x y e = cc

-- one node and the queues have changed
pub record Changes {D : Type 0} (k : ℕ) (old new : Held D) (x y : Node D) : Type 0 where
  pub low : 0 < k
  pub here : slice_get old.nodes.items (k - 1) ≡ Some x
  pub same : new ≡ record old { queues = new.queues; nodes = new.nodes }
  pub nodes : new.nodes.items ≡ slice_set old.nodes.items (k - 1) y
  pub many : length new.queues.items ≡ length old.queues.items

module _ {D : Type 0} {facts : DiskFacts D} where
  others-stay : (setup : Setup) (c : Cluster) (k j : ℕ) (events : List ClusterEvent) (x : Node D) → AllOwn k events
      → (j ≢ k) → IsNodeOf facts setup c j x → IsNodeOf facts setup (cluster_after c events) j x
  others-stay setup c k j [] x own other is = is
  others-stay setup c k j (event ∷ events) x own other is =
      others-stay setup (cluster_happens c event) k j events x own.1 other
      (node-stays setup c event j x (other-sees k j event own.0 other) is)

  pub node-was : (setup : Setup) (c : Cluster) (held : Held D) (k : ℕ) (x : Node D) → Stands facts setup held c → 0 < k
      → slice_get held.nodes.items (k - 1) ≡ Some x → IsNodeOf facts setup c k x
  node-was setup c held k x st low here =
      subst (λ (j : ℕ). IsNodeOf facts setup c j x) (let e : (k - 1) + 1 ≡ k = omega (arith, low) in e)
      (st.nodes (k - 1) x here)

  -- a node that is up isn't marked as empty
  pub not-fresh : {setup : Setup} {c : Cluster} {k : ℕ} {x : Node D} → IsNodeOf facts setup c k x → c.up k ≡ true
      → x.empty ≡ true → ⊥
  not-fresh was up never = false≢true (sym (was.fresh never).0 ∙ was.up_is ∙ up)

  pub node-in : (setup : Setup) (c : Cluster) (held : Held D) (k : ℕ) → Stands facts setup held c → 0 < k
      → k ≤ length held.nodes.items → In k setup.nodes
  node-in setup c held k st low high =
      subst (λ (j : ℕ). In j setup.nodes) (let e : (k - 1) + 1 ≡ k = omega (arith, low) in e)
      (subst (In ((k - 1) + 1)) (sym st.set_up.nodes)
      (in-range (length held.nodes.items) (k - 1) (omega (arith, low, high))))

  pub stands-own : (setup : Setup) (c : Cluster) (k : ℕ) (events : List ClusterEvent) (old new : Held D) (x y : Node D)
      → AllOwn k events → Changes k old new x y → Stands facts setup old c
      → IsNodeOf facts setup (cluster_after c events) k y
      → QueuesOf setup (standings old.sessions) (cluster_after c events) new.queues.items
      → (cluster_after c events).auto ≡ c.auto
      → ((at : ℕ) → at < length old.queues.items → is_in at old.active ≡ false
      → is_quiet setup (cluster_after c events).up ((cluster_after c events).queue (at + 1)) ≡ true)
      → Stands facts setup new (cluster_after c events)
  stands-own setup c k events old new x y own ch st node queues auto quiet =
      subst (λ (h : Held D). Stands facts setup h (cluster_after c events)) (sym ch.same) (record {
        set_up = subst (λ (n : ℕ). IsSetUp setup n (length new.nodes.items)) (sym ch.many)
            (subst (IsSetUp setup (length old.queues.items))
            (sym (ap length ch.nodes ∙ set-long old.nodes.items (k - 1) y)) st.set_up);
        queues = queues;
        nodes = nodes;
        auto = st.auto ∙ sym auto;
        within = subst (λ (n : ℕ). AllByRecursion (λ (at : ℕ). at < n) old.active) (sym ch.many) st.within;
        quiet = λ at lt calm. quiet at (let many = ch.many in omega (arith, lt, many)) calm;
      })
    where
      nodes : (i : ℕ) (z : Node D) → slice_get new.nodes.items i ≡ Some z
          → IsNodeOf facts setup (cluster_after c events) (i + 1) z
      nodes i z there =
          by (set-get old.nodes.items (k - 1) i y z (ap (λ (l : List (Node D)). slice_get l i) (sym ch.nodes) ∙ there))
        where
          by : ((i ≡ k - 1) × (z ≡ y)) ⊎ ((i ≢ k - 1) × (slice_get old.nodes.items i ≡ Some z))
              → IsNodeOf facts setup (cluster_after c events) (i + 1) z
          by (inl own') =
              subst (λ (j : ℕ). IsNodeOf facts setup (cluster_after c events) j z)
              (let low = ch.low in let is = own'.0 in let e : k ≡ i + 1 = omega (arith, low, is) in e)
              (subst (IsNodeOf facts setup (cluster_after c events) k) (sym own'.1) node)
          by (inr other) =
              others-stay setup c k (i + 1) events z own
              (λ same. other.0 (let low = ch.low in let e : i ≡ k - 1 = omega (arith, low, same) in e))
              (st.nodes i z other.1)

  -- ---- what a log's change says

  module _ (setup : Setup) (c : Cluster) (k : ℕ) (x y : Node D) (later : Lot → Parts → Parts)
      (was : IsNodeOf facts setup c k x) (up : c.up k ≡ true) (ch : ChangesLog facts later x y) where
    same-log : was.own ≡ ch.before
    same-log = some-as was.own ch.before (sym was.log_is ∙ ch.was)

    pub log-runs : IsRunningIn facts (lot_of setup k) (parts_at c k) ch.before
    log-runs = subst (IsRunningIn facts (lot_of setup k) (parts_at c k)) same-log (was.log.running up)

    pub log-disk : SameDisk facts (ids_of (lot_of setup k)) (disk_in ch.before) (disk_in ch.behind)
    log-disk = ch.same (lot_of setup k) (parts_at c k) log-runs

    pub log-whole : IsWhole facts (ids_of (lot_of setup k)) (disk_in ch.behind)
    log-whole =
        log-disk.whole (subst (λ (l : NodeLog D). IsWhole facts (ids_of (lot_of setup k)) (disk_in l)) same-log
        was.log.whole)

    pub log-moments : IsTrue (facts.tells (disk_in ch.before)) → IsLinked setup c k
        (now (facts.past (disk_in ch.before)))
        → AlwaysKeeps (lot_of setup k) (later (lot_of setup k) (parts_at c k)) (facts.past (disk_in ch.before))
        (facts.past (disk_in ch.behind))
    log-moments told linked = ch.moments (lot_of setup k) (parts_at c k) log-runs told (linked.tied up)

-- ---- what is seen of the disks

module _ {D : Type 0} (facts : DiskFacts D) where
  node-is : (k : ℕ) (nodes : List (Node D)) (x : Node D) → 0 < k → slice_get nodes (k - 1) ≡ Some x
      → node_at k nodes ≡ Some x
  node-is zero nodes x low here = absurd (omega (arith, low))
  node-is (suc k) nodes x low here =
      ap (slice_get nodes) (let e : k ≡ suc k - 1 = omega arith in e) ∙ here

  pub seen-own : (held : Held D) (k : ℕ) (x : Node D) (log : NodeLog D) → 0 < k
      → slice_get held.nodes.items (k - 1) ≡ Some x → x.log ≡ Some log
      → seen facts held k ≡ seen_of facts (disk_in log)
  seen-own held k x log low here is =
      ap (seen_in facts) (node-is k held.nodes.items x low here) ∙ ap (seen_log facts) is

  pub seen-others : (k : ℕ) (old new : Held D) (y : Node D) → 0 < k
      → new.nodes.items ≡ slice_set old.nodes.items (k - 1) y → (j : ℕ) → (j ≢ k)
      → seen facts new j ≡ seen facts old j
  seen-others k old new y low is zero other = refl
  seen-others k old new y low is (suc j) other =
      ap (λ (l : List (Node D)). seen_in facts (slice_get l j)) is ∙ ap (seen_in facts)
      (set-other old.nodes.items (k - 1) j y (λ same. other (let e : suc j ≡ k = omega (arith, low, same) in e)))

-- ---- a node stops

pub set-twice : {A : Type 0} (xs : List A) (at : ℕ) (x y : A) → slice_set (slice_set xs at x) at y ≡ slice_set xs at y
set-twice [] zero x y = refl
set-twice [] (suc at) x y = refl
set-twice (z ∷ xs) zero x y = refl
set-twice {A = A} (z ∷ xs) (suc at) x y = ap (λ (l : List A). z ∷ l) (set-twice xs at x y)

module _ {D : Type 0} where
  -- the node that has changed
  pub set-here : (k : ℕ) (xs : List (Node D)) (x y : Node D) → slice_get xs (k - 1) ≡ Some x
      → slice_get (slice_set xs (k - 1) y) (k - 1) ≡ Some y
  set-here k xs x y here = at xs (k - 1) here
    where
      at : (l : List (Node D)) (i : ℕ) → slice_get l i ≡ Some x → slice_get (slice_set l i y) i ≡ Some y
      at [] i is = absurd (none i is)
        where
          none : (n : ℕ) → slice_get [] n ≡ Some x → ⊥
          none n e = absurd cc
      at (z ∷ l) zero is = refl
      at (z ∷ l) (suc i) is = at l i is

  -- the node that has another log is down from then on
  pub stopped-nodes : (k : ℕ) (olds mids news : List (Node D)) (x y : Node D) → slice_get olds (k - 1) ≡ Some x
      → mids ≡ slice_set olds (k - 1) y
      → NodeTurns (λ (d e : Node D). e ≡ record d { up = false }) (k - 1) mids news
      → news ≡ slice_set olds (k - 1) (record y { up = false })
  stopped-nodes k olds mids news x y here is turn =
      let own : turn.old ≡ y =
      some-as turn.old y (sym turn.here ∙ ap (λ (l : List (Node D)). slice_get l (k - 1)) is
      ∙ set-here k olds x y here) in
      turn.is ∙ ap (λ (l : List (Node D)). slice_set l (k - 1) turn.new) is ∙ set-twice olds (k - 1) y turn.new
      ∙ ap (slice_set olds (k - 1)) (turn.turns ∙ ap (λ (d : Node D). record d { up = false }) own)

  pub stopped-queues : (k : ℕ) (setup : Setup) (sessions : Standings) (c : Cluster) (old new : Held D)
      → HasStopped k old new → QueuesOf setup sessions c old.queues.items
      → QueuesOf setup sessions (cluster_happens c (Fails k)) new.queues.items
  stopped-queues k setup sessions c old new stopped queues =
      turned-queues (λ (at : ℕ). nat_lt at (length old.queues.items)) (Stops k) setup sessions c
      (cluster_happens c (Fails k)) old.queues.items new.queues.items stopped.queues queues (λ at lt is. refl)
      (λ at lt is. absurd (false≢true (sym is ∙ lt-ltb at (length old.queues.items) lt)))

-- ---- calls of a node's log

module _ {D : Type 0} {facts : DiskFacts D} (setup : Setup) (c : Cluster) (k : ℕ) (events : List ClusterEvent)
    (old new : Held D) (x y z : Node D) (later : Lot → Parts → Parts)
    (own : AllOwn k events) (low : 0 < k) (here : slice_get old.nodes.items (k - 1) ≡ Some x)
    (nodes : new.nodes.items ≡ slice_set old.nodes.items (k - 1) z)
    (was : IsNodeOf facts setup c k x) (up : c.up k ≡ true) (ch : ChangesLog facts later x y)
    (log : z.log ≡ Some ch.behind) where
  seen-old : seen facts old k ≡ seen_of facts (disk_in ch.before)
  seen-old = seen-own facts old k x ch.before low here ch.was

  seen-new : seen facts new k ≡ seen_of facts (disk_in ch.behind)
  seen-new =
      seen-own facts new k z ch.behind low (ap (λ (l : List (Node D)). slice_get l (k - 1)) nodes
      ∙ set-here k old.nodes.items x z here) log

  others : (j : ℕ) → (j ≢ k) → seen facts new j ≡ seen facts old j
  others = seen-others facts k old new z low nodes

  told : (seen facts new k).tells ≡ (seen facts old k).tells
  told =
      ap (λ (s : Seen). s.tells) seen-new ∙ (log-disk setup c k x y later was up ch).told
      ∙ sym (ap (λ (s : Seen). s.tells) seen-old)

  rises : (seen facts old k).faults ≤ (seen facts new k).faults
  rises =
      let before = ap (λ (s : Seen). s.faults) seen-old in
      let behind = ap (λ (s : Seen). s.faults) seen-new in
      let more = (log-disk setup c k x y later was up ch).later in
      omega (arith, before, behind, more)

  moved : (Traced : List Disk → List Disk → Type 0)
      → (IsTrue (facts.tells (disk_in ch.before)) → IsLinked setup c k (now (facts.past (disk_in ch.before)))
      → Traced (facts.past (disk_in ch.before)) (facts.past (disk_in ch.behind)))
      → IsTrue (seen facts old k).tells → IsLinked setup c k (now (seen facts old k).past)
      → Traced (seen facts old k).past (seen facts new k).past
  moved Traced traced =
      subst (λ (a : Seen). IsTrue a.tells → IsLinked setup c k (now a.past)
      → Traced a.past (seen facts new k).past) (sym seen-old)
      (subst (λ (b : Seen). IsTrue (facts.tells (disk_in ch.before))
      → IsLinked setup c k (now (facts.past (disk_in ch.before))) → Traced (facts.past (disk_in ch.before))
      b.past) (sym seen-new) traced)

  pub call-serves : (Allowed : List ClusterEvent → Type 0) (before after : Outcome)
      → (fails_at k events ≡ true → Rose (facts.faults (disk_in ch.before)) (facts.faults (disk_in ch.behind)))
      → Allowed events
      → Stands facts setup new (cluster_after c events) → after ≡ outcome_after setup c events before
      → (IsTrue (facts.tells (disk_in ch.before)) → IsLinked setup c k (now (facts.past (disk_in ch.before)))
      → IsTracedAt setup c k events (facts.past (disk_in ch.before)) (facts.past (disk_in ch.behind)))
      → Serves setup c Allowed (Stands facts setup new) (seen facts old) (seen facts new) before after
  call-serves Allowed before after cause allowed stands says traced =
      serves-own setup c k events (seen facts old) (seen facts new) own others told rises Allowed
      (Stands facts setup new) before after
      (subst (λ (a : Seen). fails_at k events ≡ true → Rose a.faults (seen facts new k).faults) (sym seen-old)
      (subst (λ (b : Seen). fails_at k events ≡ true → Rose (facts.faults (disk_in ch.before)) b.faults)
      (sym seen-new) cause)) allowed stands says
      (λ node. moved (λ (a b : List Disk). IsTracedAt setup c k events a b) traced)

  pub call-gives_up : (IsTrue (facts.tells (disk_in ch.before)) → IsLinked setup c k
      (now (facts.past (disk_in ch.before)))
      → IsBrokenAt setup c k events (facts.past (disk_in ch.before)) (facts.past (disk_in ch.behind)))
      → GivesUp setup c (seen facts old) (seen facts new)
  call-gives_up broken =
      gives_up-own setup c k events (seen facts old) (seen facts new) own others told rises
      (λ node. moved (λ (a b : List Disk). IsBrokenAt setup c k events a b) broken)
