-- Nodes of a broker stop, and their disks are handed back.
use Rattle.std.proofs.Common.{◌≡◌, ◌⊎◌, ◌<◌, ◌≤◌, ◌+◌, ◌-◌, ℕ, Bool, true, false, List, [], ◌∷◌, ◌++◌, get_or, length, Some, None, refl, sym, ap, subst, ◌∙◌, inl, inr, append-nil, arith}
use Rattle.std.specs.Global.{Vec}
use Rattle.std.specs.Prelude.{Contains, is_some, slice_get}
use Rattle.std.proofs.lemmas.List.FromFn.{length-range_with_len}
use Rattle.std.proofs.lemmas.Option.{slice_get_cases}
use Rattle.qq_disk.specs.declared.image.Image.{Image}
use Rattle.qq_disk.specs.declared.image.Tail.TheVariants.{Whole}
use Rattle.qq_disk.proofs.Moments.{adds-none}
use Rattle.qq_base.specs.Causes.{SpentOnlyWhere}
use Rattle.qq_base.specs.declared.ids.QueueId.{QueueId}
use Rattle.qq_base.specs.declared.memory.Memory.{Memory}
use Rattle.qq_base.specs.declared.memory.TheConstants.{NUMBER_END}
use Rattle.qq_disk.specs.Facts.{DiskFacts}
use Rattle.qq_queue.specs.declared.cluster_queue.ClusterQueue.{ClusterQueue}
use Rattle.qq_entry.specs.declared.audit.AuditRow.{AuditRow}
use Rattle.qq_entry.specs.declared.command.Entry.{Entry}
use Rattle.qq_entry.specs.declared.queue.QueueArgs.{QueueArgs}
use Rattle.qq_model.specs.Audit.{audit_of, stays_within}
use Rattle.qq_model.specs.State.{empty_queue}
use Rattle.qq_raft_protocol.specs.Facts.{In}
use Rattle.qq_script.specs.Audit.{audit_text}
use Rattle.qq_route.specs.Setup.{SetupState, state_of}
use Rattle.qq_cluster_model.specs.Cluster.{Cluster, ClusterEvent, Crashes, Setup as ClusterSetup, cluster_after, cluster_happens, new_cluster}
use Rattle.qq_cluster_model.specs.Queue.{Queue, Stops, audit_rows, happens}
use Rattle.qq_cluster_laws.specs.Linked.{IsPromised}
use Rattle.qq_cluster_laws.specs.Restarts.{first_restart}
use Rattle.qq_cluster_laws.specs.Serves.{Seen, seen_of}
use Rattle.qq_cluster_laws.specs.Traced.{IsTracedAt}
use Rattle.qq_cluster_run.specs.Serving.{Run, after_all, cluster_in, setup_in}
use Rattle.qq_cluster.specs.Disks.{GiveDisks}
use Rattle.qq_cluster.specs.Nodes.{EachHasLog, IsQueueAt, Stands, seen}
use Rattle.qq_cluster.specs.Setting.{HaveDisks}
use Rattle.qq_cluster.specs.Stopping.{crashes_with}
use Rattle.qq_cluster.specs.declared.nodes.Nodes.{Nodes}
use Rattle.qq_cluster.proofs.Stands.{stands-logs}
use Rattle.qq_broker.specs.Broker.{IsPastEnd, Rests, Runs, cluster_at, setup_at}
use Rattle.qq_broker.specs.Lives.{Became, Giving, IsOneDisk, disk_at}
use Rattle.qq_broker.specs.Nodes.{IsDiskOf}
use Rattle.qq_broker.specs.declared.broker.Audits.{Audits}
use Rattle.qq_broker.specs.declared.broker.Broker.{Broker}
use Rattle.qq_broker.proofs.GoingOn.{contains-range, in-range}
use Rattle.qq_broker.proofs.Handed.{at-index, gave-have}
use Rattle.qq_broker.proofs.Living.{begins-stay, goes-on, lives-then}

-- what the crashes leave doesn't matter where nodes only stop
pub some_image : Image
some_image = record { newest_log = Whole; others = Whole; removed_back = false }

-- a stop of a node leaves what a queue was set up with, and what its group has committed
audit-stays : {A : Type 0} (f : QueueArgs → List Entry → A) (images : ℕ → Image) (list : List ℕ) (c : Cluster)
    (place : ℕ)
    → f ((cluster_after c (crashes_with images list)).queue place).args
    ((cluster_after c (crashes_with images list)).queue place).group.audit
    ≡ f (c.queue place).args (c.queue place).group.audit
audit-stays f images [] c place = refl
audit-stays f images (k ∷ list) c place =
    audit-stays f images list (cluster_happens c (Crashes k (images k))) place ∙ one (c.queue place)
  where
    one : (q : Queue)
        → f (happens q (Stops k)).args (happens q (Stops k)).group.audit ≡ f q.args q.group.audit
    one q = refl

module _ {D : Type 0} (given : Giving D) (facts : DiskFacts D) where
  -- ---- a disk that a clause sees alike

  one-alike : (setup : ClusterSetup) (k : ℕ) (c : Cluster) (last disk : D)
      → seen_of facts last ≡ seen_of facts disk → IsOneDisk facts setup k c [] last disk
  one-alike setup k c last disk same = record {
    told = ap (λ (v : Seen). v.tells) (sym same);
    rose = inl (let e : facts.faults last ≡ facts.faults disk = ap (λ (v : Seen). v.faults) same in omega (arith, e));
    traced = λ tell linked.
        subst (IsTracedAt setup c k [] (facts.past last)) (ap (λ (v : Seen). v.past) same)
        (linked.promised, adds-none (IsPromised setup c k) (facts.past last), linked);
  }

  -- what has become of a disk, has become of one that is seen alike
  pub became-alike : (setup : ClusterSetup) (events : List ClusterEvent) (k : ℕ) (last disk : D)
      → is_some (first_restart k events) ≡ true
      → seen_of facts last ≡ seen_of facts disk
      → Became given facts setup events k last → Became given facts setup events k disk
  became-alike setup events k last disk restarted same b =
      subst (λ (l : List ClusterEvent). Became given facts setup l k disk) (append-nil events) (record {
        first = b.first;
        given_is = b.given_is;
        begins = begins-stay facts setup k b.first events [] restarted b.begins;
        lives = lives-then given facts setup k (after_all setup events) (new_cluster setup) [] events [] b.first
            last disk refl b.lives
            (goes-on given facts setup k (after_all setup events) [] last disk tt
            (one-alike setup k (after_all setup events) last disk same));
      })

  -- ---- all nodes stop

  module _ (b : Broker D) (held : Nodes D)
      (stands : (setup : ClusterSetup) (c : Cluster) (images : ℕ → Image) → Stands facts setup b.nodes c
      → Stands facts setup held (cluster_after c (crashes_with images setup.nodes)))
      (same : (k : ℕ) → seen facts held k ≡ seen facts b.nodes k) where
    pub stopped-logs : (run : Run) (image : Image) → Runs given facts b run → EachHasLog held.nodes.items
    stopped-logs run image so =
        (stands-logs (setup_in b.setup run) held
        (cluster_after (cluster_in b.setup run) (crashes_with (λ k. image) (setup_in b.setup run).nodes))
        (stands (setup_in b.setup run) (cluster_in b.setup run) (λ k. image) so.holds.stands)).each

    pub stopped-many : (run : Run) (image : Image) → Runs given facts b run → length held.nodes.items ≡ b.setup.nodes
    stopped-many run image so =
        sym (length-range_with_len 1 (length held.nodes.items))
        ∙ ap length (sym (stands (setup_in b.setup run) (cluster_in b.setup run) (λ k. image)
        so.holds.stands).set_up.nodes)
        ∙ length-range_with_len 1 b.setup.nodes

    module _ (news : Nodes D) (disks : List D) (left : news ≡ record held { nodes = news.nodes })
        (gave : GiveDisks held.nodes.items news.nodes.items disks) where
      pub own-disks : HaveDisks facts disks b.nodes
      own-disks at disk here =
          sym (same (at + 1)) ∙ gave-have facts held news.nodes.items disks gave at disk here

      pub own-rests : (a : Audits D) (run : Run) (image : Image) → a.nodes ≡ news → Runs given facts b run
          → Rests given facts (state_of b.setup) disks a run
      own-rests a run image is so =
          subst (λ (x : Audits D). Rests given facts (state_of b.setup) disks x run)
          (ap (λ (n : Nodes D). let x : Audits D = record { nodes = n } in x) (sym is))
          (record {
            may = so.may;
            held = held;
            same = left;
            gave = gave;
            stands = λ images. stands (setup_in b.setup run) (cluster_in b.setup run) images so.holds.stands;
            restarted = so.holds.restarted;
            disks_are = λ k there. by k there (in-range k 1 b.setup.nodes there);
          })
        where
          at : (k : ℕ) → (k - 1 + 1 ≡ k) → In k (setup_in b.setup run).nodes → k - 1 < length disks
              → ((x : D) × (k - 1 < length disks) × (slice_get disks (k - 1) ≡ Some x) × (get_or disks (k - 1) x ≡ x))
              ⊎ ((length disks ≤ k - 1) × (slice_get disks (k - 1) ≡ None))
              → (last : D) × (disk_at k disks ≡ Some last)
              × Became given facts (setup_in b.setup run) run.events k last
          at k e there lt (inl found) =
              let was = so.holds.disks k there in
              let is' : IsDiskOf facts b.nodes k found.0 =
              subst (λ (i : ℕ). IsDiskOf facts b.nodes i found.0) e (own-disks (k - 1) found.0 found.2) in (
                found.0,
                subst (λ (i : ℕ). disk_at i disks ≡ Some found.0) e (at-index disks (k - 1) found.0 found.2),
                became-alike (setup_in b.setup run) run.events k was.0 found.0 (so.holds.restarted k there)
                    (sym was.1 ∙ is') was.2,
              )
          at k e there lt (inr past_end) = let le = past_end.0 in absurd (omega (arith, lt, le))

          by : (k : ℕ) → In k (setup_in b.setup run).nodes → (1 ≤ k) × (k < 1 + b.setup.nodes)
              → (last : D) × (disk_at k disks ≡ Some last)
              × Became given facts (setup_in b.setup run) run.events k last
          by k there within =
              let low = within.0 in
              let high = within.1 in
              let many = gave.many in
              let nodes = stopped-many run image so in
              at k (omega (arith, low)) there (omega (arith, low, high, many, nodes)) (slice_get_cases disks (k - 1)).1

-- ---- audits

module _ {D : Type 0} {given : Giving D} {facts : DiskFacts D} (t : SetupState) (disks : List D) (a : Audits D)
    (run : Run) (rests : Rests given facts t disks a run) where
  same-queues : a.nodes.queues ≡ rests.held.queues
  same-queues = ap (λ (n : Nodes D). n.queues) rests.same

  pub queue-rests : (queue : QueueId) → Contains (setup_at t run).places queue.0 → IsQueueAt queue a.nodes
  queue-rests queue there =
      let st = rests.stands (λ k. some_image) in
      let within = contains-range queue.0 1 (length rests.held.queues.items)
      (subst (λ (l : List ℕ). Contains l queue.0) st.set_up.places there) in
      subst (λ (v : Vec ClusterQueue). (0 < queue.0) × (queue.0 ≤ length v.items)) (sym same-queues)
      (omega (arith, within.0), omega (arith, within.1))

  pub audit-rests : (queue : QueueId) (before later : List ℕ)
      → ((setup : ClusterSetup) (c : Cluster) (held : Nodes D) → held.queues ≡ a.nodes.queues
      → Stands facts setup held c → later ≡ before ++ audit_text (setup.name queue.0) 0 (audit_rows (c.queue queue.0)))
      → later ≡ before ++ audit_text ((setup_at t run).name queue.0) 0 (audit_rows ((cluster_at t run).queue queue.0))
  audit-rests queue before later say =
      say (setup_at t run)
      (cluster_after (cluster_at t run) (crashes_with (λ k. some_image) (setup_at t run).nodes)) rests.held
      (sym same-queues) (rests.stands (λ k. some_image))
      ∙ ap (λ (rows : List AuditRow). before ++ audit_text ((setup_at t run).name queue.0) 0 rows)
      (audit-stays (λ (args : QueueArgs) (audit : List Entry). audit_of (empty_queue args) audit) (λ k. some_image)
      (setup_at t run).nodes (cluster_at t run) queue.0)

  -- and why there is none
  pub caused-rests : (queue : QueueId) (e : Memory)
      → ((setup : ClusterSetup) (c : Cluster) (held : Nodes D) → held.queues ≡ a.nodes.queues
      → Stands facts setup held c → SpentOnlyWhere e NUMBER_END (IsPastEnd (c.queue queue.0)))
      → SpentOnlyWhere e NUMBER_END (IsPastEnd ((cluster_at t run).queue queue.0))
  caused-rests queue e say =
      subst (λ (within : Bool). SpentOnlyWhere e NUMBER_END (within ≡ false))
      (audit-stays (λ (args : QueueArgs) (audit : List Entry). stays_within (empty_queue args) audit) (λ k. some_image)
      (setup_at t run).nodes (cluster_at t run) queue.0)
      (say (setup_at t run)
      (cluster_after (cluster_at t run) (crashes_with (λ k. some_image) (setup_at t run).nodes)) rests.held
      (sym same-queues) (rests.stands (λ k. some_image)))
