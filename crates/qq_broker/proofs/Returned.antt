-- Disks come back, as they were or after a crash, and nodes go on with them.
use Rattle.std.proofs.Common.{◌≡◌, ◌+◌, ◌-◌, ℕ, zero, suc, true, false, List, [], ◌∷◌, ◌++◌, length, Some, refl, sym, ap, subst, ◌∙◌, inl, inr, append_assoc, arith}
use Rattle.std.specs.Prelude.{IsTrue, is_some, slice_get}
use Rattle.std.specs.List.{range_with_len}
use Rattle.std.proofs.lemmas.Bool.{false≢true, ne_eqb}
use Rattle.std.proofs.lemmas.Bool.Decides.{eqb_tells}
use Rattle.std.proofs.lemmas.Option.{slice_get_within}
use Rattle.qq_base.proofs.Puts.{put-other, put-same}
use Rattle.qq_base.specs.declared.ids.QueueId.{QueueId}
use Rattle.qq_disk.specs.Crash.{Remains, reopen}
use Rattle.qq_disk.specs.Image.{image_of}
use Rattle.qq_disk.specs.declared.image.Image.{Image}
use Rattle.qq_disk.specs.Disk.{now}
use Rattle.qq_disk.specs.Facts.{DiskFacts}
use Rattle.qq_lots.specs.Lots.{ids_of}
use Rattle.qq_node_log.specs.Log.{IsWhole, disk_in}
use Rattle.qq_node_log.specs.declared.node_log.NodeLog.{NodeLog}
use Rattle.qq_node_log.specs.declared.node_log.NodeLog.TheVariants.{Closed}
use Rattle.qq_raft_protocol.specs.Facts.{In}
use Rattle.qq_route.specs.declared.setup.Setup.{Setup}
use Rattle.qq_route.specs.Setup.{state_of}
use Rattle.qq_cluster_model.specs.Cluster.{Cluster, ClusterEvent, Crashes, Setup as ClusterSetup, cluster_after, cluster_happens, new_cluster}
use Rattle.qq_cluster_laws.specs.Linked.{lot_of}
use Rattle.qq_cluster_laws.specs.Restarts.{first_restart}
use Rattle.qq_cluster_laws.proofs.Reached.{after-both}
use Rattle.qq_cluster_run.specs.Serving.{Run, after_all, cluster_in, setup_in}
use Rattle.qq_cluster.specs.Disks.{GetDisks, GivesDisk}
use Rattle.qq_cluster.specs.Nodes.{IsNodeOf, IsSetUp, Stands}
use Rattle.qq_cluster.specs.Setting.{HaveDisks}
use Rattle.qq_cluster.specs.Stopping.{crashes_with}
use Rattle.qq_cluster.specs.declared.node.Node.{Node}
use Rattle.qq_cluster.specs.declared.nodes.Nodes.{Nodes}
use Rattle.qq_cluster.proofs.OwnStands.{seen-own}
use Rattle.qq_wal.specs.Running.{MayRecover}
use Rattle.qq_broker.specs.Broker.{ComeBack, Rests, crashed_events}
use Rattle.qq_broker.specs.Lives.{Became, Giving, IsLeft, disk_at}
use Rattle.qq_broker.specs.Nodes.{Holds, IsDiskOf}
use Rattle.qq_broker.specs.Serving.{with_events}
use Rattle.qq_broker.specs.declared.broker.Audits.{Audits}
use Rattle.qq_broker.proofs.GoingOn.{in-range, range-in}
use Rattle.qq_broker.proofs.Handed.{at-index, from-index, item-too}
use Rattle.qq_broker.proofs.Living.{begins-stay, goes-crashed, goes-on, lives-then, restarted-stays}
use Rattle.qq_broker.proofs.Untouched.{AreUnseen, no-crash, same-disk}

some-is : {A : Type 0} (x y : A) → Some x ≡ Some y → x ≡ y
some-is x y e = cc

-- ---- crashes of all nodes

-- a node that is down stays so
still-down : (images : ℕ → Image) (list : List ℕ) (c : Cluster) (k : ℕ) → c.up k ≡ false
    → (cluster_after c (crashes_with images list)).up k ≡ false
still-down images [] c k down = down
still-down images (j ∷ list) c k down =
    still-down images list (cluster_happens c (Crashes j (images j))) k (elim (eqb_tells k j) [
      | inl (is, same) ↦ subst (λ (i : ℕ). (cluster_happens c (Crashes j (images j))).up i ≡ false) (sym same)
          (put-same j false c.up)
      | inr (isnt, other) ↦ put-other j false c.up k other ∙ down
    ])

pub all-down : (images : ℕ → Image) (list : List ℕ) (c : Cluster) (k : ℕ) → In k list
    → (cluster_after c (crashes_with images list)).up k ≡ false
all-down images [] c k there = absurd there
all-down images (j ∷ list) c k (inl same) =
    still-down images list (cluster_happens c (Crashes j (images j))) k
    (subst (λ (i : ℕ). (cluster_happens c (Crashes j (images j))).up i ≡ false) (sym same) (put-same j false c.up))
all-down images (j ∷ list) c k (inr there) =
    all-down images list (cluster_happens c (Crashes j (images j))) k there

-- crashes of other nodes
unseen-crashes : (images : ℕ → Image) (list : List ℕ) (k : ℕ) → (In k list → ⊥)
    → AreUnseen k (crashes_with images list)
unseen-crashes images [] k away = tt
unseen-crashes images (j ∷ list) k away =
    (ne_eqb j k (λ same. away (inl (sym same))), unseen-crashes images list k (λ there. away (inr there)))

-- ---- a disk

module _ {D : Type 0} (given : Giving D) (facts : DiskFacts D) (setup : ClusterSetup) where
  became-crashed : (events : List ClusterEvent) (k : ℕ) (image : Image) (mid last : D)
      → is_some (first_restart k events) ≡ true → IsLeft given facts image mid last
      → Became given facts setup events k mid → Became given facts setup (events ++ Crashes k image ∷ []) k last
  became-crashed events k image mid last restarted left b = record {
    first = b.first;
    given_is = b.given_is;
    begins = begins-stay facts setup k b.first events (Crashes k image ∷ []) restarted b.begins;
    lives = lives-then given facts setup k (after_all setup events) (new_cluster setup) [] events (Crashes k image ∷ [])
        b.first mid last refl b.lives
        (goes-crashed given facts setup k (after_all setup events) image mid last left);
  }

  became-unseen : (events more : List ClusterEvent) (k : ℕ) (disk : D) → is_some (first_restart k events) ≡ true
      → AreUnseen k more → Became given facts setup events k disk → Became given facts setup (events ++ more) k disk
  became-unseen events more k disk restarted unseen b = record {
    first = b.first;
    given_is = b.given_is;
    begins = begins-stay facts setup k b.first events more restarted b.begins;
    lives = lives-then given facts setup k (after_all setup events) (new_cluster setup) [] events more b.first
        disk disk refl b.lives
        (goes-on given facts setup k (after_all setup events) more disk disk (no-crash k more unseen)
        (same-disk facts setup k (after_all setup events) more disk unseen));
  }

  pub became-crashes : (images : ℕ → Image) (k : ℕ) (mid last : D) (a n : ℕ) (events : List ClusterEvent)
      → In k (range_with_len a n) → is_some (first_restart k events) ≡ true
      → IsLeft given facts (images k) mid last → Became given facts setup events k mid
      → Became given facts setup (events ++ crashes_with images (range_with_len a n)) k last
  became-crashes images k mid last a zero events there restarted left b = absurd there
  became-crashes images k mid last a (suc n) events (inl same) restarted left b =
      subst (λ (l : List ClusterEvent). Became given facts setup l k last)
      (append_assoc events (Crashes a (images a) ∷ []) (crashes_with images (range_with_len (a + 1) n)))
      (became-unseen (events ++ Crashes a (images a) ∷ []) (crashes_with images (range_with_len (a + 1) n)) k last
      (restarted-stays k events (Crashes a (images a) ∷ []) restarted)
      (unseen-crashes images (range_with_len (a + 1) n) k
      (λ later. (let within = in-range k (a + 1) n later in let low = within.0 in absurd (omega (arith, low, same)))))
      (subst (λ (i : ℕ). Became given facts setup (events ++ Crashes i (images i) ∷ []) k last) same
      (became-crashed events k (images k) mid last restarted left b)))
  became-crashes images k mid last a (suc n) events (inr later) restarted left b =
      subst (λ (l : List ClusterEvent). Became given facts setup l k last)
      (append_assoc events (Crashes a (images a) ∷ []) (crashes_with images (range_with_len (a + 1) n)))
      (became-crashes images k mid last (a + 1) n (events ++ Crashes a (images a) ∷ []) later
      (restarted-stays k events (Crashes a (images a) ∷ []) restarted) left
      (became-unseen events (Crashes a (images a) ∷ []) k mid restarted
      (unseen-crashes images (a ∷ []) k (λ there. elim there [
        | inl same ↦
            let within = in-range k (a + 1) n later in let low = within.0 in absurd (omega (arith, low, same))
        | inr none ↦ none
      ])) b))

-- ---- the nodes

module _ {D : Type 0} (given : Giving D) (facts : DiskFacts D) (s : Setup) (before again : List D) (a : Audits D)
    (run : Run) (images : ℕ → Image)
    (rests : Rests given facts (state_of s) before a run) (back : ComeBack given facts images before again)
    (may : (queues : List QueueId) (i : Remains) → MayRecover queues (reopen i)) (held : Nodes D)
    (same : held ≡ record a.nodes { nodes = held.nodes })
    (get : GetDisks again a.nodes.nodes.items held.nodes.items) where
  abbrev S : ClusterSetup
  S = setup_in s run

  abbrev crashed : Cluster
  crashed = cluster_after (cluster_in s run) (crashes_with images S.nodes)

  st : Stands facts S rests.held crashed
  st = rests.stands images

  nodes-are : length held.nodes.items ≡ length rests.held.nodes.items
  nodes-are = get.count ∙ rests.gave.count

  -- a disk that came back may be recovered
  whole-back : (k : ℕ) (ids : List QueueId) (old new : D) → IsLeft given facts (images k) old new
      → IsWhole facts ids old → IsWhole facts ids new
  whole-back k ids old new (inl image) whole tell =
      let told : IsTrue (facts.tells old) = subst IsTrue image.told tell in
      let left = (image.left told).left in
      subst (MayRecover ids) (sym left.left) (may ids (image_of (images k) left.newest (now (facts.past old))))
  whole-back k ids old new (inr kept) whole tell =
      subst (λ (d : D). IsTrue (facts.tells d) → MayRecover ids (now (facts.past d))) (sym kept.1) whole tell

  -- a node has its own again
  node-back : (at : ℕ) (z : Node D) → slice_get held.nodes.items at ≡ Some z
      → IsNodeOf facts S crashed (at + 1) z
  node-back at z here =
      subst (IsNodeOf facts S crashed (at + 1)) (sym is) (record {
        id_is = was.id_is;
        few = was.few;
        up_is = was.up_is;
        fresh = was.fresh;
        queues_are = was.queues_are;
        members = was.members;
        own = Closed disk.0;
        log_is = refl;
        log = record {
          running = λ up. absurd (false≢true (sym down ∙ up));
          whole = whole-back (at + 1) (ids_of (lot_of S (at + 1))) old.0 disk.0
              (back.each (at + 1) old.0 disk.0 (at-index before at old.0 old.1) (at-index again at disk.0 disk.1))
              whole;
        };
      })
    where
      own : (x : Node D) × (slice_get rests.held.nodes.items at ≡ Some x)
      own = item-too held.nodes.items rests.held.nodes.items at z here (sym nodes-are)

      bare : (y : Node D) × (slice_get a.nodes.nodes.items at ≡ Some y)
      bare = item-too held.nodes.items a.nodes.nodes.items at z here (sym get.count)

      disk : (d : D) × (slice_get again at ≡ Some d)
      disk = item-too held.nodes.items again at z here (get.many ∙ sym get.count)

      old : (d : D) × (slice_get before at ≡ Some d)
      old = item-too again before at disk.0 disk.1 (sym back.count)

      was : IsNodeOf facts S crashed (at + 1) own.0
      was = st.nodes at own.0 own.1

      gives : GivesDisk own.0 bare.0 old.0
      gives = rests.gave.each at old.0 own.0 bare.0 old.1 own.1 bare.1

      is : z ≡ record own.0 { log = Some (Closed disk.0) }
      is =
          get.each at disk.0 bare.0 z disk.1 bare.1 here
          ∙ ap (λ (n : Node D). record n { log = Some (Closed disk.0) }) gives.is

      down : crashed.up (at + 1) ≡ false
      down =
          all-down images S.nodes (cluster_in s run) (at + 1)
          (subst (In (at + 1)) (sym st.set_up.nodes)
          (range-in (at + 1) 1 (length rests.held.nodes.items) (omega arith)
          (let lt = slice_get_within rests.held.nodes.items at own.0 own.1 in omega (arith, lt))))

      whole : IsWhole facts (ids_of (lot_of S (at + 1))) old.0
      whole =
          subst (IsWhole facts (ids_of (lot_of S (at + 1))))
          (ap (λ (l : NodeLog D). disk_in l) (some-is was.own gives.own (sym was.log_is ∙ gives.was))
          ∙ sym gives.disk_is)
          was.log.whole

  stands-back : Stands facts S held crashed
  stands-back =
      subst (λ (h : Nodes D). Stands facts S h crashed)
      (sym (same ∙ ap (λ (h : Nodes D). record h { nodes = held.nodes }) rests.same)) (record {
        set_up = subst (IsSetUp S (length rests.held.queues.items)) (sym nodes-are) st.set_up;
        queues = st.queues;
        nodes = node-back;
        auto = st.auto;
        within = st.within;
        quiet = st.quiet;
      })

  -- the run has gone on by the crashes
  abbrev pub crashed_run : Run
  crashed_run = with_events run (crashed_events S run.events images)

  pub holds-back : Holds given facts s held crashed_run
  holds-back = record {
    stands = subst (Stands facts S held)
        (sym (after-both (new_cluster S) run.events (crashes_with images S.nodes))) stands-back;
    restarted = λ k there.
        restarted-stays k run.events (crashes_with images S.nodes) (rests.restarted k there);
    disks = λ k there. by k there (rests.disks_are k there);
  }
    where
      by : (k : ℕ) → In k S.nodes
          → ((last : D) × (disk_at k before ≡ Some last) × Became given facts S run.events k last)
          → (last : D) × IsDiskOf facts held k last × Became given facts S (crashed_events S run.events images) k last
      by k there was =
          let at = from-index before k was.0 was.1 in
          let own = item-too before again at.0 was.0 at.2 back.count in
          let node = item-too again held.nodes.items at.0 own.0 own.1 (get.count ∙ sym get.many) in
          let bare = item-too held.nodes.items a.nodes.nodes.items at.0 node.0 node.1 (sym get.count) in
          let is = get.each at.0 own.0 bare.0 node.0 own.1 bare.1 node.1 in
          let here : disk_at k again ≡ Some own.0 =
          subst (λ (i : ℕ). disk_at i again ≡ Some own.0) at.1 (at-index again at.0 own.0 own.1) in
          let index : k - 1 ≡ at.0 = (let e = at.1 in omega (arith, e)) in (
            own.0,
            seen-own facts held k node.0 (Closed own.0) (let e = at.1 in omega (arith, e))
                (ap (slice_get held.nodes.items) index ∙ node.1) (ap (λ (n : Node D). n.log) is),
            became-crashes given facts S images k was.0 own.0 1 s.nodes run.events there (rests.restarted k there)
                (back.each k was.0 own.0 was.1 here) was.2,
          )

  pub down-back : (k : ℕ) → In k S.nodes → (cluster_in s crashed_run).up k ≡ false
  down-back k there =
      ap (λ (c : Cluster). c.up k) (after-both (new_cluster S) run.events (crashes_with images S.nodes))
      ∙ all-down images S.nodes (cluster_in s run) k there

  -- a clause sees the disks that were handed in
  pub have-back : HaveDisks facts again held
  have-back at disk here =
      let node = item-too again held.nodes.items at disk here (get.count ∙ sym get.many) in
      let bare = item-too held.nodes.items a.nodes.nodes.items at node.0 node.1 (sym get.count) in
      seen-own facts held (at + 1) node.0 (Closed disk) (omega arith)
      (subst (λ (i : ℕ). slice_get held.nodes.items i ≡ Some node.0) (let e : at ≡ (at + 1) - 1 = omega arith in e)
      node.1)
      (ap (λ (n : Node D). n.log) (get.each at disk bare.0 node.0 here bare.1 node.1))

  pub many-back : length again ≡ length held.nodes.items
  many-back = get.many ∙ sym get.count
