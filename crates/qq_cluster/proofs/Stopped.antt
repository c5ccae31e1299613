-- Nodes stop, and their disks are as they were.
use Rattle.std.proofs.Common.{◌≡◌, ◌⊎◌, ◌≢◌, ◌<◌, ◌+◌, ◌-◌, ℕ, zero, suc, false, List, [], ◌∷◌, ◌++◌, Option, Some, length, refl, sym, ap, ◌∙◌, subst, inl, inr, arith}
use Rattle.std.specs.Prelude.{slice_get, slice_set}
use Rattle.std.specs.List.{range_with_len}
use Rattle.std.proofs.lemmas.Bool.{cases_eq, false≢true}
use Rattle.std.proofs.lemmas.List.FromFn.{map-range_with_len_more}
use Rattle.qq_base.proofs.Puts.{put-same}
use Rattle.qq_base.specs.Fronts.{put}
use Rattle.qq_base.specs.declared.ids.NodeId.{NodeId}
use Rattle.qq_disk.specs.declared.image.Image.{Image}
use Rattle.qq_disk.specs.declared.image.Tail.TheVariants.{Whole}
use Rattle.qq_disk.specs.Facts.{DiskFacts}
use Rattle.qq_cluster_model.specs.Cluster.{Cluster, ClusterEvent, Crashes, Fails, Setup, cluster_after, cluster_happens}
use Rattle.qq_cluster_laws.specs.Linked.{parts_at}
use Rattle.qq_cluster_laws.specs.Serves.{Seen}
use Rattle.qq_cluster_laws.proofs.Links.{failed-follow}
use Rattle.qq_cluster_laws.proofs.Reached.{after-both, reached-after}
use Rattle.qq_queue.specs.Sessions.{standings}
use Rattle.qq_cluster.specs.Nodes.{CanServe, IsNodeOf, Stands, seen, seen_in}
use Rattle.qq_cluster.specs.Stopping.{crashes_with}
use Rattle.qq_cluster.specs.Turning.{HasStopped}
use Rattle.qq_cluster.specs.declared.node.Node.{Node}
use Rattle.qq_cluster.specs.declared.nodes.Nodes.{Nodes as Held}
use Rattle.qq_cluster.proofs.Crashed.{stops-part}
use Rattle.qq_cluster.proofs.OneQueue.{set-long}
use Rattle.qq_cluster.proofs.OwnStands.{node-was, set-here, stands-own, stopped-queues}
use Rattle.qq_cluster.proofs.Owned.{own-fail}
use Rattle.qq_cluster.proofs.Quiet.{quiet-stopped}
use Rattle.qq_cluster.proofs.Turned.{set-other}

-- ---- a node stops

module _ {D : Type 0} (facts : DiskFacts D) (k : ℕ) (old new : Held D) (low : 0 < k)
    (stopped : HasStopped k old new) where
  abbrev x : Node D
  x = stopped.nodes.old

  abbrev y : Node D
  y = stopped.nodes.new

  stopped-node : (setup : Setup) (c : Cluster) → IsNodeOf facts setup c k x
      → IsNodeOf facts setup (cluster_happens c (Fails k)) k y
  unfolding put
  stopped-node setup c was =
      let parts : parts_at (cluster_happens c (Fails k)) k ≡ parts_at c k =
      λ i. λ (place : ℕ). stops-part k (c.queue place) i in
      subst (IsNodeOf facts setup (cluster_happens c (Fails k)) k) (sym stopped.nodes.turns) (record {
        id_is = was.id_is;
        few = was.few;
        up_is = sym (put-same k false c.up);
        fresh = λ never. (refl, parts ∙ (was.fresh never).1);
        queues_are = was.queues_are;
        members = failed-follow setup c k;
        own = was.own;
        log_is = was.log_is;
        log = record {
          running = λ up. absurd (false≢true (sym (put-same k false c.up) ∙ up));
          whole = was.log.whole;
        };
      })

  -- the cluster is as behind a crash of the node, whatever that leaves of its disk
  pub stop-stands : (setup : Setup) (c : Cluster) (image : Image) → Stands facts setup old c
      → Stands facts setup new (cluster_happens c (Crashes k image))
  stop-stands setup c image st =
      stands-own setup c k (Fails k ∷ []) old new x y (own-fail k, tt)
      (record {
        low = low;
        here = stopped.nodes.here;
        same = stopped.same;
        nodes = stopped.nodes.is;
        many = stopped.queues.many;
      }) st (stopped-node setup c (node-was setup c old k x st low stopped.nodes.here))
      (stopped-queues k setup (standings old.sessions) c old new stopped st.queues) refl
      (λ at lt calm. quiet-stopped setup c.up (c.queue (at + 1)) k (st.quiet at lt calm))

  abbrev See : Option (Node D) → Seen
  See = seen_in facts

  pub stop-seen : (j : ℕ) → seen facts new j ≡ seen facts old j
  stop-seen zero = refl
  stop-seen (suc i) = ap (λ (l : List (Node D)). See (slice_get l i)) stopped.nodes.is ∙ by (cases_eq i (k - 1))
    where
      by : (i ≡ k - 1) ⊎ (i ≢ k - 1)
          → See (slice_get (slice_set old.nodes.items (k - 1) y) i) ≡ See (slice_get old.nodes.items i)
      by (inl own) =
          ap (λ (n : ℕ). See (slice_get (slice_set old.nodes.items (k - 1) y) n)) own
          ∙ ap See (set-here k old.nodes.items x y stopped.nodes.here)
          ∙ ap (λ (n : Node D). See (Some n)) stopped.nodes.turns
          ∙ ap See (sym (ap (slice_get old.nodes.items) own ∙ stopped.nodes.here))
      by (inr other) = ap See (set-other old.nodes.items (k - 1) i y other)

  pub stop-count : length new.nodes.items ≡ length old.nodes.items
  stop-count = ap length stopped.nodes.is ∙ set-long old.nodes.items (k - 1) y

-- ---- one after the other

-- the first so many nodes have stopped
pub record StoppedTo {D : Type 0} (facts : DiskFacts D) (at : ℕ) (old held : Held D) : Type 0 where
  pub stands : (setup : Setup) (c : Cluster) (images : ℕ → Image) → Stands facts setup old c
      → Stands facts setup held (cluster_after c (crashes_with images (range_with_len 1 at)))
  pub disks : (k : ℕ) → seen facts held k ≡ seen facts old k
  pub count : length held.nodes.items ≡ length old.nodes.items

module _ {D : Type 0} {facts : DiskFacts D} where
  pub stopped-none : (held : Held D) → StoppedTo facts 0 held held
  stopped-none held = record { stands = λ setup c images st. st; disks = λ k. refl; count = refl }

  pub stopped-more : (at : ℕ) (node : NodeId) (old mid new : Held D) → node.0 ≡ at + 1
      → StoppedTo facts at old mid → HasStopped node.0 mid new → StoppedTo facts (at + 1) old new
  stopped-more at node old mid new is to stopped = record {
    stands = λ setup c images st.
        subst (λ (events : List ClusterEvent). Stands facts setup new (cluster_after c events)) (sym (more images))
        (subst (Stands facts setup new)
        (sym (after-both c (crashes_with images (range_with_len 1 at)) (Crashes (at + 1) (images (at + 1)) ∷ [])))
        (subst (λ (k : ℕ). Stands facts setup new
        (cluster_happens (cluster_after c (crashes_with images (range_with_len 1 at))) (Crashes k (images k)))) is
        (stop-stands facts node.0 mid new low stopped setup
        (cluster_after c (crashes_with images (range_with_len 1 at))) (images node.0) (to.stands setup c images st))));
    disks = λ k. stop-seen facts node.0 mid new low stopped k ∙ to.disks k;
    count = stop-count facts node.0 mid new low stopped ∙ to.count;
  }
    where
      low : 0 < node.0
      low = omega (arith, is)

      more : (images : ℕ → Image)
          → crashes_with images (range_with_len 1 (at + 1))
          ≡ crashes_with images (range_with_len 1 at) ++ Crashes (at + 1) (images (at + 1)) ∷ []
      more images = map-range_with_len_more (λ (k : ℕ). Crashes k (images k)) 1 at (at + 1) (omega arith)

  -- they go on, whatever the crashes are said to leave
  pub stopped-can : (at : ℕ) (old held : Held D) → CanServe facts old → StoppedTo facts at old held
      → CanServe facts held
  stopped-can at old held can to =
      let image : Image = record { newest_log = Whole; others = Whole; removed_back = false } in
      let events : List ClusterEvent = crashes_with (λ k. image) (range_with_len 1 at) in (
        can.0,
        cluster_after can.1 events,
        reached-after can.0 can.1 events can.2,
        to.stands can.0 can.1 (λ k. image) can.3,
      )

  pub stopped-all : (at : ℕ) (old new : Held D) → at ≡ length old.nodes.items → StoppedTo facts at old new
      → (setup : Setup) (c : Cluster) (images : ℕ → Image) → Stands facts setup old c
      → Stands facts setup new (cluster_after c (crashes_with images setup.nodes))
  stopped-all at old new all to setup c images st =
      subst (λ (list : List ℕ). Stands facts setup new (cluster_after c (crashes_with images list)))
      (ap (range_with_len 1) all ∙ sym st.set_up.nodes) (to.stands setup c images st)
