-- A node is crashed.
use Rattle.std.proofs.Common.{◌≡◌, ◌<◌, ◌+◌, ◌-◌, ℕ, Bool, false, List, [], ◌∷◌, Some, None, length, refl, sym, ap, ◌∙◌, subst}
use Rattle.std.specs.Global.{Vec}
use Rattle.std.specs.Prelude.{IsTrue, nat_lt, slice_get, slice_set}
use Rattle.std.proofs.lemmas.Bool.{eq-eqb, false≢true, lt-ltb}
use Rattle.qq_base.proofs.Puts.{put-same}
use Rattle.qq_base.specs.Fronts.{put}
use Rattle.qq_disk.specs.Disk.{now}
use Rattle.qq_disk.specs.Facts.{DiskFacts}
use Rattle.qq_disk.specs.declared.image.Image.{Image}
use Rattle.qq_lots.specs.Lots.{Lot, Parts}
use Rattle.qq_ports.specs.Yard.{IsAfterCrash}
use Rattle.qq_raft_model.specs.Group.{Seat}
use Rattle.qq_cluster_model.specs.Cluster.{Cluster, Crashes, Fails, Setup, cluster_happens}
use Rattle.qq_cluster_model.specs.Queue.{Queue, Stops, happens}
use Rattle.qq_cluster_model.specs.Rules.{Is}
use Rattle.qq_cluster_laws.specs.Linked.{IsLinked, lot_of, part_at, parts_at}
use Rattle.qq_cluster_laws.specs.Serves.{Seen, seen_of}
use Rattle.qq_cluster_laws.specs.Traced.{IsTracedAt, KeepsWhere}
use Rattle.qq_cluster_laws.proofs.Links.{crashed-follow, crashed-linked}
use Rattle.qq_cluster_laws.proofs.Serves.{happened-event}
use Rattle.qq_cluster_laws.proofs.Traces.{traced-one}
use Rattle.qq_queue.specs.Sessions.{standings}
use Rattle.qq_node_log.specs.Log.{Stands as IsLog, disk_in}
use Rattle.qq_node_log.specs.declared.node_log.NodeLog.{NodeLog}
use Rattle.qq_cluster_model.specs.Outcome.{Outcome}
use Rattle.qq_cluster.specs.Logs.{NodeTurns}
use Rattle.qq_cluster.specs.Nodes.{CanServe, IsNodeOf, Stands, seen}
use Rattle.qq_cluster.specs.Crashing.{HasHappened, HasOwn, IsCrashedTo, LeavesDisks}
use Rattle.qq_cluster.specs.Turning.{TurnsWhere}
use Rattle.qq_cluster.specs.declared.node.Node.{Node}
use Rattle.qq_cluster.specs.declared.nodes.Nodes.{Nodes as Held}
use Rattle.qq_cluster.proofs.OwnStands.{node-was, seen-others, seen-own, set-here, stands-own, turned-queues}
use Rattle.qq_cluster.proofs.Owned.{own-fail}
use Rattle.qq_cluster.proofs.Quiet.{quiet-stopped}
use Rattle.qq_cluster.proofs.Outcomes.{same-outcome, shows-one}

-- what a log knows of a queue, it knows where its member stops
pub stops-part : (k : ℕ) (q : Queue) → part_at k (happens q (Stops k)) ≡ part_at k q
stops-part k q =
    let seat : Seat = record { server = None; ops = (q.group.seat k).ops; noticed = (q.group.seat k).noticed } in
    let there = put-same k seat q.group.seat in
    λ i. record { ops = (there i).ops; synced = q.synced k }

module _ {D : Type 0} (facts : DiskFacts D) (k : ℕ) (image : Image) (old new : Held D) (x y : Node D) (low : 0 < k)
    (here : slice_get old.nodes.items (k - 1) ≡ Some x)
    (same : new ≡ record old { queues = new.queues; nodes = new.nodes })
    (nodes : new.nodes.items ≡ slice_set old.nodes.items (k - 1) y)
    (turns : TurnsWhere (λ at. nat_lt at (length old.queues.items)) (Stops k) old.queues.items new.queues.items)
    (crash : IsCrashedTo facts image x y) where
  -- the cluster is as where a call of the node's disk has failed
  abbrev after_it : Cluster → Cluster
  after_it c = cluster_happens c (Fails k)

  crashed-node : (setup : Setup) (c : Cluster) → IsNodeOf facts setup c k x → IsNodeOf facts setup (after_it c) k y
  unfolding put
  crashed-node setup c was =
      let parts : parts_at (after_it c) k ≡ parts_at c k = λ i. λ (place : ℕ). stops-part k (c.queue place) i in
      subst (IsNodeOf facts setup (after_it c) k) (sym crash.is) (record {
        id_is = was.id_is;
        few = was.few;
        up_is = sym (put-same k false c.up);
        fresh = λ never. (refl, parts ∙ (was.fresh never).1);
        queues_are = was.queues_are;
        members = crashed-follow setup c k image;
        own = crash.left;
        log_is = refl;
        log = subst (λ (b : Bool). IsLog facts (lot_of setup k) (parts_at (after_it c) k) b crash.left)
            (sym (put-same k false c.up)) (crash.stands (lot_of setup k) (parts_at (after_it c) k));
      })

  crashed-stands : (setup : Setup) (c : Cluster) → Stands facts setup old c → Stands facts setup new (after_it c)
  crashed-stands setup c st =
      stands-own setup c k (Fails k ∷ []) old new x y (own-fail k, tt)
      (record { low = low; here = here; same = same; nodes = nodes; many = turns.many }) st
      (crashed-node setup c (node-was setup c old k x st low here))
      (turned-queues (λ (at : ℕ). nat_lt at (length old.queues.items)) (Stops k) setup (standings old.sessions) c
      (after_it c) old.queues.items new.queues.items turns st.queues (λ at lt is. refl)
      (λ at lt is. absurd (false≢true (sym is ∙ lt-ltb at (length old.queues.items) lt)))) refl
      (λ at lt calm. quiet-stopped setup c.up (c.queue (at + 1)) k (st.quiet at lt calm))

  seen-old : seen facts old k ≡ seen_of facts (disk_in crash.own)
  seen-old = seen-own facts old k x crash.own low here crash.was

  seen-new : seen facts new k ≡ seen_of facts (disk_in crash.left)
  seen-new =
      seen-own facts new k y crash.left low (ap (λ (l : List (Node D)). slice_get l (k - 1)) nodes
      ∙ set-here k old.nodes.items x y here) (ap (λ (n : Node D). n.log) crash.is)

  crashed-traced : (setup : Setup) (c : Cluster) → IsTrue (facts.tells (disk_in crash.own))
      → IsLinked setup c k (now (facts.past (disk_in crash.own)))
      → IsTracedAt setup c k (Crashes k image ∷ []) (facts.past (disk_in crash.own)) (facts.past (disk_in crash.left))
  crashed-traced setup c told linked =
      let after : IsAfterCrash image (facts.past (disk_in crash.own)) (facts.past (disk_in crash.left)) =
      crash.image_is told in
      traced-one setup c k (Crashes k image)
      (facts.past (disk_in crash.own)) (facts.past (disk_in crash.left)) linked.promised
      (subst (λ (b : Bool). KeepsWhere b setup c k (Crashes k image)
      (facts.past (disk_in crash.own)) (facts.past (disk_in crash.left)))
      (sym (eq-eqb k k refl)) (after.left, after.alone))
      (λ fair. crashed-linked setup c k image
      (facts.past (disk_in crash.own)) (facts.past (disk_in crash.left)) linked.promised
      (after.left, after.alone) (fair refl))

  pub has-crashed : (outcome : Outcome)
      → HasHappened facts (λ setup. Is (Crashes k image)) old new outcome outcome
  has-crashed outcome = record {
    happened = λ setup c r st.
        happened-event setup c k (Crashes k image) (seen facts old) (seen facts new) refl
        (λ j other. seen-others facts k old new y low nodes j other)
        (ap (λ (s : Seen). s.tells) seen-new ∙ crash.told ∙ sym (ap (λ (s : Seen). s.tells) seen-old))
        (λ events. Is (Crashes k image) c events) (Stands facts setup new) outcome outcome refl
        (crashed-stands setup c st)
        (shows-one setup c (Crashes k image) outcome outcome (same-outcome outcome))
        (λ node. moved setup c);
  }
    where
      moved : (setup : Setup) (c : Cluster) → IsTrue (seen facts old k).tells
          → IsLinked setup c k (now (seen facts old k).past)
          → IsTracedAt setup c k (Crashes k image ∷ []) (seen facts old k).past (seen facts new k).past
      moved setup c =
          subst (λ (a : Seen). IsTrue a.tells → IsLinked setup c k (now a.past)
          → IsTracedAt setup c k (Crashes k image ∷ []) a.past (seen facts new k).past) (sym seen-old)
          (subst (λ (b : Seen). IsTrue (facts.tells (disk_in crash.own)) → IsLinked setup c k
          (now (facts.past (disk_in crash.own)))
          → IsTracedAt setup c k (Crashes k image ∷ []) (facts.past (disk_in crash.own)) b.past) (sym seen-new)
          (crashed-traced setup c))

  pub leaves-disks : LeavesDisks facts k image old new
  leaves-disks = record {
    told = ap (λ (s : Seen). s.tells) seen-new ∙ crash.told ∙ sym (ap (λ (s : Seen). s.tells) seen-old);
    left = subst (λ (a : Seen). IsTrue a.tells → IsAfterCrash image a.past (seen facts new k).past) (sym seen-old)
        (subst (λ (b : Seen). IsTrue (facts.tells (disk_in crash.own)) → IsAfterCrash image
        (facts.past (disk_in crash.own)) b.past) (sym seen-new) crash.image_is);
    others = seen-others facts k old new y low nodes;
  }

-- a node's log was crashed, and then its members stopped
pub crash-done : {D : Type 0} (facts : DiskFacts D) (k : ℕ) (image : Image) (old : Held D) (mids : Vec (Node D))
    (new : Held D) → 0 < k
    → NodeTurns (IsCrashedTo facts image) (k - 1) old.nodes.items mids.items
    → new ≡ record old { nodes = mids; queues = new.queues }
    → TurnsWhere (λ at. nat_lt at (length old.queues.items)) (Stops k) old.queues.items new.queues.items
    → (outcome : Outcome) → HasHappened facts (λ setup. Is (Crashes k image)) old new outcome outcome
crash-done facts k image old mids new low turn same turns outcome =
    has-crashed facts k image old new turn.old turn.new low turn.here
    (same ∙ ap (λ (v : Vec (Node _)). record old { nodes = v; queues = new.queues }) (sym (ap (λ (h : Held _). h.nodes) same)))
    (ap (λ (h : Held _). h.nodes.items) same ∙ turn.is) turns turn.turns outcome

pub crash-leaves : {D : Type 0} (facts : DiskFacts D) (k : ℕ) (image : Image) (old : Held D) (mids : Vec (Node D))
    (new : Held D) → 0 < k
    → NodeTurns (IsCrashedTo facts image) (k - 1) old.nodes.items mids.items
    → new ≡ record old { nodes = mids; queues = new.queues }
    → TurnsWhere (λ at. nat_lt at (length old.queues.items)) (Stops k) old.queues.items new.queues.items
    → LeavesDisks facts k image old new
crash-leaves facts k image old mids new low turn same turns =
    leaves-disks facts k image old new turn.old turn.new low turn.here
    (same ∙ ap (λ (v : Vec (Node _)). record old { nodes = v; queues = new.queues }) (sym (ap (λ (h : Held _). h.nodes) same)))
    (ap (λ (h : Held _). h.nodes.items) same ∙ turn.is) turns turn.turns

-- each node has a log
pub own-log : {D : Type 0} {facts : DiskFacts D} (held : Held D) (at : ℕ) (node : Node D)
    → CanServe facts held → slice_get held.nodes.items at ≡ Some node → HasOwn node
own-log held at node can here = let is = can.3.nodes at node here in (is.own, is.log_is)

-- ---- its log

module _ {D : Type 0} {facts : DiskFacts D} (image : Image) (old new : Node D) (own left : NodeLog D)
    (was : old.log ≡ Some own) where
  pub crashed : (IsTrue (facts.tells (disk_in own)) → IsAfterCrash image
      (facts.past (disk_in own)) (facts.past (disk_in left)))
      → facts.tells (disk_in left) ≡ facts.tells (disk_in own)
      → ((lot : Lot) (parts : Parts) → IsLog facts lot parts false left)
      → new ≡ record old { log = Some left; up = false } → IsCrashedTo facts image old new
  crashed image_is told stands next = record {
    own = own;
    was = was;
    left = left;
    is = next;
    image_is = image_is;
    told = told;
    stands = stands;
  }
