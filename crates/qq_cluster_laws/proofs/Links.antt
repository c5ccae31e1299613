-- What the calls of a node's log, and its failures, crashes and restarts leave of the link.
use Rattle.std.proofs.Common.{◌≡◌, ℕ, Bool, true, false, cond, ◌&&◌, List, [], ◌∷◌, length, take, Option, Some, None, refl, sym, ap, ◌∙◌, subst, arith}
use Rattle.std.specs.Prelude.{filter, is_some, nat_le}
use Rattle.std.specs.List.{AllByRecursion, list_all}
use Rattle.std.proofs.lemmas.Bool.{and_from, cond-true, cond_both, false≢true, le-leb}
use Rattle.qq_base.proofs.Lists.{AllByRecursion-weaker}
use Rattle.qq_base.proofs.Puts.{put-same}
use Rattle.qq_base.specs.Fronts.{put}
use Rattle.qq_disk.specs.Crash.{Remains}
use Rattle.qq_disk.specs.declared.image.Image.{Image}
use Rattle.qq_disk.specs.Disk.{Disk, now}
use Rattle.qq_disk.specs.Image.{image_of}
use Rattle.qq_disk.proofs.Named.{named}
use Rattle.qq_log.specs.Stable.{Stable, stable}
use Rattle.qq_log.specs.declared.op.Op.{Op}
use Rattle.qq_lots.specs.Kept.{IsPromised as HasPromised, IsTied, KeepsPromised}
use Rattle.qq_lots.specs.Left.{AllBetween, IsBetween, ops_found, state_in}
use Rattle.qq_lots.specs.Lots.{Lot, Part, Parts, find, find_each, give, give_batch, ids_of, keep, keep_all, new_part, ops_at}
use Rattle.qq_lots.proofs.Each.{all-both, of-each}
use Rattle.qq_lots.proofs.Writes.{crashed-keeps, new-promised, tied-promised, tied-same}
use Rattle.qq_raft_model.specs.Group.{Group, Seat, empty_seat, has_node, happens as moved, is_down, lane_with, may_restart, restart_by}
use Rattle.qq_raft_model.specs.Group.Event.{Restart}
use Rattle.qq_raft_model.specs.Server.{restart}
use Rattle.qq_raft_model.specs.State.{Server}
use Rattle.qq_wal.specs.Running.{top}
use Rattle.qq_wal_chain.specs.Lanes.{Lanes}
use Rattle.qq_wal_chain.specs.Laws.{KeepsPromise}
use Rattle.qq_cluster_model.specs.Cluster.{Cluster, ClusterEvent, Setup, NodeWrites, NodeSyncs, Fails, Crashes, FindsEach, cluster_happens, members, new_cluster}
use Rattle.qq_cluster_model.specs.ClusterLaws.{HasGroups}
use Rattle.qq_cluster_model.specs.Laws.{CountsRise}
use Rattle.qq_cluster_model.specs.Queue.{Queue, Writes, Syncs, Stops, Finds, happens, synced_after, waiting}
use Rattle.qq_cluster_model.specs.Rules.{may_find}
use Rattle.qq_cluster_laws.specs.Linked.{IsLinked, IsPromised, IsReached, MembersFollow, lot_of, part_at, parts_at}
use Rattle.qq_cluster_laws.specs.Traced.{HasHonestImage, LeavesImage}
use Rattle.qq_cluster_laws.specs.Waiting.{AllWait, ops_waiting}
use Rattle.qq_cluster_laws.proofs.Reached.{counts-at, group-made, made}
use Rattle.qq_cluster_laws.proofs.Seats.{is_up, nodes-same, takes-up}
use Rattle.qq_cluster_laws.proofs.Waiting.{gives-waiting}

-- a log that goes on has promised what it holds
tied-linked : (setup : Setup) (c : Cluster) (k : ℕ) (d : Disk) → IsTied (lot_of setup k) (parts_at c k) d
    → IsLinked setup c k d
tied-linked setup c k d t =
    record { promised = tied-promised (lot_of setup k) (parts_at c k) d t; tied = λ up. t }

-- a promise of parts that are equal
promised-same : (lot : Lot) (parts later : Parts) (d : Disk)
    → AllByRecursion (λ (place : ℕ). later place ≡ parts place) lot.places
    → KeepsPromised lot parts d → KeepsPromised lot later d
promised-same lot parts later d same p = record {
  noticed = p.noticed;
  given = p.given;
  each = all-both (λ (place : ℕ). later place ≡ parts place)
      (λ (place : ℕ). HasPromised (parts place) (ops_at lot place p.noticed) (ops_at lot place p.given))
      (λ (place : ℕ). HasPromised (later place) (ops_at lot place p.noticed) (ops_at lot place p.given))
      (λ place is own. subst (λ (part : Part). HasPromised part (ops_at lot place p.noticed) (ops_at lot place p.given))
      (sym is) own) lot.places same p.each;
  promise = p.promise;
}

-- ---- the beginning

pub begins-linked : (setup : Setup) (k : ℕ) (d : Disk) → IsPromised setup (new_cluster setup) k d
    → IsLinked setup (new_cluster setup) k d
begins-linked setup k d p = record { promised = p; tied = λ up. absurd (false≢true up) }

-- over new logs
pub new-linked : (setup : Setup) (k : ℕ) (d : Disk) → ((place : ℕ) → (setup.group place).seat k ≡ empty_seat)
    → KeepsPromise (ids_of (lot_of setup k)) top [] [] d → IsLinked setup (new_cluster setup) k d
new-linked setup k d empty promise =
    let parts : parts_at (new_cluster setup) k ≡ (λ (place : ℕ). new_part) =
    λ i. λ (place : ℕ). record { ops = (empty place i).ops; synced = (empty place i).noticed } in
    begins-linked setup k d
    (subst (λ (ps : Parts). KeepsPromised (lot_of setup k) ps d) (sym parts) (new-promised (lot_of setup k) d promise))

pub new-follow : (setup : Setup) (k : ℕ) → HasGroups setup → MembersFollow setup (new_cluster setup) k
new-follow setup k groups =
    of-each (λ (place : ℕ). is_up ((setup.group place).seat k) ≡ false)
    (λ place. ap is_some ((groups place).opened.down.down k)) (lot_of setup k).places

-- ---- writes

-- what a node's log has after a write is what it had, and what waited
gives-rest : (setup : Setup) (c : Cluster) (k : ℕ) (rest : List Op) → AllWait setup c k rest
    → AllByRecursion (λ (place : ℕ). parts_at (cluster_happens c (NodeWrites k)) k place
    ≡ give_batch (lot_of setup k) rest (parts_at c k) place) (lot_of setup k).places
gives-rest setup c k rest waits =
    AllByRecursion-weaker
    (λ (place : ℕ). ops_at (lot_of setup k) place rest ≡ ops_waiting k (c.queue place))
    (λ (place : ℕ). parts_at (cluster_happens c (NodeWrites k)) k place
    ≡ give_batch (lot_of setup k) rest (parts_at c k) place)
    (λ place is. gives-waiting k (c.queue place)
    ∙ ap (λ (ops : List Op). give ops (part_at k (c.queue place))) (sym is)) (lot_of setup k).places waits

-- what is promised with the rest is promised after the write
pub write-promised : (setup : Setup) (c : Cluster) (k : ℕ) (rest : List Op) (d : Disk) → AllWait setup c k rest
    → KeepsPromised (lot_of setup k) (give_batch (lot_of setup k) rest (parts_at c k)) d
    → IsPromised setup (cluster_happens c (NodeWrites k)) k d
write-promised setup c k rest d waits p =
    promised-same (lot_of setup k) (give_batch (lot_of setup k) rest (parts_at c k))
    (parts_at (cluster_happens c (NodeWrites k)) k) d (gives-rest setup c k rest waits) p

-- and a log that holds it is linked
pub write-linked : (setup : Setup) (c : Cluster) (k : ℕ) (rest : List Op) (d : Disk) → AllWait setup c k rest
    → IsTied (lot_of setup k) (give_batch (lot_of setup k) rest (parts_at c k)) d
    → IsLinked setup (cluster_happens c (NodeWrites k)) k d
write-linked setup c k rest d waits t =
    tied-linked setup (cluster_happens c (NodeWrites k)) k d
    (tied-same (lot_of setup k) (give_batch (lot_of setup k) rest (parts_at c k))
    (parts_at (cluster_happens c (NodeWrites k)) k) d (gives-rest setup c k rest waits) t)

pub writes-follow : (setup : Setup) (c : Cluster) (k : ℕ) → MembersFollow setup c k
    → MembersFollow setup (cluster_happens c (NodeWrites k)) k
writes-follow setup c k follow =
    AllByRecursion-weaker (λ (place : ℕ). is_up ((c.queue place).group.seat k) ≡ c.up k)
    (λ (place : ℕ). is_up ((happens (c.queue place) (Writes k)).group.seat k) ≡ c.up k)
    (λ place is. takes-up k k (waiting k (c.queue place).group) (c.queue place).group ∙ is) (lot_of setup k).places
    follow

-- ---- syncs

keeps-all : (k : ℕ) (q : Queue) → is_up (q.group.seat k) ≡ true
    → part_at k (happens q (Syncs k)) ≡ keep (part_at k q)
keeps-all k q up =
    let synced : synced_after q (Syncs k) k ≡ length (q.group.seat k).ops =
    ap (λ (f : ℕ → ℕ). f k)
    (cond-true (is_some (q.group.seat k).server) (put k (length (q.group.seat k).ops) q.synced) q.synced up)
    ∙ put-same k (length (q.group.seat k).ops) q.synced in
    λ i. record { ops = (q.group.seat k).ops; synced = synced i }

keeps-each : (setup : Setup) (c : Cluster) (k : ℕ) → c.up k ≡ true → MembersFollow setup c k
    → AllByRecursion (λ (place : ℕ). parts_at (cluster_happens c (NodeSyncs k)) k place ≡ keep_all (parts_at c k) place)
    (lot_of setup k).places
keeps-each setup c k up follow =
    AllByRecursion-weaker (λ (place : ℕ). is_up ((c.queue place).group.seat k) ≡ c.up k)
    (λ (place : ℕ). parts_at (cluster_happens c (NodeSyncs k)) k place ≡ keep_all (parts_at c k) place)
    (λ place is. keeps-all k (c.queue place) (is ∙ up)) (lot_of setup k).places follow

pub sync-promised : (setup : Setup) (c : Cluster) (k : ℕ) (d : Disk) → c.up k ≡ true → MembersFollow setup c k
    → KeepsPromised (lot_of setup k) (keep_all (parts_at c k)) d → IsPromised setup (cluster_happens c (NodeSyncs k)) k d
sync-promised setup c k d up follow p =
    promised-same (lot_of setup k) (keep_all (parts_at c k)) (parts_at (cluster_happens c (NodeSyncs k)) k) d
    (keeps-each setup c k up follow) p

pub sync-linked : (setup : Setup) (c : Cluster) (k : ℕ) (d : Disk) → c.up k ≡ true → MembersFollow setup c k
    → IsTied (lot_of setup k) (keep_all (parts_at c k)) d → IsLinked setup (cluster_happens c (NodeSyncs k)) k d
sync-linked setup c k d up follow t =
    tied-linked setup (cluster_happens c (NodeSyncs k)) k d
    (tied-same (lot_of setup k) (keep_all (parts_at c k)) (parts_at (cluster_happens c (NodeSyncs k)) k) d
    (keeps-each setup c k up follow) t)

-- ---- stops

stops-part : (k : ℕ) (q : Queue) → part_at k (happens q (Stops k)) ≡ part_at k q
stops-part k q =
    let seat : Seat = record { server = None; ops = (q.group.seat k).ops; noticed = (q.group.seat k).noticed } in
    let there = put-same k seat q.group.seat in
    λ i. record { ops = (there i).ops; synced = q.synced k }

pub stopped-promised : (setup : Setup) (c : Cluster) (k : ℕ) (event : ClusterEvent) (d : Disk)
    → ((place : ℕ) → (cluster_happens c event).queue place ≡ happens (c.queue place) (Stops k))
    → IsPromised setup c k d → IsPromised setup (cluster_happens c event) k d
stopped-promised setup c k event d stops p =
    let parts : parts_at (cluster_happens c event) k ≡ parts_at c k =
    λ i. λ (place : ℕ). (ap (part_at k) (stops place) ∙ stops-part k (c.queue place)) i in
    subst (λ (ps : Parts). KeepsPromised (lot_of setup k) ps d) (sym parts) p

stopped-linked : (setup : Setup) (c : Cluster) (k : ℕ) (event : ClusterEvent) (d : Disk)
    → ((place : ℕ) → (cluster_happens c event).queue place ≡ happens (c.queue place) (Stops k))
    → (cluster_happens c event).up k ≡ false → IsPromised setup c k d → IsLinked setup (cluster_happens c event) k d
stopped-linked setup c k event d stops down p = record {
  promised = stopped-promised setup c k event d stops p;
  tied = λ up. absurd (false≢true (sym down ∙ up));
}

pub failed-linked : (setup : Setup) (c : Cluster) (k : ℕ) (d : Disk) → IsPromised setup c k d
    → IsLinked setup (cluster_happens c (Fails k)) k d
failed-linked setup c k d p = stopped-linked setup c k (Fails k) d (λ place. refl) (put-same k false c.up) p

pub crashed-linked : (setup : Setup) (c : Cluster) (k : ℕ) (image : Image) (old new : List Disk)
    → IsPromised setup c k (now old) → LeavesImage image old new → HasHonestImage setup k image (now old)
    → IsLinked setup (cluster_happens c (Crashes k image)) k (now new)
crashed-linked setup c k image old new p (left, alone) honest =
    let remains : Remains = image_of image left.newest (now old) in
    stopped-linked setup c k (Crashes k image) (now new) (λ place. refl) (put-same k false c.up)
    (subst (IsPromised setup c k) (sym left.left)
    (crashed-keeps (lot_of setup k) (parts_at c k) (now old) remains p (named image left.newest (now old))
    (honest left.newest left.is_newest)))

stopped-follow : (setup : Setup) (c : Cluster) (k : ℕ) (event : ClusterEvent)
    → ((place : ℕ) → (cluster_happens c event).queue place ≡ happens (c.queue place) (Stops k))
    → (cluster_happens c event).up k ≡ false → MembersFollow setup (cluster_happens c event) k
stopped-follow setup c k event stops down =
    of-each
    (λ (place : ℕ). is_up (((cluster_happens c event).queue place).group.seat k) ≡ (cluster_happens c event).up k)
    (λ place. ap (λ (q : Queue). is_up (q.group.seat k)) (stops place)
    ∙ ap is_up (put-same k (record {
      server = None;
      ops = ((c.queue place).group.seat k).ops;
      noticed = ((c.queue place).group.seat k).noticed;
    }) (c.queue place).group.seat) ∙ sym down) (lot_of setup k).places

pub failed-follow : (setup : Setup) (c : Cluster) (k : ℕ) → MembersFollow setup (cluster_happens c (Fails k)) k
failed-follow setup c k = stopped-follow setup c k (Fails k) (λ place. refl) (put-same k false c.up)

pub crashed-follow : (setup : Setup) (c : Cluster) (k : ℕ) (image : Image)
    → MembersFollow setup (cluster_happens c (Crashes k image)) k
crashed-follow setup c k image =
    stopped-follow setup c k (Crashes k image) (λ place. refl) (put-same k false c.up)

-- ---- restarts

-- a restart that may be goes on with what was found
found-seat : (k op : ℕ) (g : Group) (state : Stable) → may_restart k op g ≡ true
    → stable (take op (g.seat k).ops) ≡ Some state → (moved (Restart k op) g).seat k ≡ record {
      server = Some (restart (record { 0 = k }) g.nodes (lane_with g.queue state));
      ops = take op (g.seat k).ops;
      noticed = op;
    }
found-seat k op g state may is =
    let seat : Seat = record {
      server = Some (restart (record { 0 = k }) g.nodes (lane_with g.queue state));
      ops = take op (g.seat k).ops;
      noticed = op;
    } in
    ap (λ (h : Group). h.seat k)
    (cond-true (may_restart k op g) (restart_by k op (stable (take op (g.seat k).ops)) g) g may)
    ∙ ap (λ (o : Option Stable). (restart_by k op o g).seat k) is ∙ put-same k seat g.seat

found-part : (k op : ℕ) (q : Queue) (state : Stable) → may_restart k op q.group ≡ true
    → stable (take op (q.group.seat k).ops) ≡ Some state → part_at k (happens q (Finds k op)) ≡ find op (part_at k q)
found-part k op q state may is =
    let seat = found-seat k op q.group state may is in
    let synced : synced_after q (Finds k op) k ≡ op =
    ap (λ (f : ℕ → ℕ). f k) (cond-true (may_restart k op q.group) (put k op q.synced) q.synced may)
    ∙ put-same k op q.synced in
    λ i. record { ops = (seat i).ops; synced = synced i }

-- a member that is down may take up what lies between
may-take_up : (k : ℕ) (q : Queue) (state : Stable) → CountsRise q k → has_node k q.group.nodes ≡ true
    → is_up (q.group.seat k) ≡ false → IsBetween (part_at k q) state → may_restart k state.op q.group ≡ true
may-take_up k q state rise has down between =
    let seat : Seat = q.group.seat k in
    and_from (is_down seat.server)
    (has_node k q.group.nodes && (nat_le seat.noticed state.op && nat_le state.op (length seat.ops)))
    (by seat.server down)
    (and_from (has_node k q.group.nodes) (nat_le seat.noticed state.op && nat_le state.op (length seat.ops)) has
    (and_from (nat_le seat.noticed state.op) (nat_le state.op (length seat.ops))
    (le-leb seat.noticed state.op (omega (arith, rise.noticed, between.least)))
    (le-leb state.op (length seat.ops) between.most)))
  where
    by : (o : Option Server) → is_some o ≡ false → is_down o ≡ true
    by None is = refl
    by (Some s) is = absurd (let e : true ≡ false = is in cc)

-- ---- what recovery settled on

-- a node is of each group of its log
lot-members : (setup : Setup) (k : ℕ) (places : List ℕ)
    → AllByRecursion (λ (place : ℕ). has_node k (members setup place) ≡ true)
    (filter (λ (place : ℕ). has_node k (members setup place)) places)
lot-members setup k [] = tt
lot-members setup k (place ∷ places) =
    cond_both (has_node k (members setup place))
    (place ∷ filter (λ (p : ℕ). has_node k (members setup p)) places)
    (filter (λ (p : ℕ). has_node k (members setup p)) places)
    (AllByRecursion (λ (p : ℕ). has_node k (members setup p) ≡ true))
    (λ has. (has, lot-members setup k places)) (λ _. lot-members setup k places)

-- a test that others pass by themselves
all-passing : (passes test : ℕ → Bool) (places : List ℕ)
    → AllByRecursion (λ (p : ℕ). test p ≡ true) (filter passes places)
    → ((p : ℕ) → passes p ≡ false → test p ≡ true) → list_all test places ≡ true
all-passing passes test [] each others = refl
all-passing passes test (p ∷ places) each others =
    cond_both (passes p) (p ∷ filter passes places) (filter passes places)
    (λ (l : List ℕ). AllByRecursion (λ (q : ℕ). test q ≡ true) l → list_all test (p ∷ places) ≡ true)
    (λ _ all. and_from (test p) (list_all test places) all.0 (all-passing passes test places all.1 others))
    (λ is all. and_from (test p) (list_all test places) (others p is) (all-passing passes test places all others)) each

-- a member takes up what was found of it
pub record TakesUp (k op : ℕ) (q : Queue) : Type 0 where
  pub may : may_restart k op q.group ≡ true
  pub state : Stable
  pub is : stable (take op (q.group.seat k).ops) ≡ Some state

module _ (setup : Setup) (c : Cluster) (k : ℕ) (groups : HasGroups setup) (r : IsReached setup c) where
  nodes-are : (place : ℕ) → (c.queue place).group.nodes ≡ members setup place
  nodes-are place =
      ap (λ (g : Group). g.nodes) (group-made setup c r place) ∙ nodes-same (made setup c r place) (setup.group place)

  pub all-take_up : (lanes : Lanes) → c.up k ≡ false → MembersFollow setup c k
      → AllBetween (lot_of setup k) (parts_at c k) lanes
      → AllByRecursion (λ (place : ℕ). TakesUp k (ops_found (lot_of setup k) lanes place) (c.queue place))
      (lot_of setup k).places
  all-take_up lanes down follow between =
      all-both (λ (place : ℕ). has_node k (members setup place) ≡ true)
      (λ (place : ℕ). (is_up ((c.queue place).group.seat k) ≡ c.up k)
      × IsBetween (parts_at c k place) (state_in lanes ((lot_of setup k).id place)))
      (λ (place : ℕ). TakesUp k (ops_found (lot_of setup k) lanes place) (c.queue place))
      (λ place has both. record {
        may = may-take_up k (c.queue place) (state_in lanes ((lot_of setup k).id place))
            (counts-at setup c r place groups k)
            (ap (has_node k) (nodes-are place) ∙ has) (both.0 ∙ down) both.1;
        state = state_in lanes ((lot_of setup k).id place);
        is = both.1.is;
      }) (lot_of setup k).places (lot-members setup k setup.places)
      (all-both (λ (place : ℕ). is_up ((c.queue place).group.seat k) ≡ c.up k)
      (λ (place : ℕ). IsBetween (parts_at c k place) (state_in lanes ((lot_of setup k).id place)))
      (λ (place : ℕ). (is_up ((c.queue place).group.seat k) ≡ c.up k)
      × IsBetween (parts_at c k place) (state_in lanes ((lot_of setup k).id place)))
      (λ place up own. (up, own)) (lot_of setup k).places follow between)

  pub all-may_find : (ops : ℕ → ℕ)
      → AllByRecursion (λ (place : ℕ). TakesUp k (ops place) (c.queue place)) (lot_of setup k).places
      → list_all (λ (place : ℕ). may_find k (ops place) (c.queue place)) setup.places ≡ true
  all-may_find ops each =
      all-passing (λ (place : ℕ). has_node k (members setup place))
      (λ (place : ℕ). may_find k (ops place) (c.queue place)) setup.places
      (AllByRecursion-weaker (λ (place : ℕ). TakesUp k (ops place) (c.queue place))
      (λ (place : ℕ). may_find k (ops place) (c.queue place) ≡ true)
      (λ place take. cond_both (has_node k (c.queue place).group.nodes) (may_restart k (ops place) (c.queue place).group)
      true (λ (b : Bool). b ≡ true) (λ _. take.may) (λ _. refl)) (lot_of setup k).places each)
      (λ place other. ap (λ (b : Bool). cond b (may_restart k (ops place) (c.queue place).group) true)
      (ap (has_node k) (nodes-are place) ∙ other))

pub found-linked : (setup : Setup) (c : Cluster) (k : ℕ) (ops : ℕ → ℕ) (d : Disk)
    → IsTied (lot_of setup k) (find_each ops (parts_at c k)) d
    → AllByRecursion (λ (place : ℕ). TakesUp k (ops place) (c.queue place)) (lot_of setup k).places
    → IsLinked setup (cluster_happens c (FindsEach k ops)) k d
found-linked setup c k ops d tied each =
    let later : Parts = parts_at (cluster_happens c (FindsEach k ops)) k in
    tied-linked setup (cluster_happens c (FindsEach k ops)) k d
    (tied-same (lot_of setup k) (find_each ops (parts_at c k)) later d
    (AllByRecursion-weaker (λ (place : ℕ). TakesUp k (ops place) (c.queue place))
    (λ (place : ℕ). later place ≡ find_each ops (parts_at c k) place)
    (λ place take. found-part k (ops place) (c.queue place) take.state take.may take.is) (lot_of setup k).places each)
    tied)

pub found-follow : (setup : Setup) (c : Cluster) (k : ℕ) (ops : ℕ → ℕ)
    → AllByRecursion (λ (place : ℕ). TakesUp k (ops place) (c.queue place)) (lot_of setup k).places
    → MembersFollow setup (cluster_happens c (FindsEach k ops)) k
found-follow setup c k ops each =
    AllByRecursion-weaker (λ (place : ℕ). TakesUp k (ops place) (c.queue place))
    (λ (place : ℕ). is_up ((happens (c.queue place) (Finds k (ops place))).group.seat k) ≡ put k true c.up k)
    (λ place take. ap is_up (found-seat k (ops place) (c.queue place).group take.state take.may take.is)
    ∙ sym (put-same k true c.up)) (lot_of setup k).places each
