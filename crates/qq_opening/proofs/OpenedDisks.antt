-- What recoveries leave of the disks: what was promised is kept, and what was read is what logs hold that the disks
-- promised.
use Rattle.std.proofs.Common.{◌≡◌, ◌≤◌, ◌+◌, ℕ, true, List, [], ◌∷◌, Option, Some, None, length, take, refl, sym, ap, ◌∙◌, subst, inl, inr, arith}
use Rattle.std.specs.Prelude.{IsTrue, Ok, slice_get}
use Rattle.std.specs.List.{range_with_len}
use Rattle.std.proofs.Math.Seq.{take-length}
use Rattle.qq_base.proofs.Lists.{AllByRecursion-in, In-filter}
use Rattle.qq_base.specs.Causes.{Rose}
use Rattle.qq_base.specs.declared.ids.QueueId.{QueueId}
use Rattle.qq_disk.proofs.Moments.{adds-none}
use Rattle.qq_disk.specs.Disk.{now}
use Rattle.qq_disk.specs.Facts.{DiskFacts}
use Rattle.qq_log.specs.Stable.{Stable, new_state, no_snapshot, stable}
use Rattle.qq_log.specs.declared.op.Op.{Op}
use Rattle.qq_lots.proofs.Counts.{state-count}
use Rattle.qq_lots.specs.Kept.{KeepsPromised}
use Rattle.qq_lots.specs.Left.{AllBetween, IsBetween, state_in}
use Rattle.qq_lots.specs.Lots.{Lot, Parts, ids_of}
use Rattle.qq_node_log.specs.Steps.{AlwaysKeeps}
use Rattle.qq_raft_model.specs.Group.{Group, Seat, has_node}
use Rattle.qq_raft_model.specs.Promises.{IsPlain}
use Rattle.qq_raft_protocol.specs.Facts.{In}
use Rattle.qq_recover.specs.Reading.{lanes_read, shown}
use Rattle.qq_route.specs.declared.queue_row.QueueRow.{QueueRow}
use Rattle.qq_wal_chain.specs.Lanes.{Lanes}
use Rattle.qq_cluster_model.specs.Cluster.{Setup, members, new_cluster}
use Rattle.qq_cluster_model.specs.ClusterLaws.{HasGroups}
use Rattle.qq_cluster_model.specs.Laws.{IsBegun}
use Rattle.qq_cluster_laws.specs.Linked.{IsLinked, lot_of, parts_at}
use Rattle.qq_cluster_laws.specs.Serves.{GivesUp, Seen}
use Rattle.qq_cluster.specs.Nodes.{seen}
use Rattle.qq_cluster.specs.Setting.{ids_on, is_among}
use Rattle.qq_cluster.specs.declared.nodes.Nodes.{Nodes as Held}
use Rattle.qq_cluster.proofs.Begun.{ids-are}
use Rattle.qq_opening.specs.Opened.{WasRead}
use Rattle.qq_opening.specs.Opening.{AreReadLogs, IsSetupWith, Logs, seat_over, state_read}
use Rattle.qq_opening.specs.Restarting.{AreLinked}
use Rattle.qq_opening.proofs.LaneRead.{to-in}
use Rattle.qq_opening.proofs.RowsOf.{is-among, row-members, row-place}

-- ---- one disk

-- it tells as before, and whatever it kept of a promise it keeps
pub record Keeps (ids : List QueueId) (a b : Seen) : Type 0 where
  pub told : b.tells ≡ a.tells
  pub rises : a.faults ≤ b.faults
  pub keeps : IsTrue a.tells → (lot : Lot) (parts : Parts) → ids ≡ ids_of lot → KeepsPromised lot parts (now a.past)
      → AlwaysKeeps lot parts a.past b.past

pub was-keeps : (ids : List QueueId) (a b : Seen) (lanes : Option Lanes) → WasRead ids a b lanes → Keeps ids a b
was-keeps ids a b lanes was = record { told = was.told; rises = was.rises; keeps = was.keeps }

pub same-keeps : (ids : List QueueId) (a b : Seen) → b ≡ a → Keeps ids a b
same-keeps ids a b same = subst (Keeps ids a) (sym same) (record {
  told = refl;
  rises = omega arith;
  keeps = λ tell lot parts e promised. (adds-none (KeepsPromised lot parts) a.past, promised);
})

-- what recovery reads of it, and that this lies between what was synced and what was given; or the disk has failed
abbrev pub IsReadOf : List QueueId → (a b : Seen) → Option Lanes → Type 0
IsReadOf ids a b None = Rose a.faults b.faults
IsReadOf ids a b (Some lanes) =
    (IsTrue a.tells → lanes_read ids (shown (now a.past)) ≡ Ok lanes)
    × (IsTrue a.tells → (lot : Lot) (parts : Parts) → ids ≡ ids_of lot → KeepsPromised lot parts (now a.past)
    → AllBetween lot parts lanes)

pub was-read_of : (ids : List QueueId) (a b : Seen) (lanes : Option Lanes) → WasRead ids a b lanes
    → IsReadOf ids a b lanes
was-read_of ids a b None was = was.read
was-read_of ids a b (Some lanes) was = (was.read.0, was.read.1)

-- ---- logs that support an audit

-- a log of them that comes to a state
pub record IsStateOf (s : Stable) : Type 0 where
  pub base : s.base ≡ no_snapshot
  pub snapshot : s.snapshot ≡ 0
  pub unused : s.op ≡ 0 → s ≡ new_state

some-state : (a b : Stable) → Some a ≡ Some b → a ≡ b
some-state a b e = cc

-- whatever a queue may begin with is plain
pub begun-state : (g : Group) (k : ℕ) (ops : List Op) (s : Stable) → IsBegun g → g.seat k ≡ seat_over ops
    → stable ops ≡ Some s → IsStateOf s
begun-state g k ops s begun seat is = by (begun.opened.down.plain k (length ops) low high)
  where
    low : (g.seat k).noticed ≤ length ops
    low = let e = ap (λ (x : Seat). x.noticed) seat in omega (arith, e)

    high : length ops ≤ length (g.seat k).ops
    high = let e = ap (λ (x : Seat). length x.ops) seat in omega (arith, e)

    whole : take (length ops) (g.seat k).ops ≡ ops
    whole = ap (λ (x : Seat). take (length ops) x.ops) seat ∙ take-length ops

    by : IsPlain (length ops) (take (length ops) (g.seat k).ops) → IsStateOf s
    by plain =
        let same = some-state s _ (sym is ∙ ap stable (sym whole) ∙ plain.is) in
        record {
          base = ap (λ (u : Stable). u.base) same;
          snapshot = ap (λ (u : Stable). u.snapshot) same;
          unused = λ none. (let count = state-count ops s is in
              let empty : ops ≡ [] = no-ops ops (omega (arith, count, none)) in
              some-state s new_state (sym is ∙ ap stable empty));
        }
      where
        no-ops : (l : List Op) → length l ≡ 0 → l ≡ []
        no-ops [] e = refl
        no-ops (op ∷ l) e = absurd (omega (arith, e))

-- ---- the disks of a cluster

module _ {D : Type 0} (facts : DiskFacts D) (rows : List QueueRow) (old left : Held D) (logs : Logs) (setup : Setup)
    (sw : IsSetupWith setup rows (length old.nodes.items) logs) where
  ids-same : (k : ℕ) → ids_on rows k ≡ ids_of (lot_of setup k)
  ids-same k = ids-are setup rows sw.places sw.each k

  -- nothing but recoveries has happened
  pub keeps-give_up : ((k : ℕ) → Keeps (ids_on rows k) (seen facts old k) (seen facts left k))
      → GivesUp setup (new_cluster setup) (seen facts old) (seen facts left)
  keeps-give_up each = record {
    events = [];
    no_crash = λ k. tt;
    told = λ k. (each k).told;
    rises = λ k. (each k).rises;
    moments = λ k here tell linked.
        (let kept = (each k).keeps tell (lot_of setup k) (parts_at (new_cluster setup) k)
        (ids-same k) linked.promised in
        (linked.promised, kept.0, kept.1));
  }

  -- what is read of a disk that keeps what the logs promised is these logs
  module _ (groups : HasGroups setup)
      (linked : AreLinked facts setup old (new_cluster setup) setup.nodes) (none : (k : ℕ) → In k setup.nodes
      → Rose (seen facts old k).faults (seen facts left k).faults
      → (place : ℕ) → In place setup.places → logs place k ≡ []) where
    linked-at : (k : ℕ) → In k setup.nodes
        → IsTrue (seen facts old k).tells × IsLinked setup (new_cluster setup) k (now (seen facts old k).past)
    linked-at k here = by setup.nodes linked here
      where
        by : (list : List ℕ) → AreLinked facts setup old (new_cluster setup) list → In k list
            → IsTrue (seen facts old k).tells × IsLinked setup (new_cluster setup) k (now (seen facts old k).past)
        by [] all here = absurd here
        by (j ∷ list) all (inl same) =
            subst (λ (i : ℕ). IsTrue (seen facts old i).tells
            × IsLinked setup (new_cluster setup) i (now (seen facts old i).past)) (sym same) all.0
        by (j ∷ list) all (inr later) = by list all.1 later

    read-at : (k i : ℕ) (row : QueueRow) (lanes : Option Lanes) → In k setup.nodes
        → IsReadOf (ids_on rows k) (seen facts old k) (seen facts left k) lanes
        → slice_get rows i ≡ Some row → is_among k row.members ≡ true
        → stable (logs (i + 1) k) ≡ Some (state_read lanes row.args.queue)
    read-at k i row None here read there member =
        ap stable (none k here read (i + 1) (row-place rows setup sw.places sw.ids sw.each i row there))
    read-at k i row (Some lanes) here read there member =
        whole ∙ ap (λ (s : Stable). Some s)
        (λ j. record (state_in lanes row.args.queue) { snapshot = plain.snapshot j })
      where
        place : In (i + 1) setup.places
        place = row-place rows setup sw.places sw.ids sw.each i row there

        lot : Lot
        lot = lot_of setup k

        parts : Parts
        parts = parts_at (new_cluster setup) k

        link : IsTrue (seen facts old k).tells × IsLinked setup (new_cluster setup) k (now (seen facts old k).past)
        link = linked-at k here

        between-all : AllBetween lot parts lanes
        between-all = read.1 link.0 lot parts (ids-same k) link.1.promised

        between-own : IsBetween (parts (i + 1)) (state_in lanes (lot.id (i + 1)))
        between-own =
            AllByRecursion-in (λ (p : ℕ). IsBetween (parts p) (state_in lanes (lot.id p))) (i + 1) lot.places
            between-all
            (In-filter (λ (p : ℕ). has_node k (members setup p)) (i + 1) setup.places
            (to-in (i + 1) setup.places place)
            (ap (has_node k) (row-members rows setup sw.places sw.ids sw.each i row there)
            ∙ sym (is-among k row.members) ∙ member))

        between : IsBetween (parts (i + 1)) (state_in lanes row.args.queue)
        between =
            subst (λ (id : QueueId). IsBetween (parts (i + 1)) (state_in lanes id))
            (ap (λ args. args.queue) (sym (sw.each i row there).args_is)) between-own

        seat : (setup.group (i + 1)).seat k ≡ seat_over (logs (i + 1) k)
        seat = sw.seats (i + 1) k

        -- all of them are durable
        whole : stable (logs (i + 1) k) ≡ Some (state_in lanes row.args.queue)
        whole =
            let ops = ap (λ (x : Seat). x.ops) seat in
            let noticed = ap (λ (x : Seat). x.noticed) seat in
            let long = ap (λ (x : Seat). length x.ops) seat in
            let least = between.least in
            let most = between.most in
            let count : (state_in lanes row.args.queue).op ≡ length (logs (i + 1) k) =
            omega (arith, noticed, long, least, most) in
            ap stable (sym (take-length (logs (i + 1) k))
            ∙ ap (λ (n : ℕ). take n (logs (i + 1) k)) (sym count)
            ∙ ap (λ (l : List Op). take (state_in lanes row.args.queue).op l) (sym ops))
            ∙ between.is

        plain : IsStateOf (state_in lanes row.args.queue)
        plain = begun-state (setup.group (i + 1)) k (logs (i + 1) k) (state_in lanes row.args.queue)
            (groups (i + 1)) seat whole

    pub linked-read : (n : ℕ) (lanes : ℕ → Option Lanes)
        → ((k : ℕ) → In k (range_with_len 1 n) → In k setup.nodes
        × IsReadOf (ids_on rows k) (seen facts old k) (seen facts left k) (lanes k))
        → AreReadLogs rows (range_with_len 1 n) lanes logs
    linked-read n lanes each k i row here there member =
        let own = each k here in read-at k i row (lanes k) own.0 own.1 there member
