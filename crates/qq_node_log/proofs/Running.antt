-- Parts are those of the lot's queues: what is said of some is said of others that are equal there.
use Rattle.std.proofs.Common.{◌≡◌, ℕ, List, sym, ap, subst, ◌∙◌}
use Rattle.std.specs.List.{AllByRecursion}
use Rattle.qq_disk.specs.Disk.{Disk}
use Rattle.qq_disk.specs.Facts.{DiskFacts}
use Rattle.qq_disk.specs.Moments.{Adds}
use Rattle.qq_disk.proofs.Moments.{adds-weaker}
use Rattle.qq_lots.specs.Kept.{IsPromised, KeepsPromised}
use Rattle.qq_lots.specs.Lots.{Lot, Part, Parts, ops_at}
use Rattle.qq_lots.proofs.Each.{all-both}
use Rattle.qq_wal.specs.Wal.{carries_ahead}
use Rattle.qq_node_log.specs.declared.node_log.NodeLog.{NodeLog}
use Rattle.qq_node_log.specs.declared.node_log.NodeLog.TheVariants.{Open, Closed}
use Rattle.qq_node_log.specs.Ends.{IsCarryOf, ends}
use Rattle.qq_node_log.specs.Log.{IsRunningIn}

pub running-same : {D : Type 0} (facts : DiskFacts D) (lot : Lot) (parts later : Parts) (log : NodeLog D)
    → AllByRecursion (λ (place : ℕ). (later place).ops ≡ (parts place).ops) lot.places
    → IsRunningIn facts lot parts log → IsRunningIn facts lot later log
running-same facts lot parts later (Open wal) same run = record {
  sound = run.sound;
  queues_are = run.queues_are;
  waiting = run.waiting;
  going = run.going;
  newest = run.newest;
  carries = all-both (λ (place : ℕ). (later place).ops ≡ (parts place).ops)
      (λ (place : ℕ). IsCarryOf (lot.id place) (carries_ahead wal) (parts place).ops)
      (λ (place : ℕ). IsCarryOf (lot.id place) (carries_ahead wal) (later place).ops)
      (λ place is own. ap ends is ∙ own) lot.places same run.carries;
}
running-same facts lot parts later (Closed disk) same run = absurd run

pub promised-same : (lot : Lot) (parts later : Parts) (d : Disk)
    → AllByRecursion (λ (place : ℕ). later place ≡ parts place) lot.places → KeepsPromised lot parts d
    → KeepsPromised lot later d
promised-same lot parts later d same p = record {
  noticed = p.noticed;
  given = p.given;
  each = all-both (λ (place : ℕ). later place ≡ parts place)
      (λ (place : ℕ). IsPromised (parts place) (ops_at lot place p.noticed) (ops_at lot place p.given))
      (λ (place : ℕ). IsPromised (later place) (ops_at lot place p.noticed) (ops_at lot place p.given))
      (λ place is own. subst (λ (q : Part). IsPromised q (ops_at lot place p.noticed) (ops_at lot place p.given))
      (sym is) own) lot.places same p.each;
  promise = p.promise;
}

pub moments-same : (lot : Lot) (parts later : Parts) (old new : List Disk)
    → AllByRecursion (λ (place : ℕ). later place ≡ parts place) lot.places → Adds (KeepsPromised lot parts) old new
    → Adds (KeepsPromised lot later) old new
moments-same lot parts later old new same adds =
    adds-weaker (KeepsPromised lot parts) (KeepsPromised lot later) old new
    (λ d p. promised-same lot parts later d same p) adds
