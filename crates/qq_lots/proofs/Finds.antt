-- What recovery settles on.
use Rattle.std.proofs.Common.{◌≡◌, ℕ, List, length, take, sym, ap, ◌∙◌, arith}
use Rattle.std.specs.Prelude.{nat_eq}
use Rattle.std.proofs.lemmas.List.{take_all}
use Rattle.qq_base.specs.Fronts.{IsFront}
use Rattle.qq_base.specs.declared.ids.QueueId.{QueueId}
use Rattle.qq_base.proofs.Fronts.{front-trans}
use Rattle.qq_base.proofs.Lists.{AllByRecursion-weaker}
use Rattle.qq_disk.specs.Disk.{Disk}
use Rattle.qq_log.specs.declared.op.Op.{Op}
use Rattle.qq_log.specs.Op.{queue}
use Rattle.qq_recover.specs.Recovery.{SettlesLanes}
use Rattle.qq_wal_chain.specs.Lanes.{Lanes, IsStateOf, RecoversLane}
use Rattle.qq_wal_chain.proofs.Gives.{state-given}
use Rattle.qq_wal_chain.proofs.Queues.{front-filter}
use Rattle.qq_lots.specs.Kept.{IsPromised, AllPromised, IsWritten, IsTied}
use Rattle.qq_lots.specs.Left.{AllBetween, ops_found, state_in}
use Rattle.qq_lots.specs.Lots.{Lot, Part, Parts, find, find_each, ids_of, ops_at}
use Rattle.qq_lots.proofs.Between.{all-between, first-items}
use Rattle.qq_lots.proofs.Counts.{state-count}

-- a queue's ops of a front are a front of its ops
ops_at-front : (lot : Lot) (place : ℕ) (front whole : List Op) → IsFront front whole
    → IsFront (ops_at lot place front) (ops_at lot place whole)
ops_at-front lot place front whole f =
    front-filter (λ (op : Op). nat_eq (queue op).0 (lot.id place).0) front whole f

-- each lane is what first ops of its queue give, with all that were noticed among them
settled-lane : (lot : Lot) (noticed given : List Op) (lanes : Lanes) (d : Disk)
    → SettlesLanes (ids_of lot) noticed given lanes d → (place : ℕ)
    → RecoversLane (ops_at lot place noticed) (ops_at lot place given) (lanes (lot.id place).0)
settled-lane lot noticed given lanes d s place = record {
  ops = ops_at lot place s.ops;
  held = ops_at-front lot place noticed s.ops s.held;
  front = ops_at-front lot place s.ops given s.front;
  is = s.each (lot.id place).0;
}

pub settled-at : (lot : Lot) (parts : Parts) (noticed given : List Op) (lanes : Lanes) (d : Disk)
    → AllPromised lot parts noticed given → SettlesLanes (ids_of lot) noticed given lanes d
    → AllBetween lot parts lanes
settled-at lot parts noticed given lanes d each s =
    all-between lot parts noticed given lanes each (settled-lane lot noticed given lanes d s)

found-written : (p : Part) (noticed given ops : List Op) (lanes : Lanes) (id : QueueId) → IsPromised p noticed given
    → IsFront ops given → IsStateOf ops (lanes id.0) → IsWritten (find (state_in lanes id).op p) ops ops
found-written p noticed given ops lanes id is front state =
    let all : IsFront ops p.ops = front-trans front is.front in
    let count : (state_in lanes id).op ≡ length ops =
    state-count ops (state_in lanes id) (sym (state-given ops (lanes id.0) state)) in
    let first : ops ≡ take (state_in lanes id).op p.ops =
    first-items ops p.ops all ∙ ap (λ (k : ℕ). take k p.ops) (sym count) in
    record {
      written = first;
      synced = sym (take_all (length ops) ops (omega arith)) ∙ ap (λ (k : ℕ). take k ops) (sym count)
          ∙ ap (take (state_in lanes id).op) first;
      within = omega (arith, count, ap length first);
    }

-- the log goes on with what was found
pub found-tied : (lot : Lot) (parts : Parts) (noticed given : List Op) (lanes : Lanes) (d : Disk)
    → AllPromised lot parts noticed given → SettlesLanes (ids_of lot) noticed given lanes d
    → IsTied lot (find_each (ops_found lot lanes) parts) d
found-tied lot parts noticed given lanes d each s = record {
  noticed = s.ops;
  given = s.ops;
  each = AllByRecursion-weaker
      (λ (place : ℕ). IsPromised (parts place) (ops_at lot place noticed) (ops_at lot place given))
      (λ (place : ℕ). IsWritten (find (ops_found lot lanes place) (parts place)) (ops_at lot place s.ops)
      (ops_at lot place s.ops))
      (λ place is. found-written (parts place) (ops_at lot place noticed) (ops_at lot place given)
      (ops_at lot place s.ops) lanes (lot.id place) is (ops_at-front lot place s.ops given s.front)
      (s.each (lot.id place).0)) lot.places each;
  holds = s.holds;
  promise = s.promise;
}
