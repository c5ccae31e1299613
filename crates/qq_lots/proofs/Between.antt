-- What recovery reads of each queue lies between what is synced and what was given.
use Rattle.std.proofs.Common.{◌≡◌, ◌≤◌, ℕ, List, length, take, Option, Some, sym, ap, ◌∙◌, arith, unwrap_or}
use Rattle.std.specs.List.{AllByRecursion}
use Rattle.std.proofs.Math.Seq.{take-append_seam}
use Rattle.qq_base.specs.Fronts.{IsFront}
use Rattle.qq_base.proofs.Fronts.{front-length, front-trans}
use Rattle.qq_base.proofs.Lists.{AllByRecursion-weaker}
use Rattle.qq_disk.specs.Crash.{Remains, IsImage}
use Rattle.qq_disk.specs.Disk.{Disk}
use Rattle.qq_disk.specs.Moments.{Adds}
use Rattle.qq_disk.proofs.Moments.{adds-weaker}
use Rattle.qq_log.specs.declared.op.Op.{Op}
use Rattle.qq_log.specs.Stable.{Stable, new_state, stable}
use Rattle.qq_wal.specs.Running.{top}
use Rattle.qq_wal_chain.specs.Lanes.{Lanes, RecoversLane, RecoversLanes}
use Rattle.qq_wal_chain.specs.Laws.{IsHonestImage, lanes_read}
use Rattle.qq_wal_chain.proofs.Gives.{state-given}
use Rattle.qq_wal_chain.proofs.Promised.{image-recovers}
use Rattle.qq_lots.specs.Kept.{IsPromised, AllPromised, KeepsPromised}
use Rattle.qq_lots.specs.Left.{IsBetween, AllBetween, LeavesBetween, ReadsBetween, state_in}
use Rattle.qq_lots.specs.Lots.{Lot, Part, Parts, ids_of, ops_at}
use Rattle.qq_lots.proofs.Counts.{state-count}

-- a front of a list is as many of its first items
pub first-items : {A : Type 0} (front whole : List A) → IsFront front whole → front ≡ take (length front) whole
first-items front whole f = sym (ap (take (length front)) f.is ∙ take-append_seam front f.rest)

-- what a queue's lane gives
pub lane-between : (p : Part) (noticed given : List Op) (lane : Option Stable) → IsPromised p noticed given
    → RecoversLane noticed given lane → IsBetween p (unwrap_or lane new_state)
lane-between p noticed given lane is r =
    let state : Stable = unwrap_or lane new_state in
    let value : stable r.ops ≡ Some state = sym (state-given r.ops lane r.is) in
    let count : state.op ≡ length r.ops = state-count r.ops state value in
    let all : IsFront r.ops p.ops = front-trans r.front is.front in
    record {
      least = omega (arith, is.covers, front-length r.held, count);
      most = omega (arith, front-length all, count);
      is = ap (λ (k : ℕ). stable (take k p.ops)) count ∙ ap stable (sym (first-items r.ops p.ops all)) ∙ value;
    }

pub all-between : (lot : Lot) (parts : Parts) (noticed given : List Op) (lanes : Lanes)
    → AllPromised lot parts noticed given
    → ((place : ℕ) → RecoversLane (ops_at lot place noticed) (ops_at lot place given) (lanes (lot.id place).0))
    → AllBetween lot parts lanes
all-between lot parts noticed given lanes each found =
    AllByRecursion-weaker
    (λ (place : ℕ). IsPromised (parts place) (ops_at lot place noticed) (ops_at lot place given))
    (λ (place : ℕ). IsBetween (parts place) (state_in lanes (lot.id place)))
    (λ place is. lane-between (parts place) (ops_at lot place noticed) (ops_at lot place given)
    (lanes (lot.id place).0) is (found place)) lot.places each

-- of one queue, whatever a crash leaves
pub place-between : (lot : Lot) (parts : Parts) (d : Disk) (p : KeepsPromised lot parts d) (place : ℕ)
    → IsPromised (parts place) (ops_at lot place p.noticed) (ops_at lot place p.given)
    → (image : Remains) → IsImage d image → IsHonestImage (ids_of lot) d image
    → (lanes : Lanes) × (lanes_read (ids_of lot) top image ≡ Some lanes)
    × IsBetween (parts place) (state_in lanes (lot.id place))
place-between lot parts d p place is image is_image honest =
    let found : RecoversLanes p.noticed p.given (lanes_read (ids_of lot) top image) =
    image-recovers (ids_of lot) top p.noticed p.given d p.promise image is_image honest in (
      found.lanes,
      found.is,
      lane-between (parts place) (ops_at lot place p.noticed) (ops_at lot place p.given)
          (found.lanes (lot.id place).0) is (found.each (lot.id place).0),
    )

-- of each
pub leaves-between : (lot : Lot) (parts : Parts) (d : Disk) → KeepsPromised lot parts d → LeavesBetween lot parts d
leaves-between lot parts d p image is_image honest =
    let found : RecoversLanes p.noticed p.given (lanes_read (ids_of lot) top image) =
    image-recovers (ids_of lot) top p.noticed p.given d p.promise image is_image honest in
    record {
      lanes = found.lanes;
      is = found.is;
      each = all-between lot parts p.noticed p.given found.lanes p.each (λ place. found.each (lot.id place).0);
    }

pub moments-between : (lot : Lot) (parts : Parts) (old new : List Disk) → Adds (KeepsPromised lot parts) old new
    → Adds (LeavesBetween lot parts) old new
moments-between lot parts old new adds =
    adds-weaker (KeepsPromised lot parts) (LeavesBetween lot parts) old new (leaves-between lot parts) adds

pub between-words : (lot : Lot) (parts : Parts) (d : Disk) (image : Remains) → KeepsPromised lot parts d
    → IsImage d image → IsHonestImage (ids_of lot) d image
    → (lanes : Lanes) × (lanes_read (ids_of lot) top image ≡ Some lanes)
    × AllByRecursion (λ (place : ℕ). ((parts place).synced ≤ (state_in lanes (lot.id place)).op)
    × ((state_in lanes (lot.id place)).op ≤ length (parts place).ops)
    × (stable (take (state_in lanes (lot.id place)).op (parts place).ops) ≡ Some (state_in lanes (lot.id place))))
    lot.places
between-words lot parts d image p is_image honest =
    let r : ReadsBetween lot parts (lanes_read (ids_of lot) top image) =
    leaves-between lot parts d p image is_image honest in (
      r.lanes,
      r.is,
      AllByRecursion-weaker (λ (place : ℕ). IsBetween (parts place) (state_in r.lanes (lot.id place)))
          (λ (place : ℕ). ((parts place).synced ≤ (state_in r.lanes (lot.id place)).op)
          × ((state_in r.lanes (lot.id place)).op ≤ length (parts place).ops)
          × (stable (take (state_in r.lanes (lot.id place)).op (parts place).ops)
          ≡ Some (state_in r.lanes (lot.id place)))) (λ place is. (is.least, is.most, is.is)) lot.places r.each,
    )
