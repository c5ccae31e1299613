-- What a promise gives each queue, and which named images are honest.
use Rattle.std.proofs.Common.{◌≡◌, ◌≤◌, ◌||◌, ℕ, Bool, true, false, not, cond, List, [], ◌∷◌, ◌++◌, length, take, Option, Some, None, sym, ap, subst, ◌∙◌, unwrap_or}
use Rattle.std.proofs.Math.Seq.{take-append_seam}
use Rattle.qq_base.specs.Fronts.{IsFront}
use Rattle.qq_base.proofs.Fronts.{front-length, front-map, front-refl, front-take}
use Rattle.qq_base.specs.declared.ids.QueueId.{QueueId}
use Rattle.qq_disk.specs.declared.name.FileName.{FileName}
use Rattle.qq_disk.specs.declared.image.Image.{Image}
use Rattle.qq_disk.specs.declared.image.Tail.{Tail}
use Rattle.qq_disk.specs.declared.image.Tail.TheVariants.{Cut, Junk, Whole}
use Rattle.qq_disk.specs.Disk.{Disk, FileState}
use Rattle.qq_disk.specs.Image.{image_of, is_file, log_of, remainder, tail_of}
use Rattle.qq_log.specs.declared.op.Op.{Op}
use Rattle.qq_log.specs.Stable.{Stable, new_state, stable}
use Rattle.qq_wal_record.specs.declared.record.LogRecord.TheVariants.{Op as OpRecord}
use Rattle.qq_wal_chain.specs.Format.{IsFormat}
use Rattle.qq_wal_chain.specs.Image.{HasNoJunk, IsHonest, files_of, is_junk}
use Rattle.qq_wal_chain.specs.Lanes.{FirstOpsGive, IsStateOf, Lanes, RecoversLane, RecoversLanes, of_queue}
use Rattle.qq_wal_chain.specs.Laws.{IsHonestImage, KeepsPromise, op_records}
use Rattle.qq_wal_chain.specs.Wal.{wal}
use Rattle.qq_wal_chain.proofs.Honest.{cut-honest}
use Rattle.qq_wal_chain.proofs.Keeping.{keeps-weaker}

-- less noticed, and more given
pub promise-weaker : (queues : List QueueId) (bound : ℕ) (fewer noticed given more : List Op) (d : Disk)
    → IsFront fewer noticed → IsFront given more → KeepsPromise queues bound noticed given d
    → KeepsPromise queues bound fewer more d
promise-weaker queues bound fewer noticed given more d held front keeps =
    keeps-weaker (wal queues) bound (op_records noticed) (op_records given) (op_records fewer) (op_records more)
    (files_of d) (front-map OpRecord fewer noticed held) (front-map OpRecord given more front) keeps

-- ---- one queue

pub state-given : (ops : List Op) (lane : Option Stable) → IsStateOf ops lane → Some (unwrap_or lane new_state) ≡ stable ops
state-given [] lane is = ap (λ (o : Option Stable). Some (unwrap_or o new_state)) is
state-given (op ∷ ops) lane (s, here, comes) =
    ap (λ (o : Option Stable). Some (unwrap_or o new_state)) here ∙ sym comes

pub first-ops : (noticed given : List Op) (lane : Option Stable) → RecoversLane noticed given lane
    → FirstOpsGive (length noticed) given lane
first-ops noticed given lane r = record {
  count = length r.ops;
  least = front-length r.held;
  most = front-length r.front;
  is = state-given r.ops lane r.is
      ∙ ap stable (sym (ap (take (length r.ops)) r.front.is ∙ take-append_seam r.ops r.front.rest));
}

pub first-all : (noticed given : List Op) (found : Option Lanes) → RecoversLanes noticed given found
    → (lanes : Lanes) × (found ≡ Some lanes)
    × ((id : ℕ) → FirstOpsGive (length (of_queue id noticed)) (of_queue id given) (lanes id))
first-all noticed given found r = (
  r.lanes,
  r.is,
  λ id. first-ops (of_queue id noticed) (of_queue id given) (r.lanes id) (r.each id),
)

pub first-words : (low : ℕ) (ops : List Op) (lane : Option Stable) → FirstOpsGive low ops lane
    → (count : ℕ) × (low ≤ count) × (count ≤ length ops) × (stable (take count ops) ≡ Some (unwrap_or lane new_state))
first-words low ops lane f = (f.count, f.least, f.most, sym f.is)

-- ---- images without junk

tail-front : (tail : Tail) (pending : List ℕ) → is_junk tail ≡ false → IsFront (tail_of tail pending) pending
tail-front (Cut count) pending none = front-take count pending
tail-front (Junk bytes) pending none = absurd cc
tail-front Whole pending none = front-refl pending

either-tail : (newest : Bool) (image : Image) → HasNoJunk image
    → is_junk (cond newest image.newest_log image.others) ≡ false
either-tail true image none = none.newest_log
either-tail false image none = none.others

pub no_junk-honest : (queues : List QueueId) → IsFormat (wal queues) → (image : Image) (newest : Option FileName)
    (d : Disk) → HasNoJunk image → IsHonestImage queues d (image_of image newest d)
no_junk-honest queues laws image newest d none n f bytes here left =
    by (image.removed_back || not f.removed)
    (ap (λ (o : Option FileState). remainder image (is_file newest (log_of n)) o) (sym here) ∙ left)
  where
    tail : Tail
    tail = cond (is_file newest (log_of n)) image.newest_log image.others

    by : (b : Bool) → cond b (Some (f.kept ++ tail_of tail f.pending)) None ≡ Some bytes
        → IsHonest (wal queues) n f bytes
    by true e =
        let same : f.kept ++ tail_of tail f.pending ≡ bytes = cc in
        subst (λ (bs : List ℕ). IsHonest (wal queues) n f bs) same
        (cut-honest (wal queues) laws n f (tail_of tail f.pending)
        (tail-front tail f.pending (either-tail (is_file newest (log_of n)) image none)))
    by false e = absurd cc
