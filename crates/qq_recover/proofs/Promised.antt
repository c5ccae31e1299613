-- Recovery and the promise of the log.
use Rattle.std.proofs.Common.{◌≡◌, ℕ, false, List, Option, Some, Ok, Err, refl, sym, ap, subst, ◌∙◌}
use Rattle.qq_base.specs.declared.ids.QueueId.{QueueId}
use Rattle.qq_disk.specs.Crash.{IsImage, Remains, reopen}
use Rattle.qq_disk.specs.Disk.{Disk, now}
use Rattle.qq_disk.proofs.Moments.{adds-now}
use Rattle.qq_log.specs.declared.op.Op.{Op}
use Rattle.qq_wal_chain.specs.Chain.{Logs, reading}
use Rattle.qq_wal_chain.specs.Format.{IsFormat}
use Rattle.qq_wal_chain.specs.Image.{files_of, is_removed, logs_of}
use Rattle.qq_wal_chain.specs.Lanes.{IsStateOf, Lanes, RecoversLanes, of_queue}
use Rattle.qq_wal_chain.specs.Laws.{IsHonestImage, KeepsPromise, SettlesOn, op_records}
use Rattle.qq_wal_chain.specs.Promise.{found_world}
use Rattle.qq_wal_chain.specs.Wal.{wal}
use Rattle.qq_base.proofs.Fronts.{front-refl, front-same}
use Rattle.qq_wal_chain.proofs.Images.{shown-image}
use Rattle.qq_wal_chain.proofs.Promised.{crash-keeps}
use Rattle.qq_wal_chain.proofs.Queues.{recovers-lanes}
use Rattle.qq_wal_chain.proofs.Recovery.{reopened-image}
use Rattle.qq_wal.specs.Running.{StillHolds, Stays, lanes_shown, top}
use Rattle.qq_recover.specs.declared.fault.RecoverFault.{RecoverFault}
use Rattle.qq_recover.specs.declared.fault.RecoverFault.TheVariants.{Disk as DiskFailed, Damaged, Version, Memory}
use Rattle.qq_recover.specs.Answer.{Answer, Fails, answered}
use Rattle.qq_recover.specs.Reading.{lanes_read, shown}
use Rattle.qq_recover.specs.Recovered.{IsNoRefusal}
use Rattle.qq_recover.specs.Recovery.{IsReadable, MayRecover, SettlesLanes}
use Rattle.qq_recover.proofs.ChainLaws.{lanes-are}

-- ---- each queue's ops

-- what all ops come to, is for each queue what its own come to
same-lanes : (queues : List QueueId) (ops : List Op) (lanes : Lanes)
    → RecoversLanes ops ops (Some lanes) → (id : ℕ) → IsStateOf (of_queue id ops) (lanes id)
same-lanes queues ops lanes r id =
    let lane = r.each id in
    let found : lanes ≡ r.lanes = cc (r.is) in
    subst (λ (l : Lanes). IsStateOf (of_queue id ops) (l id)) (sym found)
    (subst (λ (l : List Op). IsStateOf l (r.lanes id)) (sym (front-same lane.front lane.held))
    lane.is)

-- ---- what recovery settled on

pub settles-lanes : (queues : List QueueId) (noticed given : List Op) (lanes : Lanes) (mid new : List Disk)
    → SettlesOn queues top noticed given (now mid) → lanes_shown queues (now mid) ≡ Some lanes
    → Stays queues mid new → StillHolds queues (now mid) (now new)
    → SettlesLanes queues noticed given lanes (now new)
settles-lanes queues noticed given lanes mid new s shown stays still = record {
  ops = s.ops;
  held = s.held;
  front = s.front;
  each = same-lanes queues s.ops lanes (recovers-lanes queues s.ops s.ops (Some lanes) (record {
    ops = op_records s.ops;
    held = front-refl (op_records s.ops);
    front = front-refl (op_records s.ops);
    world = lanes;
    is = refl;
    value = s.holds ∙ shown;
  }));
  holds = still s.ops s.holds;
  promise = adds-now (KeepsPromise queues top s.ops s.ops) mid new
      (stays (op_records s.ops) (op_records s.ops) s.promise) s.promise;
}

-- ---- a disk that keeps a promise

answered-ok : {A : Type 0} (o : Answer A) (x : A) → answered o ≡ Some x → o ≡ Ok x
answered-ok (Ok y) x e = cc
answered-ok (Err refusal) x e = absurd cc

pub readable : (queues : List QueueId) (laws : IsFormat (wal queues)) (noticed given : List Op) (d : Disk)
    → KeepsPromise queues top noticed given d → IsReadable queues noticed given d
readable queues laws noticed given d keeps =
    let found = found_world (wal queues) ((reading (wal queues) top (shown d)).found) in
    let l : RecoversLanes noticed given found =
    recovers-lanes queues noticed given found (keeps.recovers (shown d) (shown-image (wal queues) laws (files_of d))) in
    record {
      lanes = l.lanes;
      read = answered-ok (lanes_read queues (shown d)) l.lanes (lanes-are queues laws (shown d) ∙ l.is);
      recovers = subst (λ (o : Option Lanes). RecoversLanes noticed given o) l.is l;
    }

-- what was read isn't refused
pub no-refusal : (e : RecoverFault) (read : Answer Lanes) (lanes : Lanes) → read ≡ Ok lanes → Fails e read
    → IsNoRefusal e
no-refusal DiskFailed read lanes is fails = tt
no-refusal (Memory m) read lanes is fails = tt
no-refusal (Damaged file place) read lanes is fails = absurd (cc (sym is ∙ fails))
no-refusal (Version file byte) read lanes is fails = absurd (cc (sym is ∙ fails))

-- ---- which disks may be recovered

pub promised-may : (queues : List QueueId) (noticed given : List Op) (d : Disk)
    → KeepsPromise queues top noticed given d → MayRecover queues d
promised-may queues noticed given d keeps = keeps.alike

-- where no log file is removed, two images that agree on the others are one
pub whole-may : (queues : List QueueId) (d : Disk) → ((n : ℕ) → is_removed (files_of d n) ≡ false)
    → MayRecover queues d
whole-may queues d none one other a b same =
    ap (λ (logs : Logs). reading (wal queues) top logs) (λ i n. same n (none n) i)

pub opened-may : (queues : List QueueId) (i : Remains) → MayRecover queues (reopen i)
opened-may queues i one other a b same =
    ap (λ (logs : Logs). reading (wal queues) top logs)
    (reopened-image (wal queues) (logs_of i) one a ∙ sym (reopened-image (wal queues) (logs_of i) other b))

pub crash-readable : (queues : List QueueId) (laws : IsFormat (wal queues)) (noticed given : List Op) (d : Disk)
    (i : Remains) → KeepsPromise queues top noticed given d → IsImage d i → IsHonestImage queues d i
    → IsReadable queues noticed given (reopen i)
crash-readable queues laws noticed given d i keeps image honest =
    readable queues laws noticed given (reopen i) (crash-keeps queues top noticed given d i keeps image honest)
