-- The laws of the log, from the lemmas on any format.
use Rattle.std.proofs.Common.{◌≡◌, ◌≢◌, ℕ, zero, suc, false, eqb, List, [], ◌++◌, Option, Some, None, refl, sym, ap, subst, inr, length, arith, ◌∙◌}
use Rattle.std.proofs.lemmas.List.{map-append, take_all}
use Rattle.std.specs.List.{AllByRecursion}
use Rattle.qq_base.proofs.Lists.{AllByRecursion-append}
use Rattle.qq_base.specs.declared.ids.QueueId.{QueueId}
use Rattle.qq_disk.specs.Disk.{Disk, FileState, IsListing, now, append, sync}
use Rattle.qq_disk.specs.Moments.{Adds, IsAppending, IsRemoving}
use Rattle.qq_disk.specs.Crash.{Remains, MayLeave, IsImage, reopen}
use Rattle.qq_disk.specs.Image.{log_of}
use Rattle.qq_disk.proofs.Moments.{adds-weaker}
use Rattle.qq_log.specs.declared.op.Op.{Op}
use Rattle.qq_wal_record.specs.declared.record.LogRecord.{LogRecord}
use Rattle.qq_wal_record.specs.declared.record.LogRecord.TheVariants.{Op as OpRecord}
use Rattle.qq_disk.specs.declared.name.FileName.{FileName}
use Rattle.qq_base.specs.Fronts.{IsFront}
use Rattle.qq_wal_chain.specs.Format.{Format, IsFormat}
use Rattle.qq_wal_chain.specs.Records.{encode_all, replay}
use Rattle.qq_wal_chain.specs.Chain.{Logs, Found, newest, read_chain, reading}
use Rattle.qq_wal_chain.specs.Image.{MayLeaveLog, IsLogImage, files_of, logs_of}
use Rattle.qq_wal_chain.specs.Promise.{Holds, Promises, StaysPromised, sync_all, IsRunning, found_world}
use Rattle.qq_wal_chain.specs.Wal.{wal, WholeHeader}
use Rattle.qq_wal_chain.specs.Laws.{KeepsPromise, HoldsOps, IsHonestImage, IsRecoverable, SettlesOn, lanes_read, op_records, batch_bytes, AreSound, AreWritable}
use Rattle.qq_base.proofs.Fronts.{front-refl}
use Rattle.qq_wal_chain.proofs.Replays.{IsSome}
use Rattle.qq_wal_chain.proofs.Walk.{chain-none, nothing}
use Rattle.qq_wal_chain.proofs.Recovery.{again-keeps, opened-keeps}
use Rattle.qq_wal_chain.proofs.Calls.{append-moment, append-done, append-holds, remove-moment, sync-noticed}
use Rattle.qq_wal_chain.proofs.Queues.{mapped-front, mapped-tail, recovers-lanes, same_op}
use Rattle.qq_wal_chain.proofs.Settling.{steady-settled, sync_all-keeps, sync_all-steady}

-- an image under the premise is one of the log files
pub log-image : (queues : List QueueId) (d : Disk) (i : Remains) → IsImage d i → IsHonestImage queues d i
    → IsLogImage (wal queues) (files_of d) (logs_of i)
log-image queues d i image honest n = by (d (log_of n)) refl (i (log_of n)) refl (image (log_of n))
  where
    by : (o : Option FileState) → d (log_of n) ≡ o → (p : Option (List ℕ)) → i (log_of n) ≡ p → MayLeave o p
        → MayLeaveLog (wal queues) n o p
    by None one None other left = tt
    by None one (Some bytes) other left = absurd left
    by (Some f) one None other left = left
    by (Some f) one (Some bytes) other left = (left, honest n f bytes one other)

pub image-recovers : (queues : List QueueId) (bound : ℕ) (noticed given : List Op) (d : Disk)
    → KeepsPromise queues bound noticed given d → IsRecoverable queues bound noticed given d
image-recovers queues bound noticed given d keeps i image honest =
    recovers-lanes queues noticed given (lanes_read queues bound i)
    (keeps.recovers (logs_of i) (log-image queues d i image honest))

pub moments-recover : (queues : List QueueId) (bound : ℕ) (noticed given : List Op) (old new : List Disk)
    → Adds (KeepsPromise queues bound noticed given) old new → Adds (IsRecoverable queues bound noticed given) old new
moments-recover queues bound noticed given old new a =
    adds-weaker (KeepsPromise queues bound noticed given) (IsRecoverable queues bound noticed given) old new
    (image-recovers queues bound noticed given) a

pub crash-keeps : (queues : List QueueId) (bound : ℕ) (noticed given : List Op) (d : Disk) (i : Remains)
    → KeepsPromise queues bound noticed given d
    → IsImage d i → IsHonestImage queues d i → KeepsPromise queues bound noticed given (reopen i)
crash-keeps queues bound noticed given d i keeps image honest =
    again-keeps (wal queues) bound (op_records noticed) (op_records given) (files_of d) (logs_of i) keeps
    (log-image queues d i image honest)

newest-none : (F : Format) (b : ℕ) → newest F b (λ n. None) ≡ 0
newest-none F zero = refl
newest-none F (suc b) = newest-none F b

pub empty-keeps : (queues : List QueueId) (bound : ℕ) → KeepsPromise queues bound [] [] (λ file. None)
empty-keeps queues bound =
    let none : Logs = λ n. None in
    let found : (reading (wal queues) bound none).found ≡ nothing (wal queues) =
    ap (λ (k : ℕ). (read_chain (wal queues) bound none k).found) (newest-none (wal queues) bound)
    ∙ chain-none (wal queues) bound none 0 in
    opened-keeps (wal queues) bound [] [] none (record {
      ops = [];
      held = front-refl [];
      front = front-refl [];
      world = (wal queues).start;
      is = ap (λ (f : Option (Found (wal queues))). found_world (wal queues) f) found;
      value = refl;
    })

both_records : (given batch : List Op) → op_records (given ++ batch) ≡ op_records given ++ op_records batch
both_records given batch = map-append OpRecord given batch

module _ (queues : List QueueId) (laws : IsFormat (wal queues)) (bound n : ℕ) (h : WholeHeader)
    (before : Found (wal queues))
    (kept pending : List LogRecord) where
  pub append-promised : (noticed given batch : List Op) (old new : List Disk)
      → IsRunning (wal queues) bound n h before kept pending (now old)
      → KeepsPromise queues bound noticed given (now old)
      → HoldsOps queues bound given (now old) → AreSound queues (given ++ batch) → AreWritable n batch
      → Adds (IsAppending (now old) (log_of n) (batch_bytes queues n batch)) old new
      → Adds (KeepsPromise queues bound noticed (given ++ batch)) old new
  append-promised noticed given batch old new running keeps holds sound fits a =
      let some : IsSome (wal queues) (replay (wal queues) (op_records given ++ op_records batch)
      (Some (wal queues).start)) = record {
        world = sound.0;
        is =
            ap (λ (l : List LogRecord). replay (wal queues) l (Some (wal queues).start))
            (sym (both_records given batch))
            ∙ sound.1;
      } in
      adds-weaker (IsAppending (now old) (log_of n) (batch_bytes queues n batch))
      (KeepsPromise queues bound noticed (given ++ batch)) old new
      (λ e m. subst (λ (l : List LogRecord). Promises (wal queues) bound (op_records noticed) l e)
      (sym (both_records given batch)) (append-moment (wal queues) laws bound n h before kept
      pending (now old) running.log running.fit (op_records noticed) (op_records given) (op_records batch) e keeps
      holds some fits m)) a

  pub append-runs : (batch : List Op) (d e : Disk) → IsRunning (wal queues) bound n h before kept pending d
      → AreWritable n batch
      → e ≡ append d (log_of n) (batch_bytes queues n batch)
      → IsRunning (wal queues) bound n h before kept (pending ++ op_records batch) e
  append-runs batch d e running fits same = record {
    log = append-done (wal queues) laws bound n h before kept pending d running.log running.fit
        (op_records batch) e same;
    fit = AllByRecursion-append ((wal queues).Fits n) pending (op_records batch) running.fit fits;
  }

  pub append-given : (given batch : List Op) (d e : Disk) → IsRunning (wal queues) bound n h before kept pending d
      → AreWritable n batch → HoldsOps queues bound given d → e ≡ append d (log_of n) (batch_bytes queues n batch)
      → HoldsOps queues bound (given ++ batch) e
  append-given given batch d e running fits holds same =
      ap (λ (l : List LogRecord). replay (wal queues) l (Some (wal queues).start)) (both_records given batch)
      ∙ append-holds (wal queues) laws bound n h before kept pending d running.log running.fit
      (op_records given) (op_records batch) e (AllByRecursion-append ((wal queues).Fits n) pending
      (op_records batch) running.fit fits) holds same

pub remove-promised : (queues : List QueueId) (laws : IsFormat (wal queues)) (bound n m : ℕ) (h : WholeHeader)
    (before : Found (wal queues))
    (kept pending : List LogRecord) (old new : List Disk)
    → IsRunning (wal queues) bound n h before kept pending (now old)
    → m ≢ n → AllByRecursion (λ (k : ℕ). eqb m k ≡ false) before.files
    → Adds (IsRemoving (now old) (log_of m)) old new → StaysPromised (wal queues) bound old new
remove-promised queues laws bound n m h before kept pending old new running apart outside a noticed given keeps =
    adds-weaker (IsRemoving (now old) (log_of m)) (Promises (wal queues) bound noticed given) old new
    (λ e r. remove-moment (wal queues) laws bound n h before kept
    (encode_all (wal queues) n pending) (now old) running.log m apart outside noticed given e keeps r) a

-- recovery settles on some of the given ops
pub settles : (queues : List QueueId) (laws : IsFormat (wal queues)) (bound : ℕ) (noticed given : List Op) (d : Disk)
    (names : List FileName) → IsListing d names → KeepsPromise queues bound noticed given d
    → SettlesOn queues bound noticed given (sync_all d names)
settles queues laws bound noticed given d names listing keeps =
    let here = sync_all-keeps (wal queues) laws bound (op_records noticed) (op_records given) names
    d keeps in
    let steady = sync_all-steady (wal queues) laws bound (op_records noticed) (op_records given) d
    names listing keeps in
    let s = steady-settled (wal queues) laws bound (op_records noticed) (op_records given)
    (sync_all d names) steady here in
    let m = mapped-front OpRecord s.ops given s.front in
    record {
      ops = m.items;
      held = mapped-tail OpRecord same_op noticed m.items
          (subst (λ (l : List LogRecord). IsFront (op_records noticed) l) m.is s.held);
      front = m.front;
      holds = subst (λ (l : List LogRecord). Holds (wal queues) bound l (sync_all d names)) m.is s.holds;
      promise = subst (λ (l : List LogRecord). Promises (wal queues) bound l l (sync_all d names)) m.is s.promise;
    }

-- what was appended and synced is in each image
pub stored : (queues : List QueueId) (laws : IsFormat (wal queues)) (bound n : ℕ) (h : WholeHeader)
    (before : Found (wal queues))
    (kept pending : List LogRecord) (noticed given batch : List Op) (d mid e : Disk)
    → IsRunning (wal queues) bound n h before kept pending d → KeepsPromise queues bound noticed given d
    → HoldsOps queues bound given d → AreSound queues (given ++ batch) → AreWritable n batch
    → mid ≡ append d (log_of n) (batch_bytes queues n batch) → e ≡ sync mid (log_of n)
    → IsRecoverable queues bound (given ++ batch) (given ++ batch) e
stored queues laws bound n h before kept pending noticed given batch d mid e running keeps holds sound fits first
    second =
    let runs = append-runs queues laws bound n h before kept pending batch d mid running fits first in
    let some : IsSome (wal queues) (replay (wal queues) (op_records given ++ op_records batch)
    (Some (wal queues).start)) = record {
      world = sound.0;
      is =
          ap (λ (l : List LogRecord). replay (wal queues) l (Some (wal queues).start))
          (sym (both_records given batch))
          ∙ sound.1;
    } in
    let all = length (batch_bytes queues n batch) in
    let moment : IsAppending d (log_of n) (batch_bytes queues n batch) mid =
    inr (
      all,
      first ∙ ap (λ (bs : List ℕ). append d (log_of n) bs)
          (sym (take_all all (batch_bytes queues n batch) (omega arith))),
    ) in
    let kept_so = append-moment (wal queues) laws bound n h before kept pending d running.log
    running.fit (op_records noticed) (op_records given) (op_records batch) mid keeps holds some fits moment in
    let promised : KeepsPromise queues bound noticed (given ++ batch) mid =
    subst (λ (l : List LogRecord). Promises (wal queues) bound (op_records noticed) l mid)
    (sym (both_records given batch)) kept_so in
    let held = append-given queues laws bound n h before kept pending given batch d mid running fits holds first in
    image-recovers queues bound (given ++ batch) (given ++ batch) e
    (sync-noticed (wal queues) laws bound n h before kept (pending ++ op_records batch) mid
    runs.log runs.fit (op_records noticed) (op_records (given ++ batch)) e promised held second)
