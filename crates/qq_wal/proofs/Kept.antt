-- Ops that were appended and then synced.
use Rattle.std.proofs.Common.{◌≡◌, ℕ, List, ◌++◌, take, sym, ap, subst, ◌∙◌}
use Rattle.std.specs.List.{fold}
use Rattle.std.proofs.lemmas.List.{map-append, take-map}
use Rattle.qq_base.specs.declared.ids.QueueId.{QueueId}
use Rattle.qq_disk.specs.Disk.{Disk, now}
use Rattle.qq_disk.specs.Moments.{Adds}
use Rattle.qq_disk.proofs.Moments.{adds-now}
use Rattle.qq_log.specs.declared.op.Op.{Op}
use Rattle.qq_wal_record.specs.declared.record.LogRecord.{LogRecord}
use Rattle.qq_wal_record.specs.declared.record.LogRecord.TheVariants.{Op as OpRecord}
use Rattle.qq_base.specs.Fronts.{IsFront}
use Rattle.qq_wal_chain.specs.Image.{files_of}
use Rattle.qq_wal_chain.specs.Laws.{HoldsOps, KeepsPromise, op_records}
use Rattle.qq_wal_chain.specs.Wal.{wal}
use Rattle.qq_base.proofs.Fronts.{front-refl}
use Rattle.qq_wal_chain.proofs.Keeping.{keeps-weaker}
use Rattle.qq_wal.specs.declared.marks.Mark.{Mark}
use Rattle.qq_wal.specs.Notices.{Tell, note_record}
use Rattle.qq_wal.specs.Running.{HoldsAlso, MayNotice, Stays, StaysGiving, top}
use Rattle.qq_wal.specs.Wal.{StaysAppending}
use Rattle.qq_wal.proofs.Told.{tell-more}

module _ (queues : List QueueId) (batch noticed given : List Op) (old appended synced : List Disk)
    (keeps : KeepsPromise queues top noticed given (now old)) where
  -- more may be given at any time
  wider : KeepsPromise queues top noticed (given ++ batch) (now old)
  wider =
      let more : IsFront (op_records given) (op_records (given ++ batch)) =
      record { rest = op_records batch; is = map-append OpRecord given batch } in
      keeps-weaker (wal queues) top (op_records noticed) (op_records given) (op_records noticed)
      (op_records (given ++ batch)) (files_of (now old)) (front-refl (op_records noticed)) more keeps

  pub kept-behind : HoldsOps queues top given (now old) → StaysGiving queues batch old appended
      → HoldsAlso queues batch (now old) (now appended) → MayNotice queues (now appended) (now synced)
      → KeepsPromise queues top (given ++ batch) (given ++ batch) (now synced)
  kept-behind holds stays also may =
      may noticed (given ++ batch)
      (adds-now (KeepsPromise queues top noticed (given ++ batch)) old appended (stays noticed given keeps holds) wider)
      (also given holds)

-- ---- as far as a call came

pub appended-tell : (queues : List QueueId) (ops batch : List Op) (rs : List LogRecord) (old new : List Mark)
    → new ≡ fold note_record old rs → op_records batch ≡ rs → Tell queues old ops → Tell queues new (ops ++ batch)
appended-tell queues ops batch rs old new noted are told =
    subst (λ (l : List Mark). Tell queues l (ops ++ batch))
    (ap (λ (l : List LogRecord). fold note_record old l) are ∙ sym noted) (tell-more batch queues old ops told)

pub failed-keeps : (queues : List QueueId) (noticed given ops : List Op) (old new : List Disk)
    → KeepsPromise queues top noticed given (now old) → HoldsOps queues top given (now old)
    → StaysAppending queues (op_records ops) old new → (count : ℕ)
    × Adds (KeepsPromise queues top noticed (given ++ take count ops)) old new
    × KeepsPromise queues top noticed (given ++ take count ops) (now new)
failed-keeps queues noticed given ops old new keeps holds s =
    let part = take s.count ops in
    let a = s.stays part (sym (take-map OpRecord s.count ops)) noticed given keeps holds in (
      s.count,
      a,
      adds-now (KeepsPromise queues top noticed (given ++ part)) old new a
          (wider queues part noticed given old old old keeps),
    )

pub stays-keeps : (queues : List QueueId) (noticed given : List Op) (old new : List Disk)
    → KeepsPromise queues top noticed given (now old) → Stays queues old new
    → Adds (KeepsPromise queues top noticed given) old new × KeepsPromise queues top noticed given (now new)
stays-keeps queues noticed given old new keeps stays =
    let a = stays (op_records noticed) (op_records given) keeps in
    (a, adds-now (KeepsPromise queues top noticed given) old new a keeps)
