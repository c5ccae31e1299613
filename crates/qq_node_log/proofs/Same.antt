-- What each call leaves of the log, call after call.
use Rattle.std.proofs.Common.{◌≡◌, ◌≤◌, ◌++◌, List, [], refl, sym, ap, ◌∙◌, subst, arith, append_assoc}
use Rattle.std.specs.Global.{Vec}
use Rattle.std.specs.Prelude.{IsTrue}
use Rattle.qq_base.specs.declared.ids.QueueId.{QueueId}
use Rattle.qq_disk.specs.Disk.{Disk}
use Rattle.qq_disk.specs.Facts.{DiskFacts}
use Rattle.qq_disk.specs.declared.name.FileName.{FileName}
use Rattle.qq_disk.proofs.Stored.{still_tells}
use Rattle.qq_wal.specs.declared.wal.Wal.{Wal}
use Rattle.qq_wal.specs.declared.numbers.Numbers.{Numbers}
use Rattle.qq_wal.specs.Running.{StaysBeside}
use Rattle.qq_wal.specs.Wal.{IsRolled, IsSound, SameFile}
use Rattle.qq_wal_record.specs.declared.header.Header.{Header}
use Rattle.qq_node_log.specs.Log.{IsGrown, IsInNewest, IsLater, SameLog, StillWhole}
use Rattle.qq_node_log.specs.Steps.{SameDisk}

-- moments that came in a call
pub beside-grown : (old new : List Disk) (file : FileName) → StaysBeside file old new → IsGrown old new
beside-grown old new file adds = (adds.more, adds.is)

pub grown-then : (old mid new : List Disk) → IsGrown old mid → IsGrown mid new → IsGrown old new
grown-then old mid new first second =
    (second.0 ++ first.0, second.1 ∙ ap (λ (l : List Disk). second.0 ++ l) first.1 ∙ sym (append_assoc second.0 first.0 old))

-- in the same file
pub same-newest : {D : Type 0} (old new : Wal D) → SameFile old new → IsInNewest old → IsInNewest new
same-newest old new file newest =
    ap (λ (n : Numbers). n.log) file.numbers ∙ newest ∙ sym (ap (λ (h : Header). h.file) file.header)

-- in the one that a full one was replaced by
pub rolled-newest : {D : Type 0} (old new : Wal D) → IsRolled old new → IsInNewest new
rolled-newest old new rolled =
    ap (λ (n : Numbers). n.log) rolled.numbers ∙ sym (ap (λ (h : Header). h.file) rolled.header)

-- or in the old one still
pub kept-newest : {D : Type 0} (old new : Wal D) → new ≡ record old { disk = new.disk; stopped = new.stopped }
    → IsInNewest old → IsInNewest new
kept-newest {D} old new same newest = subst (λ (w : Wal D). IsInNewest w) (sym same) newest

-- a log's disk is later
pub same-later : {D : Type 0} (facts : DiskFacts D) (old new : Wal D)
    → SameLog facts old new → IsLater facts old.disk new.disk
same-later facts old new same = record { told = same.told; grown = same.grown }

pub same-none : {D : Type 0} (facts : DiskFacts D) (wal : Wal D) → IsSound facts wal → SameLog facts wal wal
same-none facts wal sound = record {
  sound = sound;
  queues = refl;
  ahead = refl;
  told = refl;
  later = omega arith;
  whole = λ tell whole. whole;
  grown = λ tell. ([], refl);
  newest = λ newest. newest;
}

pub same-then : {D : Type 0} (facts : DiskFacts D) (old mid new : Wal D)
    → SameLog facts old mid → SameLog facts mid new → SameLog facts old new
same-then facts old mid new first second = record {
  sound = second.sound;
  queues = second.queues ∙ first.queues;
  ahead = second.ahead ∙ first.ahead;
  told = second.told ∙ first.told;
  later = omega (arith, first.later, second.later);
  whole = λ tell whole. subst (λ (ids : List QueueId). StillWhole facts ids mid.disk new.disk)
      (ap (λ (q : Vec QueueId). q.items) first.queues) second.whole (still_tells first.told tell)
      (first.whole tell whole);
  grown = λ tell. grown-then (facts.past old.disk) (facts.past mid.disk) (facts.past new.disk) (first.grown tell)
      (second.grown (still_tells first.told tell));
  newest = λ newest. second.newest (first.newest newest);
}

-- the disk, where it may be recovered as before
pub disk-same : {D : Type 0} (facts : DiskFacts D) (queues : List QueueId) (old new : D) → facts.tells new
    ≡ facts.tells old → facts.faults old ≤ facts.faults new → StillWhole facts queues old new
    → SameDisk facts queues old new
disk-same facts queues old new told later still = record {
  told = told;
  later = later;
  whole = λ is tell. (let before : IsTrue (facts.tells old) = subst IsTrue told tell in still before (is before));
}

-- so that of the log is the same
pub same-disk : {D : Type 0} (facts : DiskFacts D) (queues : List QueueId) (old new : Wal D) → SameLog facts old new
    → old.queues.items ≡ queues
    → SameDisk facts queues old.disk new.disk
same-disk facts queues old new same are =
    disk-same facts queues old.disk new.disk same.told same.later
    (subst (λ (ids : List QueueId). StillWhole facts ids old.disk new.disk) are same.whole)
