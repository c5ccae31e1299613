-- From what was begun to what recovery answers.
use Rattle.std.proofs.Common.{◌≡◌, ℕ, List, Result, Ok, Err, sym, ap, subst, ◌∙◌}
use Rattle.std.specs.Prelude.{IfErr, IfOk, IsErrAnd, OnOk}
use Rattle.qq_base.specs.Causes.{SpentOnlyWhere}
use Rattle.qq_base.specs.declared.memory.Memory.{Memory as MemoryFault}
use Rattle.qq_disk.specs.declared.name.FileKind.TheVariants.{Log as OfLog}
use Rattle.qq_disk.specs.declared.name.FileName.{FileName}
use Rattle.qq_wal.specs.Numbers.{greatest_number}
use Rattle.qq_base.specs.declared.ids.QueueId.{QueueId}
use Rattle.qq_base.specs.declared.memory.Memory.TheVariants.{Spent, Want}
use Rattle.qq_disk.specs.Disk.{Disk, IsListing, now}
use Rattle.qq_log.specs.declared.op.Op.{Op}
use Rattle.qq_wal_record.specs.declared.header.Header.{Header}
use Rattle.qq_wal_chain.specs.Lanes.{Lanes}
use Rattle.qq_wal.specs.Ranges.{ranges_in}
use Rattle.qq_recover.specs.declared.fault.RecoverFault.{RecoverFault}
use Rattle.qq_recover.specs.declared.fault.RecoverFault.TheVariants.{Disk as DiskFailed, Damaged, Version, Memory}
use Rattle.qq_recover.specs.declared.recovered.Recovered.{Recovered}
use Rattle.qq_recover.specs.declared.start.Start.{Start}
use Rattle.qq_recover.specs.Answer.{Answer, Fails}
use Rattle.qq_recover.specs.Log.{IsNewest}
use Rattle.qq_recover.specs.Reading.{shown}
use Rattle.qq_recover.specs.Recovered.{IsBegunAbove, IsBegunBehind, IsDiskCaused, IsNewLog, IsNoRefusal, IsSpentOn, KnowsLanes, lanes_left, wal_of}
use Rattle.qq_recover.specs.Recovery.{SettlesLanes}
use Rattle.qq_recover.specs.Start.{IsReadOf}
use Rattle.qq_recover.specs.Table.{lanes_of}
use Rattle.qq_recover.proofs.Begun.{begun-knows}

-- ---- where the disk failed or there was no memory

pub disk-fails : {A : Type 0} (before now : ℕ) (e : RecoverFault) (read : Answer A) → IsDiskCaused before now e
    → Fails e read
disk-fails before now DiskFailed read cause = tt
disk-fails before now (Memory m) read cause = tt
disk-fails before now (Damaged file place) read cause = absurd cause
disk-fails before now (Version file byte) read cause = absurd cause

pub disk-no-refusal : (before now : ℕ) (e : RecoverFault) → IsDiskCaused before now e → IsNoRefusal e
disk-no-refusal before now DiskFailed cause = tt
disk-no-refusal before now (Memory m) cause = tt
disk-no-refusal before now (Damaged file place) cause = absurd cause
disk-no-refusal before now (Version file byte) cause = absurd cause

pub disk-unspent : (before now : ℕ) (d : Disk) (e : RecoverFault) → IsDiskCaused before now e → IsSpentOn d e
disk-unspent before now d DiskFailed cause = tt
disk-unspent before now d (Memory Want) cause = tt
disk-unspent before now d (Memory (Spent n)) cause = absurd (cc cause)
disk-unspent before now d (Damaged file place) cause = absurd cause
disk-unspent before now d (Version file byte) cause = absurd cause

-- a number of a log file that is spent is the greatest that is listed
pub spent-told : {A : Type 0} (r : Result A RecoverFault) (m : MemoryFault) (d : Disk) (names : List FileName) (P : Type 0)
    → IsErrAnd r (λ e. e ≡ Memory m) → IsListing d names → SpentOnlyWhere m (greatest_number OfLog names) P
    → IfErr r (IsSpentOn d)
spent-told (Ok x) m d names P is listing cause = tt
spent-told (Err e) m d names P is listing cause = subst (IsSpentOn d) (sym is) (by m cause)
  where
    by : (m : MemoryFault) → SpentOnlyWhere m (greatest_number OfLog names) P → IsSpentOn d (Memory m)
    by Want cause = tt
    by (Spent number) cause = record { names = names; listing = listing; is = cause.0 }

pub err-weaker : {A E : Type 0} (P Q : E → Type 0) (r : Result A E) → IfErr r P → ((e : E) → P e → Q e) → IfErr r Q
err-weaker P Q (Ok x) h w = tt
err-weaker P Q (Err e) h w = w e h

-- ---- where a file was begun

module _ {D : Type 0} (queues : List QueueId) (s : Start) (log_bytes : ℕ)
    (r : Result (Recovered D) (RecoverFault × D)) where
  pub knows-ok : IfOk r (IsBegunAbove queues s.names.items (ranges_in s.ranges) log_bytes) → IfOk r (KnowsLanes queues)
  knows-ok = by r
    where
      by : (r : Result (Recovered D) (RecoverFault × D)) → IfOk r (IsBegunAbove queues s.names.items (ranges_in s.ranges) log_bytes)
          → IfOk r (KnowsLanes queues)
      by (Ok x) begun = begun-knows queues s.names.items log_bytes (ranges_in s.ranges) x begun
      by (Err e) begun = tt

  pub new-ok : IfOk r (IsBegunAbove queues s.names.items (ranges_in s.ranges) log_bytes)
      → IfOk r (IsNewLog queues log_bytes)
  new-ok = by r
    where
      by : (r : Result (Recovered D) (RecoverFault × D))
          → IfOk r (IsBegunAbove queues s.names.items (ranges_in s.ranges) log_bytes) → IfOk r (IsNewLog queues log_bytes)
      by (Ok x) begun = record { names = s.names.items; ranges = ranges_in s.ranges; above = begun }
      by (Err e) begun = tt

  pub lanes-ok : (logs : Answer Lanes) → logs ≡ Ok (lanes_of s.table)
      → IfOk r (λ x. lanes_left x ≡ lanes_of s.table) → IfOk r (λ x. logs ≡ Ok (lanes_left x))
  lanes-ok logs read = by r
    where
      by : (r : Result (Recovered D) (RecoverFault × D)) → IfOk r (λ x. lanes_left x ≡ lanes_of s.table)
          → IfOk r (λ x. logs ≡ Ok (lanes_left x))
      by (Ok x) lanes = read ∙ ap (λ (l : Lanes). Ok l) (sym lanes)
      by (Err e) lanes = tt

  pub begun-ok : (old new : Disk) → IsReadOf queues old new s
      → IfOk r (IsBegunAbove queues s.names.items (ranges_in s.ranges) log_bytes) → IfOk r (λ x. (wal_of x).header ≡ s.header)
      → IfOk r (IsBegunBehind queues log_bytes old)
  begun-ok old new read = by r
    where
      by : (r : Result (Recovered D) (RecoverFault × D)) → IfOk r (IsBegunAbove queues s.names.items (ranges_in s.ranges) log_bytes)
          → IfOk r (λ x. (wal_of x).header ≡ s.header) → IfOk r (IsBegunBehind queues log_bytes old)
      by (Ok x) begun header = record {
        names = s.names.items;
        listing = read.listing;
        ranges = ranges_in s.ranges;
        found = read.ranges;
        above = begun;
        newest = subst (λ (h : Header). IsNewest queues (shown old) h.previous h.good) (sym header) read.newest;
      }
      by (Err e) begun header = tt

  pub settles-ok : (noticed given : List Op) (new : Disk) (P : Type 0) → OnOk r P
      → (P → SettlesLanes queues noticed given (lanes_of s.table) new)
      → IfOk r (λ x. lanes_left x ≡ lanes_of s.table)
      → IfOk r (λ x. SettlesLanes queues noticed given (lanes_left x) new)
  settles-ok noticed given new P held settles = by r held
    where
      by : (r : Result (Recovered D) (RecoverFault × D)) → OnOk r P
          → IfOk r (λ x. lanes_left x ≡ lanes_of s.table)
          → IfOk r (λ x. SettlesLanes queues noticed given (lanes_left x) new)
      by (Ok x) held lanes =
          subst (λ (l : Lanes). SettlesLanes queues noticed given l new) (sym lanes) (settles held)
      by (Err e) held lanes = tt

pub never-ok : {A E : Type 0} (r : Result A E) → ⊥ → OnOk r ⊥
never-ok r none = absurd none
