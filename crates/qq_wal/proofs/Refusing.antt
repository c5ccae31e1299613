-- What an error leaves of the log, and of the file that it would have begun.
use Rattle.std.proofs.Common.{◌≡◌, ℕ, Bool, true, false, cond, List, ◌++◌, Result, Option, Some, None, Err, refl, sym, ap, subst, ◌∙◌, inl, inr, is_some, IsTrue}
use Rattle.qq_disk.specs.declared.fault.DiskFault.{DiskFault}
use Rattle.qq_disk.specs.declared.fault.DiskFault.TheVariants.{Failed, Memory as OfMemory}
use Rattle.qq_disk.specs.declared.name.FileName.{FileName}
use Rattle.qq_disk.specs.Disk.{Disk, FileState, IsListed, append, append_target, file_content, grow, new_file, now}
use Rattle.qq_disk.specs.Facts.{DiskFacts}
use Rattle.qq_disk.specs.Fault.{IsCaused as IsDiskCaused}
use Rattle.qq_disk.specs.Image.{log_of}
use Rattle.qq_disk.specs.Moments.{StaysAtWant}
use Rattle.qq_disk.proofs.Names.{set-at}
use Rattle.qq_wal.specs.declared.fault.WalFault.{WalFault}
use Rattle.qq_wal.specs.declared.fault.WalFault.TheVariants.{Disk as DiskFailed, Memory}
use Rattle.qq_wal.specs.declared.wal.Wal.{Wal}
use Rattle.qq_wal.specs.Fault.{IsHalfBegun, StopsAtRoll, fault_of, is_failure, stops_at}
use Rattle.qq_wal.specs.Running.{IsSynced}
use Rattle.qq_wal.specs.Wal.{IsKept, IsOnDisk, IsSound}
use Rattle.qq_wal.proofs.Batches.{told_before}

-- it is sound behind it, stopped or over a disk that is as it was
pub still-sound : {D : Type 0} (facts : DiskFacts D) (w : Wal D) (d : D) (stopped : Bool)
    → IsSound facts w → w.stopped ≡ false → facts.tells d ≡ facts.tells w.disk
    → (IsTrue (facts.tells w.disk) → stopped ≡ false → facts.past d ≡ facts.past w.disk)
    → IsSound facts (record w { disk = d; stopped = stopped })
still-sound facts w d stopped s going same stays = record {
  waiting = s.waiting;
  follow = s.follow;
  queues_are = s.queues_are;
  carries = s.carries;
  number = s.number;
  counted = s.counted;
  named = s.named;
  on_disk = λ told on.
      let before = told_before same told in
      subst (λ (p : List Disk). IsOnDisk w.queues.items w.header w.marks w.size w.numbers (now p))
      (sym (stays before on)) (s.on_disk before going);
  synced = λ told on clean.
      let before = told_before same told in
      subst (λ (p : List Disk). IsSynced w.queues.items w.header (now p)) (sym (stays before on))
      (s.synced before going clean);
  kept = λ told on.
      let before = told_before same told in
      subst (λ (p : List Disk). IsKept w.queues.items w.header w.marks (now p)) (sym (stays before on))
      (s.kept before going);
}

-- where the disk lacked memory alone it did nothing
pub stays-at-want : (old new : List Disk) (fault : DiskFault) (stopped : Bool) → stopped ≡ is_failure fault
    → StaysAtWant old new fault → stopped ≡ false → new ≡ old
stays-at-want old new Failed stopped is stays going = absurd (let e : true ≡ false = sym is ∙ going in cc)
stays-at-want old new (OfMemory m) stopped is stays going = stays

stops-at : (T : Type 0) (before stopped : Bool) (fault : DiskFault) → before ≡ false → stopped ≡ is_failure fault
    → stopped ≡ stops_at {T = T} before (Err (fault_of fault))
stops-at T before stopped Failed was is = is
stops-at T before stopped (OfMemory m) was is = is ∙ sym was

pub stops : (T : Type 0) (before stopped : Bool) (fault : DiskFault) (e : WalFault) → e ≡ fault_of fault
    → before ≡ false → stopped ≡ is_failure fault → stopped ≡ stops_at {T = T} before (Err e)
stops T before stopped fault e same was is =
    subst (λ (e : WalFault). stopped ≡ stops_at {T = T} before (Err e)) (sym same)
    (stops-at T before stopped fault was is)

-- ---- a new file

-- the file to which an append adds isn't removed
target-whole : (o : Option FileState) → (append_target o).removed ≡ false
target-whole None = refl
target-whole (Some f) = by f.removed refl
  where
    by : (t : Bool) → f.removed ≡ t → (cond t new_file f).removed ≡ false
    by true e = refl
    by false e = e

appended-listed : (d : Disk) (file : FileName) (bytes : List ℕ) → IsListed (append d file bytes) file
appended-listed d file bytes =
    subst (λ (b : Bool). IsTrue b)
    (sym (ap (λ (o : Option FileState). is_some (file_content o))
    (set-at d file (Some (grow (append_target (d file)) bytes)))
    ∙ ap (λ (t : Bool). is_some (cond t None (Some ((grow (append_target (d file)) bytes).kept
    ++ (grow (append_target (d file)) bytes).pending)))) (target-whole (d file)))) refl

pub half-at-append : (n : ℕ) (fault : DiskFault) (d : Disk) (half : Bool) → half ≡ is_failure fault → half ≡ true
    → IsHalfBegun n fault d
half-at-append n Failed d half is begun = tt
half-at-append n (OfMemory m) d half is begun = absurd (let e : true ≡ false = sym begun ∙ is in cc)

pub half-at-sync : (n : ℕ) (fault : DiskFault) (bytes : List ℕ) (old mid new : Disk) → mid ≡ append old (log_of n) bytes
    → new ≡ mid → IsHalfBegun n fault new
half-at-sync n Failed bytes old mid new appended same = tt
half-at-sync n (OfMemory m) bytes old mid new appended same =
    subst (λ (d : Disk). IsListed d (log_of n)) (sym (same ∙ appended)) (appended-listed old (log_of n) bytes)

pub failed-at-append : (fault : DiskFault) (half : Bool) → half ≡ is_failure fault → fault ≡ Failed → half ≡ true
failed-at-append Failed half is failed = is
failed-at-append (OfMemory m) half is failed = absurd cc

stops-at-roll : (T : Type 0) (n number : ℕ) (before half : Bool) (fault : DiskFault) (d : Disk) (was now : ℕ)
    → before ≡ false → n ≡ number → (fault ≡ Failed → half ≡ true) → (half ≡ true → IsHalfBegun number fault d)
    → IsDiskCaused was now fault → StopsAtRoll {T = T} n before (Err (fault_of fault)) half d
stops-at-roll T n number before half Failed d was now going same failed begun cause = inl (failed refl)
stops-at-roll T n number before false (OfMemory m) d was now going same failed begun cause = inl (sym going)
stops-at-roll T n number before true (OfMemory m) d was now going same failed begun cause =
    inr (
      λ i. Err (Memory (cause i)),
      refl,
      subst (λ (k : ℕ). IsListed d (log_of k)) (sym same) (begun refl),
    )

pub roll-stops : (T : Type 0) (n number : ℕ) (before half : Bool) (fault : DiskFault) (e : WalFault) (d : Disk)
    (was now : ℕ) → e ≡ fault_of fault → before ≡ false → n ≡ number → (fault ≡ Failed → half ≡ true)
    → (half ≡ true → IsHalfBegun number fault d) → IsDiskCaused was now fault
    → StopsAtRoll {T = T} n before (Err e) half d
roll-stops T n number before half fault e d was now same going number_is failed begun cause =
    subst (λ (e : WalFault). StopsAtRoll {T = T} n before (Err e) half d) (sym same)
    (stops-at-roll T n number before half fault d was now going number_is failed begun cause)

pub roll-failed : (T : Type 0) (fault : DiskFault) (half : Bool) (r : Result T WalFault)
    → (fault ≡ Failed → half ≡ true) → r ≡ Err (fault_of fault) → r ≡ Err DiskFailed → half ≡ true
roll-failed T Failed half r failed is same = failed refl
roll-failed T (OfMemory m) half r failed is same =
    absurd (let e : Err (Memory m) ≡ Err DiskFailed = sym is ∙ same in cc)
