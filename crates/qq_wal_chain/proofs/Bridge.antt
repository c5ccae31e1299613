-- From the calls of a disk to its log files.
use Rattle.std.proofs.Common.{◌≡◌, ℕ, false, cond, eqb, List, Option, Some, refl, ap, is_eq, nat_cmp, arith, inl, inr, ◌⊎◌, option_map}
use Rattle.std.proofs.lemmas.Bool.Decides.{nat_tests}
use Rattle.qq_disk.specs.declared.name.FileKind.{FileKind}
use Rattle.qq_disk.specs.declared.name.FileKind.TheVariants.{Log, Segment, Snapshot}
use Rattle.qq_disk.specs.declared.name.FileName.{FileName}
use Rattle.qq_disk.specs.Disk.{Disk, FileState, set, append, sync, remove, append_target, grow, keep, mark_removed}
use Rattle.qq_disk.specs.Name.{same_name}
use Rattle.qq_disk.specs.Image.{log_of}
use Rattle.qq_wal_chain.specs.Image.{files_of, put}

same_number : (n m : ℕ) → is_eq (nat_cmp n m) ≡ eqb n m
same_number n m = grind (arith, nat_tests)

pub same-log : (n m : ℕ) → same_name (log_of n) (log_of m) ≡ eqb n m
same-log n m = same_number n m

-- the log files of a disk with another one of them
pub set-log : (d : Disk) (n : ℕ) (o : Option FileState) → files_of (set d (log_of n) o) ≡ put (files_of d) n o
set-log d n o = λ i m. cond (same-log n m i) o (d (log_of m))

-- and of one with another file of another kind
pub set-other-kind : (d : Disk) (file : FileName) (o : Option FileState)
    → ((n : ℕ) → same_name file (log_of n) ≡ false)
    → files_of (set d file o) ≡ files_of d
set-other-kind d file o apart = λ i m. cond (apart m i) o (d (log_of m))

pub append-log : (d : Disk) (n : ℕ) (bytes : List ℕ)
    → files_of (append d (log_of n) bytes) ≡ put (files_of d) n (Some (grow (append_target (files_of d n)) bytes))
append-log d n bytes = set-log d n (Some (grow (append_target (d (log_of n))) bytes))

pub sync-of-log : (d : Disk) (n : ℕ) → files_of (sync d (log_of n)) ≡ put (files_of d) n
    (option_map keep (files_of d n))
sync-of-log d n = set-log d n (option_map keep (d (log_of n)))

pub remove-of-log : (d : Disk) (n : ℕ)
    → files_of (remove d (log_of n)) ≡ put (files_of d) n (option_map mark_removed (files_of d n))
remove-of-log d n = set-log d n (option_map mark_removed (d (log_of n)))

-- a name is a log's or another kind's
pub record IsLogName (file : FileName) : Type 0 where
  pub number : ℕ
  pub is : file ≡ log_of number

pub which-kind : (file : FileName) → IsLogName file ⊎ ((n : ℕ) → same_name file (log_of n) ≡ false)
which-kind file = by file.kind refl
  where
    by : (k : FileKind) → file.kind ≡ k → IsLogName file ⊎ ((n : ℕ) → same_name file (log_of n) ≡ false)
    by Log e = inl (record { number = file.number; is = λ i. record { kind = e i; number = file.number } })
    by Segment e =
        inr (λ n. ap (λ (k : FileKind). same_name (record { kind = k; number = file.number }) (log_of n)) e)
    by Snapshot e =
        inr (λ n. ap (λ (k : FileKind). same_name (record { kind = k; number = file.number }) (log_of n)) e)

pub apart-kind : (file : FileName) → (file.kind ≡ Log → ⊥) → (n : ℕ) → same_name file (log_of n) ≡ false
apart-kind file other = by file.kind refl
  where
    by : (k : FileKind) → file.kind ≡ k → (n : ℕ) → same_name file (log_of n) ≡ false
    by Log e n = absurd (other e)
    by Segment e n = ap (λ (k : FileKind). same_name (record { kind = k; number = file.number }) (log_of n)) e
    by Snapshot e n = ap (λ (k : FileKind). same_name (record { kind = k; number = file.number }) (log_of n)) e
