-- The numbers of files that were listed.
use Rattle.std.proofs.Common.{◌≡◌, ◌≤◌, ◌<◌, ℕ, zero, suc, Bool, true, false, cond, List, [], ◌∷◌, length, max, refl, sym, subst, arith}
use Rattle.std.specs.Prelude.{Contains, slice_index_or}
use Rattle.std.specs.List.{fold}
use Rattle.qq_disk.specs.declared.name.FileKind.{FileKind}
use Rattle.qq_disk.specs.declared.name.FileKind.TheVariants.{Log, Segment, Snapshot}
use Rattle.qq_disk.specs.declared.name.FileName.{FileName}
use Rattle.qq_wal_record.specs.declared.header.Header.{Header}
use Rattle.qq_wal.specs.Numbers.{first_numbers, greater, greatest_number, number_of, same_kind}

kind-grows : (kind : FileKind) (names : List FileName) (greatest : ℕ)
    → greatest ≤ fold (greater kind) greatest names
kind-grows kind [] greatest = omega arith
kind-grows kind (name ∷ names) greatest = by (same_kind kind name.kind) (kind-grows kind names)
  where
    by : (t : Bool) → ((k : ℕ) → k ≤ fold (greater kind) k names)
        → greatest ≤ fold (greater kind) (cond t (max greatest name.number) greatest) names
    by true later = omega (arith, later (max greatest name.number))
    by false later = later greatest

own-kind : (kind : FileKind) → same_kind kind kind ≡ true
own-kind Log = refl
own-kind Segment = refl
own-kind Snapshot = refl

-- the number of a file that is listed isn't above the greatest of its kind
kind-below : (names : List FileName) (k greatest : ℕ) (file : FileName) → k < length names
    → slice_index_or names k file ≡ file → file.number ≤ fold (greater file.kind) greatest names
kind-below [] k greatest file less is = absurd (omega arith)
kind-below (name ∷ names) zero greatest file less is =
    subst (λ (n : FileName). file.number ≤ fold (greater file.kind) (greater file.kind greatest n) names) (sym is)
    (subst (λ (t : Bool). file.number ≤ fold (greater file.kind) (cond t (max greatest file.number) greatest) names)
    (sym (own-kind file.kind)) (omega (arith, kind-grows file.kind names (max greatest file.number))))
kind-below (name ∷ names) (suc k) greatest file less is =
    kind-below names k (greater file.kind greatest name) file (omega arith) is

pub listed-below : (names : List FileName) (file : FileName) → Contains names file
    → file.number ≤ greatest_number file.kind names
listed-below names file (k, less, is) = kind-below names k 0 file less is

-- nor above that of a log that was begun
pub first-above : (h : Header) (names : List FileName) (file : FileName) → greatest_number Log names < h.file
    → Contains names file → file.number ≤ number_of file.kind (first_numbers h names)
first-above h names file newer has = by file.kind (listed-below names file has)
  where
    by : (kind : FileKind) → file.number ≤ greatest_number kind names
        → file.number ≤ number_of kind (first_numbers h names)
    by Log below = omega (arith, below, newer)
    by Segment below = below
    by Snapshot below = below
