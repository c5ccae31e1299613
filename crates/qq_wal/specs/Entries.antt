-- Where the entries of a queue's log lie, as its ops say and the files to which they were written.
use Rattle.std.specs.Prelude.{◌≡◌, ◌≤◌, ◌<◌, ℕ, zero, suc, List, [], ◌∷◌, ◌++◌, length, take, replicate, Option, Some, None}
use Rattle.std.specs.List.{AllByRecursion}
use Rattle.qq_log.specs.declared.head.Span.{Span}
use Rattle.qq_log.specs.declared.op.Op.{Op}
use Rattle.qq_log.specs.declared.op.Op.TheVariants.{Change, SnapshotMade, SegmentMade}
use Rattle.qq_wal.specs.declared.ranges.QueueRanges.{QueueRanges}
use Rattle.qq_wal.specs.Spans.{Range, find_file, spans_to}

-- The log file of each entry of a queue's log, from the first on, behind an op that is written to file n: those that
-- are kept lie where they lay, and the others in this file.
abbrev pub files_behind : List ℕ → ℕ → Op → List ℕ
files_behind files n (Change id op term vote keep entries) = take keep.0 files ++ replicate (length entries) n
files_behind files n (SnapshotMade id op head file) = files
files_behind files n (SegmentMade id op file first last) = files

-- that of the entry of an index; the first has index 1
abbrev pub file_at : List ℕ → ℕ → Option ℕ
file_at files zero = None
file_at [] (suc index) = None
file_at (n ∷ files) (suc zero) = Some n
file_at (n ∷ files) (suc (suc index)) = file_at files (suc index)

-- the least and the greatest index of the entries that lie in file n, None where none does
abbrev pub IsRangeOf : List ℕ → ℕ → Range → Type 0
IsRangeOf files n None = (index : ℕ) → file_at files index ≡ Some n → ⊥
IsRangeOf files n (Some r) = (file_at files r.0 ≡ Some n) × (file_at files r.1 ≡ Some n)
    × ((index : ℕ) → file_at files index ≡ Some n → (r.0 ≤ index) × (index ≤ r.1))

-- ---- as the log keeps it

-- along a log the files never fall
abbrev pub Rise : List ℕ → Type 0
Rise files = (i j m n : ℕ) → i ≤ j → file_at files i ≡ Some m → file_at files j ≡ Some n → m ≤ n

-- no two runs of entries lie in one file
abbrev pub AreApart : List Span → Type 0
AreApart [] = Unit {0}
AreApart (s ∷ spans) = AllByRecursion (λ (t : Span). s.file ≡ t.file → ⊥) spans × AreApart spans

-- What is kept of a queue says where its entries lie: those in its own file, and those in older ones.
pub record LieAs (files : List ℕ) (q : QueueRanges) : Type 0 where
  pub rise : Rise files
  pub within : (i n : ℕ) → file_at files i ≡ Some n → n ≤ q.file
  pub own : IsRangeOf files q.file q.own
  pub older : (n : ℕ) → (n ≡ q.file → ⊥) → IsRangeOf files n (find_file n (spans_to q.cut q.older))
  pub before : AllByRecursion (λ (s : Span). s.file < q.file) q.older
  pub apart : AreApart q.older
