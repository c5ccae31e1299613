-- Where a queue's entries lie behind some ops that were appended.
use Rattle.std.specs.Prelude.{◌≤◌, ℕ, List, [], ◌∷◌, length}
use Rattle.std.specs.List.{fold}
use Rattle.qq_log.specs.declared.op.Op.{Op}
use Rattle.qq_log.specs.declared.op.Op.TheVariants.{Change, SnapshotMade, SegmentMade}
use Rattle.qq_wal.specs.Entries.{files_behind}

-- how many of its queue's entries an op keeps, of those that it may cut
abbrev pub cut_at : Op → ℕ
cut_at (Change id op term vote keep entries) = keep.0
cut_at (SnapshotMade id op head file) = 0
cut_at (SegmentMade id op file first last) = 0

-- the log file of each entry, behind ops of the queue that are written to file n
abbrev pub files_after : ℕ → List ℕ → List Op → List ℕ
files_after n files ops = fold (λ (files : List ℕ) op. files_behind files n op) files ops

-- each op keeps no more entries than there are behind the ops before it
abbrev pub AllKeepWithin : ℕ → List ℕ → List Op → Type 0
AllKeepWithin n files [] = Unit {0}
AllKeepWithin n files (op ∷ ops) =
    (cut_at op ≤ length files) × AllKeepWithin n (files_behind files n op) ops
