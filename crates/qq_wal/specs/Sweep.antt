-- Files that a queue's log needs no more: a snapshot that a later one has replaced, and segments of entries that are
-- gone (the Ra library's internals, snapshots and segments).
use Rattle.std.specs.Prelude.{ℕ, List, [], ◌∷◌, ◌++◌, map, Option, Some, None, nat_eq, if◌then◌else◌}
use Rattle.std.specs.List.{Contains}
use Rattle.qq_disk.specs.declared.name.FileKind.TheVariants.{Segment, Snapshot}
use Rattle.qq_disk.specs.declared.name.FileName.{FileName}
use Rattle.qq_log.specs.declared.head.Span.{Span}
use Rattle.qq_log.specs.declared.op.Op.{Op}
use Rattle.qq_log.specs.Stable.{Stable, stable}
use Rattle.qq_base.specs.Fronts.{IsFront}

-- a snapshot's file, where there is one
abbrev pub snapshot_file : ℕ → List FileName
snapshot_file number = if nat_eq number 0 then [] else record { kind = Snapshot; number = number } ∷ []

abbrev pub segment_file : Span → FileName
segment_file span = record { kind = Segment; number = span.file }

-- the files beside the log that a state names
abbrev pub files_named : Option Stable → List FileName
files_named None = []
files_named (Some s) = snapshot_file s.snapshot ++ map segment_file s.segments

-- A file may be removed once these ops of a queue are synced: some of them, from the first on, name it, and all
-- together don't.
pub record IsReplaced (ops : List Op) (file : FileName) : Type 0 where
  pub earlier : List Op
  pub front : IsFront earlier ops
  pub named : Contains (files_named (stable earlier)) file
  pub gone : Contains (files_named (stable ops)) file → ⊥
