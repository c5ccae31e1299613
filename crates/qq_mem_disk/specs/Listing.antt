-- The files that are listed, and the newest log.
use Rattle.std.specs.Prelude.{Bool, not, List, [], ◌∷◌, ◌&&◌, ◌||◌, ◌==◌, Option, Some, filter, if◌then◌else◌}
use Rattle.std.specs.Map.{keys_of}
use Rattle.qq_disk.specs.declared.name.FileName.{FileName}
use Rattle.qq_disk.specs.Disk.{FileState}
use Rattle.qq_disk.specs.Name.{rank}

-- the names of those that are not removed
abbrev pub listed_names : List (FileName × FileState) → List FileName
listed_names entries = keys_of (filter (λ e. not e.1.removed) entries)

abbrev pub is_left_log : Bool → FileName × FileState → Bool
is_left_log back e = (rank e.0.kind == 0) && (back || not e.1.removed)

-- the last log that is left, and else the one before
abbrev pub last_log : Bool → Option FileName → List (FileName × FileState) → Option FileName
last_log back before [] = before
last_log back before (e ∷ entries) = last_log back (if is_left_log back e then Some e.0 else before) entries
