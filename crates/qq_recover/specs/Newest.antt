-- The newest log file that has a whole header, name by name.
use Rattle.std.specs.Prelude.{ℕ, Bool, false, List, [], ◌∷◌, Option, Some, None, is_some, nat_eq, nat_lt, ◌&&◌, if◌then◌else◌}
use Rattle.std.specs.List.{list_any}
use Rattle.qq_disk.specs.declared.name.FileName.{FileName}
use Rattle.qq_disk.specs.Name.{rank, same_name}
use Rattle.qq_wal_chain.specs.Chain.{Logs}
use Rattle.qq_wal_chain.specs.Wal.{read_whole_header}

abbrev pub is_among : List FileName → FileName → Bool
is_among names file = list_any (λ name. same_name name file) names

abbrev pub has_whole : Option (List ℕ) → Bool
has_whole None = false
has_whole (Some bytes) = is_some (read_whole_header bytes)

abbrev pub has_log : Logs → ℕ → Bool
has_log logs n = has_whole (logs n)

-- a log file is newer where its number is greater and it has a whole header
abbrev pub newer_log : (ℕ → Bool) → ℕ → ℕ → ℕ
newer_log has newest number = if nat_lt newest number && has number then number else newest

abbrev pub newer : (ℕ → Bool) → ℕ → FileName → ℕ
newer has newest file = if nat_eq (rank file.kind) 0 then newer_log has newest file.number else newest

abbrev pub newest_of : (ℕ → Bool) → ℕ → List FileName → ℕ
newest_of has newest [] = newest
newest_of has newest (file ∷ files) = newest_of has (newer has newest file) files
