-- The chain of files: the newest file with a whole header, and behind it the files that each header names.
use Rattle.std.specs.Prelude.{ℕ, zero, suc, Bool, false, List, [], ◌∷◌, take, Option, Some, None, option_map, is_some, nat_eq, nat_lt, ◌&&◌, if◌then◌else◌}
use Rattle.qq_wal_chain.specs.Format.{Format}
use Rattle.qq_wal_chain.specs.Records.{file_records, end_of, replay}

-- the bytes of each log file, None where it is absent
abbrev pub Logs : Type 0
Logs = ℕ → Option (List ℕ)

abbrev pub has_header : (F : Format) → Option (List ℕ) → Bool
has_header F None = false
has_header F (Some bytes) = is_some (F.read_header bytes)

-- the newest file up to a number that has a whole header, 0 where none has
abbrev pub newest : (F : Format) → ℕ → Logs → ℕ
newest F zero logs = 0
newest F (suc bound) logs = if has_header F (logs (suc bound)) then suc bound else newest F bound logs

-- what stands in a chain: the numbers of its files, and what their records come to
pub record Found (F : Format) : Type 0 where
  pub files : List ℕ
  pub world : F.World

-- the records of the first bytes of a file
abbrev pub records_up_to : (F : Format) → ℕ → ℕ → List ℕ → List F.Record
records_up_to F n good bytes = file_records F n (take good bytes)

-- whether a file counts: its header has its number and names an older one, and its records end where they should
abbrev pub counts : (F : Format) → ℕ → ℕ → List ℕ → F.Header → Bool
counts F n good bytes h =
    nat_eq (F.number h) n && (nat_lt (F.previous h) n && nat_eq (end_of F n (records_up_to F n good bytes)) good)

-- a file more, and what its records add
abbrev pub add_file : (F : Format) → ℕ → List F.Record → Option (Found F) → Option (Found F)
add_file F n rs None = None
add_file F n rs (Some found) =
    option_map (λ world. record { files = n ∷ found.files; world = world }) (replay F rs (Some found.world))

abbrev pub read_on : (F : Format) → (ℕ → ℕ → Option (Found F)) → ℕ → ℕ → List ℕ → Option F.Header
    → Option (Found F)
read_on F older n good bytes None = None
read_on F older n good bytes (Some h) =
    if counts F n good bytes h then add_file F n (records_up_to F n good bytes) (older (F.previous h) (F.good h)) else
    None

-- nothing stands behind a file that is absent
abbrev pub read_file : (F : Format) → (ℕ → ℕ → Option (Found F)) → ℕ → ℕ → Option (List ℕ) → Option (Found F)
read_file F older n good None = Some (record { files = []; world = F.start })
read_file F older n good (Some bytes) = read_on F older n good bytes (F.read_header bytes)

-- the chain from file n back, of which so many bytes count: None where a file of it is damaged
abbrev pub chain : (F : Format) → ℕ → Logs → ℕ → ℕ → Option (Found F)
chain F zero logs n good = Some (record { files = []; world = F.start })
chain F (suc bound) logs n good =
    if nat_eq n (suc bound) then read_file F (chain F bound logs) n good (logs n) else chain F bound logs n good

-- how many bytes of the newest file count: those up to the first place where no whole record stands, and none where
-- there is no newest file
abbrev pub good_length : (F : Format) → ℕ → Option (List ℕ) → ℕ
good_length F n None = 0
good_length F n (Some bytes) = if nat_eq n 0 then 0 else end_of F n (file_records F n bytes)

-- what recovery reads
pub record Reading (F : Format) : Type 0 where
  pub file : ℕ
  pub good : ℕ
  pub found : Option (Found F)

abbrev pub read_chain : (F : Format) → ℕ → Logs → ℕ → Reading F
read_chain F bound logs n =
    let good = good_length F n (logs n) in record { file = n; good = good; found = chain F bound logs n good }

abbrev pub reading : (F : Format) → ℕ → Logs → Reading F
reading F bound logs = read_chain F bound logs (newest F bound logs)
