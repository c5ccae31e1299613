-- The files of the chain, from the newest one back.
use Rattle.std.specs.Prelude.{ℕ, zero, suc, Bool, false, not, List, [], ◌∷◌, take, Option, Some, None, Result, Ok, Err, nat_eq, nat_lt, ◌&&◌, if◌then◌else◌}
use Rattle.qq_base.specs.declared.ids.QueueId.{QueueId}
use Rattle.qq_disk.specs.Image.{log_of}
use Rattle.qq_wal_record.specs.declared.header.Header.{Header}
use Rattle.qq_wal_record.specs.declared.header.NoHeader.{NoHeader}
use Rattle.qq_wal_record.specs.declared.header.NoHeader.TheVariants as no_header
use Rattle.qq_wal_record.specs.declared.header.TheConstants.{HEADER_LEN}
use Rattle.qq_wal_record.specs.declared.record.LogRecord.{LogRecord}
use Rattle.qq_wal_record.specs.Reading.{header_at}
use Rattle.qq_wal_chain.specs.Records.{end_of, file_records}
use Rattle.qq_wal_chain.specs.Chain.{Logs, records_up_to, good_length}
use Rattle.qq_wal_chain.specs.Wal.{wal}
use Rattle.qq_recover.specs.declared.fault.RecoverFault.TheVariants.{Damaged, Version}
use Rattle.qq_recover.specs.declared.file.ChainFile.{ChainFile}
use Rattle.qq_recover.specs.Placed.{placed}
use Rattle.qq_recover.specs.Answer.{Answer, ◌>>=◌}

-- ---- one file

-- the header of file n: whole, of our version, with the file's number, and it names an older file
unfoldable pub header_of : ℕ → Result Header NoHeader → Answer Header
header_of n (Ok h) = if nat_eq h.file n && nat_lt h.previous n then Ok h else Err (Damaged (log_of n) 0)
header_of n (Err (no_header.Version byte)) = Err (Version (log_of n) byte)
header_of n (Err _) = Err (Damaged (log_of n) 0)

-- file n with these records
abbrev pub file_of : List QueueId → ℕ → List LogRecord → ChainFile
file_of queues n rs = record { number = n; end = end_of (wal queues) n rs; records = placed n HEADER_LEN rs }

-- the records end where the file is good; else the first bad one begins where they end
abbrev pub ends_at : ℕ → Header → ChainFile → Answer (Header × ChainFile)
ends_at good h file = if nat_eq file.end good then Ok (h, file) else Err (Damaged (log_of file.number) file.end)

-- file n, of which so many bytes are good
unfoldable pub file_at : List QueueId → ℕ → ℕ → List ℕ → Answer (Header × ChainFile)
file_at queues n good bytes = do
  h ← header_of n (header_at bytes)
  ends_at good h (file_of queues n (records_up_to (wal queues) n good bytes))

-- ---- where it isn't said how many bytes are good

abbrev pub good_bytes : Option ℕ → List ℕ → List ℕ
good_bytes None bytes = bytes
good_bytes (Some good) bytes = take good bytes

-- all up to the first place where no whole record stands
abbrev pub good_end : List QueueId → ℕ → Option ℕ → List ℕ → ℕ
good_end queues n None bytes = good_length (wal queues) n (Some bytes)
good_end queues n (Some good) bytes = good

-- it is said, and the records end elsewhere
abbrev pub is_short : Option ℕ → ℕ → Bool
is_short None end = false
is_short (Some good) end = not (nat_eq good end)

-- file n with the records of the bytes that count
abbrev pub counted_file : List QueueId → ℕ → Option ℕ → List ℕ → ChainFile
counted_file queues n good bytes = file_of queues n (file_records (wal queues) n (good_bytes good bytes))

-- ---- the chain

-- nothing stands behind a file that is absent
abbrev pub chain_file : List QueueId → (ℕ → ℕ → Answer (List ChainFile)) → ℕ → ℕ → Option (List ℕ)
    → Answer (List ChainFile)
chain_file queues older n good None = Ok []
chain_file queues older n good (Some bytes) = do
  file ← file_at queues n good bytes
  files ← older file.0.previous file.0.good
  Ok (file.1 ∷ files)

-- the files from file n back, of which so many bytes are good, the newest first
abbrev pub chain_files : List QueueId → ℕ → Logs → ℕ → ℕ → Answer (List ChainFile)
chain_files queues zero logs n good = Ok []
chain_files queues (suc bound) logs n good =
    if nat_eq n (suc bound) then chain_file queues (chain_files queues bound logs) n good (logs n) else
    chain_files queues bound logs n good
