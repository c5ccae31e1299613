-- Where the entries lie that recovery reads.
use Rattle.std.specs.Prelude.{ℕ, List, [], ◌∷◌, Ok, nat_eq, if◌then◌else◌}
use Rattle.std.specs.List.{fold}
use Rattle.qq_base.specs.declared.ids.QueueId.{QueueId}
use Rattle.qq_log.specs.declared.op.Op.{Op}
use Rattle.qq_log.specs.Op.{queue}
use Rattle.qq_wal_record.specs.declared.record.LogRecord.{LogRecord}
use Rattle.qq_wal_record.specs.declared.record.LogRecord.TheVariants.{Op as OpRecord, Carry as CarryRecord}
use Rattle.qq_wal_chain.specs.Chain.{Logs}
use Rattle.qq_wal_chain.specs.Lanes.{is_within_end}
use Rattle.qq_wal.specs.Entries.{files_behind}
use Rattle.qq_wal.specs.Notices.{last_index}
use Rattle.qq_wal.specs.Ranges.{AllRanges, ranges_of, write_op_in}
use Rattle.qq_recover.specs.declared.file.ChainFile.{ChainFile}
use Rattle.qq_recover.specs.Answer.{Answer, ◌>>=◌}
use Rattle.qq_recover.specs.Placed.{Placed}
use Rattle.qq_recover.specs.Reading.{files_read}

-- an op of file n leaves its queue's entries where its file is; one with an index past its end fits nowhere
abbrev pub find_op : ℕ → AllRanges → Op → AllRanges
find_op n all op = if is_within_end (last_index op) then write_op_in n all op else all

-- a carry restates a queue without its entries
abbrev pub find_in : ℕ → AllRanges → LogRecord → AllRanges
find_in n all (OpRecord op) = find_op n all op
find_in n all (CarryRecord c) = all

abbrev pub find_record : ℕ → AllRanges → Placed → AllRanges
find_record n all r = find_in n all r.entry

-- the files have the newest first, and the oldest was written first
abbrev pub find_files : List ChainFile → AllRanges → AllRanges
find_files [] all = all
find_files (file ∷ older) all = fold (find_record file.number) (find_files older all) file.records

-- where the entries of the files lie that are read
abbrev pub ranges_read : List QueueId → Logs → Answer AllRanges
ranges_read queues logs = files_read queues logs >>= λ files. Ok (find_files files (ranges_of queues))

-- ---- entry by entry

-- the log file of each entry of a queue, from the first on, with a record of file n more
abbrev pub with_record : ℕ → ℕ → List ℕ → LogRecord → List ℕ
with_record id n files (OpRecord op) = if nat_eq (queue op).0 id then files_behind files n op else files
with_record id n files (CarryRecord c) = files

-- as the records of these files leave them
abbrev pub entry_files : ℕ → List ChainFile → List ℕ
entry_files id [] = []
entry_files id (file ∷ older) =
    fold (λ files (r : Placed). with_record id file.number files r.entry) (entry_files id older) file.records
