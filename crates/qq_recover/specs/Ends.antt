-- The files of the chain as they are remembered: their records are read again one file at a time.
use Rattle.std.specs.Prelude.{◌≡◌, ℕ, List, map, Ok, Some}
use Rattle.qq_base.specs.declared.ids.QueueId.{QueueId}
use Rattle.qq_wal_record.specs.declared.header.Header.{Header}
use Rattle.qq_wal_chain.specs.Chain.{Logs}
use Rattle.qq_recover.specs.declared.file.ChainFile.{ChainFile}
use Rattle.qq_recover.specs.Answer.{Answer, ◌>>=◌}
use Rattle.qq_recover.specs.Files.{chain_files, file_at}

-- a file's number, and where its records end
pub record End : Type 0 where
  pub number : ℕ
  pub end : ℕ

abbrev pub end_of_file : ChainFile → End
end_of_file file = record { number = file.number; end = file.end }

-- those of the chain from file n back, the newest first
abbrev pub chain_ends : List QueueId → ℕ → Logs → ℕ → ℕ → Answer (List End)
chain_ends queues bound logs n good = chain_files queues bound logs n good >>= λ files. Ok (map end_of_file files)

-- the file stands there, and by where it ends it is read again
pub record IsReadAgain (queues : List QueueId) (logs : Logs) (file : ChainFile) : Type 0 where
  pub bytes : List ℕ
  pub here : logs file.number ≡ Some bytes
  pub header : Header
  pub read : file_at queues file.number file.end bytes ≡ Ok (header, file)
