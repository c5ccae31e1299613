-- What the log files of a disk come to.
use Rattle.std.specs.Prelude.{◌≡◌, ℕ, List, [], ◌∷◌}
use Rattle.qq_base.specs.declared.ids.QueueId.{QueueId}
use Rattle.qq_wal_chain.specs.Chain.{Logs, reading}
use Rattle.qq_wal_chain.specs.Wal.{wal}
use Rattle.qq_recover.specs.Ends.{End}
use Rattle.qq_wal.specs.Running.{top}

-- where the first of the files is good, 0 where there is none
abbrev pub good_of : List End → ℕ
good_of [] = 0
good_of (end ∷ ends) = end.end

-- the newest file, and how many of its bytes are good
pub record IsNewest (queues : List QueueId) (logs : Logs) (file good : ℕ) : Type 0 where
  pub file_is : file ≡ (reading (wal queues) top logs).file
  pub good_is : good ≡ (reading (wal queues) top logs).good
