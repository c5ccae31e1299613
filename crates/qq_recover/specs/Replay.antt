-- What the records of the chain come to, queue by queue.
use Rattle.std.specs.Prelude.{ℕ, List, [], ◌∷◌, Ok}
use Rattle.qq_base.specs.declared.ids.QueueId.{QueueId}
use Rattle.qq_disk.specs.Image.{log_of}
use Rattle.qq_wal_chain.specs.Lanes.{Lanes, add_record}
use Rattle.qq_recover.specs.declared.fault.RecoverFault.TheVariants.{Damaged}
use Rattle.qq_recover.specs.declared.file.ChainFile.{ChainFile}
use Rattle.qq_recover.specs.Placed.{Placed}
use Rattle.qq_recover.specs.Answer.{Answer, ◌>>=◌, or_refuse}

-- a record of file n that doesn't fit into its lane is damaged
abbrev pub add_placed : List QueueId → ℕ → Placed → Lanes → Answer Lanes
add_placed queues n r lanes = or_refuse (Damaged (log_of n) r.place) (add_record queues r.entry lanes)

abbrev pub replay_records : List QueueId → ℕ → List Placed → Lanes → Answer Lanes
replay_records queues n [] lanes = Ok lanes
replay_records queues n (r ∷ rs) lanes = add_placed queues n r lanes >>= replay_records queues n rs

-- the files have the newest first, and the oldest is replayed first
abbrev pub replay_files : List QueueId → List ChainFile → Lanes → Answer Lanes
replay_files queues [] lanes = Ok lanes
replay_files queues (file ∷ older) lanes =
    replay_files queues older lanes >>= replay_records queues file.number file.records
