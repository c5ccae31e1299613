-- The parts of a command.
use Rattle.std.specs.Prelude.{ℕ, Option, Some, None}
use Rattle.std.specs.Option.{option_map, option_map_or}
use Rattle.qq_base.specs.declared.ids.SessionId.{SessionId}
use Rattle.qq_base.specs.declared.ids.ConsumerId.{ConsumerId}
use Rattle.qq_entry.specs.declared.command.Stamp.{Stamp}
use Rattle.qq_entry.specs.declared.command.Command.{Command}
use Rattle.qq_entry.specs.declared.command.Command.TheVariants.{Enqueue, Get, Subscribe, Cancel, Credit, Settle, Return, Discard, Purge, Down}

-- the stamp of a command that goes through the session gate
abbrev pub stamp : Command → Option Stamp
stamp (Enqueue by origin message) = Some by
stamp (Get by) = Some by
stamp (Subscribe by tag mode) = Some by
stamp (Cancel by tag) = Some by
stamp (Credit by tag count credit drain) = Some by
stamp (Settle by tag ids) = Some by
stamp (Return by tag ids) = Some by
stamp (Discard by tag ids) = Some by
stamp (Purge by) = Some by
stamp _ = None

-- the number of a stamped command, and 0 of one without a stamp
abbrev pub seq_of : Command → ℕ
seq_of command = option_map_or (λ (by : Stamp). by.seq) (stamp command) 0

-- the session that gave a command
abbrev pub session : Command → Option SessionId
session (Down id) = Some id
session command = option_map (λ (by : Stamp). by.session) (stamp command)

-- the tag of the consumer that a command is about
abbrev pub tag : Command → Option ℕ
tag (Subscribe by number mode) = Some number
tag (Cancel by number) = Some number
tag (Credit by number count credit drain) = Some number
tag (Settle by number ids) = Some number
tag (Return by number ids) = Some number
tag (Discard by number ids) = Some number
tag _ = None

-- the consumer of a stamp's session with this tag
abbrev pub consumer_id : Stamp → ℕ → ConsumerId
consumer_id stamp tag = record { session = stamp.session; tag = tag }
