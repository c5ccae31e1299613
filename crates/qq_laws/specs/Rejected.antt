-- Why a publish is rejected (RabbitMQ, "Queue Length Limit").
use Rattle.std.specs.Prelude.{◌≡◌, ◌⊎◌, List, Bool, true, not, ◌&&◌, nat_le, Option}
use Rattle.qq_entry.specs.declared.answer.Answer.TheVariants.{Confirmed, Rejected}
use Rattle.qq_entry.specs.declared.answer.Full.{Full}
use Rattle.qq_entry.specs.declared.answer.Full.TheVariants.{Length, ByteLength, Live}
use Rattle.qq_entry.specs.declared.command.Command.TheVariants.{Enqueue}
use Rattle.qq_entry.specs.declared.command.Entry.{Entry}
use Rattle.qq_entry.specs.declared.command.Stamp.{Stamp}
use Rattle.qq_entry.specs.declared.message.Message.{Message}
use Rattle.qq_entry.specs.declared.message.Origin.{Origin}
use Rattle.qq_entry.specs.declared.queue.QueueArgs.{QueueArgs}
use Rattle.qq_model.specs.declared.place.Row.{Row}
use Rattle.qq_model.specs.State.{State}
use Rattle.qq_model.specs.Limits.{has_reached, is_reject_publish, live_count, ready_bytes, ready_count}
use Rattle.qq_model.specs.Audit.{next_step}

-- whether a publish meets a limit: one of the two of a queue that rejects publishes, or that of any queue
abbrev pub is_met : Full → QueueArgs → List Row → Bool
is_met Length args rows = is_reject_publish args.overflow && has_reached args.max_length (ready_count rows)
is_met ByteLength args rows = is_reject_publish args.overflow && has_reached args.max_bytes (ready_bytes rows)
is_met Live args rows = nat_le args.live (live_count rows)

-- whether it is the first that a publish meets, of the length, the bytes, and the number of messages
abbrev pub is_first_met : Full → QueueArgs → List Row → Bool
is_first_met Length args rows = is_met Length args rows
is_first_met ByteLength args rows = is_met ByteLength args rows && not (is_met Length args rows)
is_first_met Live args rows =
    is_met Live args rows && (not (is_met ByteLength args rows) && not (is_met Length args rows))

-- a publish that is carried out is confirmed, or its rejection names the first limit that it meets
abbrev pub NamesLimit : State → Entry → Type 0
NamesLimit s entry =
    (given : Stamp) (origin : Option Origin) (message : Message) → entry.command ≡ Enqueue given origin message
    → (next_step s entry).fresh ≡ true
    → ((next_step s entry).answer ≡ Confirmed)
    ⊎ ((full : Full) × ((next_step s entry).answer ≡ Rejected full) × (is_first_met full s.args s.rows ≡ true))
