-- What a queue keeps to: its limits (RabbitMQ, "Queue Length Limit"), and that nobody waits in vain.
use Rattle.std.specs.Prelude.{◌≡◌, true, false, not, ◌&&◌, ◌||◌, nat_le, Option, Contains}
use Rattle.qq_entry.specs.declared.command.Command.TheVariants.{Enqueue}
use Rattle.qq_entry.specs.declared.command.Entry.{Entry}
use Rattle.qq_entry.specs.declared.command.Stamp.{Stamp}
use Rattle.qq_entry.specs.declared.message.Message.{Message}
use Rattle.qq_entry.specs.declared.message.Origin.{Origin}
use Rattle.qq_model.specs.declared.place.Row.{Row}
use Rattle.qq_model.specs.declared.consumer.Consumer.{Consumer}
use Rattle.qq_model.specs.State.{State}
use Rattle.qq_model.specs.Choice.{may_be_served}
use Rattle.qq_model.specs.Limits.{is_ready, ready_count, ready_bytes, live_count, has_reached, has_passed, is_reject_publish, is_drop_head}
use Rattle.qq_model.specs.Audit.{next_step}
use Rattle.qq_laws.specs.Published.{is_confirmed}

-- without a single active consumer: where a message is ready, no consumer may be served
abbrev pub NobodyWaits : State → Type 0
NobodyWaits s =
    s.args.single_active ≡ false → (row : Row) (consumer : Consumer) → Contains s.rows row → is_ready row.place ≡ true
    → Contains s.consumers consumer → may_be_served s.rows consumer ≡ false

-- a queue that drops at its head hasn't passed its limits
abbrev pub IsWithinLimits : State → Type 0
IsWithinLimits s =
    is_drop_head s.args.overflow ≡ true
    → (has_passed s.args.max_length (ready_count s.rows) ≡ false)
    × (has_passed s.args.max_bytes (ready_bytes s.rows) ≡ false)

-- a publish that is carried out is confirmed exactly where the queue, which rejects publishes, has reached neither of its
-- limits, and, whatever its overflow, holds fewer messages than it may
abbrev pub RejectsAtLimit : State → Entry → Type 0
RejectsAtLimit s entry =
    (given : Stamp) (origin : Option Origin) (message : Message) → entry.command ≡ Enqueue given origin message
    → (next_step s entry).fresh ≡ true
    → is_confirmed (next_step s entry).answer
    ≡ not (is_reject_publish s.args.overflow
    && (has_reached s.args.max_length (ready_count s.rows) || has_reached s.args.max_bytes (ready_bytes s.rows))
    || nat_le s.args.live (live_count s.rows))
