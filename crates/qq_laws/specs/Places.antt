-- Who begins to wait for a turn, and who keeps its place.
use Rattle.std.specs.Prelude.{◌≡◌, ◌+◌, false, [], Option, Some, None, ◌&&◌, nat_eq, nat_lt, if◌then◌else◌}
use Rattle.qq_base.specs.declared.ids.ConsumerId.{ConsumerId}
use Rattle.qq_base.specs.declared.ids.Index.{Index}
use Rattle.qq_entry.specs.Command.{consumer_id}
use Rattle.qq_entry.specs.declared.command.Command.{Command}
use Rattle.qq_entry.specs.declared.command.Command.TheVariants.{Credit, Discard, Return, Settle}
use Rattle.qq_model.specs.declared.consumer.Consumer.{Consumer}
use Rattle.qq_model.specs.State.{State}
use Rattle.qq_model.specs.Choice.{free_credit}
use Rattle.qq_model.specs.Changes.{consumer_of}
use Rattle.qq_model.specs.Commands.{act}

-- the consumer whose free credit a command may raise
abbrev pub credited_consumer : Command → Option ConsumerId
credited_consumer (Credit given tag count credit drain) = Some (consumer_id given tag)
credited_consumer (Settle given tag ids) = Some (consumer_id given tag)
credited_consumer (Return given tag ids) = Some (consumer_id given tag)
credited_consumer (Discard given tag ids) = Some (consumer_id given tag)
credited_consumer _ = None

-- a credit, a settle, a return and a discard give their consumer the next turn exactly where they bring its free credit
-- from 0 to more; else it keeps its place
abbrev pub BeginsToWait : State → Index → Command → Type 0
BeginsToWait s index command =
    let after = (act index command (record { state = s; effects = [] })).progress.state in
    (id : ConsumerId) (one new : Consumer) → credited_consumer command ≡ Some id
    → consumer_of id s.consumers ≡ Some one → one.cancelled ≡ false → consumer_of id after.consumers ≡ Some new
    → new.turn
    ≡ (if nat_eq (free_credit s.rows one) 0 && nat_lt 0 (free_credit after.rows new) then s.turns + 1 else one.turn)
