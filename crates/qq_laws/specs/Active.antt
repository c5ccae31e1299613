-- Who gets deliveries under a single active consumer (RabbitMQ, "Single Active Consumer").
use Rattle.std.specs.Prelude.{◌≡◌, List, [], Option, Some, true, not, find, All}
use Rattle.std.specs.Option.{option_map}
use Rattle.qq_base.specs.declared.ids.Index.{Index}
use Rattle.qq_base.specs.declared.ids.ConsumerId.{ConsumerId}
use Rattle.qq_entry.specs.declared.command.Command.{Command}
use Rattle.qq_entry.specs.declared.audit.Effect.{Effect}
use Rattle.qq_entry.specs.declared.audit.Effect.TheVariants.{Deliver}
use Rattle.qq_model.specs.declared.consumer.Consumer.{Consumer}
use Rattle.qq_model.specs.State.{State}
use Rattle.qq_model.specs.Commands.{act}
use Rattle.qq_entry.specs.declared.command.Entry.{Entry}
use Rattle.qq_model.specs.Step.{carry_out}
use Rattle.qq_model.specs.Audit.{next_step}

-- the longest joined consumer that isn't cancelled
abbrev pub active_id : List Consumer → Option ConsumerId
active_id consumers =
    option_map (λ (consumer : Consumer). consumer.id)
    (find (λ (consumer : Consumer). not consumer.cancelled) consumers)

-- the consumers as a command itself leaves them, before anything is delivered
abbrev pub consumers_after : State → Index → Command → List Consumer
consumers_after s index command = (act index command (record { state = s; effects = [] })).progress.state.consumers

-- an effect that is a delivery is one to this consumer
abbrev pub DeliversOnlyTo : Option ConsumerId → Effect → Type 0
DeliversOnlyTo active (Deliver consumer delivery) = active ≡ Some consumer
DeliversOnlyTo active _ = Unit {0}

-- all that effects deliver goes to one consumer
abbrev pub DeliversToOne : List Effect → Type 0
DeliversToOne effects = (active : Option ConsumerId) × All (DeliversOnlyTo active) effects

-- under a single active consumer all that a command delivers goes to the one that the command itself leaves active
abbrev pub ServesActiveAlone : State → Index → Command → Type 0
ServesActiveAlone s index command =
    let active = active_id (consumers_after s index command) in
    s.args.single_active ≡ true → All (DeliversOnlyTo active) (carry_out index command s).progress.effects

-- under a single active consumer all that an entry delivers goes to one
abbrev pub ServesOne : State → Entry → Type 0
ServesOne s entry = s.args.single_active ≡ true → DeliversToOne (next_step s entry).effects
