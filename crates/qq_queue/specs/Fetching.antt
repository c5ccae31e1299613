-- What a member's machine gives of what is out with a session's consumers.
use Rattle.std.specs.Prelude.{List, [], map, flat_map, if◌then◌else◌}
use Rattle.qq_base.specs.Ids.{same_session}
use Rattle.qq_base.specs.declared.ids.SessionId.{SessionId}
use Rattle.qq_consumer.specs.Roster.{one_of}
use Rattle.qq_consuming.specs.Consuming.{Received}
use Rattle.qq_consuming.specs.Known.{gap}
use Rattle.qq_consuming.specs.declared.consumers.Gap.{Gap}
use Rattle.qq_entry.specs.declared.audit.Effect.{Effect}
use Rattle.qq_entry.specs.declared.audit.Effect.TheVariants.{Deliver}
use Rattle.qq_machine.specs.Reads.{fetched}
use Rattle.qq_parts.specs.Parts.{Parts}

-- of one consumer, if it is the session's
abbrev pub fetched_by : Parts → SessionId → Gap → List Effect
fetched_by m session g =
    if same_session g.consumer.session session
    then map (Deliver g.consumer) (fetched g.missing (one_of g.consumer m.served)) else []

-- of each, in their order
abbrev pub fetched_all : Parts → SessionId → List Received → List Effect
fetched_all m session all = flat_map (λ (r : Received). fetched_by m session (gap r)) all
