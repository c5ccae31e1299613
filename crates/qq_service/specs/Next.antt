-- Which consumer is served next, of a table of their standings in order of joining.
use Rattle.std.specs.Prelude.{ℕ, List, Option, Some, None, Bool, not, ◌&&◌, nat_lt, find, if◌then◌else◌}
use Rattle.std.specs.Option.{option_and_then, option_map}
use Rattle.qq_base.specs.declared.ids.ConsumerId.{ConsumerId}
use Rattle.qq_entry.specs.declared.table.Standing.{Standing}
use Rattle.qq_model.specs.declared.place.Row.{Row}
use Rattle.qq_model.specs.declared.consumer.Consumer.{Consumer}
use Rattle.qq_model.specs.Choice.{free_credit, least_by}

-- one that isn't cancelled and has credit may be served
abbrev pub is_servable : Standing → Bool
is_servable one = not one.cancelled && nat_lt 0 one.credit

abbrev pub servable_turn : Standing → Option ℕ
servable_turn one = if is_servable one then Some one.turn else None

abbrev pub servable_by : Standing → Option Standing
servable_by one = if is_servable one then Some one else None

-- of all that may be served the one of least turn
abbrev pub longest_servable : List Standing → Option Standing
longest_servable standings = least_by nat_lt servable_turn standings

abbrev pub is_active : Standing → Bool
is_active one = not one.cancelled

-- the longest joined one that isn't cancelled, if it may be served
abbrev pub active_servable : List Standing → Option Standing
active_servable standings = option_and_then servable_by (find is_active standings)

-- the next one, of a queue with a single active consumer or of another
abbrev pub next : Bool → List Standing → Option ConsumerId
next single_active standings =
    option_map (λ (one : Standing). one.id)
    (if single_active then active_servable standings else longest_servable standings)

-- how a consumer of a queue with these rows stands
abbrev pub standing_of : List Row → Consumer → Standing
standing_of rows one =
    record { id = one.id; credit = free_credit rows one; turn = one.turn; cancelled = one.cancelled }
