-- Which message is served next, and to whom: minima over whole lists.
use Rattle.std.specs.Prelude.{ℕ, ◌-◌, List, Option, Some, None, Bool, true, false, not, ◌&&◌, nat_eq, nat_lt, fold, find, count_by, if◌then◌else◌}
use Rattle.std.specs.Option.{option_and_then}
use Rattle.qq_base.specs.declared.ids.ConsumerId.{ConsumerId}
use Rattle.qq_entry.specs.declared.command.Mode.{Mode}
use Rattle.qq_entry.specs.declared.command.Mode.TheVariants.{Prefetch, Link}
use Rattle.qq_model.specs.declared.TheConstants.{UNBOUNDED_PREFETCH}
use Rattle.qq_model.specs.declared.place.Key.{Key}
use Rattle.qq_model.specs.declared.place.Key.TheVariants.{Front, Back}
use Rattle.qq_model.specs.declared.place.Place.{Place}
use Rattle.qq_model.specs.declared.place.Place.TheVariants.{Ready, Out}
use Rattle.qq_model.specs.declared.place.Row.{Row}
use Rattle.qq_model.specs.declared.consumer.Consumer.{Consumer}
use Rattle.qq_base.specs.Ids.{same_consumer}

-- what was returned under a delivery limit comes before all else: our own rule
abbrev pub key_less : Key → Key → Bool
key_less (Front a) (Front b) = nat_lt a b
key_less (Front a) (Back b) = true
key_less (Back a) (Front b) = false
key_less (Back a) (Back b) = nat_lt a b

-- whether a key is there, and is less than the best one, if that is there
abbrev pub is_lesser : {K : Type 0} → (K → K → Bool) → Option K → Option K → Bool
is_lesser less None best = false
is_lesser less (Some key) None = true
is_lesser less (Some key) (Some best) = less key best

-- the best item so far, or this one where its key is less
abbrev pub lesser : {A K : Type 0} → (K → K → Bool) → (A → Option K) → Option A → A → Option A
lesser less key best item = if is_lesser less (key item) (option_and_then key best) then Some item else best

-- of all items that have a key the one of least key
abbrev pub least_by : {A K : Type 0} → (K → K → Bool) → (A → Option K) → List A → Option A
least_by less key items = fold (lesser less key) None items

-- the key of a place in the queue
abbrev pub place_key : Place → Option Key
place_key (Ready key) = Some key
place_key _ = None

-- the key of a ready message
abbrev pub ready_key : Row → Option Key
ready_key row = place_key row.place

-- the next message: of all that are ready the one of least key
abbrev pub next_message : List Row → Option Row
next_message rows = least_by key_less ready_key rows

-- whether a place is with this consumer
abbrev pub is_out_to : ConsumerId → Place → Bool
is_out_to consumer (Out other id) = same_consumer other consumer
is_out_to consumer _ = false

-- how many deliveries a consumer hasn't settled
abbrev pub out_count : ConsumerId → List Row → ℕ
out_count consumer rows = count_by (λ (row : Row). is_out_to consumer row.place) rows

-- how many unsettled deliveries a prefetch allows (RabbitMQ, "Consumer Prefetch"); that 0 is 2,000 is our own rule
abbrev pub prefetch_limit : ℕ → ℕ
prefetch_limit prefetch = if nat_eq prefetch 0 then UNBOUNDED_PREFETCH else prefetch

-- how many more deliveries a mode allows, of this link credit and with so many unsettled
abbrev pub credit_left : Mode → ℕ → ℕ → ℕ
credit_left (Prefetch prefetch) credit out = prefetch_limit prefetch - out
credit_left Link credit out = credit

-- how many more deliveries a consumer may get (RabbitMQ, "Consumer Prefetch"; AMQP 1.0 link credit)
abbrev pub free_credit : List Row → Consumer → ℕ
free_credit rows consumer = credit_left consumer.mode consumer.credit (out_count consumer.id rows)

-- whether a consumer may be served
abbrev pub may_be_served : List Row → Consumer → Bool
may_be_served rows consumer = not consumer.cancelled && nat_lt 0 (free_credit rows consumer)

-- the turn of a consumer that may be served
abbrev pub waiting_turn : List Row → Consumer → Option ℕ
waiting_turn rows consumer = if may_be_served rows consumer then Some consumer.turn else None

-- of all consumers that may be served the one of least turn: they are served in turn (RabbitMQ, "Consumers")
abbrev pub longest_waiting : List Row → List Consumer → Option Consumer
longest_waiting rows consumers = least_by nat_lt (waiting_turn rows) consumers

-- the consumer itself, if it may be served
abbrev pub servable_consumer : List Row → Consumer → Option Consumer
servable_consumer rows consumer = if may_be_served rows consumer then Some consumer else None

-- the longest joined consumer that isn't cancelled, or nobody; RabbitMQ ("Single Active Consumer") leaves open which
abbrev pub active_consumer : List Row → List Consumer → Option Consumer
active_consumer rows consumers =
    option_and_then (servable_consumer rows) (find (λ (consumer : Consumer). not consumer.cancelled) consumers)

-- the next consumer, of a queue with a single active consumer or of another
abbrev pub next_consumer : Bool → List Row → List Consumer → Option Consumer
next_consumer single_active rows consumers =
    if single_active then active_consumer rows consumers else longest_waiting rows consumers
