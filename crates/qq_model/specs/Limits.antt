-- What counts against a queue's limits (RabbitMQ, "Queue Length Limit").
use Rattle.std.specs.Prelude.{ℕ, List, Option, Some, None, Bool, true, false, count_by, sum_by, nat_lt, nat_le, ◌&&◌, ◌||◌, if◌then◌else◌}
use Rattle.qq_entry.specs.declared.queue.QueueArgs.{QueueArgs}
use Rattle.qq_entry.specs.declared.queue.Overflow.{Overflow}
use Rattle.qq_entry.specs.declared.queue.Overflow.TheVariants.{DropHead, RejectPublish}
use Rattle.qq_entry.specs.declared.answer.Full.{Full}
use Rattle.qq_entry.specs.declared.answer.Full.TheVariants.{Length, ByteLength, Live}
use Rattle.qq_model.specs.declared.place.Place.{Place}
use Rattle.qq_model.specs.declared.place.Place.TheVariants.{Ready, Out, Dead, Gone}
use Rattle.qq_model.specs.declared.place.Row.{Row}

abbrev pub is_ready : Place → Bool
is_ready (Ready key) = true
is_ready _ = false

abbrev pub is_with_consumer : Place → Bool
is_with_consumer (Out consumer id) = true
is_with_consumer _ = false

abbrev pub is_dead : Place → Bool
is_dead (Dead number reason) = true
is_dead _ = false

abbrev pub is_live : Place → Bool
is_live (Gone reason) = false
is_live _ = true

-- ready messages alone count, not those with consumers
abbrev pub ready_count : List Row → ℕ
ready_count rows = count_by (λ (row : Row). is_ready row.place) rows

-- the bytes of the ready bodies
abbrev pub ready_bytes : List Row → ℕ
ready_bytes rows = sum_by (λ (row : Row). if is_ready row.place then row.size else 0) rows

abbrev pub dead_count : List Row → ℕ
dead_count rows = count_by (λ (row : Row). is_dead row.place) rows

-- messages that aren't gone
abbrev pub live_count : List Row → ℕ
live_count rows = count_by (λ (row : Row). is_live row.place) rows

-- a limit that is there was reached
abbrev pub has_reached : Option ℕ → ℕ → Bool
has_reached None n = false
has_reached (Some limit) n = nat_le limit n

-- a limit that is there was passed
abbrev pub has_passed : Option ℕ → ℕ → Bool
has_passed None n = false
has_passed (Some limit) n = nat_lt limit n

abbrev pub is_reject_publish : Overflow → Bool
is_reject_publish RejectPublish = true
is_reject_publish _ = false

abbrev pub is_drop_head : Overflow → Bool
is_drop_head DropHead = true
is_drop_head _ = false

-- the first limit that a publish meets (`reject-publish`, and the queue's own limit under either overflow)
abbrev pub publish_limit : QueueArgs → List Row → Option Full
publish_limit args rows =
    if is_reject_publish args.overflow && has_reached args.max_length (ready_count rows) then Some Length
    else if is_reject_publish args.overflow && has_reached args.max_bytes (ready_bytes rows) then Some ByteLength
    else if nat_le args.live (live_count rows) then Some Live
    else None

-- whether messages at the front have to die (`drop-head`)
abbrev pub is_over_limit : QueueArgs → List Row → Bool
is_over_limit args rows =
    is_drop_head args.overflow
    && (has_passed args.max_length (ready_count rows) || has_passed args.max_bytes (ready_bytes rows))
