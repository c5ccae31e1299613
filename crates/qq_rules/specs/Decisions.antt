-- What a queue's arguments decide, from how much the queue holds.
use Rattle.std.specs.Prelude.{ℕ, Option, Some, None, Bool, ◌&&◌, ◌||◌, nat_le, if◌then◌else◌}
use Rattle.qq_entry.specs.declared.queue.QueueArgs.{QueueArgs}
use Rattle.qq_entry.specs.declared.answer.Full.{Full}
use Rattle.qq_entry.specs.declared.answer.Full.TheVariants.{Length, ByteLength, Live}
use Rattle.qq_model.specs.Limits.{has_reached, has_passed, is_reject_publish, is_drop_head}

-- the first limit that a publish meets, of so many ready messages with so many bytes, and so many that aren't gone
abbrev pub refuses : QueueArgs → ℕ → ℕ → ℕ → Option Full
refuses args ready bytes live =
    if is_reject_publish args.overflow && has_reached args.max_length ready then Some Length
    else if is_reject_publish args.overflow && has_reached args.max_bytes bytes then Some ByteLength
    else if nat_le args.live live then Some Live
    else None

-- whether messages at the front have to die
abbrev pub over : QueueArgs → ℕ → ℕ → Bool
over args ready bytes =
    is_drop_head args.overflow && (has_passed args.max_length ready || has_passed args.max_bytes bytes)

-- whether a message that was returned so often dies of it
abbrev pub dies : QueueArgs → ℕ → Bool
dies args count = has_passed args.delivery_limit count
