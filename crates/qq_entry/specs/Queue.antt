-- A queue's arguments.
use Rattle.std.specs.Prelude.{ℕ, [], Some, None, false}
use Rattle.qq_base.specs.declared.ids.QueueId.{QueueId}
use Rattle.qq_entry.specs.declared.queue.TheConstants.{DELIVERY_LIMIT, LIVE_LIMIT}
use Rattle.qq_entry.specs.declared.queue.QueueArgs.{QueueArgs}
use Rattle.qq_entry.specs.declared.queue.Overflow.TheVariants.{DropHead}
use Rattle.qq_entry.specs.declared.queue.Strategy.TheVariants.{Absent}

-- the arguments of a queue that is declared with none but its type
abbrev pub default_args : QueueId → ℕ → QueueArgs
default_args queue group =
    record {
      queue = queue;
      group = group;
      max_length = None;
      max_bytes = None;
      overflow = DropHead;
      delivery_limit = Some DELIVERY_LIMIT;
      single_active = false;
      strategy = Absent;
      dead_exchange = [];
      dead_key = None;
      live = LIVE_LIMIT;
    }
