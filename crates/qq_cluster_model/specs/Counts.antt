-- How many messages are ready at a queue's leader, and how many of its consumers weren't cancelled.
use Rattle.std.specs.Prelude.{ℕ, ◌-◌, ◌^◌, Option, count_by, min, not}
use Rattle.std.specs.Option.{option_map}
use Rattle.qq_entry.specs.declared.queue.QueueArgs.{QueueArgs}
use Rattle.qq_model.specs.Limits.{ready_count}
use Rattle.qq_model.specs.State.{State}
use Rattle.qq_model.specs.declared.consumer.Consumer.{Consumer}
use Rattle.qq_raft_model.specs.State.{Server}
use Rattle.qq_cluster_model.specs.Delivering.{applied_by}
use Rattle.qq_cluster_model.specs.Queue.{Queue, leader, server_of}

-- of a queue's state; consumers as far as 32 bits count
abbrev pub counts_of : State → ℕ × ℕ
counts_of s = (ready_count s.rows, min (count_by (λ (c : Consumer). not c.cancelled) s.consumers) (2 ^ 32 - 1))

-- as a server has applied its entries
abbrev pub counts_by : QueueArgs → Server → ℕ × ℕ
counts_by args s = counts_of (applied_by args s)

-- None exactly where no leader is ready
abbrev pub counts : Queue → Option (ℕ × ℕ)
counts q = option_map (counts_by q.args) (server_of (leader q.group) q.group)
