use Rattle.std.proofs.Common.{◌≡◌, List, length}
use Rattle.qq_base.specs.declared.ids.QueueId.{QueueId}
use Rattle.qq_recover.specs.Replay.{replay_records}
use Rattle.qq_recover.specs.Table.{lanes_of, Lists}
use Rattle.qq_recover.proofs.replay.replay_file.Given as goal

-- the rest comes to what all come to
abbrev pub invariant-records : goal.invariant-records
invariant-records l = (queues : List QueueId) → Lists queues l.fn.table
    → Lists queues l.table
    × (replay_records queues l.number l.rest.items (lanes_of l.table)
    ≡ replay_records queues l.number l.fn.file.records (lanes_of l.fn.table))

abbrev pub decreases-records : goal.decreases-records
decreases-records l = length l.rest.items
