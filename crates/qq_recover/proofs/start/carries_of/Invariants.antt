use Rattle.std.proofs.Common.{◌≡◌, take}
use Rattle.std.specs.List.{AllByRecursion}
use Rattle.qq_wal.specs.Marks.{IsCarry, carries_of}
use Rattle.qq_recover.specs.Table.{lanes_of}
use Rattle.qq_recover.proofs.start.carries_of.Given as goal

-- the carries of the first queues are added
abbrev pub invariant-queues : goal.invariant-queues
invariant-queues l = record {
  carries : l.carries.items ≡ carries_of (take l.queue-index l.queues) (lanes_of l.table);
  each : AllByRecursion IsCarry (carries_of (take l.queue-index l.queues) (lanes_of l.table));
}
