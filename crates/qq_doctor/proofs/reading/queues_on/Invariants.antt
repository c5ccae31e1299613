use Rattle.std.proofs.Common.{◌≡◌, take}
use Rattle.qq_doctor.specs.Reading.{queues_on}
use Rattle.qq_doctor.proofs.reading.queues_on.Given as goal

-- those so far
abbrev pub invariant-rows : goal.invariant-rows
invariant-rows l = l.queues.items ≡ queues_on (take l.row-index l.rows) l.node.0
