use Rattle.std.proofs.Common.{◌≡◌, take}
use Rattle.qq_cluster.specs.Setting.{ids_on}
use Rattle.qq_cluster.proofs.new.queues_on.Given as goal

-- those of the rows so far
abbrev pub invariant-rows : goal.invariant-rows
invariant-rows l = l.ids.items ≡ ids_on (take l.row-index l.rows) l.node.0
