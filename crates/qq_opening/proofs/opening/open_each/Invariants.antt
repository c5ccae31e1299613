use Rattle.std.specs.Prelude.{List}
use Rattle.qq_cluster.specs.Setting.{AreNew}
use Rattle.qq_route.specs.declared.queue_row.QueueRow.{QueueRow}
use Rattle.qq_opening.specs.Opened.{OpenedTo}
use Rattle.qq_opening.proofs.opening.open_each.Given as goal

-- the first nodes were opened
abbrev pub invariant-nodes : goal.invariant-nodes
invariant-nodes g l =
    (rows : List QueueRow) → AreNew g.D.NodeDisk.facts rows l.fn.nodes
    → OpenedTo g.D.NodeDisk.facts rows l.at l.some l.fn.nodes l.nodes l.fn.told l.told
