use Rattle.std.proofs.Common.{◌≤◌, Some}
use Rattle.qq_doctor.proofs.NodesRead.{Reading}
use Rattle.qq_doctor.proofs.reading.read_nodes.Given as goal

-- the nodes so far were read
abbrev pub invariant-nodes : goal.invariant-nodes
invariant-nodes g l =
    let yard = g.Y.Yard in
    record {
      later : yard.faults l.fn.yard ≤ yard.faults l.yard;
      reading : Reading (yard.is_given (Some l.fn.root)) g.Y.Disk.NodeDisk.facts l.fn.setup.queues l.before
          l.fn.found.rows.items l.found.rows.items;
    }
