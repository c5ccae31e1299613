use Rattle.qq_doctor.proofs.Sorting.{Adding}
use Rattle.qq_doctor.proofs.found.Found.add_all.Given as goal

-- with the rest all of them are added
abbrev pub invariant-lanes : goal.invariant-lanes
invariant-lanes l =
    Adding l.fn.node.0 l.fn.lanes.items l.lane-iterator.rest.items l.fn.self.rows.items l.self.rows.items
