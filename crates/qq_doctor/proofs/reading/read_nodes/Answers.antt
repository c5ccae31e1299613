use Rattle.std.proofs.Common.{Some, arith}
use Rattle.qq_doctor.proofs.NodesRead.{reading-begin, reading-end, reading-next, stops}
use Rattle.qq_doctor.proofs.reading.read_nodes.Goals as goal

pub nodes-init : goal.nodes-init
nodes-init g c =
    record {
      later = omega arith;
      reading = reading-begin (g.Y.Yard.is_given (Some c.args.root.now)) g.Y.Disk.NodeDisk.facts c.args.setup.now.queues
          c.args.found.now.rows.items;
    }

pub nodes-preserved : goal.nodes-preserved
nodes-preserved g c =
    record {
      later = omega (arith, c.nodes.invariant.later, c.in-Ok.ensures.later);
      reading = reading-next (g.Y.Yard.is_given (Some c.args.root.now)) g.Y.Disk.NodeDisk.facts c.args.setup.now.queues
          c.as_slice-rows.result.now c.nodes.before c.args.found.now.rows.items c.nodes.found.rows.items
          c.read_node.new.found.rows.items c.as_slice-rows.ensures c.nodes.invariant.reading c.in-Ok.ensures.ok;
    }

pub returns-in-Err-clause-cause : goal.returns-in-Err-clause-cause
returns-in-Err-clause-cause g c =
    stops (g.Y.Yard.is_given (Some c.args.root.now)) g.Y.Disk.NodeDisk.facts c.args.setup.now.queues
    c.as_slice-rows.result.now c.args.setup.now.nodes c.nodes.before c.args.found.now.rows.items
    c.nodes.found.rows.items (g.Y.Yard.faults c.args.yard.now) (g.Y.Yard.faults c.nodes.yard)
    (g.Y.Yard.faults c.read_node.new.yard) c.in-Err.ending c.as_slice-rows.ensures c.nodes-test.true
    c.nodes.invariant.reading c.nodes.invariant.later c.in-Err.ensures.cause

pub returns-in-Err-clause-later : goal.returns-in-Err-clause-later
returns-in-Err-clause-later g c = omega (arith, c.nodes.invariant.later, c.in-Err.ensures.later)

pub returns-clause-ok : goal.returns-clause-ok
returns-clause-ok g c =
    reading-end (g.Y.Yard.is_given (Some c.args.root.now)) g.Y.Disk.NodeDisk.facts c.args.setup.now.queues c.nodes.before
    c.args.setup.now.nodes c.args.found.now.rows.items c.nodes.found.rows.items
    (omega (arith, c.nodes-test.false, c.nodes.auto.before-end)) c.nodes.invariant.reading

pub returns-clause-later : goal.returns-clause-later
returns-clause-later g c = c.nodes.invariant.later
