use Rattle.qq_ledger.specs.Ledger.{keyed_index}
use Rattle.qq_ledger.proofs.Pushing.{pushed}
use Rattle.qq_ready.specs.Queue.{in_order}
use Rattle.qq_ledger.proofs.scans.push_ready.Goals as goal

pub rows-preserved : goal.rows-preserved
rows-preserved c =
    pushed keyed_index (in_order c.args.ready.now.queue) c.rows.place c.in-Some.one.now c.args.indices.now.items c.rows.indices.items
    c.push.new.self.items c.in-Some.ensures c.rows.invariant c.in_ok-push.ensures.items
