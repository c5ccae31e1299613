use Rattle.qq_ledger.specs.Ledger.{message_index}
use Rattle.qq_ledger.proofs.Pushing.{pushed}
use Rattle.qq_ledger.proofs.scans.push_all.Goals as goal

pub rows-preserved : goal.rows-preserved
rows-preserved c =
    pushed message_index c.args.rows.now.items c.rows.place c.in-Some.row.now c.args.indices.now.items c.rows.indices.items
    c.push.new.self.items c.in-Some.ensures c.rows.invariant c.in_ok-push.ensures.items
