use Rattle.qq_ledger.specs.Ledger.{dead_index}
use Rattle.qq_ledger.proofs.Pushing.{pushed}
use Rattle.qq_ledger.proofs.scans.push_dead.Goals as goal

pub rows-preserved : goal.rows-preserved
rows-preserved c =
    pushed dead_index c.args.dead.now.letters.rows c.rows.place c.in-Some.one.now c.args.indices.now.items c.rows.indices.items
    c.push.new.self.items c.in-Some.ensures c.rows.invariant c.in_ok-push.ensures.items
