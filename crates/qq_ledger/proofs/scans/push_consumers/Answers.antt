use Rattle.qq_ledger.proofs.Pushing.{outs-pushed}
use Rattle.qq_ledger.proofs.scans.push_consumers.Goals as goal

pub consumers-preserved : goal.consumers-preserved
consumers-preserved c =
    outs-pushed c.args.consumers.now.roster.served c.consumers.place c.args.indices.now.items c.consumers.indices.items
    c.push_consumer.new.indices.items c.consumers.invariant c.in_ok-push_consumer.ensures.ok
