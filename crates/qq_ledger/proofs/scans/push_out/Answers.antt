use Rattle.qq_ledger.specs.Ledger.{numbered_index}
use Rattle.qq_ledger.proofs.Pushing.{pushed}
use Rattle.qq_ledger.proofs.scans.push_out.Goals as goal

pub out-preserved : goal.out-preserved
out-preserved c =
    pushed numbered_index c.args.out.now.items c.out.place c.in-Some.one.now c.args.indices.now.items c.out.indices.items
    c.push.new.self.items c.in-Some.ensures c.out.invariant c.in_ok-push.ensures.items
