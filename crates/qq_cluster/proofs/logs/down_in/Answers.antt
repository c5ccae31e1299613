use Rattle.std.proofs.Common.{◌≡◌}
use Rattle.std.specs.Prelude.{false}
use Rattle.qq_cluster.proofs.Logged.{turns-back}
use Rattle.qq_cluster.proofs.logs.down_in.Goals as goal

pub returns : goal.returns
returns g c =
    turns-back (λ old new. new ≡ record old { up = false }) c.args.at c.args.nodes.now.items c.deref_mut.result.now
    c.down_at.new.nodes c.args.nodes.now.len c.deref_mut.ensures.value c.deref_mut.ensures.len c.down_at.ensures
