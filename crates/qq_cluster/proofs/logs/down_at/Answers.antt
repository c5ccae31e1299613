use Rattle.std.proofs.Common.{◌≡◌}
use Rattle.std.specs.Prelude.{false}
use Rattle.qq_cluster.proofs.Logged.{node-turns}
use Rattle.qq_cluster.proofs.logs.down_at.Goals as goal

pub returns : goal.returns
returns g c =
    node-turns (λ old new. new ≡ record old { up = false }) c.args.at c.args.nodes.now _ c.set_down.new.node c.requires
    c.set_down.ensures
