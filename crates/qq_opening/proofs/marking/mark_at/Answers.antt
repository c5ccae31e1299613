use Rattle.std.proofs.Common.{◌≡◌}
use Rattle.std.specs.Prelude.{not}
use Rattle.qq_cluster.proofs.Logged.{node-turns}
use Rattle.qq_opening.proofs.marking.mark_at.Goals as goal

pub returns : goal.returns
returns g c =
    node-turns (λ old new. new ≡ record old { up = c.args.up; empty = not c.args.up }) c.args.at c.args.nodes.now _
    c.mark.new.node c.requires c.mark.ensures
