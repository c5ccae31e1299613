use Rattle.qq_cluster.proofs.Turned.{has-stopped}
use Rattle.qq_cluster.proofs.nodes.Nodes.stop.Goals as goal

pub returns : goal.returns
returns g c =
    has-stopped c.args.node.0 c.args.self.now c.stop_members.new.self c.down_in.new.nodes c.stop_members.ensures.same
    c.stop_members.ensures.turns c.down_in.ensures
