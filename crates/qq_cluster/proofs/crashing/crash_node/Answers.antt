use Rattle.std.proofs.Common.{◌-◌, arith}
use Rattle.qq_cluster.proofs.Crashed.{crash-done, crash-leaves, own-log}
use Rattle.qq_cluster.proofs.Items.{queues-sound}
use Rattle.qq_cluster.proofs.crashing.crash_node.Goals as goal

pub crash_in-requires-clause-place : goal.crash_in-requires-clause-place
crash_in-requires-clause-place g c = omega (arith, c.requires.node.0, c.requires.node.1)

pub crash_in-requires-clause-own : goal.crash_in-requires-clause-own
crash_in-requires-clause-own g c lifetimes bounds node here =
    own-log c.args.nodes.now (c.args.node.0 - 1) node c.requires.serve here

pub stop_members-requires : goal.stop_members-requires
stop_members-requires g c = queues-sound c.requires.serve

pub returns-in-Ok-clause-ok : goal.returns-in-Ok-clause-ok
returns-in-Ok-clause-ok g c = λ text.
    crash-done g.Y.Disk.NodeDisk.facts c.args.node.0 c.args.image.now c.args.nodes.now c.crash_in.new.nodes
    c.stop_members.new.self c.requires.node.0 c.in-Ok.ensures.ok
    c.stop_members.ensures.same c.stop_members.ensures.turns text

pub returns-in-Ok-clause-leaves : goal.returns-in-Ok-clause-leaves
returns-in-Ok-clause-leaves g c =
    crash-leaves g.Y.Disk.NodeDisk.facts c.args.node.0 c.args.image.now c.args.nodes.now c.crash_in.new.nodes
    c.stop_members.new.self c.requires.node.0 c.in-Ok.ensures.ok
    c.stop_members.ensures.same c.stop_members.ensures.turns
