use Rattle.qq_cluster.specs.Nodes.{Served}
use Rattle.qq_cluster.specs.Sending.{GivesTo, numbers_of}
use Rattle.qq_cluster.proofs.nodes.Nodes.give_first.Given as goal

-- the queues so far were given the command
abbrev pub invariant-queues : goal.invariant-queues
invariant-queues g l =
    Served g.D.NodeDisk.facts (GivesTo l.session l.body (numbers_of l.queues) l.at) l.fn.self l.self l.fn.told l.told
