use Rattle.qq_broker.proofs.Handed.{gave-have}
use Rattle.qq_broker.proofs.over_disks.hand_back.Goals as goal

pub take_disks-requires-clause-own : goal.take_disks-requires-clause-own
take_disks-requires-clause-own g c = c.requires.own

pub take_disks-requires-clause-empty : goal.take_disks-requires-clause-empty
take_disks-requires-clause-empty g c = c.requires.empty

pub take_disks-requires-clause-room : goal.take_disks-requires-clause-room
take_disks-requires-clause-room g c = c.requires.room

pub returns-clause-count : goal.returns-clause-count
returns-clause-count g c = c.take_disks.ensures.disks.many

pub returns-clause-disks : goal.returns-clause-disks
returns-clause-disks g c =
    let disk = g.D.NodeDisk in
    gave-have disk.facts c.args.nodes c.take_disks.new.self.nodes.items c.take_disks.new.disks.items
    c.take_disks.ensures.disks
