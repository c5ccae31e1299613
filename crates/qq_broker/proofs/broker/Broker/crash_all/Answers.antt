use Rattle.std.proofs.Common.{refl, ◌∙◌, arith}
use Rattle.qq_broker.proofs.GoingOn.{can-serve}
use Rattle.qq_broker.proofs.Rested.{own-disks, own-rests, some_image, stopped-logs, stopped-many}
use Rattle.qq_broker.proofs.broker.Broker.crash_all.Goals as goal

pub stop_each-requires : goal.stop_each-requires
stop_each-requires g c =
    let disk = g.D.NodeDisk in
    can-serve c.requires.0 disk.facts c.args.self.setup c.args.self.nodes c.requires.1.0 c.requires.1.1.holds

pub take_disks-requires-clause-own : goal.take_disks-requires-clause-own
take_disks-requires-clause-own g c =
    let disk = g.D.NodeDisk in
    stopped-logs c.requires.0 disk.facts c.args.self c.stop_each.new.self c.stop_each.ensures.stands
    c.stop_each.ensures.disks c.requires.1.0 some_image c.requires.1.1

pub take_disks-requires-clause-empty : goal.take_disks-requires-clause-empty
take_disks-requires-clause-empty g c = c.requires.1.1.empty

pub take_disks-requires-clause-room : goal.take_disks-requires-clause-room
take_disks-requires-clause-room g c =
    let disk = g.D.NodeDisk in
    let many = stopped-many c.requires.0 disk.facts c.args.self c.stop_each.new.self c.stop_each.ensures.stands
    c.stop_each.ensures.disks c.requires.1.0 some_image c.requires.1.1 in
    let room = c.requires.1.1.room in
    omega (arith, many, room)

pub returns-clause-rests : goal.returns-clause-rests
returns-clause-rests g c = λ given run so.
    (let disk = g.D.NodeDisk in
    own-rests given disk.facts c.args.self c.stop_each.new.self c.stop_each.ensures.stands c.stop_each.ensures.disks
    c.take_disks.new.self c.take_disks.new.disks.items c.take_disks.ensures.same
    c.take_disks.ensures.disks (record { nodes = c.take_disks.new.self }) run some_image refl so)

pub returns-clause-count : goal.returns-clause-count
returns-clause-count g c =
    let disk = g.D.NodeDisk in
    c.take_disks.ensures.disks.many
    ∙ stopped-many c.requires.0 disk.facts c.args.self c.stop_each.new.self c.stop_each.ensures.stands
    c.stop_each.ensures.disks c.requires.1.0 some_image c.requires.1.1

pub returns-clause-disks : goal.returns-clause-disks
returns-clause-disks g c =
    let disk = g.D.NodeDisk in
    own-disks c.requires.0 disk.facts c.args.self c.stop_each.new.self c.stop_each.ensures.stands
    c.stop_each.ensures.disks c.take_disks.new.self c.take_disks.new.disks.items
    c.take_disks.ensures.same c.take_disks.ensures.disks
