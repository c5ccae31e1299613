use Rattle.qq_group.proofs.Seats.{none-past, some-read}
use Rattle.qq_group.proofs.group.Group.seat.Goals as goal

pub returns-clause-some : goal.returns-clause-some
returns-clause-some g c =
    some-read c.get.result (λ seat. seat.now) c.args.self.now.seats.items c.deref.result.now c.args.node.0
    c.get.ensures.lookup.0 c.deref.ensures.value c.get.ensures.lookup.1

pub returns-clause-none : goal.returns-clause-none
returns-clause-none g c =
    none-past c.get.result c.args.self.now.seats.items c.deref.result.now c.args.node.0 c.get.ensures.lookup.0
    c.deref.ensures.value
