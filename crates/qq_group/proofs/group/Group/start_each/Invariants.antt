use Rattle.qq_group.proofs.Starting.{UnderWay}
use Rattle.qq_group.proofs.group.Group.start_each.Given as goal

abbrev pub invariant-starts : goal.invariant-starts
invariant-starts g l =
    UnderWay g.Q.Queue.stands g.L.LogView.log g.Q.Queue.applied l.fn.starts.items l.start-iterator.rest.items l.fn.self l.self
