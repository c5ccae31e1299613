use Rattle.std.proofs.Common.{ℕ, Some, ap, subst}
use Rattle.qq_group.specs.Group.{IsServed}
use Rattle.qq_group.proofs.Stepped.{left-dropped}
use Rattle.qq_group.proofs.seat.Seat.feed.Goals as goal

pub returns-in-Ok-clause-ok : goal.returns-in-Ok-clause-ok
returns-in-Ok-clause-ok g c = record {
  was = c.in-Some.server;
  now = c.feed_server.new.server;
  up = c.in-Some.is;
  seat = ap (λ (n : ℕ). record c.args.self.now { server = Some c.feed_server.new.server; noticed = n })
      c.noticed-self.ensures;
  stepped = c.in-Ok.ensures.ok;
}

pub returns-in-Err-clause-err : goal.returns-in-Err-clause-err
returns-in-Err-clause-err g c = record {
  was = c.in-Some.server;
  last = c.feed_server.new.server;
  up = c.in-Some.is;
  back = c.in-Err.ensures.back;
  leaves = c.crash.ensures.leaves;
}

pub returns-in-Err-clause-left : goal.returns-in-Err-clause-left
unfolding returns-in-Err-clause-err
returns-in-Err-clause-left g c =
    let serving = subst (IsServed g.Q.Queue.stands g.L.LogView.log g.Q.Queue.applied) c.in-Some.is c.requires.served in
    left-dropped g.L.LogView.log c.args.self.now c.crash.new.self (returns-in-Err-clause-err g c)
    serving.sound.raft.undos serving.sound.raft.whole
