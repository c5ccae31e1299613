use Rattle.std.proofs.Common.{None, inl, refl, subst, sym, IfSome}
use Rattle.qq_group.specs.Step.{IsLeaving}
use Rattle.qq_group.proofs.seat.Seat.crash.Goals as goal

pub returns-clause-dropped : goal.returns-clause-dropped
returns-clause-dropped g c = record {
  was = c.in-Some.server;
  last = c.in-Some.server;
  up = sym c.in-Some.ensures.value;
  back = inl refl;
  leaves = subst (λ o. IsLeaving g.L.LogView.log c.in-Some.server (record c.args.self.now { server = o }) c.leave.new.self)
      c.take.ensures.after c.leave.ensures;
}

pub returns-clause-leaves : goal.returns-clause-leaves
returns-clause-leaves g c =
    subst (λ o. IfSome o (λ server.
    IsLeaving g.L.LogView.log server (record c.args.self.now { server = None }) c.leave.new.self)) c.in-Some.ensures.value
    (subst (λ o. IsLeaving g.L.LogView.log c.in-Some.server (record c.args.self.now { server = o }) c.leave.new.self)
    c.take.ensures.after c.leave.ensures)
