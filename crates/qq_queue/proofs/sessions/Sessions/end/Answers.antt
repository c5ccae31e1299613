use Rattle.std.proofs.Common.{ap, ◌∙◌}
use Rattle.qq_queue.specs.Sessions.{present, set_ended, standings}
use Rattle.qq_queue.proofs.Known.{written-known}
use Rattle.qq_queue.proofs.sessions.Sessions.end.Goals as goal

pub returns-clause-ok : goal.returns-clause-ok
returns-clause-ok c =
    written-known (λ k. present) c.args.session c.self.inside.rows
    (c.get_mut.follows.lender c.end.new.self) c.in-Some.standing.now c.end.new.self
    (standings c.args.self.now) set_ended c.in-Some.ensures.value
    (ap standings c.self.view_is ∙ c.open.ensures.same) (c.get_mut.follows.holds c.end.new.self)
    c.end.ensures
