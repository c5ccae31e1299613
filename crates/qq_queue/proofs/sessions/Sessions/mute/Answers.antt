use Rattle.std.proofs.Common.{ap, ◌∙◌}
use Rattle.qq_queue.specs.Sessions.{present, set_muted, standings}
use Rattle.qq_queue.proofs.Known.{written-known}
use Rattle.qq_queue.proofs.sessions.Sessions.mute.Goals as goal

pub returns-clause-ok : goal.returns-clause-ok
returns-clause-ok c =
    written-known (λ k. present) c.args.session c.self.inside.rows
    (c.get_mut.follows.lender c.set_muted.new.self) c.in-Some.standing.now c.set_muted.new.self
    (standings c.args.self.now) (set_muted c.args.muted) c.in-Some.ensures.value
    (ap standings c.self.view_is ∙ c.open.ensures.same) (c.get_mut.follows.holds c.set_muted.new.self)
    c.set_muted.ensures
