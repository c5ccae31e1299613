use Rattle.std.proofs.Common.{sym, subst}
use Rattle.qq_base.specs.Ids.{same_session}
use Rattle.qq_sessions.specs.Named.{HoldsKept}
use Rattle.qq_sessions.proofs.Holders.{holds-filter, no-room}
use Rattle.qq_sessions.proofs.open_sessions.OpenSessions.remove.Goals as goal

pub invariant_of-self : goal.invariant_of-self
invariant_of-self c = record {
  held =
      subst (HoldsKept c.let_go_session.new.named.indices) (sym c.remove.ensures.rows)
      (holds-filter (λ one. same_session one.session c.args.session) c.self.inside.opened.rows
      c.self.inside.named.indices c.let_go_session.new.named.indices c.self.invariant.held
      c.let_go_session.ensures.named);
  room = λ some. absurd (no-room _ c.remove.ensures.room some);
}
