use Rattle.std.proofs.Common.{not, List, filter, sym, ap, ◌∙◌, subst, is_some}
use Rattle.qq_base.specs.declared.ids.Index.{Index}
use Rattle.qq_base.specs.declared.ids.SessionId.{SessionId}
use Rattle.qq_model.specs.Gate.{is_giving_way}
use Rattle.qq_model.specs.declared.session.OpenSession.{OpenSession}
use Rattle.qq_sessions.specs.Named.{HoldsKept}
use Rattle.qq_sessions.proofs.Holders.{holds-filter, holds-new}
use Rattle.qq_sessions.proofs.open_sessions.OpenSessions.open_session.Goals as goal

pub invariant_of-self : goal.invariant_of-self
invariant_of-self c =
    let id : SessionId = c.args.stamp.now.session in
    let rows : List OpenSession = c.self.inside.opened.rows in
    let left : List Index = c.let_go_earlier.new.named.indices in
    record {
      held =
          subst (HoldsKept left) (sym c.open_session.ensures.rows)
          (holds-new c.args.stamp.now (filter (λ (one : OpenSession). not (is_giving_way id one)) rows) left
          (holds-filter (is_giving_way id) rows c.self.inside.named.indices left c.self.invariant.held
          c.let_go_earlier.ensures.named));
      room =
          λ some. c.let_go_earlier.ensures.room
          (c.self.invariant.room (sym (ap is_some c.open_session.ensures.room) ∙ some));
    }
