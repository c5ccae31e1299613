use Rattle.std.proofs.Common.{sym, ap, ◌∙◌}
use Rattle.qq_base.specs.declared.ids.ConsumerId.{ConsumerId}
use Rattle.qq_base.specs.declared.ids.SessionId.{SessionId}
use Rattle.qq_queue.proofs.Verdicts.{attach-does, busy-does}
use Rattle.qq_queue.proofs.cluster_queue.ClusterQueue.attach.Goals as goal

pub returns-in-Some-clause-ok : goal.returns-in-Some-clause-ok
returns-in-Some-clause-ok c = λ sessions q st.
    let id : SessionId → ConsumerId = λ session. record { session = session; tag = c.args.tag } in
    busy-does sessions c.args.self.now q c.args.session c.args.tag c.args.number c.in-Some.number (id c.client.result)
    c.args.shown.now.items c.push.new.self.items st (ap id c.client.ensures) c.in-Some.ensures c.in_ok-push.ensures.items

pub returns-clause-ok : goal.returns-clause-ok
returns-clause-ok c = λ sessions q st.
    let id : SessionId → ConsumerId = λ session. record { session = session; tag = c.args.tag } in
    attach-does sessions c.args.self.now q c.args.session c.args.tag c.args.number (id c.client.result) c.sit.new.self
    c.args.shown.now.items c.push-2.new.self.items st (ap id c.client.ensures) (sym c.in_default.is ∙ c.taker_of.ensures)
    c.in_ok-sit.ensures.ok c.in_ok-push-2.ensures.items
