use Rattle.std.proofs.Common.{List, Option, Some, ap, refl, ◌∙◌}
use Rattle.std.proofs.lemmas.Result.{IfErr-weaker, IfOk-weaker}
use Rattle.qq_taker.specs.Takers.{hear_on}
use Rattle.qq_taker.specs.declared.heard.Heard.{Heard}
use Rattle.qq_cluster_model.specs.Outcome.{Outcome}
use Rattle.qq_broker.proofs.Calls.{call-given-up, has-called}
use Rattle.qq_broker.proofs.GoingOn.{queue-there}
use Rattle.qq_broker.proofs.broker.Broker.call.Goals as goal

pub hear_call-called-requires-clause-queue : goal.hear_call-called-requires-clause-queue
hear_call-called-requires-clause-queue g c =
    let disk = g.D.NodeDisk in
    queue-there c.requires.0 disk.facts c.args.self.now.setup c.requires.1.0 c.args.self.now.nodes c.args.queue
    c.requires.1.1.holds c.requires.1.2.1

pub returns-clause-ok : goal.returns-clause-ok
returns-clause-ok g c = λ given run so.
    (let disk = g.D.NodeDisk in
    let old = c.args.self.now in
    let new = record old { nodes = c.hear_call-called.new.nodes } in
    IfOk-weaker c.hear_call-called.result _ _
    (λ called call. has-called given disk.facts run c.who_listens_hears_what_is_told.ensures.heard
    c.who_listens_hears_what_is_told.ensures.held old new c.args.session
    c.args.queue c.args.body c.args.takers.now c.hear_on.new.self c.lend-told.result c.hear_call-called.new.told called so
    refl refl
    (ap (λ (o : Outcome). o.takers) c.lend-told.ensures ∙ c.hear_on-before.ensures.rest
    ∙ ap (λ (l : List Heard). hear_on (Some l) c.args.takers.now) c.new.ensures.items)
    (c.hear_on.ensures.rest
    ∙ ap (λ (o : Option (List Heard)). hear_on o c.give_back.new.takers) c.hear_on-before.ensures.heard
    ∙ ap (hear_on c.args.takers.now.heard) c.give_back.ensures.takers) call) c.hear_call-called.ensures.ok)

pub returns-clause-cause : goal.returns-clause-cause
returns-clause-cause g c = λ given run so.
    (let disk = g.D.NodeDisk in
    IfErr-weaker c.hear_call-called.result _ _
    (λ memory stops. call-given-up given disk.facts run c.args.self.now.setup c.args.session.number c.args.body
    c.args.queue.0 c.args.self.now.nodes memory so.holds stops) c.hear_call-called.ensures.err)
