use Rattle.std.proofs.Common.{◌≡◌, ◌∙◌, ap, map, rules}
use Rattle.std.proofs.lemmas.Result.{IfOk-weaker}
use Rattle.qq_route.specs.declared.exchange.ExchangeKind.TheVariants.{Fanout}
use Rattle.qq_route.proofs.Bindings.{queue_of, all_taken}
use Rattle.qq_route.proofs.exchange.Exchange.bound.Goals as goal

pub returns-in-Fanout-clause-ok : goal.returns-in-Fanout-clause-ok
returns-in-Fanout-clause-ok c =
    let kind : c.args.self.now.kind ≡ Fanout = search rules in
    let same : c.deref.result.now ≡ c.args.self.now.bindings = search rules in
    IfOk-weaker c.all_bound.result _ _
    (λ queues is. is ∙ ap (map queue_of) same
    ∙ all_taken c.args.self.now.kind c.args.key.now c.args.self.now.bindings kind) c.all_bound.ensures.ok
