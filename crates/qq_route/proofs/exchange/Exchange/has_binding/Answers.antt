use Rattle.std.proofs.Common.{◌≡◌, ◌∙◌, ap, rules}
use Rattle.std.specs.Str.{bytes_eq}
use Rattle.qq_route.specs.declared.exchange.Binding.{Binding}
use Rattle.qq_route.specs.Routes.{is_named, has_binding}
use Rattle.qq_route.proofs.Sets.{named_bound}
use Rattle.qq_route.proofs.exchange.Exchange.has_binding.Goals as goal

pub returns : goal.returns
returns c =
    let key = c.args.key.now in
    let bindings = c.self.inside.bindings.items in
    let b : Binding = record { queue = c.args.queue; key = key } in
    let same : has_binding (record { kind = c.self.inside.kind; bindings = bindings }) b ≡
    has_binding c.args.self.now b = search rules in
    c.is_bound_under.ensures ∙ ap (λ queues. is_named queues c.args.queue.0) (c.self.invariant key)
    ∙ named_bound (λ (other : Binding). bytes_eq key other.key) bindings c.args.queue.0 ∙ same
