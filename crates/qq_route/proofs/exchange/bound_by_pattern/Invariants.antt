use Rattle.std.proofs.Common.{◌≡◌, map, filter, take}
use Rattle.qq_route.specs.declared.exchange.ExchangeKind.TheVariants.{Topic}
use Rattle.qq_route.specs.declared.exchange.Binding.{Binding}
use Rattle.qq_route.specs.Routes.{takes}
use Rattle.qq_route.proofs.exchange.bound_by_pattern.Given as goal

abbrev pub invariant-loop-binding : goal.invariant-loop-binding
invariant-loop-binding l =
    l.queues.items ≡ map (λ (b : Binding). b.queue)
    (filter (λ (b : Binding). takes Topic b.key l.key) (take l.binding-index l.bindings))
