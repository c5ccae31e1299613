use Rattle.std.proofs.Common.{◌≡◌, map, take}
use Rattle.qq_route.specs.declared.exchange.Binding.{Binding}
use Rattle.qq_route.proofs.exchange.all_bound.Given as goal

abbrev pub invariant-loop-binding : goal.invariant-loop-binding
invariant-loop-binding l = l.queues.items ≡ map (λ (b : Binding). b.queue) (take l.binding-index l.bindings)
