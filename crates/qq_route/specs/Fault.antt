-- Why a message has no targets.
use Rattle.std.specs.Prelude.{◌≡◌}
use Rattle.qq_base.specs.declared.memory.Memory.TheVariants.{Want}
use Rattle.qq_route.specs.declared.routes.RouteFault.{RouteFault}
use Rattle.qq_route.specs.declared.routes.RouteFault.TheVariants.{NoExchange, Memory}

-- There is no exchange only where P says so. Else there was no memory.
abbrev pub NoExchangeOnlyWhere : Type 0 → RouteFault → Type 0
NoExchangeOnlyWhere P NoExchange = P
NoExchangeOnlyWhere P (Memory fault) = fault ≡ Want
