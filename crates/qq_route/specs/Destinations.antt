-- The queues to which a message comes, as a list.
use Rattle.std.specs.Prelude.{List, [], ◌∷◌}
use Rattle.qq_base.specs.declared.ids.QueueId.{QueueId}
use Rattle.qq_route.specs.declared.destinations.Destinations.{Destinations}
use Rattle.qq_route.specs.declared.destinations.Destinations.TheVariants.{One, Several}

abbrev pub listed : Destinations → List QueueId
listed (One queue) = queue ∷ []
listed (Several queues) = queues.items
