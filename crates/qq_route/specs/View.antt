-- What routes are, to whoever uses them.
use Rattle.std.specs.BTreeMap.{get_by_text}
use Rattle.qq_route.specs.declared.routes.Routes.{Routes}
use Rattle.qq_route.specs.Routes.{Table}

abbrev pub table_of : Routes → Table
table_of r = record { queues = r.queues.keys; exchanges = get_by_text r.exchanges }
