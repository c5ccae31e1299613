use Rattle.qq_route.specs.Destinations.{listed}
use Rattle.qq_broker.proofs.Targets.{targets-there}
use Rattle.qq_broker.proofs.routing.targets.Goals as goal

pub returns-in-Ok-clause-there : goal.returns-in-Ok-clause-there
returns-in-Ok-clause-there c =
    targets-there c.args.setup.now c.args.exchange.now c.args.key.now (listed c.in-Ok.queues) c.requires c.in-Ok.ensures.ok
