use Rattle.std.proofs.Common.{◌≡◌, Some, rules}
use Rattle.qq_route.specs.View.{table_of}
use Rattle.qq_route.proofs.Sets.{some_targets}
use Rattle.qq_route.proofs.routes.Routes.targets.Goals as goal

pub returns-in-Ok-clause-absent : goal.returns-in-Ok-clause-absent
returns-in-Ok-clause-absent c = λ none. absurd (
    let some : (table_of c.args.self.now).exchanges c.args.exchange.now ≡ Some c.in-Some.state.now = search rules in
    some_targets (table_of c.args.self.now) c.args.exchange.now c.args.key.now c.in-Some.state.now some none)

pub returns-in-Err-clause-absent : goal.returns-in-Err-clause-absent
returns-in-Err-clause-absent c = λ none. absurd (
    let some : (table_of c.args.self.now).exchanges c.args.exchange.now ≡ Some c.in-Some.state.now = search rules in
    some_targets (table_of c.args.self.now) c.args.exchange.now c.args.key.now c.in-Some.state.now some none)
