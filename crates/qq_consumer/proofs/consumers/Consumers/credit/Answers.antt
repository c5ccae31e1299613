use Rattle.std.proofs.Common.{sym, ap, ◌∙◌}
use Rattle.std.specs.Option.{option_map}
use Rattle.qq_parts.specs.Parts.{consumer_at}
use Rattle.qq_consumer.specs.Roster.{ConsumersState, one_of}
use Rattle.qq_consumer.proofs.Calls.{there-row}
use Rattle.qq_consumer.proofs.consumers.Consumers.credit.Goals as goal

pub set_credit-requires-clause-there : goal.set_credit-requires-clause-there
set_credit-requires-clause-there c =
    ap (λ (s : ConsumersState). option_map consumer_at (one_of c.in-Some.row.now.consumer.id s.roster.served))
    (sym c.self.view_is)
    ∙ there-row c.args.id c.self.inside.joined.served c.in-Some.row.now c.in-Some.ensures.value
