use Rattle.qq_consuming.proofs.HistoryLaws.{in_order, of-arrivals}
use Rattle.qq_consuming.proofs.laws.deliveries_are_handed_out_in_order.Goals as goal

pub returns-clause-ids : goal.returns-clause-ids
returns-clause-ids c = in_order

pub returns-clause-arrived : goal.returns-clause-arrived
returns-clause-arrived c = of-arrivals
