use Rattle.qq_session.proofs.ArrivingLemmas.{arrive_in_order}
use Rattle.qq_session.proofs.laws.commands_arrive_in_order.Goals as goal

pub returns : goal.returns
returns c = arrive_in_order c.commands_count_by_one.ensures
