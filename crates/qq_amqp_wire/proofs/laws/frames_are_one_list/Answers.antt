use Rattle.qq_amqp_wire.proofs.CallLaws.{are_split, only_these, come_in_order, cut_alike}
use Rattle.qq_amqp_wire.proofs.laws.frames_are_one_list.Goals as goal

pub returns-clause-split : goal.returns-clause-split
returns-clause-split c = are_split

pub returns-clause-only : goal.returns-clause-only
returns-clause-only c = only_these

pub returns-clause-cut : goal.returns-clause-cut
returns-clause-cut c = cut_alike

pub returns-clause-order : goal.returns-clause-order
returns-clause-order c = come_in_order
