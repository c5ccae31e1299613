use Rattle.std.proofs.Common.{refl}
use Rattle.qq_inbox.proofs.Knowledge.{first_number, next_number}
use Rattle.qq_inbox.proofs.laws.ops_in_order_count_on.Goals as goal

pub returns-clause-next : goal.returns-clause-next
returns-clause-next c = next_number

pub returns-clause-first : goal.returns-clause-first
returns-clause-first c = first_number

pub returns-clause-listed : goal.returns-clause-listed
returns-clause-listed c queues carries front back op order = (order front op back refl).0.listed

pub returns-clause-written : goal.returns-clause-written
returns-clause-written c queues carries front back op order = (order front op back refl).1
