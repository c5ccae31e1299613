use Rattle.qq_inbox.proofs.HandOvers.{joins, tells}
use Rattle.qq_inbox.proofs.inbox.Inbox.join.Goals as goal

pub absorb-requires-clause-rule : goal.absorb-requires-clause-rule
absorb-requires-clause-rule g c = joins g.S.Start.queues g.S.Start.carries _ _ _ _

pub learn_as-requires-clause-rule : goal.learn_as-requires-clause-rule
learn_as-requires-clause-rule g c = tells g.S.Start.queues g.S.Start.carries _ _
