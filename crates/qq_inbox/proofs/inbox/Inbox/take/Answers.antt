use Rattle.qq_inbox.proofs.HandOvers.{takes, tells}
use Rattle.qq_inbox.proofs.inbox.Inbox.take.Goals as goal

pub pop_as-requires-clause-rule : goal.pop_as-requires-clause-rule
pop_as-requires-clause-rule g c = (
  takes g.S.Start.queues g.S.Start.carries _ _ c.requires.right,
  tells g.S.Start.queues g.S.Start.carries _ _,
)
