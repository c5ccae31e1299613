use Rattle.qq_inbox.proofs.HandOvers.{offers, tells}
use Rattle.qq_inbox.proofs.inbox.Inbox.offer.Goals as goal

pub push_as-requires-clause-rule : goal.push_as-requires-clause-rule
push_as-requires-clause-rule g c = (
  offers g.S.Start.queues g.S.Start.carries _ _ _ _ c.requires.right c.requires.order,
  tells g.S.Start.queues g.S.Start.carries _ _,
)
