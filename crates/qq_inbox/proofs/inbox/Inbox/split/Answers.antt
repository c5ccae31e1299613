use Rattle.qq_inbox.proofs.HandOvers.{splits}
use Rattle.qq_inbox.proofs.inbox.Inbox.split.Goals as goal

pub another-requires-clause-rule : goal.another-requires-clause-rule
another-requires-clause-rule g c = splits g.S.Start.queues g.S.Start.carries _ _
