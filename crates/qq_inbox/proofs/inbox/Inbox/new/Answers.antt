use Rattle.qq_inbox.proofs.HandOvers.{begins}
use Rattle.qq_inbox.proofs.inbox.Inbox.new.Goals as goal

pub ruled-requires-clause-rule : goal.ruled-requires-clause-rule
ruled-requires-clause-rule g c = begins g.S.Start.queues g.S.Start.carries
