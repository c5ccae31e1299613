use Rattle.qq_laws.proofs.FewSessions.{begins_at_one, has_few_sessions}
use Rattle.qq_laws.proofs.closing.sessions_are_few.Goals as goal

pub returns : goal.returns
returns c = record { begun = begins_at_one; few = has_few_sessions }
