use Rattle.qq_raft_protocol.proofs.Refusal.{refused}
use Rattle.qq_raft_protocol.proofs.laws.an_audit_that_may_be_replaced_is_refused.Goals as goal

pub returns : goal.returns
returns c = refused
