use Rattle.qq_group_laws.proofs.Causes.{names-leader, refuses-memory}
use Rattle.qq_group_laws.proofs.refusals.a_command_is_refused_with_its_cause.Goals as goal

pub returns-clause-leader : goal.returns-clause-leader
returns-clause-leader g c = names-leader

pub returns-clause-want : goal.returns-clause-want
returns-clause-want g c = refuses-memory

pub returns-clause-spent : goal.returns-clause-spent
returns-clause-spent g c = λ s number refused. (refused.0, refused.1.0, refused.1.1)

pub returns-clause-stays : goal.returns-clause-stays
returns-clause-stays g c = λ old new hint left. left

pub returns-clause-empty : goal.returns-clause-empty
returns-clause-empty g c = λ old new e left. (left.rows, left.raft.ops, left.raft.out, left.raft.waiting)
