use Rattle.qq_group_laws.proofs.refusals.a_failed_call_hands_nothing_out.Goals as goal

pub returns-clause-ops : goal.returns-clause-ops
returns-clause-ops g c = λ s none. none.ops

pub returns-clause-out : goal.returns-clause-out
returns-clause-out g c = λ s none. none.out

pub returns-clause-waiting : goal.returns-clause-waiting
returns-clause-waiting g c = λ s none. none.waiting

pub returns-clause-raft : goal.returns-clause-raft
returns-clause-raft g c = λ s none. (none.raft.ops, none.raft.out, none.raft.waiting)

pub returns-clause-rows : goal.returns-clause-rows
returns-clause-rows g c = λ s none. none.rows
