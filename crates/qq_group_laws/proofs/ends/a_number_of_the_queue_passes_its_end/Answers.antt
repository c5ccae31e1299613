use Rattle.qq_group_laws.proofs.Causes.{comes-past, found-past}
use Rattle.qq_group_laws.proofs.ends.a_number_of_the_queue_passes_its_end.Goals as goal

pub returns-clause-found : goal.returns-clause-found
returns-clause-found g c = found-past g.Q.Queue.step g.Q.Queue.passes_end

pub returns-clause-comes : goal.returns-clause-comes
returns-clause-comes g c = comes-past g.Q.Queue.step g.Q.Queue.passes_end
