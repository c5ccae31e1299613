use Rattle.qq_node_log.proofs.Finding.{between-ends, lane-ends}
use Rattle.qq_node_log.proofs.Running.{running-same}
use Rattle.qq_node_log.proofs.laws.the_log_goes_on_where_its_ops_end.Goals as goal

pub returns-clause-same : goal.returns-clause-same
returns-clause-same g c = running-same g.D.NodeDisk.facts

pub returns-clause-between : goal.returns-clause-between
returns-clause-between g c = between-ends

pub returns-clause-lane : goal.returns-clause-lane
returns-clause-lane g c = lane-ends
