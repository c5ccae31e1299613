use Rattle.qq_cluster_laws.specs.Linked.{IsLinked, IsPromised}
use Rattle.qq_cluster_laws.proofs.Traces.{trace-end, trace-moments}
use Rattle.qq_cluster_laws.proofs.tracing.a_trace_tells_of_the_disk.Goals as goal

pub returns-clause-moments : goal.returns-clause-moments
returns-clause-moments c = λ setup d k. trace-moments IsLinked setup k d

pub returns-clause-linked : goal.returns-clause-linked
returns-clause-linked c = λ setup d k. trace-end IsLinked setup k d

pub returns-clause-broken_moments : goal.returns-clause-broken_moments
returns-clause-broken_moments c = λ setup d k. trace-moments IsPromised setup k d

pub returns-clause-broken : goal.returns-clause-broken
returns-clause-broken c = λ setup d k. trace-end IsPromised setup k d
