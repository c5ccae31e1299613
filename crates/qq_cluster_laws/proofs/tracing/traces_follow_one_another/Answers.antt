use Rattle.qq_cluster_laws.specs.Linked.{IsLinked, IsPromised}
use Rattle.qq_cluster_laws.proofs.Traces.{traces-then}
use Rattle.qq_cluster_laws.proofs.tracing.traces_follow_one_another.Goals as goal

pub returns-clause-traced : goal.returns-clause-traced
returns-clause-traced c = λ setup d k. traces-then IsLinked setup k d

pub returns-clause-broken : goal.returns-clause-broken
returns-clause-broken c = λ setup d k. traces-then IsPromised setup k d
