use Rattle.std.proofs.Common.{rules}
use Rattle.std.specs.Prelude.{nat_lt}
use Rattle.qq_model.specs.declared.session.Worker.{Worker}
use Rattle.std.proofs.lemmas.List.Sorted.{IsPartitionPoint-from_clause, IsPartitionedBy-ltb}
use Rattle.qq_sessions.specs.Rising.{owner_key}
use Rattle.qq_sessions.proofs.Rising.{rises-nondecreasing, place-from_partition}
use Rattle.qq_sessions.proofs.workers.place_of.Goals as goal

pub returns-clause-place : goal.returns-clause-place
returns-clause-place c =
    let workers = c.args.workers.now in
    place-from_partition owner_key c.args.owner workers c.partition_point.result c.partition_point.ensures.bound
    (IsPartitionPoint-from_clause (λ (y : Worker). nat_lt (owner_key y) c.args.owner) workers c.partition_point.result
    c.partition_point.ensures.partitioned
    (IsPartitionedBy-ltb owner_key workers c.args.owner (rises-nondecreasing owner_key workers c.requires))
    (λ a r f' call. search rules))
