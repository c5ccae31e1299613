use Rattle.std.proofs.Common.{ℕ, rules}
use Rattle.std.specs.Prelude.{nat_lt}
use Rattle.std.proofs.lemmas.List.Sorted.{IsPartitionPoint-from_clause, IsPartitionedBy-ltb}
use Rattle.qq_sessions.specs.Rising.{number_key}
use Rattle.qq_sessions.proofs.Rising.{rises-nondecreasing, place-from_partition}
use Rattle.qq_sessions.proofs.ended.place_of.Goals as goal

pub returns-clause-place : goal.returns-clause-place
returns-clause-place c =
    let numbers = c.args.numbers.now in
    place-from_partition number_key c.args.number numbers c.partition_point.result c.partition_point.ensures.bound
    (IsPartitionPoint-from_clause (λ (y : ℕ). nat_lt (number_key y) c.args.number) numbers c.partition_point.result
    c.partition_point.ensures.partitioned
    (IsPartitionedBy-ltb number_key numbers c.args.number (rises-nondecreasing number_key numbers c.requires))
    (λ a r f' call. search rules))
