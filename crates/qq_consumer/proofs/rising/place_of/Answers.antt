use Rattle.std.proofs.Common.{arith, rules}
use Rattle.std.specs.Prelude.{nat_lt}
use Rattle.std.proofs.lemmas.List.Sorted.{IsPartitionPoint-from_clause, IsPartitionedBy-ltb}
use Rattle.qq_consumer.specs.declared.rising.Numbered.{Numbered}
use Rattle.qq_consumer.proofs.Places.{rises-nondecreasing, place-is}
use Rattle.qq_consumer.proofs.rising.place_of.Goals as goal

pub returns : goal.returns
returns g c =
    let rows = c.args.rows.now.items in
    let parts =
    IsPartitionPoint-from_clause (λ (one : Numbered _). nat_lt one.number c.args.number) rows c.partition_point.result
    c.partition_point.ensures.partitioned
    (IsPartitionedBy-ltb (λ (one : Numbered _). one.number) rows c.args.number (rises-nondecreasing rows c.requires))
    (λ a r f' call. search rules) in
    place-is c.args.number rows c.partition_point.result (omega (arith, c.partition_point.ensures.bound))
    (λ k d lt. parts.0 k d (omega arith) lt) parts.1
