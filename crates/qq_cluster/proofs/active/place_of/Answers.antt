use Rattle.std.proofs.Common.{ℕ, arith, rules}
use Rattle.std.specs.Prelude.{nat_lt}
use Rattle.std.proofs.lemmas.List.Sorted.{IsPartitionPoint-from_clause, IsPartitionedBy-ltb}
use Rattle.qq_cluster.proofs.Rising.{place-is, rising-nondecreasing}
use Rattle.qq_cluster.proofs.active.place_of.Goals as goal

pub returns : goal.returns
returns c =
    let numbers = c.args.numbers.now in
    let parts =
    IsPartitionPoint-from_clause (λ (other : ℕ). nat_lt other c.args.number) numbers c.partition_point.result
    c.partition_point.ensures.partitioned
    (IsPartitionedBy-ltb (λ (other : ℕ). other) numbers c.args.number (rising-nondecreasing numbers c.requires))
    (λ a r f' call. search rules) in
    place-is c.args.number numbers c.partition_point.result (omega (arith, c.partition_point.ensures.bound))
    (λ k d lt. parts.0 k d (omega arith) lt) parts.1
