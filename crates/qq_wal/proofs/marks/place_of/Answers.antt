use Rattle.std.proofs.Common.{rules}
use Rattle.std.specs.Prelude.{nat_lt}
use Rattle.std.proofs.lemmas.List.Sorted.{IsPartitionPoint-from_clause, IsPartitionedBy-ltb}
use Rattle.qq_wal.specs.declared.marks.Mark.{Mark}
use Rattle.qq_wal.proofs.Rising.{number, items-nondecreasing}
use Rattle.qq_wal.proofs.marks.place_of.Goals as goal

pub returns-clause-place : goal.returns-clause-place
returns-clause-place c =
    let marks = c.args.marks.now in
    IsPartitionPoint-from_clause (λ (m : Mark). nat_lt m.queue.0 c.args.queue.0) marks c.partition_point.result
    c.partition_point.ensures.partitioned
    (IsPartitionedBy-ltb number marks c.args.queue.0 (items-nondecreasing number marks c.requires))
    (λ a r f' call. search rules)
