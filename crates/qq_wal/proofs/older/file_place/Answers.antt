use Rattle.std.proofs.Common.{rules}
use Rattle.std.specs.Prelude.{nat_lt}
use Rattle.std.proofs.lemmas.List.Sorted.{IsPartitionPoint-from_clause, IsPartitionedBy-ltb}
use Rattle.qq_log.specs.declared.head.Span.{Span}
use Rattle.qq_wal.proofs.Rising.{items-nondecreasing}
use Rattle.qq_wal.proofs.older.file_place.Goals as goal

pub returns : goal.returns
returns c =
    let spans = c.args.spans.now in
    IsPartitionPoint-from_clause (λ (s : Span). nat_lt s.file c.args.file) spans c.partition_point.result
    c.partition_point.ensures.partitioned
    (IsPartitionedBy-ltb (λ (s : Span). s.file) spans c.args.file
    (items-nondecreasing (λ (s : Span). s.file) spans c.requires))
    (λ a r f' call. search rules)
