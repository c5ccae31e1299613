-- When two values are the same.
use Rattle.std.specs.Prelude.{Bool, true, false, Option, Some, None, nat_eq, ◌&&◌}
use Rattle.std.specs.Bool.{beq}
use Rattle.std.specs.Cmp.Lexicographic.{pointwise}
use Rattle.qq_base.specs.declared.ids.NodeId.{NodeId}
use Rattle.qq_log.specs.declared.head.SnapshotHead.{SnapshotHead}
use Rattle.qq_log.specs.declared.head.Span.{Span}
use Rattle.qq_log.specs.declared.lane.Carry.{Carry}

abbrev pub same_head : SnapshotHead → SnapshotHead → Bool
same_head a b = nat_eq a.index.0 b.index.0 && nat_eq a.term.0 b.term.0 && nat_eq a.through.0 b.through.0

abbrev pub same_span : Span → Span → Bool
same_span a b =
    nat_eq a.file b.file && beq a.segment b.segment && nat_eq a.first.0 b.first.0 && nat_eq a.last.0 b.last.0

abbrev pub same_vote : Option NodeId → Option NodeId → Bool
same_vote None None = true
same_vote (Some a) (Some b) = nat_eq a.0 b.0
same_vote _ _ = false

abbrev pub same_carry : Carry → Carry → Bool
same_carry a b =
    nat_eq a.queue.0 b.queue.0 && nat_eq a.op b.op && nat_eq a.term.0 b.term.0 && same_vote a.vote b.vote
    && same_head a.base b.base && nat_eq a.snapshot b.snapshot && pointwise same_span a.segments b.segments &&
    nat_eq a.last.0 b.last.0
