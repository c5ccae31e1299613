use Rattle.std.proofs.Common.{◌≡◌, take}
use Rattle.qq_wal.specs.Spans.{spans_to}
use Rattle.qq_wal.proofs.ranges.spans_to.Given as goal

-- the first runs are cut
abbrev pub invariant-spans : goal.invariant-spans
invariant-spans l = l.left.items ≡ spans_to l.cut (take l.span-index l.spans)
