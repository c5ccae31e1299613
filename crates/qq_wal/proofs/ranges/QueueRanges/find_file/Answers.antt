use Rattle.std.proofs.Common.{◌≡◌, Some, None, sym, ◌∙◌}
use Rattle.qq_wal.specs.Spans.{find_file, span_of, spans_to}
use Rattle.qq_wal.proofs.Lying.{find-right, find-some}
use Rattle.qq_wal.proofs.ranges.QueueRanges.find_file.Goals as goal

pub returns-in-Some : goal.returns-in-Some
returns-in-Some c =
    let q = c.args.self.now in
    let found : find_file c.args.file (spans_to q.cut q.older) ≡ Some c.in-Some.range = sym c.in-Some.ensures in
    sym (find-some c.args.file (spans_to q.cut q.older) (span_of q.file q.own) c.in-Some.range found)

pub returns-in-None : goal.returns-in-None
returns-in-None c =
    let q = c.args.self.now in
    let found : find_file c.args.file (spans_to q.cut q.older) ≡ None = sym c.in-None.ensures in
    c.find_own.ensures ∙ sym (find-right c.args.file (spans_to q.cut q.older) (span_of q.file q.own) found)
