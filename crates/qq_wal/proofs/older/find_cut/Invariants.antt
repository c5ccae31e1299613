use Rattle.std.proofs.Common.{◌≡◌, length}
use Rattle.qq_wal.specs.Spans.{find_file, spans_to}
use Rattle.qq_wal.proofs.older.find_cut.Given as goal

-- the others decide
abbrev pub invariant-rest : goal.invariant-rest
invariant-rest l = find_file l.file (spans_to l.cut l.rest) ≡ find_file l.file (spans_to l.cut l.spans)

abbrev pub decreases-rest : goal.decreases-rest
decreases-rest l = length l.rest
