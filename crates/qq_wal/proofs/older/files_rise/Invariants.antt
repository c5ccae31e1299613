use Rattle.std.proofs.Common.{◌≡◌, length}
use Rattle.qq_wal.specs.Marks.{is_rising}
use Rattle.qq_wal.specs.Spans.{files_in}
use Rattle.qq_wal.proofs.older.files_rise.Given as goal

-- what is left rises where all do
abbrev pub invariant-rest : goal.invariant-rest
invariant-rest l = is_rising (files_in l.rest) ≡ is_rising (files_in l.fn.spans)

abbrev pub decreases-rest : goal.decreases-rest
decreases-rest l = length l.rest
