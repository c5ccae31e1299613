use Rattle.std.proofs.Common.{sym}
use Rattle.qq_doctor.proofs.lanes.difference.Goals as goal

pub returns-then-differ-clause-some : goal.returns-then-differ-clause-some
returns-then-differ-clause-some c =
    (c.differ.ensures.0 c.if-differ.true, sym c.in-Some.ensures, sym c.in-Some-term_at.ensures)
