use Rattle.qq_inbox.specs.Marks.{IsSeatOf}
use Rattle.qq_inbox.proofs.watch.look_for.Given as goal

-- the seat stays one of these marks
abbrev pub invariant-looks : goal.invariant-looks
invariant-looks g l = IsSeatOf l.marks l.seat
