use Rattle.std.proofs.Common.{ℕ, List, take}
use Rattle.qq_doctor.specs.Lanes.{Found}
use Rattle.qq_doctor.specs.Report.{AddsLines}
use Rattle.qq_doctor.specs.Sorted.{AreSorted}
use Rattle.qq_doctor.proofs.report.Report.add_all.Given as goal

-- the lines of the queues so far were added
abbrev pub invariant-rows : goal.invariant-rows
invariant-rows l =
    (count : ℕ) (lanes : List Found) → AreSorted count lanes l.fn.found.rows.items
    → AddsLines (take l.at l.fn.setup.queues) lanes l.fn.self l.self
