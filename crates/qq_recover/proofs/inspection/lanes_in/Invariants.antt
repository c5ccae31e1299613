use Rattle.std.proofs.Common.{◌++◌, List, drop}
use Rattle.qq_log.specs.declared.lane.Lane.{Lane}
use Rattle.qq_recover.specs.Lanes.{AreLanes}
use Rattle.qq_recover.specs.Table.{lanes_of}
use Rattle.qq_recover.proofs.inspection.lanes_in.Given as goal

-- with the lanes of the queues that are left, those so far are all
abbrev pub invariant-loop-i : goal.invariant-loop-i
invariant-loop-i l =
    (later : List Lane) → AreLanes (drop l.i l.queues) (lanes_of l.table) later
    → AreLanes l.queues (lanes_of l.fn.table) (l.lanes.items ++ later)
