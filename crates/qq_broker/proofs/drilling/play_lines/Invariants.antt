use Rattle.std.proofs.Common.{◌≤◌}
use Rattle.qq_broker.proofs.DrillLoops.{LinesGo}
use Rattle.qq_broker.proofs.drilling.play_lines.Given as goal

-- the first lines were served, and the rest is left
abbrev pub invariant-lines : goal.invariant-lines
invariant-lines g l = record {
  go :
      LinesGo g.Y.Disk.NodeDisk.facts l.setup l.fn.lines.items l.line-iterator.rest.items l.fn.nodes l.fn.told l.fn.play
      l.nodes l.told l.play;
  later : g.Y.Yard.faults l.fn.yard ≤ g.Y.Yard.faults l.yard;
}
