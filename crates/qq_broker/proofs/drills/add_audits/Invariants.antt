use Rattle.qq_broker.proofs.DrillAudits.{Digests, Tallies}
use Rattle.qq_broker.proofs.drills.add_audits.Given as goal

-- those of the first rows did
abbrev pub invariant-loop-row : goal.invariant-loop-row
invariant-loop-row g l = record {
  digests :
      Digests g.D.NodeDisk.facts l.setup l.nodes l.fn.digest l.digest l.rows l.row-index;
  tallies :
      Tallies g.D.NodeDisk.facts l.setup l.nodes l.fn.tally l.tally l.rows l.row-index;
}
