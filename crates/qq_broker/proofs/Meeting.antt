-- What was met since a time was met since an earlier one.
use Rattle.std.proofs.Common.{◌≤◌, ℕ}
use Rattle.qq_disk.specs.Facts.{DiskFacts}
use Rattle.qq_cluster_run.specs.Troubles.{YardFails, DiskFails, FilesBreak, QueueIsFound, NumberEnds, TakerIsGone}
use Rattle.qq_cluster_run.proofs.Answering.{IsEarlier}
use Rattle.qq_cluster_run.proofs.Closings.{Rose_earlier}
use Rattle.qq_broker.specs.Lives.{Giving}
use Rattle.qq_broker.specs.Nodes.{Meets}
use Rattle.qq_broker.specs.Takers.{RunMeets}
use Rattle.qq_taker.specs.Takers.{Takers}

pub meets-earlier : {D : Type 0} (given : Giving D) (facts : DiskFacts D) (first before after : ℕ)
    → first ≤ before → IsEarlier (Meets given facts before after) (Meets given facts first after)
meets-earlier given facts first before after le YardFails met = Rose_earlier first before after le met
meets-earlier given facts first before after le (DiskFails k) met = met
meets-earlier given facts first before after le (FilesBreak setup events k damage) met = met
meets-earlier given facts first before after le (QueueIsFound setup events k place lane) met = met
meets-earlier given facts first before after le (NumberEnds setup events number) met = met
meets-earlier given facts first before after le (TakerIsGone setup events number) met = met

-- what a run meets with its takers too
pub run-meets : {D : Type 0} (given : Giving D) (facts : DiskFacts D) (takers : Takers) (before after : ℕ)
    → IsEarlier (Meets given facts before after) (RunMeets given facts takers before after)
run-meets given facts takers before after YardFails met = met
run-meets given facts takers before after (DiskFails k) met = met
run-meets given facts takers before after (FilesBreak setup events k damage) met = met
run-meets given facts takers before after (QueueIsFound setup events k place lane) met = met
run-meets given facts takers before after (NumberEnds setup events number) met = met
run-meets given facts takers before after (TakerIsGone setup events number) met = absurd met

pub run-earlier : {D : Type 0} (given : Giving D) (facts : DiskFacts D) (takers : Takers)
    (first before after : ℕ) → first ≤ before
    → IsEarlier (RunMeets given facts takers before after) (RunMeets given facts takers first after)
run-earlier given facts takers first before after le YardFails met =
    Rose_earlier first before after le met
run-earlier given facts takers first before after le (DiskFails k) met = met
run-earlier given facts takers first before after le (FilesBreak setup events k damage) met = met
run-earlier given facts takers first before after le (QueueIsFound setup events k place lane) met = met
run-earlier given facts takers first before after le (NumberEnds setup events number) met = met
run-earlier given facts takers first before after le (TakerIsGone setup events number) met = met
