-- What a drill has done that was opened.
use Rattle.std.specs.Prelude.{◌⊎◌, ℕ, List}
use Rattle.qq_disk.specs.Facts.{DiskFacts}
use Rattle.qq_ports.specs.Streams.{SinkState, Writes}
use Rattle.qq_route.specs.declared.setup.Setup.{Setup}
use Rattle.qq_cluster_model.specs.Cluster.{ClusterEvent}
use Rattle.qq_cluster_run.specs.Drilling.{AreParts, Known, drill_text}
use Rattle.qq_cluster_run.specs.Drills.{HasSummary}
use Rattle.qq_cluster_run.specs.Runs.{Closes}
use Rattle.qq_cluster_run.specs.Serving.{Run, cluster_in, setup_in}
use Rattle.qq_cluster_run.specs.declared.drilling.Part.{Part}
use Rattle.qq_cluster_run.specs.declared.stop.AskStop.{AskStop}
use Rattle.qq_broker.specs.Drilling.{PartsStop, ending_at, run_with}
use Rattle.qq_broker.specs.Lives.{Giving}
use Rattle.qq_broker.specs.Nodes.{Had}

-- all parts were done
pub record HasFinished {D : Type 0} (given : Giving D) (facts : DiskFacts D) (s : Setup) (run : Run) (parts : List Part)
    (k : Known) (number status : ℕ) (before later : SinkState) : Type 0
  where
    pub more : List ClusterEvent
    pub known : Known
    pub are : AreParts (setup_in s run) parts k (cluster_in s run) more known
    pub disks : Had given facts (setup_in s run) (run_with run more).events
    pub told : HasSummary status (drill_text number (setup_in s run) (cluster_in s (run_with run more)) known) before
        later

-- it stopped within a part, and a closing line was written; the yard counted so many faults before and after
pub record HasBroken {D : Type 0} (given : Giving D) (facts : DiskFacts D) (yard yard' : ℕ) (s : Setup) (run : Run)
    (parts : List Part) (k : Known) (status : ℕ) (before later : SinkState)
    : Type 0 where
  pub stop : AskStop
  pub stops : PartsStop given facts yard yard' s run parts k stop
  pub closes : Closes status (ending_at stop) before later (Writes before later)

abbrev pub HasPlayed : {D : Type 0} → Giving D → DiskFacts D → (yard yard' : ℕ) → Setup
    → Run → List Part → Known → (number status : ℕ) → (before later : SinkState) → Type 0
HasPlayed given facts yard yard' s run parts k number status before later =
    HasFinished given facts s run parts k number status before later
    ⊎ HasBroken given facts yard yard' s run parts k status before later
