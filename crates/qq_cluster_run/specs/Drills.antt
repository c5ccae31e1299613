-- How a drill ends, and what it has written by then.
use Rattle.std.specs.Prelude.{◌≡◌, ◌⊎◌, ℕ, List, [], ◌∷◌, ◌++◌}
use Rattle.qq_route.specs.declared.setup.Setup.{Setup}
use Rattle.qq_route.specs.Setup.{state_of}
use Rattle.qq_ports.specs.Streams.{IsUnread, SinkFails, SinkState, Streams, Writes, WritesPart}
use Rattle.qq_script_lines.specs.declared.line.ScriptLine.{ScriptLine}
use Rattle.qq_cluster_model.specs.Cluster.{Setup as ClusterSetup, Cluster, ClusterEvent, new_cluster}
use Rattle.qq_cluster_model.specs.Lines.{IsScript}
use Rattle.qq_cluster_model.specs.Rules.{IsOpening}
use Rattle.qq_cluster_run.specs.declared.drilling.Part.{Part}
use Rattle.qq_cluster_run.specs.declared.status.TheConstants.{DONE, WRITE_FAULT}
use Rattle.qq_cluster_run.specs.Drilling.{AreParts, Known, drill_setup, drill_text, first_known, is_led, know, part_lines, parts}
use Rattle.qq_cluster_run.specs.Endings.{Ending, no_memory}
use Rattle.qq_cluster_run.specs.Runs.{Closes, IsUnopened, MayNotOpen}
use Rattle.qq_cluster_run.specs.Serving.{HasRecovered, Histories, MayStop, after_all}
use Rattle.qq_cluster_run.specs.Setup.{CanBegin, Logs, cluster_over}
use Rattle.qq_cluster_run.specs.Troubles.{Trouble}

-- ---- how far it came

-- A cluster was opened, and these parts of the drill were done.
pub record Drilled (had : Histories) (s : Setup) (number : ℕ) (done : List Part) : Type 0 where
  pub logs : Logs
  pub begins : CanBegin s logs
  pub opening : List ClusterEvent
  pub opens : IsOpening (cluster_over s logs) (new_cluster (cluster_over s logs)) opening
  pub opened : HasRecovered opening
  pub events : List ClusterEvent
  pub known : Known
  pub are : AreParts (cluster_over s logs) done
      (know (cluster_over s logs) (new_cluster (cluster_over s logs)) opening (first_known number s.nodes))
      (after_all (cluster_over s logs) opening) events known
  pub disks : had (cluster_over s logs) (opening ++ events)

abbrev pub setup_drilled :
    {had : Histories} {s : Setup} {number : ℕ} {done : List Part} → Drilled had s number done → ClusterSetup
setup_drilled {s = s} d = cluster_over s d.logs

abbrev pub events_drilled :
    {had : Histories} {s : Setup} {number : ℕ} {done : List Part} → Drilled had s number done → List ClusterEvent
events_drilled d = d.opening ++ d.events

abbrev pub cluster_drilled :
    {had : Histories} {s : Setup} {number : ℕ} {done : List Part} → Drilled had s number done → Cluster
cluster_drilled d = after_all (setup_drilled d) (events_drilled d)

-- ---- why it stops

-- there is no memory, or the line that comes next ends the run
abbrev pub StopsNext : (Trouble → Type 0) → ClusterSetup → List ClusterEvent → (left : List ScriptLine) → Ending
    → Type 0
StopsNext met setup events [] ending = ending ≡ no_memory
StopsNext met setup events (line ∷ left) ending =
    (ending ≡ no_memory) ⊎ ((number : ℕ) × MayStop met setup events number line ending)

-- behind these events some of the lines that come next were served, and then it stops
pub record StopsWithin (met : Trouble → Type 0) (had : Histories) (setup : ClusterSetup) (events : List ClusterEvent)
    (next : List ScriptLine) (ending : Ending) : Type 0 where
  pub served : List ScriptLine
  pub left : List ScriptLine
  pub are : next ≡ served ++ left
  pub more : List ClusterEvent
  pub allowed : IsScript setup served (after_all setup events) more
  pub disks : had setup (events ++ more)
  pub may : StopsNext met setup (events ++ more) left ending

-- ---- how it ends

-- its line was written, or a first part of it; or there was no memory for it
abbrev pub HasSummary : (status : ℕ) → (text : List ℕ) → (before later : SinkState) → Type 0
HasSummary status text before later =
    ((status ≡ DONE) × Writes before later text)
    ⊎ (((status ≡ WRITE_FAULT) × SinkFails before later × WritesPart before later text)
    ⊎ Closes status no_memory before later (Writes before later))

-- all its parts were done, and its line was written
pub record IsDrilled (status : ℕ) (number : ℕ) (s : Setup) (before later : Streams) (had : Histories) : Type 0 where
  pub whole : Drilled had s number (parts s.nodes)
  pub keeps : IsUnread before later
  pub told : HasSummary status (drill_text number (setup_drilled whole) (cluster_drilled whole) whole.known)
      before.sink later.sink

-- some of its parts were done, and it stopped in the next one; a closing line alone was written
pub record IsBroken (status : ℕ) (number : ℕ) (s : Setup) (before later : Streams) (met : Trouble → Type 0)
    (had : Histories) : Type 0 where
  pub done : List Part
  pub part : Part
  pub remaining : List Part
  pub are : parts s.nodes ≡ done ++ part ∷ remaining
  pub front : Drilled had s number done
  pub ending : Ending
  pub stops : StopsWithin met had (setup_drilled front) (events_drilled front)
      (part_lines part (is_led part (cluster_drilled front)) front.known.drill) ending
  pub keeps : IsUnread before later
  pub closes : Closes status ending before.sink later.sink (Writes before.sink later.sink)

-- over a setup: its cluster wasn't opened, or the drill came to its end, or it stopped
abbrev pub HasDrilled : (status number : ℕ) → Setup → (before later : Streams) → (met : Trouble → Type 0) → Histories
    → Type 0
HasDrilled status number s before later met had =
    IsUnopened status before later (MayNotOpen met s)
    ⊎ (IsDrilled status number s before later had ⊎ IsBroken status number s before later met had)

pub record IsDrillOver (status number nodes : ℕ) (before later : Streams) (met : Trouble → Type 0) (had : Histories)
    : Type 0 where
  pub setup : Setup
  pub is_setup : state_of setup ≡ drill_setup nodes
  pub ends : HasDrilled status number setup before later met had

-- What a drill has done that ends with this status. There may be no memory for its setup.
abbrev pub DrillEnds : (status number nodes : ℕ) → (before later : Streams) → (met : Trouble → Type 0) → Histories
    → Type 0
DrillEnds status number nodes before later met had =
    IsUnopened status before later (λ ending. ending ≡ no_memory)
    ⊎ IsDrillOver status number nodes before later met had
