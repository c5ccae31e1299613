-- What nodes of a run have done when they served a line, and what they are opened with.
use Rattle.std.specs.Prelude.{◌≡◌, ◌⊎◌, ℕ, ◌+◌, List, Some, map, slice_get}
use Rattle.std.specs.List.{AllByRecursion, range_with_len}
use Rattle.qq_base.specs.Causes.{Rose}
use Rattle.qq_base.specs.declared.ids.QueueId.{QueueId}
use Rattle.qq_base.specs.declared.memory.Memory.{Memory}
use Rattle.qq_base.specs.declared.memory.Memory.TheVariants.{Want, Spent}
use Rattle.qq_disk.specs.declared.image.Image.{Image}
use Rattle.qq_disk.specs.Facts.{DiskFacts}
use Rattle.qq_ports.specs.declared.yard_fault.YardFault.{YardFault}
use Rattle.qq_ports.specs.declared.yard_fault.YardFault.TheVariants as yard_faults
use Rattle.qq_raft_protocol.specs.Facts.{In}
use Rattle.qq_script_lines.specs.declared.line.ScriptLine.{ScriptLine}
use Rattle.qq_route.specs.declared.setup.Setup.{Setup}
use Rattle.qq_cluster_model.specs.Cluster.{ClusterEvent, Crashes, Setup as ClusterSetup, new_cluster}
use Rattle.qq_cluster_model.specs.Lines.{IsLine}
use Rattle.qq_cluster_model.specs.Outcome.{Outcome}
use Rattle.qq_cluster_run.specs.declared.stop.AskStop.{AskStop}
use Rattle.qq_cluster_run.specs.declared.stop.AskStop.TheVariants.{Ended, NoMemory}
use Rattle.qq_cluster_run.specs.Endings.{Ending, damaged, lost, no_memory, other_version, spent, yard_fault}
use Rattle.qq_cluster_run.specs.Service.{HasServed}
use Rattle.qq_cluster_run.specs.Serving.{EndsSpent, Run, setup_in}
use Rattle.qq_cluster_run.specs.Setup.{cluster_setup, name_by, place_of, row_at}
use Rattle.qq_cluster_run.specs.Troubles.{Trouble}
use Rattle.qq_cluster.specs.Nodes.{Stands}
use Rattle.qq_cluster.specs.Setting.{AreNew}
use Rattle.qq_cluster.specs.declared.nodes.Nodes.{Nodes}
use Rattle.qq_opening.specs.declared.restarting.RestartFault.{RestartFault}
use Rattle.qq_opening.specs.declared.restarting.RestartFault.TheVariants as faults
use Rattle.qq_broker.specs.Lives.{Giving, IsGiven}
use Rattle.qq_broker.specs.Nodes.{Had, Holds, IsDiskOf}

-- a run behind one line more
abbrev pub run_after : Run → List ClusterEvent → Run
run_after run events = record { lines = run.lines + 1; logs = run.logs; events = events }

-- a line was served
abbrev pub IsServed : {D : Type 0} → Giving D → DiskFacts D → Setup → Run → ScriptLine
    → Nodes D → Outcome → Outcome → Type 0
IsServed given facts s run line held before later =
    HasServed (Had given facts) (setup_in s run) run.events line
    (λ events. Holds given facts s held (run_after run events)) before later

-- there was no memory, or in the midst of a line a number stands at its end
abbrev pub IsGivenUp : (Trouble → Type 0) → ClusterSetup → List ClusterEvent → ScriptLine → Memory → Type 0
IsGivenUp met setup events line Want = Unit {0}
IsGivenUp met setup events line (Spent number) = EndsSpent met setup (IsLine setup line) events (spent number)

-- these queues are queues of the setup
abbrev pub AreThere : Setup → List QueueId → Type 0
AreThere s queues = AllByRecursion (λ (queue : QueueId). In queue.0 (map place_of s.queues)) queues

-- ---- how nodes begin

-- each disk was given for its node, in order
abbrev pub AreGiven : {D : Type 0} → Giving D → DiskFacts D → List D → Type 0
AreGiven {D} given facts disks =
    (i : ℕ) (disk : D) → slice_get disks i ≡ Some disk → IsGiven given facts (i + 1) disk

-- each node has the disk that was given for it
abbrev pub HaveGiven : {D : Type 0} → Giving D → DiskFacts D → Setup → Nodes D → Type 0
HaveGiven {D} given facts s held =
    (k : ℕ) → In k (cluster_setup s).nodes
    → (disk : D) × IsDiskOf facts held k disk × IsGiven given facts k disk

-- Nodes that weren't opened yet: they stand for the cluster of the setup over new logs, where nothing has happened, and each
-- has the disk that was given for it.
pub record AreUnopened {D : Type 0} (given : Giving D) (facts : DiskFacts D) (s : Setup) (held : Nodes D) : Type 0 where
  pub stands : Stands facts (cluster_setup s) held (new_cluster (cluster_setup s))
  pub new : AreNew facts s.queues held
  pub disks : HaveGiven given facts s held

-- ---- how a run ends

-- the yard has failed, or there was no memory
abbrev pub IsYardEnding : ℕ → ℕ → Ending → Type 0
IsYardEnding before after ending = (Rose before after × (ending ≡ yard_fault)) ⊎ (ending ≡ no_memory)

abbrev pub yard_ending : YardFault → Ending
yard_ending yard_faults.Failed = yard_fault
yard_ending (yard_faults.Memory memory) = no_memory

abbrev pub memory_stop : Memory → AskStop
memory_stop Want = NoMemory
memory_stop (Spent number) = Ended (spent number)

-- nodes of which one isn't restarted; the name of a queue is a copy, for which there may be no memory
abbrev pub IsStopOf : Setup → RestartFault → AskStop → Type 0
IsStopOf s (faults.Damaged node file place) stop = stop ≡ Ended (damaged node.0 file.number place)
IsStopOf s (faults.Version node file byte) stop = stop ≡ Ended (other_version node.0 file.number byte)
IsStopOf s (faults.Lost node queue noticed found) stop =
    (stop ≡ NoMemory) ⊎ (stop ≡ Ended (lost node.0 (name_by (row_at s.queues queue.0)) noticed found))
IsStopOf s (faults.Memory memory) stop = stop ≡ memory_stop memory

-- ---- crashes

abbrev pub with_events : Run → List ClusterEvent → Run
with_events run events = record { lines = run.lines; logs = run.logs; events = events }

-- so many nodes, from a first one on, are crashed in order
abbrev pub crashes : ℕ → ℕ → Image → List ClusterEvent
crashes first count image = map (λ (k : ℕ). Crashes k image) (range_with_len first count)
