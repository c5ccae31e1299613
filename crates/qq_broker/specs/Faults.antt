-- How a fault of a broker's calls ends a run.
use Rattle.std.specs.Prelude.{◌≡◌, ℕ}
use Rattle.qq_ports.specs.declared.yard_fault.YardFault.{YardFault}
use Rattle.qq_ports.specs.declared.yard_fault.YardFault.TheVariants as yard_faults
use Rattle.qq_script_lines.specs.declared.fault.ScriptFault.TheVariants.{NoSuch}
use Rattle.qq_route.specs.declared.setup.Setup.{Setup}
use Rattle.qq_cluster_run.specs.declared.stop.AskStop.{AskStop}
use Rattle.qq_cluster_run.specs.declared.stop.AskStop.TheVariants.{Ended}
use Rattle.qq_cluster_run.specs.Endings.{damaged, lost, other_version, refusal, yard_fault}
use Rattle.qq_cluster_run.specs.Setup.{name_by, row_at}
use Rattle.qq_opening.specs.declared.restarting.RestartFault.{RestartFault}
use Rattle.qq_opening.specs.declared.restarting.RestartFault.TheVariants.{Damaged, Version, Lost, Memory}
use Rattle.qq_broker.specs.Serving.{IsStopOf, memory_stop}
use Rattle.qq_broker.specs.declared.faults.OpenFault.{OpenFault}
use Rattle.qq_broker.specs.declared.faults.OpenFault.TheVariants as open_faults
use Rattle.qq_broker.specs.declared.faults.StepFault.{StepFault}
use Rattle.qq_broker.specs.declared.faults.StepFault.TheVariants as step_faults

-- what the nodes say, where there is memory to name the queue
abbrev pub stop_for : Setup → RestartFault → AskStop
stop_for s (Damaged node file place) = Ended (damaged node.0 file.number place)
stop_for s (Version node file byte) = Ended (other_version node.0 file.number byte)
stop_for s (Lost node queue noticed found) = Ended (lost node.0 (name_by (row_at s.queues queue.0)) noticed found)
stop_for s (Memory memory) = memory_stop memory

-- at the line of a number
abbrev pub step_stop : Setup → ℕ → StepFault → AskStop
step_stop s number step_faults.NoSuch = Ended (refusal number NoSuch)
step_stop s number step_faults.Yard = Ended yard_fault
step_stop s number (step_faults.Nodes fault) = stop_for s fault

-- the name of a queue is a copy, for which there may be no memory
abbrev pub IsStepStopOf : Setup → ℕ → StepFault → AskStop → Type 0
IsStepStopOf s number step_faults.NoSuch stop = stop ≡ Ended (refusal number NoSuch)
IsStepStopOf s number step_faults.Yard stop = stop ≡ Ended yard_fault
IsStepStopOf s number (step_faults.Nodes fault) stop = IsStopOf s fault stop

abbrev pub open_stop : Setup → OpenFault → AskStop
open_stop s open_faults.Disk = Ended yard_fault
open_stop s (open_faults.Nodes fault) = stop_for s fault

-- what a yard says that makes no crash
abbrev pub crash_fault : YardFault → StepFault
crash_fault yard_faults.Failed = step_faults.Yard
crash_fault (yard_faults.Memory memory) = step_faults.Nodes (Memory memory)
