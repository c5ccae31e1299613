-- Why a line asks for nothing.
use Rattle.std.specs.Prelude.{◌≡◌, ℕ}
use Rattle.qq_script_lines.specs.declared.fault.ScriptFault.{ScriptFault}
use Rattle.qq_script_lines.specs.declared.fault.ScriptFault.TheVariants.{Body, Memory}
use Rattle.qq_cluster_run.specs.declared.stop.AskStop.{AskStop}
use Rattle.qq_cluster_run.specs.declared.stop.AskStop.TheVariants.{Ended, NoMemory}
use Rattle.qq_cluster_run.specs.Endings.{refusal, limit_body}
use Rattle.qq_cluster_run.specs.Reading.{Says, Ends}

-- a line of this number that isn't served, by its fault
abbrev pub stop_by : ScriptFault → ℕ → AskStop
stop_by (Body size) line = Ended (limit_body size)
stop_by (Memory memory) line = NoMemory
stop_by fault line = Ended (refusal line fault)

-- it ends the script, or there was no memory
abbrev pub HasAskCause : AskStop → Says → Type 0
HasAskCause (Ended ending) said = said ≡ Ends ending
HasAskCause NoMemory said = Unit {0}
