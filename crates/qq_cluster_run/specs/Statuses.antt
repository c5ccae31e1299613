-- What an exit status tells of a run, where source and sink tell their bytes.
use Rattle.std.specs.Prelude.{◌≡◌, ◌⊎◌, ℕ, ◌+◌, ◌≤◌, List, [], ◌∷◌, ◌++◌, Some, None, Err, take, codes, Contains}
use Rattle.std.specs.Fmt.{decimal}
use Rattle.qq_base.specs.Causes.{Rose}
use Rattle.qq_base.specs.declared.ids.QueueId.{QueueId}
use Rattle.qq_base.specs.declared.ids.SessionId.{SessionId}
use Rattle.qq_disk.specs.declared.image.Image.{Image}
use Rattle.qq_route.specs.declared.setup.Setup.{Setup}
use Rattle.qq_script_lines.specs.declared.fault.ScriptFault.{ScriptFault}
use Rattle.qq_script_lines.specs.declared.fault.ScriptFault.TheVariants.{Body, NoSuch}
use Rattle.qq_script_lines.specs.declared.line.Nodes.{Nodes}
use Rattle.qq_script_lines.specs.declared.line.ScriptLine.{ScriptLine}
use Rattle.qq_script_lines.specs.declared.line.ScriptLine.TheVariants.{Attach, Crash, Restart}
use Rattle.qq_words.specs.declared.options.Options.{Options}
use Rattle.qq_ports.specs.Lines.{HasNoFeed}
use Rattle.qq_ports.specs.Streams.{ShelfState, Streams}
use Rattle.qq_cluster_model.specs.Cluster.{Setup as ClusterSetup, ClusterEvent}
use Rattle.qq_cluster_model.specs.Lines.{IsLine, nodes_of}
use Rattle.qq_cluster_model.specs.Rules.{IsOpening}
use Rattle.qq_cluster_run.specs.declared.stop.Stop.{Stop}
use Rattle.qq_cluster_run.specs.Endings.{Ending, fault_text, no_memory}
use Rattle.qq_cluster_run.specs.Inputs.{Input, feed_count}
use Rattle.qq_cluster_run.specs.Reading.{Asks, read_input, says}
use Rattle.qq_cluster_run.specs.Serving.{Claims, Histories, Run, EndsSpent, EndsDamaged, EndsLost, EndsUnsupported, run_behind, setup_behind, text_behind, audits_behind, Served}
use Rattle.qq_cluster_run.specs.Runs.{BreaksOff, IsCut, HasNoDisk, HasStopped, ending_of, ScriptEnds, IsSetup, MayNotOpen, RunEnds}
use Rattle.qq_cluster_run.specs.Setup.{Logs, cluster_over}
use Rattle.qq_cluster_run.specs.Troubles.{Trouble, YardFails, TakerIsGone}

-- What the source had and has, what the sink had and has, and their counts of faults before and after; what went wrong
-- below; what may have happened by then to the clusters whose disks and takers these were; and what may have happened to
-- them in all.
pub record Account : Type 0 where
  pub bytes : List ℕ
  pub rest : List ℕ
  pub old : List ℕ
  pub new : List ℕ
  pub source_before : ℕ
  pub source_after : ℕ
  pub sink_before : ℕ
  pub sink_after : ℕ
  pub troubles : List Trouble
  pub histories : List (ClusterSetup × List ClusterEvent)
  pub courses : List (ClusterSetup × List ClusterEvent)

-- its streams at first and in the end
abbrev pub first_streams : Account → Streams
first_streams s = record {
  source = record { left = Some s.bytes; faults = s.source_before };
  sink = record { written = Some s.old; faults = s.sink_before };
}

abbrev pub last_streams : Account → Streams
last_streams s = record {
  source = record { left = Some s.rest; faults = s.source_after };
  sink = record { written = Some s.new; faults = s.sink_after };
}

abbrev pub SourceRose : Account → Type 0
SourceRose s = Rose s.source_before s.source_after

abbrev pub SinkRose : Account → Type 0
SinkRose s = Rose s.sink_before s.sink_after

abbrev pub Met : Account → Trouble → Type 0
Met s trouble = Contains s.troubles trouble

abbrev pub Had : Account → Histories
Had s setup events = Contains s.histories (setup, events)

abbrev pub Claimed : Account → Claims
Claimed s = record { during = Had s; finally = λ setup events. Contains s.courses (setup, events) }

-- a script with these options has ended with this status; `old` is what stood there when the line of an export was written
abbrev pub HasEnded : ℕ → Options → Account → Type 0
HasEnded status options s = ScriptEnds status options (first_streams s) (last_streams s) (Met s) (Claimed s)

-- and in all, over a shelf that was this at first and in the end
abbrev pub HasEndedOver : ℕ → Options → (first last : ShelfState) → Account → Type 0
HasEndedOver status options first last s =
    RunEnds status (Some options) first last (first_streams s) (last_streams s) (Met s) (Claimed s)

-- words that are no command have ended with this status, whatever was on a shelf
abbrev pub HasEndedAtWords : ℕ → (first last : ShelfState) → Account → Type 0
HasEndedAtWords status first last s =
    RunEnds status None first last (first_streams s) (last_streams s) (Met s) (Claimed s)

-- ---- some lines were served, and more was printed

pub record Over (options : Options) (s : Account) : Type 0 where
  pub setup : Setup
  pub is_setup : IsSetup options setup
  pub served : Served (Had s) setup s.bytes (Some s.rest)

abbrev pub run_over : {options : Options} {s : Account} → Over options s → Run
run_over over = run_behind over.served.behind

abbrev pub setup_over : {options : Options} {s : Account} → Over options s → ClusterSetup
setup_over over = setup_behind over.served.behind

-- nothing has happened but what served these lines
abbrev pub IsCourse : {options : Options} {s : Account} → Over options s → Type 0
IsCourse {options} {s} over = Contains s.courses (setup_over over, (run_over over).events)

-- behind the text so far stands this
abbrev pub Prints : {options : Options} {s : Account} → Over options s → List ℕ → Type 0
Prints {options} {s} over more = s.new ≡ s.old ++ (text_behind over.served.behind ++ more)

-- this line stands behind them
abbrev pub IsNext : {options : Options} {s : Account} → Over options s → Input → Type 0
IsNext over input = (more : List Input) × (over.served.left ≡ input ∷ more)

-- the next line asks for this
abbrev pub NextAsks : {options : Options} {s : Account} → Over options s → ScriptLine → Type 0
NextAsks over line = (input : Input) × IsNext over input × (says over.setup (run_over over).lines input ≡ Asks line)

-- nothing was read, and this alone was printed
abbrev pub PrintsAlone : Account → List ℕ → Type 0
PrintsAlone s text = (s.rest ≡ s.bytes) × (s.new ≡ s.old ++ text)

-- ---- what each status tells

-- 0: all lines were served, and then the audits were printed.
pub record IsServed (options : Options) (s : Account) : Type 0 where
  pub over : Over options s
  pub all : over.served.left ≡ []
  pub read : s.rest ≡ []
  pub course : IsCourse over
  pub prints : Prints over (audits_behind over.served.behind)

-- a line that is read is to give a consumer a taker that isn't there, or was given away
pub record TakerIsMissing {options : Options} {s : Account} (over : Over options s) (input : Input) : Type 0 where
  pub by : SessionId
  pub at : QueueId
  pub tag : ℕ
  pub number : ℕ
  pub asks : says over.setup (run_over over).lines input ≡ Asks (Attach by at tag number)
  pub met : Met s (TakerIsGone (setup_over over) (run_over over).events number)

-- the fault of the next line
abbrev pub IsFaulty : {options : Options} {s : Account} → Over options s → Input → ScriptFault → Type 0
IsFaulty over input fault =
    (read_input over.setup ((run_over over).lines + 1) input ≡ Err fault)
    ⊎ ((fault ≡ NoSuch) × TakerIsMissing over input)

-- 4: the next line is refused, by its number and its fault.
pub record IsRefused (options : Options) (s : Account) : Type 0 where
  pub over : Over options s
  pub input : Input
  pub is_next : IsNext over input
  pub fault : ScriptFault
  pub faulty : IsFaulty over input fault
  pub course : IsCourse over
  pub prints : Prints over
      (codes "line " ++ decimal ((run_over over).lines + 1) ++ codes ": " ++ fault_text fault ++ codes "\n")

-- 5: the source has failed. All lines that were read whole were served: as many as end within what was read.
pub record IsReadFault (options : Options) (s : Account) : Type 0 where
  pub rose : SourceRose s
  pub over : Over options s
  pub piece : HasNoFeed over.served.piece
  pub all : (read : List ℕ) → s.bytes ≡ read ++ s.rest → feed_count read ≤ (run_over over).lines
  pub course : IsCourse over
  pub prints : Prints over (codes "read fault\n")

-- 6: the sink has failed, in what the lines and audits print, or in a closing line.
pub data IsCutOff (options : Options) (s : Account) : Type 0 where
  CutWithin : (setup : Setup) → IsSetup options setup
      → IsCut (Claimed s) setup s.bytes (first_streams s) (last_streams s) [] → IsCutOff options s
  CutAtClosing : (setup : Setup) → IsSetup options setup → (stop : Stop) (count : ℕ)
      → HasStopped stop setup (first_streams s) (last_streams s) (Met s) (Claimed s) (take count (ending_of stop).text)
      → IsCutOff options s
  CutAtOpening : (setup : Setup) → IsSetup options setup → (ending : Ending) → MayNotOpen (Met s) setup ending
      → (count : ℕ) → PrintsAlone s (take count ending.text) → IsCutOff options s
  CutBeforeSetup : (count : ℕ) → PrintsAlone s (take count no_memory.text) → IsCutOff options s

-- 7: when the cluster was opened the yard has failed, or each node's disk has; or the yard has failed at a crash.
pub data IsYardFault (options : Options) (s : Account) : Type 0 where
  NoDisk : (setup : Setup) → IsSetup options setup → (logs : Logs) → HasNoDisk (Met s) (cluster_over setup logs)
      → PrintsAlone s (codes "yard fault\n") → IsYardFault options s
  AtCrash : Met s YardFails → (over : Over options s) (nodes : Nodes) (image : Image)
      → NextAsks over (Crash nodes image) → Prints over (codes "yard fault\n") → IsYardFault options s

-- 8: nodes are recovered in order, and the log files of one break their rules: of all nodes, when the cluster is opened,
-- or of those that are restarted.
pub data MeetsDamage (options : Options) (s : Account) : Type 0 where
  DamagedAtOpening : (setup : Setup) → IsSetup options setup → (logs : Logs) (ending : Ending)
      → EndsDamaged (Met s) (cluster_over setup logs) (cluster_over setup logs).nodes [] ending
      → PrintsAlone s ending.text → MeetsDamage options s
  DamagedAtRestart : (over : Over options s) (nodes : Nodes) (ending : Ending)
      → EndsDamaged (Met s) (setup_over over) (nodes_of (setup_over over) nodes) (run_over over).events ending
      → NextAsks over (Restart nodes) → Prints over ending.text → MeetsDamage options s

-- 9: when the cluster is opened what recovery reads of a queue supports no audit, or at a restart it finds of a queue what
-- its member may not take up.
pub data HasLost (options : Options) (s : Account) : Type 0 where
  LostAtOpening : (setup : Setup) → IsSetup options setup → (ending : Ending) → EndsUnsupported (Met s) setup ending
      → PrintsAlone s ending.text → HasLost options s
  LostAtRestart : (over : Over options s) (nodes : Nodes) (ending : Ending)
      → EndsLost (Met s) (setup_over over) (nodes_of (setup_over over) nodes) (run_over over).events ending
      → NextAsks over (Restart nodes) → Prints over ending.text → HasLost options s

-- what is printed of a limit that a line passes: it is behind the 10,000,000th, or its body is too long
abbrev pub PassesLimit : Setup → ℕ → Input → List ℕ → Type 0
PassesLimit setup lines input text =
    ((10000000 ≤ lines) × (text ≡ codes "limit lines " ++ decimal 10000001 ++ codes "\n"))
    ⊎ ((size : ℕ) × (read_input setup (lines + 1) input ≡ Err (Body size))
    × (text ≡ codes "limit body " ++ decimal size ++ codes "\n"))

-- 11: the next line passes a limit.
pub record IsLimited (options : Options) (s : Account) : Type 0 where
  pub over : Over options s
  pub input : Input
  pub is_next : IsNext over input
  pub text : List ℕ
  pub passes : PassesLimit over.setup (run_over over).lines input text
  pub course : IsCourse over
  pub prints : Prints over text

-- 12: there was no memory, and a first part of what is printed was written.
pub data HasNoMemory (options : Options) (s : Account) : Type 0 where
  NoneAtOpening : PrintsAlone s (codes "memory\n") → HasNoMemory options s
  NoneWithin : (setup : Setup) → IsSetup options setup
      → BreaksOff (Had s) setup s.bytes (first_streams s) (last_streams s) (codes "memory\n")
      → HasNoMemory options s

-- 20: a number stands at its end.
pub data IsSpent (options : Options) (s : Account) : Type 0 where
  SpentAtOpening : (setup : Setup) → IsSetup options setup → (logs : Logs) (ending : Ending)
      → EndsSpent (Met s) (cluster_over setup logs) (IsOpening (cluster_over setup logs)) [] ending
      → PrintsAlone s ending.text → IsSpent options s
  SpentAtLine : (over : Over options s) (line : ScriptLine) (ending : Ending)
      → EndsSpent (Met s) (setup_over over) (IsLine (setup_over over) line) (run_over over).events ending
      → NextAsks over line → Prints over ending.text → IsSpent options s

-- ---- all of them

pub data Told (status : ℕ) (options : Options) (s : Account) : Type 0 where
  Done : status ≡ 0 → IsServed options s → Told status options s
  Refused : status ≡ 4 → IsRefused options s → Told status options s
  ReadFault : status ≡ 5 → IsReadFault options s → Told status options s
  WriteFault : status ≡ 6 → SinkRose s → IsCutOff options s → Told status options s
  YardFault : status ≡ 7 → IsYardFault options s → Told status options s
  Damaged : status ≡ 8 → MeetsDamage options s → Told status options s
  Lost : status ≡ 9 → HasLost options s → Told status options s
  Limited : status ≡ 11 → IsLimited options s → Told status options s
  NoMemory : status ≡ 12 → HasNoMemory options s → Told status options s
  Spent : status ≡ 20 → IsSpent options s → Told status options s
