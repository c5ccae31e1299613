-- How a run ends, and what it has written by then.
use Rattle.std.specs.Prelude.{◌≡◌, ◌⊎◌, ℕ, List, [], ◌++◌, Option, Some, None, true, IfSome, is_some, take}
use Rattle.std.specs.List.{AllByRecursion}
use Rattle.std.specs.Io.KnownBytes.{Appends, IsAtEnd}
use Rattle.qq_route.specs.declared.setup.Setup.{Setup}
use Rattle.qq_words.specs.declared.options.Options.{Options}
use Rattle.qq_cluster_model.specs.Cluster.{Setup as ClusterSetup}
use Rattle.qq_cluster_model.specs.Rules.{IsOpening}
use Rattle.qq_ports.specs.Lines.{HasNoFeed}
use Rattle.qq_ports.specs.Streams.{IsUnread, ShelfState, SinkFails, SinkState, SourceFails, Streams, Writes, WritesPart, with_written}
use Rattle.qq_cluster_run.specs.declared.status.TheConstants.{DONE, LIMIT, REFUSED, WRITE_FAULT}
use Rattle.qq_cluster_run.specs.declared.stop.AskStop.{AskStop}
use Rattle.qq_cluster_run.specs.declared.stop.AskStop.TheVariants as asks
use Rattle.qq_cluster_run.specs.declared.stop.Stop.{Stop}
use Rattle.qq_cluster_run.specs.declared.stop.Stop.TheVariants as stops
use Rattle.qq_cluster_run.specs.Definitions.{Files, IsSetupOver, MayNotBegin, made_text}
use Rattle.qq_cluster_run.specs.Endings.{Ending, usage, read_fault, write_fault, yard_fault, no_memory}
use Rattle.qq_cluster_run.specs.Inputs.{Input}
use Rattle.qq_cluster_run.specs.Serving.{Claims, Histories, Behind, EndsRun, NextEnds, EndsSpent, EndsDamaged, EndsUnsupported, run_behind, setup_behind, text_behind, audits_behind, Served, IsText}
use Rattle.qq_cluster_run.specs.Setup.{Logs, cluster_over}
use Rattle.qq_cluster_run.specs.Troubles.{Trouble, YardFails, DiskFails}

-- ---- why a run stops, and what was written by then, and then `more`

-- the ending of a line that isn't served at all: nothing happens then
abbrev pub IsRefusal : Ending → Type 0
IsRefusal ending = (ending.status ≡ REFUSED) ⊎ (ending.status ≡ LIMIT)

-- Some lines were served, and the next one ends the run so.
pub record EndsBy (met : Trouble → Type 0) (claims : Claims) (ending : Ending) (s : Setup) (bytes : List ℕ)
    (before later : Streams) (more : List ℕ) : Type 0 where
  pub served : Served claims.during s bytes later.source.left
  pub next : NextEnds met s (run_behind served.behind) served.left ending
  pub finally : IsRefusal ending → claims.finally (setup_behind served.behind) served.behind.events
  pub written : Writes before.sink later.sink (text_behind served.behind ++ more)

-- Each line that was read whole was served; what was read behind these lines is a piece of one.
pub record HasAnswers (claims : Claims) (s : Setup) (bytes : List ℕ) (before later : Streams) (more : List ℕ) : Type 0
  where
    pub served : Served claims.during s bytes later.source.left
    pub is_piece : HasNoFeed served.piece
    pub finally : claims.finally (setup_behind served.behind) served.behind.events
    pub written : Writes before.sink later.sink (text_behind served.behind ++ more)

-- Some lines were served, and a first part of what is printed was written.
pub record BreaksOff (had : Histories) (s : Setup) (bytes : List ℕ) (before later : Streams) (more : List ℕ) : Type 0
  where
    pub served : Served had s bytes later.source.left
    pub text : List ℕ
    pub is : IsText served text
    pub said : List ℕ
    pub unsaid : List ℕ
    pub parts : text ≡ said ++ unsaid
    pub written : Writes before.sink later.sink (said ++ more)

-- and of no line more has anything happened
pub record IsCut (claims : Claims) (s : Setup) (bytes : List ℕ) (before later : Streams) (more : List ℕ) : Type 0 where
  pub breaks : BreaksOff claims.during s bytes before later more
  pub finally : claims.finally (setup_behind breaks.served.behind) breaks.served.behind.events

-- some lines were served, whatever the source shows, and one more ends the run so
pub record MayEnd (met : Trouble → Type 0) (claims : Claims) (s : Setup) (ending : Ending) : Type 0 where
  pub read : List Input
  pub behind : Behind claims.during s read []
  pub input : Input
  pub ends : EndsRun met s (run_behind behind) input ending
  pub finally : IsRefusal ending → claims.finally (setup_behind behind) behind.events

-- `before` and `later` are its streams at first and in the end, `met` says what went wrong below, and `claims` what is
-- so of the run's events.
abbrev pub HasStopped : Stop → Setup → (before later : Streams) → (met : Trouble → Type 0) → (claims : Claims)
    → (more : List ℕ) → Type 0
HasStopped (stops.Ended ending) s before later met claims more =
    MayEnd met claims s ending
    × IfSome before.source.left (λ bytes. EndsBy met claims ending s bytes before later more)
HasStopped stops.ReadFault s before later met claims more =
    SourceFails before.source later.source
    × IfSome before.source.left (λ bytes. HasAnswers claims s bytes before later more)
HasStopped stops.WriteFault s before later met claims more =
    SinkFails before.sink later.sink × IfSome before.source.left (λ bytes. IsCut claims s bytes before later more)
HasStopped stops.NoMemory s before later met claims more =
    IfSome before.source.left (λ bytes. BreaksOff claims.during s bytes before later more)

-- why the run stops where a line asks for nothing
abbrev pub stop_of : AskStop → Stop
stop_of (asks.Ended ending) = stops.Ended ending
stop_of asks.NoMemory = stops.NoMemory

-- how a run ends that stops so
abbrev pub ending_of : Stop → Ending
ending_of (stops.Ended ending) = ending
ending_of stops.ReadFault = read_fault
ending_of stops.WriteFault = write_fault
ending_of stops.NoMemory = no_memory

-- A closing line was written, and the status is its ending's. Or the sink failed in it, and a first part of it
-- was written.
abbrev pub Closes : (status : ℕ) → Ending → (before later : SinkState) → (Stands : List ℕ → Type 0) → Type 0
Closes status ending before later Stands =
    ((status ≡ ending.status) × Stands ending.text)
    ⊎ ((status ≡ WRITE_FAULT) × SinkFails before later × ((count : ℕ) × Stands (take count ending.text)))

-- ---- how a run ends

-- all lines were served, and all that is printed was written
pub record IsDoneOver (claims : Claims) (s : Setup) (bytes : List ℕ) (before later : Streams) : Type 0 where
  pub served : Served claims.during s bytes later.source.left
  pub all : served.left ≡ []
  pub finally : claims.finally (setup_behind served.behind) served.behind.events
  pub written : Writes before.sink later.sink (text_behind served.behind ++ audits_behind served.behind)

pub record IsDone (status : ℕ) (claims : Claims) (s : Setup) (before later : Streams) : Type 0 where
  pub status_is : status ≡ DONE
  pub ended : IsAtEnd later.source.left
  pub over : IfSome before.source.left (λ bytes. IsDoneOver claims s bytes before later)

-- the setup of a run with these options, whatever file an export is
abbrev pub IsSetup : Options → Setup → Type 0
IsSetup options s = IsSetupOver None options s

-- the yard has failed, or each node's disk has
abbrev pub HasNoDisk : (Trouble → Type 0) → ClusterSetup → Type 0
HasNoDisk met setup =
    met YardFails ⊎ ((setup.nodes ≡ [] → ⊥) × AllByRecursion (λ k. met (DiskFails k)) setup.nodes)

-- why a cluster of a setup, over these logs, can't be opened
abbrev pub MayNotOpenOver : (Trouble → Type 0) → ClusterSetup → Ending → Type 0
MayNotOpenOver met setup ending =
    (ending ≡ no_memory) ⊎ ((HasNoDisk met setup × (ending ≡ yard_fault))
    ⊎ (EndsDamaged met setup setup.nodes [] ending ⊎ EndsSpent met setup (IsOpening setup) [] ending))

-- and why one of a setup can't: what is read of a queue supports no audit, or for one of these reasons
abbrev pub MayNotOpen : (Trouble → Type 0) → Setup → Ending → Type 0
MayNotOpen met s ending =
    EndsUnsupported met s ending ⊎ ((logs : Logs) × MayNotOpenOver met (cluster_over s logs) ending)

-- nothing was read, and a closing line alone was written, of an ending that may come
pub record IsUnopened (status : ℕ) (before later : Streams) (May : Ending → Type 0) : Type 0 where
  pub ending : Ending
  pub may : May ending
  pub keeps : IsUnread before later
  pub closes : Closes status ending before.sink later.sink (Writes before.sink later.sink)

-- the run stopped, and then wrote the closing line of its stop
pub record IsStopped (status : ℕ) (s : Setup) (before later : Streams) (met : Trouble → Type 0) (claims : Claims) : Type 0
  where
    pub stop : Stop
    pub closes : Closes status (ending_of stop) before.sink later.sink
        (λ more. HasStopped stop s before later met claims more)

-- what a run over a setup has done: the cluster wasn't opened, or the script was served to its end, or the run stopped
abbrev pub HasRun : (status : ℕ) → Setup → (before later : Streams) → (met : Trouble → Type 0) → (claims : Claims)
    → Type 0
HasRun status s before later met claims =
    IsUnopened status before later (MayNotOpen met s)
    ⊎ (IsDone status claims s before later ⊎ IsStopped status s before later met claims)

-- a run over a cluster of a setup with these options
pub record IsRunOver (status : ℕ) (options : Options) (before later : Streams) (met : Trouble → Type 0) (claims : Claims)
    : Type 0 where
  pub setup : Setup
  pub is_setup : IsSetup options setup
  pub ends : HasRun status setup before later met claims

-- and what it has done behind the line of what was made of an export, where there is one
abbrev pub ScriptEnds : (status : ℕ) → Options → (before later : Streams) → (met : Trouble → Type 0) → (claims : Claims)
    → Type 0
ScriptEnds status options before later met claims =
    IsUnopened status before later (λ ending. ending ≡ no_memory) ⊎ IsRunOver status options before later met claims

-- ---- from the first line on

-- that line was written, and the run over the setup did this
pub record IsBehindMade (status : ℕ) (setup : Setup) (before later : Streams) (met : Trouble → Type 0) (claims : Claims)
    : Type 0 where
  pub mid : Option (List ℕ)
  pub made : Appends before.sink.written mid (made_text setup.made)
  pub ends : HasRun status setup (with_written mid before) later met claims

-- or, where there is one, the sink has failed in it
pub record IsCutInMade (status : ℕ) (setup : Setup) (before later : Streams) : Type 0 where
  pub some : is_some setup.made ≡ true
  pub status_is : status ≡ WRITE_FAULT
  pub rose : SinkFails before.sink later.sink
  pub keeps : IsUnread before later
  pub written : WritesPart before.sink later.sink (made_text setup.made)

-- either of these
abbrev pub HasMade : (status : ℕ) → Setup → (before later : Streams) → (met : Trouble → Type 0) → (claims : Claims)
    → Type 0
HasMade status setup before later met claims =
    IsCutInMade status setup before later ⊎ IsBehindMade status setup before later met claims

-- or there was no memory for the line
abbrev pub HasBegun : (status : ℕ) → Setup → (before later : Streams) → (met : Trouble → Type 0) → (claims : Claims)
    → Type 0
HasBegun status setup before later met claims =
    IsUnopened status before later (λ ending. ending ≡ no_memory) ⊎ HasMade status setup before later met claims

-- a script over what its words and the shelf's file say of its setup
pub record IsScript (status : ℕ) (options : Options) (files : Files) (before later : Streams) (met : Trouble → Type 0)
    (claims : Claims) : Type 0 where
  pub setup : Setup
  pub is_setup : IsSetupOver files options setup
  pub ends : HasMade status setup before later met claims

-- What a run has done that ends with this status, where the words are a script with these options, and where they are
-- no command; `first` and `last` are its shelf. There may be no memory to read the words.
abbrev pub RunEnds : (status : ℕ) → Option Options → (first last : ShelfState) → (before later : Streams)
    → (met : Trouble → Type 0) → (claims : Claims) → Type 0
RunEnds status (Some options) first last before later met claims =
    IsUnopened status before later (MayNotBegin first last options)
    ⊎ IsScript status options first.files before later met claims
RunEnds status None first last before later met claims =
    IsUnopened status before later (λ ending. (ending ≡ usage) ⊎ (ending ≡ no_memory))
