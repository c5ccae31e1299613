-- What a script's setup is by its words, and by the export that they name.
use Rattle.std.specs.Prelude.{◌≡◌, ◌⊎◌, ℕ, List, [], ◌++◌, Option, Some, None, is_some, true, Result, Ok, Err, codes}
use Rattle.std.specs.Fmt.{decimal}
use Rattle.qq_ports.specs.Shelf.{Gives}
use Rattle.qq_ports.specs.Streams.{ShelfFails, ShelfState, SinkFails, SinkState, WritesPart}
use Rattle.qq_route.specs.declared.setup.Made.{Made}
use Rattle.qq_route.specs.declared.setup.Setup.{Setup}
use Rattle.qq_route.specs.Setup.{SetupState, state_of, plain_setup}
use Rattle.qq_defs.specs.declared.fault.DefsFault.{DefsFault}
use Rattle.qq_defs.specs.declared.fault.DefsFault.TheVariants.{Json, NotObject, Missing, BadArgument, Unsupported, Policies, UnknownTarget, Limit, Memory}
use Rattle.qq_defs.specs.Definitions.{document, read_setup}
use Rattle.qq_words.specs.declared.options.Options.{Options}
use Rattle.qq_cluster_run.specs.declared.status.TheConstants.{DEFINITIONS, LIMIT}
use Rattle.qq_cluster_run.specs.declared.stop.PrintFault.{PrintFault}
use Rattle.qq_cluster_run.specs.declared.stop.PrintFault.TheVariants as prints
use Rattle.qq_cluster_run.specs.Endings.{Ending, read_fault, no_memory}

-- the files of a shelf by their names, where it shows them
abbrev pub Files : Type 0
Files = Option (List ℕ → Option (List ℕ))

-- ---- the setup

-- what an export is read as
abbrev pub read_export : Options → List ℕ → Result SetupState DefsFault
read_export options bytes =
    read_setup options.ignore_policies options.nodes options.log_bytes (document bytes)

-- Where the words name no export, so many queues without arguments; else what the file of that name is read as.
abbrev pub IsMadeBy : Option (List ℕ) → Files → Options → SetupState → Type 0
IsMadeBy None files options s =
    s ≡ plain_setup options.nodes options.group options.queues options.log_bytes
IsMadeBy (Some name) files options s =
    (bytes : List ℕ) × Gives files name bytes × (read_export options bytes ≡ Ok s)

abbrev pub IsSetupOver : Files → Options → Setup → Type 0
IsSetupOver files options s = IsMadeBy options.definitions files options (state_of s)

-- ---- the first line

abbrev pub counted : List ℕ → ℕ → List ℕ
counted name count = name ++ decimal count

abbrev pub made_counts : Made → List ℕ
made_counts made =
    counted (codes "made queues ") made.queues
    ++ (counted (codes " exchanges ") made.exchanges ++ counted (codes " bindings ") made.bindings)

abbrev pub skipped_counts : Made → List ℕ
skipped_counts made =
    counted (codes " skipped queues ") made.skipped_queues
    ++ (counted (codes " bindings ") made.skipped_bindings
    ++ (counted (codes " other-vhosts ") made.other_vhosts ++ codes "\n"))

-- what was made of an export, and what was passed over
abbrev pub made_text : Option Made → List ℕ
made_text None = []
made_text (Some made) = made_counts made ++ skipped_counts made

-- why it wasn't written whole: the sink has failed in it, or there was no memory, and nothing was written
abbrev pub HasMadeCause : PrintFault → Option Made → (before later : SinkState) → Type 0
HasMadeCause prints.Failed made before later =
    (is_some made ≡ true) × SinkFails before later × WritesPart before later (made_text made)
HasMadeCause prints.NoMemory made before later = later.written ≡ before.written

-- ---- why there is no setup

abbrev pub cause_text : DefsFault → List ℕ
cause_text Json = codes "json"
cause_text NotObject = codes "not-object"
cause_text (Missing path) = codes "missing " ++ path
cause_text (BadArgument name) = codes "bad-argument " ++ name
cause_text (Unsupported name) = codes "unsupported " ++ name
cause_text Policies = codes "policies"
cause_text (UnknownTarget name) = codes "unknown-target " ++ name
cause_text _ = []

abbrev pub limit_queues : ℕ → Ending
limit_queues count = record { status = LIMIT; text = codes "limit queues " ++ decimal count ++ codes "\n" }

-- an export is refused by its first fault; that there are more queues than there may be is a limit
abbrev pub refused_export : DefsFault → Ending
refused_export (Limit count) = limit_queues count
refused_export (Memory memory) = no_memory
refused_export fault = record {
  status = DEFINITIONS;
  text = codes "definitions: " ++ cause_text fault ++ codes "\n";
}

-- the export that the words name is refused
pub record IsRefusedExport (name : List ℕ) (files : Files) (options : Options) (ending : Ending) : Type 0 where
  pub bytes : List ℕ
  pub gives : Gives files name bytes
  pub fault : DefsFault
  pub reads : read_export options bytes ≡ Err fault
  pub is : ending ≡ refused_export fault

abbrev pub MayNotRead : Option (List ℕ) → (before later : ShelfState) → Options → Ending → Type 0
MayNotRead None before later options ending = ⊥
MayNotRead (Some name) before later options ending =
    (ShelfFails before later × (ending ≡ read_fault)) ⊎ IsRefusedExport name before.files options ending

-- Why a script has no setup: there was no memory, the shelf has failed, or the export is refused.
abbrev pub MayNotBegin : (before later : ShelfState) → Options → Ending → Type 0
MayNotBegin before later options ending =
    (ending ≡ no_memory) ⊎ MayNotRead options.definitions before later options ending
