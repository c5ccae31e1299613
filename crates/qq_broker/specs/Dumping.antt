-- What a dump of a node's disk has done.
use Rattle.std.specs.Prelude.{◌≡◌, ◌⊎◌, ℕ, List, ◌++◌, IsTrue}
use Rattle.qq_base.specs.Causes.{Rose}
use Rattle.qq_base.specs.Fronts.{IsFront}
use Rattle.qq_base.specs.declared.ids.NodeId.{NodeId}
use Rattle.qq_disk.specs.Facts.{DiskFacts}
use Rattle.qq_dump.specs.Files.{AreShown, LogFile, dump_text}
use Rattle.qq_ports.specs.Streams.{IsUnread, SinkFails, SinkState, Streams, Writes, WritesPart}
use Rattle.qq_cluster_run.specs.declared.status.TheConstants.{DONE, WRITE_FAULT}
use Rattle.qq_cluster_run.specs.Endings.{Ending, no_memory, yard_fault}
use Rattle.qq_cluster_run.specs.Runs.{Closes, IsUnopened}
use Rattle.qq_broker.specs.Lives.{Giving, IsGiven}
use Rattle.qq_broker.specs.Serving.{IsYardEnding}

-- the node's disk has failed, or there was no memory
abbrev pub IsDumpEnding : Type 0 → Ending → Type 0
IsDumpEnding disk ending = (disk × (ending ≡ yard_fault)) ⊎ (ending ≡ no_memory)

-- the whole texts of some of these files, from the first on, were written, and then a closing line
pub record IsCutShort (status : ℕ) (disk : Type 0) (files : List LogFile) (before later : SinkState) : Type 0 where
  pub front : List LogFile
  pub is_front : IsFront front files
  pub ending : Ending
  pub may : IsDumpEnding disk ending
  pub closes : Closes status ending before later (λ more. Writes before later (dump_text front ++ more))

-- The text of these files was written, all of it or as far as it came: the sink has failed in it, or a closing line
-- stands behind whole files.
abbrev pub HasDumped : (status : ℕ) → (disk : Type 0) → List LogFile → (before later : SinkState) → Type 0
HasDumped status disk files before later =
    ((status ≡ DONE) × Writes before later (dump_text files))
    ⊎ (((status ≡ WRITE_FAULT) × SinkFails before later × WritesPart before later (dump_text files))
    ⊎ IsCutShort status disk files before later)

-- The yard gave a disk for the node under the run's root, and the text of the log files that it shows was written.
-- Nothing was read, and what the disk holds is as it was.
pub record IsDumped {D : Type 0} (given : Giving D) (facts : DiskFacts D) (status : ℕ) (node : NodeId)
    (before later : Streams) : Type 0 where
  pub first : D
  pub given_is : IsGiven given facts node.0 first
  pub last : D
  pub told : facts.tells last ≡ facts.tells first
  pub same : IsTrue (facts.tells first) → facts.past last ≡ facts.past first
  pub files : List LogFile
  pub shown : AreShown facts first files
  pub keeps : IsUnread before later
  pub has : HasDumped status (Rose (facts.faults first) (facts.faults last)) files before.sink later.sink

-- What a dump has done that ends with this status, where the yard counted so many faults at first and in the end: the
-- yard gave no disk, or the text of one was written.
abbrev pub DumpEnds : {D : Type 0} → Giving D → DiskFacts D → (status : ℕ) → NodeId
    → (before later : Streams) → (yard yard' : ℕ) → Type 0
DumpEnds given facts status node before later yard yard' =
    IsUnopened status before later (IsYardEnding yard yard')
    ⊎ IsDumped given facts status node before later
