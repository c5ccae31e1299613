-- What was written of the texts of log files, where not all was.
use Rattle.std.specs.Prelude.{ℕ, List, Option}
use Rattle.std.specs.Io.KnownBytes.{Appends}
use Rattle.qq_base.specs.Fronts.{IsFront}
use Rattle.qq_ports.specs.Faults.{AppendsPrefix}
use Rattle.qq_dump.specs.declared.fault.DumpFault.{DumpFault}
use Rattle.qq_dump.specs.declared.fault.DumpFault.TheVariants.{Disk, Sink, NoMemory}
use Rattle.qq_dump.specs.Files.{LogFile, dump_text}

-- the whole texts of some of the files, from the first on
abbrev pub WritesWhole : Option (List ℕ) → Option (List ℕ) → List LogFile → Type 0
WritesWhole old new files = (front : List LogFile) × IsFront front files × Appends old new (dump_text front)

-- The sink may fail in the middle of a text, and nothing else does.
abbrev pub WritesFirst : DumpFault → Option (List ℕ) → Option (List ℕ) → List LogFile → Type 0
WritesFirst Disk old new files = WritesWhole old new files
WritesFirst Sink old new files = AppendsPrefix old new (dump_text files)
WritesFirst NoMemory old new files = WritesWhole old new files
