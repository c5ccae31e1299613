-- What the program has done, by what its words say.
use Rattle.std.specs.Prelude.{◌≡◌, ℕ, Bool, List, Option, Some, None}
use Rattle.qq_disk.specs.Facts.{DiskFacts}
use Rattle.qq_taker.specs.Takers.{Takers}
use Rattle.qq_ports.specs.Streams.{ShelfState, Streams}
use Rattle.qq_words.specs.declared.commands.Command.{Command}
use Rattle.qq_words.specs.declared.commands.Command.TheVariants.{Script, Dump, Drill}
use Rattle.qq_cluster_run.specs.Drills.{DrillEnds}
use Rattle.qq_cluster_run.specs.Runs.{RunEnds}
use Rattle.qq_broker.specs.Dumping.{DumpEnds}
use Rattle.qq_broker.specs.Lives.{under}
use Rattle.qq_broker.specs.Nodes.{Had, Meets}
use Rattle.qq_broker.specs.Takers.{RunClaims, RunMeets}

-- What stands outside of a run at a moment: its streams, its shelf, how often its yard has failed, and its takers.
pub record Outside : Type 0 where
  pub streams : Streams
  pub shelf : ShelfState
  pub yard : ℕ
  pub takers : Takers

abbrev pub outside : Streams → ShelfState → (yard : ℕ) → Takers → Outside
outside streams shelf yard takers = record { streams = streams; shelf = shelf; yard = yard; takers = takers }

-- What a run has done that ends with this status: a script over the disks of its root, or new ones without a root; a
-- dump of a node's disk under a root; a drill over new disks, without takers; or the words are no command.
abbrev pub ProgramEnds : {D : Type 0} → (Option (List ℕ) → ℕ → D → Bool) → DiskFacts D
    → (status : ℕ) → Option Command → (before later : Outside) → Type 0
ProgramEnds is_given facts status (Some (Script options)) before later =
    RunEnds status (Some options) before.shelf later.shelf before.streams later.streams
    (RunMeets (under is_given options.root) facts before.takers before.yard later.yard)
    (RunClaims (under is_given options.root) facts before.takers later.takers)
ProgramEnds is_given facts status (Some (Dump root node)) before later =
    DumpEnds (under is_given (Some root)) facts status node before.streams later.streams before.yard later.yard
    × (later.takers ≡ before.takers)
ProgramEnds is_given facts status (Some (Drill number nodes)) before later =
    DrillEnds status number nodes before.streams later.streams
    (Meets (under is_given None) facts before.yard later.yard) (Had (under is_given None) facts)
    × (later.takers ≡ before.takers)
ProgramEnds is_given facts status None before later =
    RunEnds status None before.shelf later.shelf before.streams later.streams
    (RunMeets (under is_given None) facts before.takers before.yard later.yard)
    (RunClaims (under is_given None) facts before.takers later.takers) × (later.takers ≡ before.takers)
