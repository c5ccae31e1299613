-- What the words of the program say.
use Rattle.std.specs.Prelude.{◌||◌, Bool, List, [], ◌∷◌, codes, Option, None, if◌then◌else◌}
use Rattle.std.specs.List.{list_any}
use Rattle.std.specs.Option.{option_map, option_and_then}
use Rattle.std.specs.Str.{bytes_eq}
use Rattle.clap.specs.Words.{Kinds, Row, Text, fault_of, subcommand_of}
use Rattle.qq_words.specs.declared.commands.Command.{Command}
use Rattle.qq_words.specs.declared.commands.Command.TheVariants as commands
use Rattle.qq_words.specs.Options.{drill_in, dump_in, options_in}
use Rattle.qq_words.specs.Program.{program}

-- `clap` takes an empty word and `-` as values, and `--` as the end of the options. The program takes none of them.
abbrev pub is_barred : Text → Bool
is_barred word =
    bytes_eq word [] || (bytes_eq word (codes "-") || bytes_eq word (codes "--"))

abbrev pub unless : Kinds → Option (Text × List Row) → Option (Text × List Row)
unless [] found = found
unless (kind ∷ kinds) found = None

-- the command that `clap` finds, with the values of its options
abbrev pub parsed : List Text → Option (Text × List Row)
parsed words = unless (fault_of program words) (subcommand_of program words)

abbrev pub command_in : Text × List Row → Option Command
command_in found =
    if bytes_eq found.0 (codes "script") then option_map commands.Script (options_in found.1)
    else if bytes_eq found.0 (codes "dump") then dump_in found.1
    else if bytes_eq found.0 (codes "drill") then drill_in found.1
    else None

unfoldable pub read_words : List Text → Option Command
read_words words =
    if list_any is_barred words then None
    else option_and_then command_in (parsed words)
