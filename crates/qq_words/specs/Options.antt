-- What the options of a command say, by the values that the words give them.
use Rattle.std.specs.Prelude.{ℕ, ◌&&◌, ◌||◌, Bool, false, List, codes, Option, Some, None, if◌then◌else◌}
use Rattle.std.specs.Option.{is_some, option_and_then}
use Rattle.std.specs.Str.{bytes_eq}
use Rattle.qq_script_lines.specs.Numbers.{number_in}
use Rattle.clap.specs.Words.{Row, Text, first_of}
use Rattle.qq_words.specs.declared.commands.Command.{Command}
use Rattle.qq_words.specs.declared.commands.Command.TheVariants as commands
use Rattle.qq_words.specs.declared.counts.TheConstants.{NODES_MOST, NODES, GROUP, QUEUES, QUEUES_MOST, DRILL_NODES, DRILLS_MOST}
use Rattle.qq_words.specs.declared.options.Options.{Options}
use Rattle.qq_words.specs.declared.options.TheConstants.{LOG_BYTES, LOG_BYTES_LEAST, LOG_BYTES_MOST}

-- a number in its range, or the one that stands where the words give none
abbrev pub number_or : (other first last : ℕ) → Option Text → Option ℕ
number_or other first last None = Some other
number_or other first last (Some word) = number_in first last word

-- a flag's value is the word `true`, or `false` where it isn't given
abbrev pub is_true : Option Text → Bool
is_true None = false
is_true (Some word) = bytes_eq word (codes "true")

-- With definitions the words say neither how many queues there are nor how large their groups.
abbrev pub names_queues_twice : List Row → Bool
names_queues_twice rows =
    is_some (first_of (codes "definitions") rows)
    && (is_some (first_of (codes "queues") rows) || is_some (first_of (codes "group") rows))

abbrev pub with_numbers : (nodes group queues log_bytes : Option ℕ) → List Row → Option Options
with_numbers (Some nodes) (Some group) (Some queues) (Some log_bytes) rows = Some (record {
  nodes = nodes;
  group = group;
  queues = queues;
  definitions = first_of (codes "definitions") rows;
  ignore_policies = is_true (first_of (codes "ignore-policies") rows);
  root = first_of (codes "root") rows;
  log_bytes = log_bytes;
})
with_numbers _ _ _ _ rows = None

abbrev pub options_in : List Row → Option Options
options_in rows =
    if names_queues_twice rows then None
    else with_numbers
    (number_or NODES 1 NODES_MOST (first_of (codes "nodes") rows))
    (number_or GROUP 1 NODES_MOST (first_of (codes "group") rows))
    (number_or QUEUES 1 QUEUES_MOST (first_of (codes "queues") rows))
    (number_or LOG_BYTES LOG_BYTES_LEAST LOG_BYTES_MOST (first_of (codes "log-bytes") rows))
    rows

abbrev pub dump_of : (root : Option Text) (node : Option ℕ) → Option Command
dump_of (Some root) (Some node) = Some (commands.Dump root (record { 0 = node }))
dump_of _ _ = None

-- both are required
abbrev pub dump_in : List Row → Option Command
dump_in rows = dump_of (first_of (codes "root") rows)
    (option_and_then (number_in 1 NODES_MOST) (first_of (codes "node") rows))

abbrev pub drill_of : (number nodes : Option ℕ) → Option Command
drill_of (Some number) (Some nodes) = Some (commands.Drill number nodes)
drill_of _ _ = None

-- its number is required
abbrev pub drill_in : List Row → Option Command
drill_in rows = drill_of (option_and_then (number_in 1 DRILLS_MOST) (first_of (codes "number") rows))
    (number_or DRILL_NODES 1 NODES_MOST (first_of (codes "nodes") rows))
