-- What the words of the doctor say.
use Rattle.std.specs.Prelude.{◌||◌, ℕ, Bool, not, List, codes, Option, Some, None, if◌then◌else◌}
use Rattle.std.specs.List.{list_any}
use Rattle.std.specs.Option.{is_some, option_and_then}
use Rattle.std.specs.Str.{bytes_eq}
use Rattle.clap.specs.Words.{App, Row, Text, fault_of, first_of, subcommand_of, with_subcommand, new_app}
use Rattle.qq_script_lines.specs.Numbers.{number_in}
use Rattle.qq_words.specs.Options.{is_true, number_or}
use Rattle.qq_words.specs.Program.{top, with_flag, with_option}
use Rattle.qq_words.specs.Words.{is_barred, unless}
use Rattle.qq_words.specs.declared.counts.TheConstants.{GROUP, NODES_MOST, QUEUES, QUEUES_MOST}
use Rattle.qq_words.specs.declared.options.Options.{Options}
use Rattle.qq_words.specs.declared.options.TheConstants.{LOG_BYTES}
use Rattle.qq_doctor.specs.declared.words.Request.{Request}

-- ---- as `clap` knows them

abbrev pub doctor : App
doctor =
    let root = with_option (new_app (codes "doctor")) (codes "root") in
    let nodes = with_option root (codes "nodes") in
    let queues = with_option nodes (codes "queues") in
    let group = with_option queues (codes "group") in
    let definitions = with_option group (codes "definitions") in
    with_flag definitions (codes "ignore-policies")

abbrev pub program : App
program = with_subcommand top doctor.top

abbrev pub parsed : List Text → Option (Text × List Row)
parsed words = unless (fault_of program words) (subcommand_of program words)

-- ---- what the options say

abbrev pub has : Text → List Row → Bool
has name rows = is_some (first_of name rows)

-- Either an export has the queues, or their number is given, and then the size of their groups may be.
abbrev pub names_queues_once : List Row → Bool
names_queues_once rows =
    if has (codes "definitions") rows
    then not (has (codes "queues") rows || has (codes "group") rows)
    else has (codes "queues") rows

abbrev pub node_count : List Row → Option ℕ
node_count rows = option_and_then (number_in 1 NODES_MOST) (first_of (codes "nodes") rows)

abbrev pub group_size : List Row → Option ℕ
group_size rows = number_or GROUP 1 NODES_MOST (first_of (codes "group") rows)

abbrev pub queue_count : List Row → Option ℕ
queue_count rows = number_or QUEUES 1 QUEUES_MOST (first_of (codes "queues") rows)

abbrev pub with_numbers : (nodes group queues : Option ℕ) → List Row → Option Options
with_numbers (Some nodes) (Some group) (Some queues) rows = Some (record {
  nodes = nodes;
  group = group;
  queues = queues;
  definitions = first_of (codes "definitions") rows;
  ignore_policies = is_true (first_of (codes "ignore-policies") rows);
  root = None;
  log_bytes = LOG_BYTES;
})
with_numbers _ _ _ rows = None

abbrev pub options_in : List Row → Option Options
options_in rows = with_numbers (node_count rows) (group_size rows) (queue_count rows) rows

abbrev pub with_root : (root : Option Text) → Option Options → Option Request
with_root (Some root) (Some options) = Some (record { root = root; options = options })
with_root _ _ = None

-- the root and the number of nodes are required
abbrev pub request_in : List Row → Option Request
request_in rows =
    if names_queues_once rows then with_root (first_of (codes "root") rows) (options_in rows) else None

abbrev pub request_of : Text × List Row → Option Request
request_of found = if bytes_eq found.0 (codes "doctor") then request_in found.1 else None

unfoldable pub read_request : List Text → Option Request
read_request words =
    if list_any is_barred words then None
    else option_and_then request_of (parsed words)
