-- The program's commands and their options, as `clap` knows them.
use Rattle.std.specs.Prelude.{true, codes, Some}
use Rattle.clap.specs.Words.{App, Text, new_app, new_rule, with_rule, with_subcommand}
use Rattle.clap.specs.Simple.{on_top}
use Rattle.clap.specs.declared.builder.action.ArgAction.TheVariants.{SetTrue}

-- `--name VALUE` or `--name=VALUE`, once at most
abbrev pub with_option : App → Text → App
with_option command name = with_rule command (record (new_rule name) { long = Some name })

-- `--name`, once at most
abbrev pub with_flag : App → Text → App
with_flag command name =
    with_rule command (record (new_rule name) { long = Some name; action = Some SetTrue })

-- a word that stands alone, once at most
abbrev pub with_word : App → Text → App
with_word command name = with_rule command (new_rule name)

abbrev pub script : App
script =
    let nodes = with_option (new_app (codes "script")) (codes "nodes") in
    let group = with_option nodes (codes "group") in
    let queues = with_option group (codes "queues") in
    let definitions = with_option queues (codes "definitions") in
    let ignoring = with_flag definitions (codes "ignore-policies") in
    let root = with_option ignoring (codes "root") in
    with_option root (codes "log-bytes")

abbrev pub dump : App
dump = with_option (with_option (new_app (codes "dump")) (codes "root")) (codes "node")

abbrev pub drill : App
drill = with_option (with_word (new_app (codes "drill")) (codes "number")) (codes "nodes")

-- A command comes first, and nobody asks for help.
abbrev pub top : App
top = on_top (λ top. record top {
  no_binary_name = true;
  disable_help_flag = true;
  disable_help_subcommand = true;
  disable_version_flag = true;
  subcommand_required = true;
}) (new_app (codes "qq"))

abbrev pub program : App
program =
    with_subcommand (with_subcommand (with_subcommand top script.top) dump.top) drill.top
