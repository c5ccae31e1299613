-- What words say is within the limits.
use Rattle.std.proofs.Common.{◌≡◌, ◌≤◌, ℕ, List, Option, Some, None, subst, arith}
use Rattle.std.specs.Prelude.{codes, IfSome, nat_le}
use Rattle.std.specs.List.{list_any}
use Rattle.std.specs.Option.{option_and_then, option_map}
use Rattle.std.specs.Str.{bytes_eq}
use Rattle.std.proofs.lemmas.Bool.{and_parts, cond_both, leb-true}
use Rattle.qq_base.specs.declared.ids.NodeId.{NodeId}
use Rattle.qq_script_lines.specs.Numbers.{is_within, number_in, number_of, within}
use Rattle.clap.specs.Words.{Row, Text, first_of}
use Rattle.qq_words.specs.Options.{drill_in, drill_of, dump_in, dump_of, names_queues_twice, number_or, options_in, with_numbers}
use Rattle.qq_words.specs.Words.{command_in, is_barred, parsed, read_words}
use Rattle.qq_words.specs.declared.commands.Command.{Command}
use Rattle.qq_words.specs.declared.commands.Command.TheVariants as commands
use Rattle.qq_words.specs.declared.counts.TheConstants.{DRILL_NODES, DRILLS_MOST, GROUP, NODES, NODES_MOST, QUEUES, QUEUES_MOST}
use Rattle.qq_words.specs.declared.options.Options.{Options}
use Rattle.qq_words.specs.declared.options.TheConstants.{LOG_BYTES, LOG_BYTES_LEAST, LOG_BYTES_MOST}

abbrev IsWithin : ℕ → ℕ → ℕ → Type 0
IsWithin first last n = (first ≤ n) × (n ≤ last)

abbrev AreWithin : Options → Type 0
AreWithin options =
    (1 ≤ options.nodes) × (options.nodes ≤ 7) × (1 ≤ options.group) × (options.group ≤ 7)
    × (1 ≤ options.queues) × (options.queues ≤ 1024)
    × (65536 ≤ options.log_bytes) × (options.log_bytes ≤ 67108864)

abbrev IsSound : Command → Type 0
IsSound (commands.Script options) = AreWithin options
IsSound (commands.Dump root node) = (1 ≤ node.0) × (node.0 ≤ 7)
IsSound (commands.Drill number nodes) = (1 ≤ number) × (number ≤ 1000000000) × (1 ≤ nodes) × (nodes ≤ 7)

number-within : (first last : ℕ) (o : Option ℕ) → IfSome (within first last o) (IsWithin first last)
number-within first last None = tt
number-within first last (Some n) =
    cond_both (is_within first last n) (Some n) None (λ o. IfSome o (IsWithin first last))
    (λ passes.
    let parts = and_parts (nat_le first n) (nat_le n last) passes in
    (leb-true first n parts.0, leb-true n last parts.1))
    (λ fails. tt)

or-within : (other first last : ℕ) (o : Option Text) → IsWithin first last other
    → IfSome (number_or other first last o) (IsWithin first last)
or-within other first last None so = so
or-within other first last (Some word) so = number-within first last (number_of word)

with-within : (nodes group queues log_bytes : Option ℕ) (rows : List Row)
    → IfSome nodes (IsWithin 1 7) → IfSome group (IsWithin 1 7) → IfSome queues (IsWithin 1 1024)
    → IfSome log_bytes (IsWithin 65536 67108864) → IfSome (with_numbers nodes group queues log_bytes rows) AreWithin
with-within None group queues log_bytes rows a b c d = tt
with-within (Some n) None queues log_bytes rows a b c d = tt
with-within (Some n) (Some g) None log_bytes rows a b c d = tt
with-within (Some n) (Some g) (Some q) None rows a b c d = tt
with-within (Some n) (Some g) (Some q) (Some l) rows a b c d = (a.0, a.1, b.0, b.1, c.0, c.1, d.0, d.1)

options-within : (rows : List Row) → IfSome (options_in rows) AreWithin
options-within rows =
    cond_both (names_queues_twice rows) None _ (λ o. IfSome o AreWithin) (λ twice. tt)
    (λ once.
    with-within
    (number_or NODES 1 NODES_MOST (first_of (codes "nodes") rows))
    (number_or GROUP 1 NODES_MOST (first_of (codes "group") rows))
    (number_or QUEUES 1 QUEUES_MOST (first_of (codes "queues") rows))
    (number_or LOG_BYTES LOG_BYTES_LEAST LOG_BYTES_MOST (first_of (codes "log-bytes") rows)) rows
    (or-within NODES 1 7 (first_of (codes "nodes") rows) (omega arith, omega arith))
    (or-within GROUP 1 7 (first_of (codes "group") rows) (omega arith, omega arith))
    (or-within QUEUES 1 1024 (first_of (codes "queues") rows) (omega arith, omega arith))
    (or-within LOG_BYTES 65536 67108864 (first_of (codes "log-bytes") rows) (omega arith, omega arith)))

script-sound : (o : Option Options) → IfSome o AreWithin → IfSome (option_map commands.Script o) IsSound
script-sound None so = tt
script-sound (Some options) so = so

node-within : (o : Option Text) → IfSome (option_and_then (number_in 1 NODES_MOST) o) (IsWithin 1 7)
node-within None = tt
node-within (Some word) = number-within 1 7 (number_of word)

dump-sound : (root : Option Text) (k : Option ℕ) → IfSome k (IsWithin 1 7) → IfSome (dump_of root k) IsSound
dump-sound None k so = tt
dump-sound (Some root) None so = tt
dump-sound (Some root) (Some k) so = so

drill-within_most : (o : Option Text) → IfSome (option_and_then (number_in 1 DRILLS_MOST) o) (IsWithin 1 1000000000)
drill-within_most None = tt
drill-within_most (Some word) = number-within 1 1000000000 (number_of word)

drill-sound : (number nodes : Option ℕ) → IfSome number (IsWithin 1 1000000000) → IfSome nodes (IsWithin 1 7)
    → IfSome (drill_of number nodes) IsSound
drill-sound None nodes a b = tt
drill-sound (Some number) None a b = tt
drill-sound (Some number) (Some nodes) a b = (a.0, a.1, b.0, b.1)

command-sound : (found : Text × List Row) → IfSome (command_in found) IsSound
command-sound found =
    cond_both (bytes_eq found.0 (codes "script")) (option_map commands.Script (options_in found.1)) _
    (λ o. IfSome o IsSound)
    (λ is. script-sound (options_in found.1) (options-within found.1))
    (λ isnt. cond_both (bytes_eq found.0 (codes "dump")) (dump_in found.1) _ (λ o. IfSome o IsSound)
    (λ is. dump-sound (first_of (codes "root") found.1) _ (node-within (first_of (codes "node") found.1)))
    (λ isnt. cond_both (bytes_eq found.0 (codes "drill")) (drill_in found.1) None (λ o. IfSome o IsSound)
    (λ is.
    drill-sound (option_and_then (number_in 1 DRILLS_MOST) (first_of (codes "number") found.1))
    (number_or DRILL_NODES 1 NODES_MOST (first_of (codes "nodes") found.1))
    (drill-within_most (first_of (codes "number") found.1))
    (or-within DRILL_NODES 1 7 (first_of (codes "nodes") found.1) (omega arith, omega arith)))
    (λ isnt. tt)))

found-sound : (o : Option (Text × List Row)) → IfSome (option_and_then command_in o) IsSound
found-sound None = tt
found-sound (Some found) = command-sound found

pub words-sound : (words : List Text) → IfSome (read_words words) IsSound
unfolding read_words
words-sound words =
    cond_both (list_any is_barred words) None (option_and_then command_in (parsed words)) (λ o. IfSome o IsSound)
    (λ barred. tt) (λ open_. found-sound (parsed words))

pub script-within : (words : List Text) (options : Options) → read_words words ≡ Some (commands.Script options)
    → AreWithin options
script-within words options is = subst (λ (o : Option Command). IfSome o IsSound) is (words-sound words)

pub dump-within : (words : List Text) (root : Text) (node : NodeId)
    → read_words words ≡ Some (commands.Dump root node) → (1 ≤ node.0) × (node.0 ≤ 7)
dump-within words root node is = subst (λ (o : Option Command). IfSome o IsSound) is (words-sound words)

pub drill-within : (words : List Text) (number nodes : ℕ) → read_words words ≡ Some (commands.Drill number nodes)
    → (1 ≤ number) × (number ≤ 1000000000) × (1 ≤ nodes) × (nodes ≤ 7)
drill-within words number nodes is = subst (λ (o : Option Command). IfSome o IsSound) is (words-sound words)
