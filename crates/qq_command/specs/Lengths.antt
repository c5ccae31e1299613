-- How many bytes the parts of an entry have.
use Rattle.std.specs.Prelude.{◌+◌, ◌*◌, ℕ, List, length, fold, Option, Some, None}
use Rattle.qq_entry.specs.declared.message.Content.{Content}
use Rattle.qq_entry.specs.declared.message.Origin.{Origin}
use Rattle.qq_entry.specs.declared.command.Command.{Command}
use Rattle.qq_entry.specs.declared.command.Command.TheVariants.{Noop, Enqueue, Get, Subscribe, Cancel, Credit, Settle, Return, Discard, Purge, Down, DeadAttach, DeadSettle}
use Rattle.qq_entry.specs.declared.command.DeadDone.{DeadDone}
use Rattle.qq_entry.specs.declared.command.Entry.{Entry}

abbrev pub origin_length : Option Origin → ℕ
origin_length None = 1
origin_length (Some o) = 13

abbrev pub content_length : Option Content → ℕ
content_length None = 0
content_length (Some c) = 7 + length c.body + length c.key + 5 * length c.deaths

abbrev pub ids_length : List ℕ → ℕ
ids_length ids = 4 + 8 * length ids

abbrev pub add_dead_done : ℕ → DeadDone → ℕ
add_dead_done n done = n + (10 + 4 * length done.targets)

abbrev pub dead_dones_length : List DeadDone → ℕ
dead_dones_length dones = fold add_dead_done 2 dones

-- what follows a command's kind; a stamp has 29 bytes, and with a tag 33
abbrev pub fields_length : Command → ℕ
fields_length (Noop version) = 1
fields_length (Enqueue s o message) = 29 + origin_length o + content_length message.content
fields_length (Get s) = 29
fields_length (Subscribe s tag m) = 36
fields_length (Cancel s tag) = 33
fields_length (Credit s tag count credit drain) = 42
fields_length (Settle s tag ids) = 33 + ids_length ids
fields_length (Return s tag ids) = 33 + ids_length ids
fields_length (Discard s tag ids) = 33 + ids_length ids
fields_length (Purge s) = 29
fields_length (Down s) = 13
fields_length (DeadAttach term) = 8
fields_length (DeadSettle term done) = 8 + dead_dones_length done

abbrev pub entry_length : Entry → ℕ
entry_length e = 21 + fields_length e.command
