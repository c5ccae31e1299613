-- What came to a part of a queue, and what left it, since the last commit.
use Rattle.std.specs.Prelude.{◌≡◌, ℕ, ◌+◌, ◌<◌, List, map, vec_len, vec_capacity}
use Rattle.std.specs.Global.{Vec}
use Rattle.qq_base.specs.declared.ids.Index.{Index}
use Rattle.qq_entry.specs.declared.message.ReadyRow.{ReadyRow}
use Rattle.qq_ready.specs.declared.row.KeyedRow.{KeyedRow}
use Rattle.qq_ready.specs.Queue.{Queue, in_order}
use Rattle.qq_dead.specs.declared.row.DeadRow.{DeadRow}
use Rattle.qq_dead.specs.Letters.{Letters}
use Rattle.qq_consumer.specs.declared.rising.Numbered.{Numbered}
use Rattle.qq_parts.specs.Parts.{Served, outs}
use Rattle.qq_live.specs.Indices.{occurrences}
use Rattle.qq_ledger.specs.Low.{item_index}

-- the indices of messages in memory
abbrev pub message_index : ReadyRow → Index
message_index row = row.index

abbrev pub keyed_index : KeyedRow → Index
keyed_index one = one.row.index

abbrev pub dead_index : DeadRow → Index
dead_index one = one.row.index

abbrev pub numbered_index : Numbered ReadyRow → Index
numbered_index one = one.item.index

abbrev pub ready_indices : Queue → List Index
ready_indices q = map keyed_index (in_order q)

abbrev pub dead_indices : Letters → List Index
dead_indices d = map dead_index d.rows

abbrev pub out_indices : List Served → List Index
out_indices served = map item_index (outs served)

-- what there is and what has left is what there was and what has come, however often each
pub record Balances (base now came gone : List Index) : Type 0 where
  pub counts : (i : ℕ) → occurrences i now + occurrences i gone ≡ occurrences i base + occurrences i came

-- one more may be written down
abbrev pub HasRoom : Vec Index → Type 0
HasRoom indices = vec_len indices < vec_capacity indices

-- a store, with the indices of what came and left since the last commit
pub record Tracking (T : Type 0) : Type 0 where
  pub store : T
  pub came : List Index
  pub gone : List Index
