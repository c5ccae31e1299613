-- Entries of a member's log.
use Rattle.std.specs.Prelude.{ℕ, Option, Some, None, slice_get}
use Rattle.qq_entry.specs.declared.command.Entry.{Entry}
use Rattle.qq_log.specs.Log.{LogState}
use Rattle.qq_raft_core.specs.Raft.{server_of}
use Rattle.qq_raft.specs.declared.server.Server.{Server}

-- the one at a place, from 0
abbrev pub entry_by : {Q L : Type 0} → (L → LogState) → ℕ → Option (Server Q L) → Option Entry
entry_by log place None = None
entry_by log place (Some s) = slice_get (server_of log s.raft).log place
