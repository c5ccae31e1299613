-- A run of entries from a state: what each of them gives.
use Rattle.std.specs.Prelude.{List, [], ◌∷◌, map, flat_map}
use Rattle.qq_entry.specs.declared.command.Entry.{Entry}
use Rattle.qq_entry.specs.declared.audit.AuditRow.{AuditRow}
use Rattle.qq_entry.specs.declared.audit.Effect.{Effect}
use Rattle.qq_model.specs.State.{State}
use Rattle.qq_model.specs.Audit.{next_index, next_step, row_of}
use Rattle.qq_serial.specs.declared.run.Applied.{Applied}

-- an entry's row and its effects, at the state before it
abbrev pub applied_at : State → Entry → Applied
applied_at s entry =
    record { row = row_of (next_index s) entry (next_step s entry); effects = (next_step s entry).effects }

-- each entry of a run, in order
abbrev pub replay : State → List Entry → List Applied
replay s [] = []
replay s (entry ∷ entries) = applied_at s entry ∷ replay (next_step s entry).state entries

-- the rows of a run
abbrev pub rows : List Applied → List AuditRow
rows run = map (λ (one : Applied). one.row) run

-- the effects of a run, in order
abbrev pub effects : List Applied → List Effect
effects run = flat_map (λ (one : Applied). one.effects) run
