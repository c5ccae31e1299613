-- A replay's rows are the serial audit, and its effects those of the run.
use Rattle.std.proofs.Common.{◌≡◌, List, [], ◌∷◌, ◌++◌, refl, ap}
use Rattle.qq_entry.specs.declared.command.Entry.{Entry}
use Rattle.qq_entry.specs.declared.audit.AuditRow.{AuditRow}
use Rattle.qq_entry.specs.declared.audit.Effect.{Effect}
use Rattle.qq_model.specs.State.{State}
use Rattle.qq_model.specs.Audit.{next_index, next_step, row_of, audit_of, effects_of}
use Rattle.qq_serial.specs.Replay.{replay, rows, effects}

pub rows_are_audit : (s : State) (entries : List Entry) → rows (replay s entries) ≡ audit_of s entries
rows_are_audit s [] = refl
rows_are_audit s (entry ∷ entries) =
    ap (λ (rest : List AuditRow). row_of (next_index s) entry (next_step s entry) ∷ rest)
    (rows_are_audit (next_step s entry).state entries)

pub effects_are_all : (s : State) (entries : List Entry) → effects (replay s entries) ≡ effects_of s entries
effects_are_all s [] = refl
effects_are_all s (entry ∷ entries) =
    ap (λ (rest : List Effect). (next_step s entry).effects ++ rest)
    (effects_are_all (next_step s entry).state entries)
