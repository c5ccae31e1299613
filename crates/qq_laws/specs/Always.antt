-- What holds of every queue.
use Rattle.std.specs.Prelude.{List}
use Rattle.qq_entry.specs.declared.queue.QueueArgs.{QueueArgs}
use Rattle.qq_entry.specs.declared.command.Entry.{Entry}
use Rattle.qq_entry.specs.declared.audit.AuditRow.{AuditRow}
use Rattle.qq_model.specs.State.{State, empty_queue}
use Rattle.qq_model.specs.Audit.{audit_of, state_after}

-- a queue that has applied entries
abbrev pub queue_after : QueueArgs → List Entry → State
queue_after args entries = state_after (empty_queue args) entries

-- the serial audit of a queue
abbrev pub queue_audit : QueueArgs → List Entry → List AuditRow
queue_audit args entries = audit_of (empty_queue args) entries

-- what holds of every queue, whatever entries it has applied
abbrev pub Always : (State → Type 0) → Type 0
Always P = (args : QueueArgs) (entries : List Entry) → P (queue_after args entries)
