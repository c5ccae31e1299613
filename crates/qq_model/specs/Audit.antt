-- The serial audit: what applying entries one after the other gives.
use Rattle.std.specs.Prelude.{◌≡◌, ◌+◌, List, [], ◌∷◌, ◌++◌, filter_map, Option, Some, None, Bool, true, ◌&&◌, if◌then◌else◌}
use Rattle.qq_base.specs.declared.ids.Index.{Index}
use Rattle.qq_base.specs.declared.ids.ConsumerId.{ConsumerId}
use Rattle.qq_entry.specs.declared.command.Entry.{Entry}
use Rattle.qq_entry.specs.declared.answer.Delivery.{Delivery}
use Rattle.qq_entry.specs.declared.audit.AuditRow.{AuditRow}
use Rattle.qq_entry.specs.declared.audit.Effect.{Effect}
use Rattle.qq_entry.specs.declared.audit.Effect.TheVariants.{Deliver}
use Rattle.qq_model.specs.State.{State, is_within_ends}
use Rattle.qq_base.specs.Ids.{same_consumer}
use Rattle.qq_model.specs.Step.{Step, step}

-- the index of the next entry
abbrev pub next_index : State → Index
next_index s = record { 0 = s.applied + 1 }

-- the step of the next entry
abbrev pub next_step : State → Entry → Step
next_step s entry = step s (next_index s) entry

-- the row of an entry that was applied
abbrev pub row_of : Index → Entry → Step → AuditRow
row_of index entry made = record { index = index; entry = entry; fresh = made.fresh; answer = made.answer }

-- one row for each entry, in order
abbrev pub audit_of : State → List Entry → List AuditRow
audit_of s [] = []
audit_of s (entry ∷ entries) =
    row_of (next_index s) entry (next_step s entry) ∷ audit_of (next_step s entry).state entries

-- the state after entries
abbrev pub state_after : State → List Entry → State
state_after s [] = s
state_after s (entry ∷ entries) = state_after (next_step s entry).state entries

-- the effects of entries, in order
abbrev pub effects_of : State → List Entry → List Effect
effects_of s [] = []
effects_of s (entry ∷ entries) = (next_step s entry).effects ++ effects_of (next_step s entry).state entries

-- no step of a run takes a number past its end
abbrev pub stays_within : State → List Entry → Bool
stays_within s [] = true
stays_within s (entry ∷ entries) =
    is_within_ends (next_step s entry).state && stays_within (next_step s entry).state entries

-- rows are a serial audit from a state: the indices count on from it, and each row's fresh and answer are those of the
-- step at the state before it
abbrev pub IsSerial : State → List AuditRow → Type 0
IsSerial s [] = Unit {0}
IsSerial s (row ∷ rows) =
    (row ≡ row_of (next_index s) row.entry (next_step s row.entry)) × IsSerial (next_step s row.entry).state rows

-- the delivery of an effect, if it is one to a consumer
abbrev pub delivery_to : ConsumerId → Effect → Option Delivery
delivery_to consumer (Deliver other delivery) = if same_consumer other consumer then Some delivery else None
delivery_to consumer _ = None

-- the entries of an audit
abbrev pub entries_of : List AuditRow → List Entry
entries_of [] = []
entries_of (row ∷ rows) = row.entry ∷ entries_of rows

-- the deliveries to a consumer over the rows of an audit from a state, in order
abbrev pub deliveries : State → List AuditRow → ConsumerId → List Delivery
deliveries s rows consumer = filter_map (delivery_to consumer) (effects_of s (entries_of rows))
