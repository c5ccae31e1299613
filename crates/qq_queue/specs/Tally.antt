-- How many rows audits have, and how many of them confirm a publish.
use Rattle.std.specs.Prelude.{◌+◌, List, count_by, length}
use Rattle.qq_entry.specs.declared.audit.AuditRow.{AuditRow}
use Rattle.qq_cluster_model.specs.Confirmed.{is_confirmed_row}
use Rattle.qq_queue.specs.declared.tally.Tally.{Tally}

abbrev pub no_rows : Tally
no_rows = record { rows = 0; confirmed = 0 }

-- these rows are counted too
abbrev pub count_rows : List AuditRow → Tally → Tally
count_rows rows t =
    record { rows = t.rows + length rows; confirmed = t.confirmed + count_by is_confirmed_row rows }
