-- Which rows of an audit confirm a publish.
use Rattle.std.specs.Prelude.{Bool, ◌&&◌}
use Rattle.qq_entry.specs.declared.audit.AuditRow.{AuditRow}
use Rattle.qq_laws.specs.Published.{is_confirmed}

-- a row says `confirmed`, and not `again`
abbrev pub is_confirmed_row : AuditRow → Bool
is_confirmed_row row = row.fresh && is_confirmed row.answer
