-- An open session as it stands in memory.
use Rattle.std.specs.Prelude.{ℕ, ◌-◌}
use Rattle.std.specs.VecDeque.{deque_len, deque_capacity}
use Rattle.qq_model.specs.declared.session.OpenSession.{OpenSession}
use Rattle.qq_sessions.specs.declared.row.SessionRow.{SessionRow}

-- the open session of a row
abbrev pub open_of : SessionRow → OpenSession
open_of row =
    record { session = row.session; next = row.next; mark = row.mark; kept = row.kept.items; tag = row.tag }

-- how many more answers a row is sure to find memory for
abbrev pub slots : SessionRow → ℕ
slots row = deque_capacity row.kept - deque_len row.kept
