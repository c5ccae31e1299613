-- The lanes of the listed queues, as recovery keeps them.
use Rattle.std.specs.Prelude.{◌≡◌, ℕ, Bool, true, false, List, Option, Some, None, is_some, if◌then◌else◌}
use Rattle.std.specs.Ordering.{nat_cmp, is_eq}
use Rattle.std.specs.BTreeMap.{get}
use Rattle.qq_base.specs.declared.ids.QueueId.{QueueId}
use Rattle.qq_log.specs.Carries.{is_listed}
use Rattle.qq_log.specs.Stable.{Stable}
use Rattle.qq_wal_chain.specs.Lanes.{Lanes}
use Rattle.qq_recover.specs.declared.table.Table.{Table}

-- a row: None where the queue isn't listed
abbrev pub Rows : Type 0
Rows = ℕ → Option (Option Stable)

-- the rows with another one, as a map sets it
abbrev pub set_row : Rows → ℕ → Option (Option Stable) → Rows
set_row rows id row = λ k. if is_eq (nat_cmp id k) then row else rows k

abbrev pub rows_of : Table → Rows
rows_of table = get nat_cmp table.rows

abbrev pub state_in : Option (Option Stable) → Option Stable
state_in None = None
state_in (Some state) = state

abbrev pub lanes_of : Table → Lanes
lanes_of table = λ id. state_in (rows_of table id)

-- the table has a row for each listed queue, and no other
abbrev pub Lists : List QueueId → Table → Type 0
Lists queues table = (id : QueueId) → is_some (rows_of table id.0) ≡ is_listed queues id

-- the new lanes are those that are given, if any are
abbrev pub Fit : Bool → Option Lanes → Lanes → Type 0
Fit true given new = given ≡ Some new
Fit false given new = given ≡ None
