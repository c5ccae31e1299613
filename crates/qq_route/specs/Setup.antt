-- What a broker is set up with.
use Rattle.std.specs.Prelude.{ℕ, ◌+◌, ◌++◌, List, map, fold, codes, min, Option, None}
use Rattle.std.specs.List.{range_with_len}
use Rattle.std.specs.Fmt.{decimal}
use Rattle.qq_entry.specs.Queue.{default_args}
use Rattle.qq_route.specs.Routes.{Table, new_table, add_queue}
use Rattle.qq_route.specs.View.{table_of}
use Rattle.qq_route.specs.declared.queue_row.QueueRow.{QueueRow}
use Rattle.qq_route.specs.declared.setup.Made.{Made}
use Rattle.qq_route.specs.declared.setup.Setup.{Setup}
use Rattle.qq_route.specs.Members.{members}

-- a setup, with its routes as a table
pub record SetupState : Type 0 where
  pub nodes : ℕ
  pub queues : List QueueRow
  pub table : Table
  pub log_bytes : ℕ
  pub made : Option Made

abbrev pub state_of : Setup → SetupState
state_of s =
    record { nodes = s.nodes; queues = s.queues; table = table_of s.routes; log_bytes = s.log_bytes; made = s.made }

-- one more queue, which is bound to the default exchange
abbrev pub declare : Table → QueueRow → Table
declare t row = add_queue t row.name row.args.queue

-- q1, q2 and so on, with no arguments but the size of their groups
abbrev pub plain_row : ℕ → ℕ → ℕ → QueueRow
plain_row nodes group before =
    record {
      name = codes "q" ++ decimal (before + 1);
      args = default_args (record { 0 = before + 1 }) (min group nodes);
      members = members nodes group before;
    }

abbrev pub plain_rows : ℕ → ℕ → ℕ → List QueueRow
plain_rows nodes group count = map (plain_row nodes group) (range_with_len 0 count)

-- so many queues, over so many nodes
abbrev pub plain_setup : ℕ → ℕ → ℕ → ℕ → SetupState
plain_setup nodes group count log_bytes =
    let rows = plain_rows nodes group count in
    record { nodes = nodes; queues = rows; table = fold declare new_table rows; log_bytes = log_bytes; made = None }
