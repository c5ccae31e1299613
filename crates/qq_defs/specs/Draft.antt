-- What definitions make, element by element.
use Rattle.std.specs.Prelude.{ℕ, ◌+◌, ◌-◌, ◌^◌, ◌++◌, ◌∷◌, [], List, min, Option, Some, None, if◌then◌else◌}
use Rattle.std.specs.Str.{bytes_eq}
use Rattle.std.specs.BTreeMap.{get_by_text}
use Rattle.qq_base.specs.declared.ids.QueueId.{QueueId}
use Rattle.qq_entry.specs.declared.queue.QueueArgs.{QueueArgs}
use Rattle.qq_route.specs.Routes.{Table, add_queue}
use Rattle.qq_route.specs.View.{table_of}
use Rattle.qq_route.specs.declared.queue_row.QueueRow.{QueueRow}
use Rattle.qq_route.specs.declared.setup.Made.{Made}
use Rattle.qq_defs.specs.declared.draft.Draft.{Draft}
use Rattle.qq_route.specs.Members.{members}

-- the queues of the virtual host so far, by their names; no number for one of another type
abbrev pub Names : Type 0
Names = List ℕ → Option (Option QueueId)

pub record DraftState : Type 0 where
  pub rows : List QueueRow
  pub names : Names
  pub table : Table
  pub made : Made

abbrev pub state_of : Draft → DraftState
state_of d = record { rows = d.rows; names = get_by_text d.names; table = table_of d.routes; made = d.made }

-- a count that stands still at its end
abbrev pub more : ℕ → ℕ
more n = min (n + 1) (2 ^ 64 - 1)

abbrev pub put_name : Names → List ℕ → Option QueueId → Names
put_name names name queue other = if bytes_eq name other then Some queue else names other

-- how many queues the next one has before it
abbrev pub before : DraftState → ℕ
before s = min s.made.queues (2 ^ 32 - 2)

abbrev pub next_queue : DraftState → QueueId
next_queue s = record { 0 = before s + 1 }

unfoldable pub skip : List ℕ → DraftState → DraftState
skip name s =
    record s {
      names = put_name s.names name None;
      made = record s.made
          { skipped_queues = more s.made.skipped_queues };
    }

unfoldable pub declare : ℕ → List ℕ → QueueArgs → DraftState → DraftState
declare nodes name args s =
    record {
      rows = s.rows ++ record { name = name; args = args; members = members nodes args.group (before s) } ∷ [];
      names = put_name s.names name (Some args.queue);
      table = add_queue s.table name args.queue;
      made = record s.made { queues = more s.made.queues };
    }

abbrev pub count_other : DraftState → DraftState
count_other s = record s { made = record s.made { other_vhosts = more s.made.other_vhosts } }
