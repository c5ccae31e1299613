-- Queues whose counters are far from their ends.
use Rattle.std.specs.Prelude.{◌≡◌, ℕ, Bool, ◌&&◌, List, nat_le}
use Rattle.std.specs.List.{AllByRecursion}
use Rattle.qq_entry.specs.declared.command.Entry.{Entry}
use Rattle.qq_entry.specs.declared.queue.QueueArgs.{QueueArgs}
use Rattle.qq_entry.specs.Range.{IsInRange}
use Rattle.qq_model.specs.State.{State, empty_queue}
use Rattle.qq_model.specs.Audit.{state_after}
use Rattle.qq_laws.specs.declared.number_ends.TheConstants.{HALFWAY}

-- what entries in range make of the new queue
pub record IsReached (s : State) : Type 0 where
  pub args : QueueArgs
  pub entries : List Entry
  pub range : AllByRecursion IsInRange entries
  pub is : s ≡ state_after (empty_queue args) entries

-- no counter has passed the half of its range
abbrev pub is_far : ℕ → Bool
is_far n = nat_le n HALFWAY

abbrev pub are_far : State → Bool
are_far s =
    is_far s.applied && is_far s.arrivals && is_far s.orders && is_far s.returns && is_far s.deads && is_far s.turns
