-- What a run needs of its setup.
use Rattle.std.specs.Prelude.{◌≡◌, ◌<◌, ◌≤◌, ◌+◌, ◌^◌, ℕ, List, [], ◌∷◌, All, length}
use Rattle.qq_entry.specs.declared.limits.TheConstants.{KEY_LIMIT}
use Rattle.qq_route.specs.declared.queue_row.QueueRow.{QueueRow}
use Rattle.qq_route.specs.Members.{members}
use Rattle.qq_route.specs.Setup.{SetupState}

-- The queue that has so many before it has the next number, and the members that this and the size of its group give.
-- Its name may be a routing key.
pub record IsQueueAfter (nodes before : ℕ) (row : QueueRow) : Type 0 where
  pub number : row.args.queue.0 ≡ before + 1
  pub members_are : row.members ≡ members nodes row.args.group before
  pub named : length row.name ≤ KEY_LIMIT

-- and so each in its order
abbrev pub AreQueuesAfter : (nodes before : ℕ) → List QueueRow → Type 0
AreQueuesAfter nodes before [] = Unit {0}
AreQueuesAfter nodes before (row ∷ rows) = IsQueueAfter nodes before row × AreQueuesAfter nodes (before + 1) rows

-- one of so many queues, by its number
abbrev pub IsNumber : ℕ → ℕ → Type 0
IsNumber count number = (1 ≤ number) × (number ≤ count)

-- Some nodes, seven at most, and queues with the numbers 1, 2 and so on, if any. No message is routed to another.
pub record IsRunnable (s : SetupState) : Type 0 where
  pub some : 0 < s.nodes
  pub few : s.nodes ≤ 7
  pub within : length s.queues < 2 ^ 32
  pub queues_are : AreQueuesAfter s.nodes 0 s.queues
  pub routed : All (IsNumber (length s.queues)) s.table.queues
