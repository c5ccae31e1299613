-- The indices of the messages of a queue in memory.
use Rattle.std.specs.Prelude.{◌≡◌, ℕ, ◌+◌, List, ◌++◌, Option, Some, None, length, nat_lt, if◌then◌else◌}
use Rattle.qq_base.specs.declared.ids.Index.{Index}
use Rattle.qq_live.specs.Indices.{occurrences}
use Rattle.qq_ledger.specs.Ledger.{ready_indices, out_indices, dead_indices}
use Rattle.qq_machine.specs.declared.queue.Queue.{Queue}
use Rattle.qq_machine.specs.Views.{Content}

-- those of its messages, ready, out and dead
abbrev pub indices_in : Content → List Index
indices_in k = ready_indices k.ready ++ (out_indices k.roster.served ++ dead_indices k.letters)

-- each of them, as often as it stands there
abbrev pub HoldsAll : List Index → Content → Type 0
HoldsAll indices k = (i : ℕ) → occurrences i indices ≡ occurrences i (indices_in k)

-- how many came to the parts since the last commit
abbrev pub came_count : Queue → ℕ
came_count q = length q.ready.came + (length q.consumers.came + length q.dead.came)

-- the lesser of two indices that may be there, or else the next one
abbrev pub least_index : Option ℕ → Option ℕ → ℕ → ℕ
least_index None None applied = applied + 1
least_index (Some first) None applied = first
least_index None (Some second) applied = second
least_index (Some first) (Some second) applied = if nat_lt second first then second else first
