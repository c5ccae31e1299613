-- What is kept of the clients' sessions: of each once for all queues whether it is muted and has ended, and of each
-- queue the numbers of those that have given it a command.
use Rattle.std.specs.Prelude.{ℕ, List, Bool, true, false, is_some, unwrap_or, nat_eq}
use Rattle.std.specs.Map.{lookup}
use Rattle.qq_base.specs.Ids.{client}
use Rattle.qq_base.specs.declared.ids.QueueId.{QueueId}
use Rattle.qq_entry.specs.declared.command.Unstamped.{Unstamped}
use Rattle.qq_entry.specs.declared.command.Unstamped.TheVariants.{Subscribe}
use Rattle.qq_session.specs.Publishing.{Numbers, new_numbers}
use Rattle.qq_session.specs.Clients.{Client, Clients}
use Rattle.qq_queue.specs.declared.sessions.Standing.{Standing}

-- ---- of all queues

-- a session of which nothing was told
abbrev pub present : Standing
present = record { muted = false; ended = false }

abbrev pub set_muted : Bool → Standing → Standing
set_muted muted s = record s { muted = muted }

abbrev pub set_ended : Standing → Standing
set_ended s = record s { ended = true }

-- how the sessions stand, by their numbers
abbrev pub Standings : Type 0
Standings = ℕ → Standing

abbrev pub standing_at : List (ℕ × Standing) → Standings
standing_at rows session = unwrap_or (lookup (nat_eq session) rows) present

abbrev pub standings : List (ℕ × Standing) → Standings
standings rows = λ session. standing_at rows session

-- ---- of one queue

-- the sessions' numbers at a queue, which their commands are for
pub record Known : Type 0 where
  pub queue : QueueId
  pub rows : List (ℕ × Numbers)

abbrev pub numbers_at : QueueId → List (ℕ × Numbers) → ℕ → Numbers
numbers_at queue rows session = unwrap_or (lookup (nat_eq session) rows) (new_numbers (client session) queue)

-- a session that isn't known has handed out no number
abbrev pub numbers_of : Known → ℕ → Numbers
numbers_of known = λ session. numbers_at known.queue known.rows session

-- numbers of sessions that have sent nothing
abbrev pub no_numbers : ℕ → Numbers
no_numbers = λ session. new_numbers (client session) (record { 0 = 0 })

abbrev pub is_known : ℕ → Known → Bool
is_known session known = is_some (lookup (nat_eq session) known.rows)

-- the clients of a queue
abbrev pub clients_of : Standings → (ℕ → Numbers) → Clients
clients_of standing numbers = λ session. let c : Client = record {
  numbers = numbers session;
  muted = (standing session).muted;
  ended = (standing session).ended;
} in c

-- a command from which on its session knows a consumer
abbrev pub subscribes : Unstamped → Bool
subscribes (Subscribe tag mode) = true
subscribes _ = false
