-- What contracts see of the sessions that a queue knows.
use Rattle.std.specs.Prelude.{◌≡◌, ℕ, ◌+◌, ◌<◌, ◌^◌, [], Option, Some, None}
use Rattle.qq_base.specs.declared.ids.SessionId.{SessionId}
use Rattle.qq_model.specs.declared.session.OpenSession.{OpenSession}
use Rattle.qq_model.specs.State.{Sessions}
use Rattle.qq_model.specs.Gate.{session_of}

-- what there is memory for
pub record Room : Type 0 where
  -- the session that is sure to be opened, or else to keep one more answer
  pub session : Option SessionId
  -- how many workers' numbers
  pub workers : ℕ
  -- how many ends
  pub ends : ℕ

-- the sessions of the definition, and for what there is memory beside them
pub record KnownSessions : Type 0 where
  pub known : Sessions
  pub room : Room

abbrev pub no_sessions : Sessions
no_sessions = record { opened = []; ended = []; workers = []; seen = 0 }

-- there is memory for the next admission, answer and end of a session
pub record HasRoomFor (session : SessionId) (room : Room) : Type 0 where
  pub session_room : room.session ≡ Some session
  pub workers : 0 < room.workers
  pub ends : 0 < room.ends

-- the number that a session's next command is to have, 0 where it isn't open
abbrev pub next_by : Option OpenSession → ℕ
next_by None = 0
next_by (Some one) = one.next

-- the numbers that an admission raises fit 64 bits
pub record CanCount (session : SessionId) (s : Sessions) : Type 0 where
  pub next : next_by (session_of session s.opened) + 1 < 2 ^ 64
  pub seen : s.seen + 1 < 2 ^ 64
