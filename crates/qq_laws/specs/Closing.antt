-- The end of sessions.
use Rattle.std.specs.Prelude.{◌≡◌, ◌<◌, ◌≤◌, ◌⊎◌, List, Some, true, false, not, ◌||◌, length, nat_eq, nat_le, if◌then◌else◌}
use Rattle.qq_base.specs.declared.ids.SessionId.{SessionId}
use Rattle.qq_entry.specs.Command.{stamp}
use Rattle.qq_entry.specs.declared.command.Command.TheVariants.{Down}
use Rattle.qq_entry.specs.declared.command.Entry.{Entry}
use Rattle.qq_entry.specs.declared.command.Stamp.{Stamp}
use Rattle.qq_model.specs.declared.TheConstants.{MOST_OPEN, MOST_SEEN}
use Rattle.qq_model.specs.declared.session.Gate.TheVariants.{Ended, Fresh, Gap, SessionsFull}
use Rattle.qq_model.specs.State.{State, Sessions}
use Rattle.qq_model.specs.Gate.{IsNumbered, gate, is_client, is_dead_letter, is_ended, is_open, is_worker}
use Rattle.qq_model.specs.Audit.{next_step, state_after}

-- a client's session that is open, or that the queue may still remember, has ended after its Down
abbrev pub ClosesSession : State → Entry → Type 0
ClosesSession s entry =
    (session : SessionId) → entry.command ≡ Down session → is_client session ≡ true
    → (is_open session s.sessions.opened ≡ true) ⊎ (s.sessions.seen < MOST_SEEN)
    → is_ended (next_step s entry).state.sessions session ≡ true

-- a session of a client, or of a worker that dead-letters at least once, that has ended stays so
abbrev pub StaysClosed : State → Type 0
StaysClosed s =
    (entries : List Entry) (session : SessionId) → IsNumbered session → is_ended s.sessions session ≡ true
    → is_ended (state_after s entries).sessions session ≡ true

-- and its commands are told so
abbrev pub TellsEnded : Sessions → Stamp → Type 0
TellsEnded s stamp =
    is_dead_letter stamp.session ≡ false → is_ended s stamp.session ≡ true → gate s stamp ≡ Ended

-- a command of a dead-letter worker that is carried out ends the sessions of the earlier workers of its source queue
abbrev pub GivesWay : State → Entry → Type 0
GivesWay s entry =
    (given : Stamp) (session : SessionId) → stamp entry.command ≡ Some given → (next_step s entry).fresh ≡ true
    → is_worker given.session ≡ true → is_worker session ≡ true → session.owner ≡ given.session.owner
    → session.number < given.session.number → is_ended (next_step s entry).state.sessions session ≡ true

-- few sessions are open, and few were seen
pub record HasFewSessions (s : State) : Type 0 where
  pub opened : length s.sessions.opened ≤ MOST_OPEN
  pub seen : s.sessions.seen ≤ MOST_SEEN

-- a session that isn't known begins with number 1, unless as many are open, or were seen, as may be
abbrev pub BeginsAtOne : Sessions → Stamp → Type 0
BeginsAtOne s stamp =
    is_dead_letter stamp.session ≡ false → is_ended s stamp.session ≡ false → is_open stamp.session s.opened ≡ false
    → gate s stamp
    ≡ (if not (nat_eq stamp.seq 1) then Gap 1
    else if nat_le MOST_OPEN (length s.opened) || nat_le MOST_SEEN s.seen then SessionsFull else Fresh)
