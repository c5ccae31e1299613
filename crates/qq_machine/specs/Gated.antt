-- The sessions while a step is under way.
use Rattle.std.specs.Prelude.{◌≡◌, ℕ, ◌<◌, Option, Some, None}
use Rattle.qq_base.specs.declared.ids.SessionId.{SessionId}
use Rattle.qq_entry.specs.declared.command.Stamp.{Stamp}
use Rattle.qq_model.specs.State.{Sessions}
use Rattle.qq_model.specs.Gate.{admit, turn_away, keep_answer, take_tag, end_session}
use Rattle.qq_sessions.specs.Known.{KnownSessions, HasRoomFor, CanCount}
use Rattle.qq_machine.specs.declared.pending.Pending.{Pending}
use Rattle.qq_machine.specs.declared.pending.Pending.TheVariants.{Nothing, TurnedAway, Passed, Answered, Ended}

-- the sessions as the step leaves them so far, as they were before it, and what there is to do to them
pub record GatedState : Type 0 where
  pub known : Sessions
  pub base : Sessions
  pub pending : Pending

-- a consumer joins with a tag
abbrev pub tagged : SessionId → Option ℕ → Sessions → Sessions
tagged session None s = s
tagged session (Some tag) s = take_tag session tag s

abbrev pub passed : Stamp → Option ℕ → Sessions → Sessions
passed stamp tag s = tagged stamp.session tag (admit s stamp)

-- the sessions once all is done
abbrev pub done : Pending → Sessions → Sessions
done Nothing s = s
done (TurnedAway stamp) s = turn_away s stamp
done (Passed stamp tag) s = passed stamp tag s
done (Answered stamp tag answer) s = keep_answer stamp answer (passed stamp tag s)
done (Ended session) s = end_session s session

-- there is memory for it, and no number passes 64 bits
abbrev pub HasPlaceFor : SessionId → KnownSessions → Type 0
HasPlaceFor session s = HasRoomFor session s.room × CanCount session s.known

abbrev pub CanBeDone : Pending → KnownSessions → Type 0
CanBeDone (Passed stamp tag) s = HasPlaceFor stamp.session s
CanBeDone (Answered stamp tag answer) s = HasPlaceFor stamp.session s
CanBeDone (Ended session) s = 0 < s.room.ends
CanBeDone _ s = Unit {0}

-- the stamp of a command that has passed the gate and isn't answered
abbrev pub passed_by : Pending → Option Stamp
passed_by (Passed stamp tag) = Some stamp
passed_by _ = None

-- where a step begins: behind the gate, or without one
abbrev pub begun : Option Stamp → Pending
begun None = Nothing
begun (Some stamp) = Passed stamp None

-- the tag of the consumer that joins
abbrev pub IsTagOf : Option ℕ → Pending → Type 0
IsTagOf tag (Passed stamp taken) = tag ≡ taken
IsTagOf tag _ = Unit {0}
