-- What moves a queue's deliveries to another queue, as data: it is told what arrives, and says what is to be given.
use Rattle.std.specs.Prelude.{ℕ, Bool, true, false, not, List, [], ◌∷◌, ◌++◌, filter, nat_eq, nat_lt, Option, Some, None, ◌&&◌, if◌then◌else◌}
use Rattle.std.specs.List.{list_any}
use Rattle.qq_base.specs.Ids.{same_session}
use Rattle.qq_base.specs.declared.ids.QueueId.{QueueId}
use Rattle.qq_base.specs.declared.ids.SessionId.{SessionId}
use Rattle.qq_entry.specs.declared.answer.Answer.{Answer}
use Rattle.qq_entry.specs.declared.answer.Answer.TheVariants.{Confirmed}
use Rattle.qq_entry.specs.declared.answer.Delivery.{Delivery}
use Rattle.qq_entry.specs.declared.audit.AuditRow.{AuditRow}
use Rattle.qq_entry.specs.declared.command.Command.{Command}
use Rattle.qq_entry.specs.declared.command.Command.TheVariants.{Enqueue}
use Rattle.qq_entry.specs.declared.command.Unstamped.{Unstamped}
use Rattle.qq_entry.specs.declared.command.Unstamped.TheVariants as bodies
use Rattle.qq_shovel.specs.declared.shovel.TheConstants.{TAG}

pub record Moving : Type 0 where
  pub source : QueueId
  pub target : QueueId
  -- the session that it has at both queues
  pub session : SessionId
  pub prefetch : ℕ
  -- the greatest id of a delivery that it was told of
  pub had : ℕ
  -- the numbers of publishes that weren't confirmed
  pub opened : List ℕ

-- ---- a delivery arrives

-- one that it was told of before is a repeat
abbrev pub is_new : Moving → Delivery → Bool
is_new m delivery = nat_lt m.had delivery.id

-- a new one is published with its content
abbrev pub published : Moving → Delivery → Option Unstamped
published m delivery = if is_new m delivery then Some (bodies.Enqueue None delivery.message) else None

-- under the number that its delivery has
abbrev pub after_delivery : Delivery → Moving → Moving
after_delivery delivery m =
    if is_new m delivery then record m { had = delivery.id; opened = m.opened ++ delivery.id ∷ [] } else m

-- ---- a row is shown

-- the number of a session's publish
abbrev pub publish_of : SessionId → Command → Option ℕ
publish_of session (Enqueue by origin message) = if same_session by.session session then Some by.seq else None
publish_of session _ = None

abbrev pub is_confirmed : Answer → Bool
is_confirmed Confirmed = true
is_confirmed _ = false

-- the number that a row confirms: that of a fresh publish of this session
abbrev pub confirmed : SessionId → AuditRow → Option ℕ
confirmed session row =
    if row.fresh && is_confirmed row.answer then publish_of session row.entry.command else None

abbrev pub is_open : Moving → ℕ → Bool
is_open m number = list_any (nat_eq number) m.opened

-- the first time that a number is confirmed, its delivery is settled
abbrev pub settle_by : Moving → Option ℕ → Option Unstamped
settle_by m None = None
settle_by m (Some number) = if is_open m number then Some (bodies.Settle TAG (number ∷ [])) else None

abbrev pub settled : Moving → AuditRow → Option Unstamped
settled m row = settle_by m (confirmed m.session row)

abbrev pub is_other : ℕ → ℕ → Bool
is_other number other = not (nat_eq number other)

abbrev pub close_by : Option ℕ → Moving → Moving
close_by None m = m
close_by (Some number) m = record m { opened = filter (is_other number) m.opened }

abbrev pub after_row : AuditRow → Moving → Moving
after_row row m = close_by (confirmed m.session row) m
