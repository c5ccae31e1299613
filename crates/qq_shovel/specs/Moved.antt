-- What was moved: over the whole audits of both queues.
use Rattle.std.specs.Prelude.{◌≡◌, ◌≤◌, ◌+◌, ℕ, true, List, [], ◌∷◌, ◌++◌, Option, Some, Contains, slice_get}
use Rattle.qq_base.specs.declared.ids.SessionId.{SessionId}
use Rattle.qq_entry.specs.declared.answer.Answer.TheVariants.{Confirmed}
use Rattle.qq_entry.specs.declared.answer.Delivery.{Delivery}
use Rattle.qq_entry.specs.declared.audit.AuditRow.{AuditRow}
use Rattle.qq_entry.specs.declared.command.Command.TheVariants.{Enqueue, Settle}
use Rattle.qq_entry.specs.declared.command.Stamp.{Stamp}
use Rattle.qq_entry.specs.declared.command.Unstamped.{Unstamped}
use Rattle.qq_entry.specs.declared.command.Unstamped.TheVariants as bodies
use Rattle.qq_entry.specs.declared.message.Message.{Message}
use Rattle.qq_entry.specs.declared.message.Origin.{Origin}
use Rattle.qq_shovel.specs.Moving.{Moving, after_delivery, after_row, published, settled}
use Rattle.qq_shovel.specs.declared.shovel.TheConstants.{TAG}

-- ---- the theorem

-- a fresh settle of this session that names an id
pub record SettlesIn (session : SessionId) (id : ℕ) (audit : List AuditRow) : Type 0 where
  pub row : AuditRow
  pub is_in : Contains audit row
  pub fresh : row.fresh ≡ true
  pub stamp : Stamp
  pub of_session : stamp.session ≡ session
  pub ids : List ℕ
  pub is : row.entry.command ≡ Settle stamp TAG ids
  pub names : Contains ids id

-- a fresh publish of this session and number with this message, which was confirmed
pub record ConfirmsIn (session : SessionId) (number : ℕ) (message : Message) (audit : List AuditRow) : Type 0 where
  pub row : AuditRow
  pub is_in : Contains audit row
  pub fresh : row.fresh ≡ true
  pub confirmed : row.answer ≡ Confirmed
  pub stamp : Stamp
  pub of_session : stamp.session ≡ session
  pub number_is : stamp.seq ≡ number
  pub origin : Option Origin
  pub is : row.entry.command ≡ Enqueue stamp origin message

-- the delivery of this id
pub record HasDelivery (deliveries : List Delivery) (id : ℕ) (message : Message) : Type 0 where
  pub delivery : Delivery
  pub is_in : Contains deliveries delivery
  pub id_is : delivery.id ≡ id
  pub message_is : delivery.message ≡ message

-- Each delivery that the session has settled at the source stands confirmed in the target's audit, under its id as the
-- number and with its message. `deliveries` are those to the session's consumer of tag 1.
abbrev pub Moved : SessionId → (deliveries : List Delivery) → (source target : List AuditRow) → Type 0
Moved session deliveries source target = (id : ℕ) → SettlesIn session id source
    → (message : Message) × HasDelivery deliveries id message × ConfirmsIn session id message target

-- ---- any list of what arrives

pub data Deed : Type 0 where
  -- a delivery of the source arrives
  Arrives : (delivery : Delivery) → Deed
  -- the target shows a row
  Shows : (row : AuditRow) → Deed

abbrev pub after_deed : Deed → Moving → Moving
after_deed (Arrives delivery) m = after_delivery delivery m
after_deed (Shows row) m = after_row row m

abbrev pub after_deeds : List Deed → Moving → Moving
after_deeds [] m = m
after_deeds (deed ∷ deeds) m = after_deeds deeds (after_deed deed m)

-- what is to be given on it
abbrev pub given_on : Deed → Moving → Option Unstamped
given_on (Arrives delivery) m = published m delivery
given_on (Shows row) m = settled m row

-- the message that it is to publish
abbrev pub message_of : Option Unstamped → List Message
message_of (Some (bodies.Enqueue origin message)) = message ∷ []
message_of _ = []

-- the messages that it was to publish, in order
abbrev pub publishes : List Deed → Moving → List Message
publishes [] m = []
publishes (deed ∷ deeds) m = message_of (given_on deed m) ++ publishes deeds (after_deed deed m)

-- ids of deliveries come in turn: each is a repeat, or the next
abbrev pub IsInTurn : Deed → Moving → Type 0
IsInTurn (Arrives delivery) m = (1 ≤ delivery.id) × (delivery.id ≤ m.had + 1)
IsInTurn (Shows row) m = Unit {0}

abbrev pub AreInTurn : List Deed → Moving → Type 0
AreInTurn [] m = Unit {0}
AreInTurn (deed ∷ deeds) m = IsInTurn deed m × AreInTurn deeds (after_deed deed m)

-- On one of the deeds it was to settle this delivery.
pub record GivesSettle (id : ℕ) (deeds : List Deed) (m : Moving) : Type 0 where
  pub before : List Deed
  pub deed : Deed
  pub after : List Deed
  pub parts : deeds ≡ before ++ deed ∷ after
  pub is : given_on deed (after_deeds before m) ≡ Some (bodies.Settle TAG (id ∷ []))

-- ---- what two brokers promise

-- Each delivery that arrived is one of the source's audit, and each row that was shown stands in the target's. A fresh
-- publish of the session there is of the message that it was to publish under that number; and a fresh settle of the
-- session at the source was given.
pub record AreKept (session : SessionId) (deeds : List Deed) (m : Moving) (deliveries : List Delivery)
    (source target : List AuditRow) : Type 0 where
  pub turns : AreInTurn deeds m
  pub arrived : (delivery : Delivery) → Contains deeds (Arrives delivery) → Contains deliveries delivery
  pub shown : (row : AuditRow) → Contains deeds (Shows row) → Contains target row
  pub published : (row : AuditRow) (stamp : Stamp) (origin : Option Origin) (message : Message)
      → Contains target row → row.fresh ≡ true → row.entry.command ≡ Enqueue stamp origin message
      → stamp.session ≡ session → (before : ℕ) × (stamp.seq ≡ before + 1)
      × (slice_get (publishes deeds m) before ≡ Some message)
  pub settled : (id : ℕ) → SettlesIn session id source → GivesSettle id deeds m
