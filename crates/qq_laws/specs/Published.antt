-- What was published, and what deliveries show of it.
use Rattle.std.specs.Prelude.{◌≡◌, ℕ, ◌-◌, ◌<◌, List, [], ◌∷◌, ◌++◌, All, Option, Some, None, Bool, true, false, ◌&&◌, slice_get, filter_map, if◌then◌else◌}
use Rattle.qq_base.specs.declared.ids.Index.{Index}
use Rattle.qq_entry.specs.declared.message.Message.{Message}
use Rattle.qq_entry.specs.declared.command.Command.{Command}
use Rattle.qq_entry.specs.declared.command.Command.TheVariants.{Enqueue}
use Rattle.qq_entry.specs.declared.answer.Answer.{Answer}
use Rattle.qq_entry.specs.declared.answer.Answer.TheVariants.{Confirmed, Got}
use Rattle.qq_entry.specs.declared.answer.Delivery.{Delivery}
use Rattle.qq_entry.specs.declared.audit.AuditRow.{AuditRow}
use Rattle.qq_entry.specs.declared.audit.Effect.{Effect}
use Rattle.qq_entry.specs.declared.audit.Effect.TheVariants.{Deliver, DeadOnce, Offer}
use Rattle.qq_model.specs.declared.place.Row.{Row}
use Rattle.qq_entry.specs.declared.queue.QueueArgs.{QueueArgs}
use Rattle.qq_entry.specs.declared.command.Entry.{Entry}
use Rattle.qq_model.specs.Audit.{next_step}
use Rattle.qq_laws.specs.Always.{queue_after, queue_audit}

-- a publish that was confirmed: the index of its entry, and its message
pub record Publish : Type 0 where
  pub index : Index
  pub message : Message

abbrev pub message_in : Command → Option Message
message_in (Enqueue stamp origin message) = Some message
message_in _ = None

abbrev pub is_confirmed : Answer → Bool
is_confirmed Confirmed = true
is_confirmed _ = false

-- the message that a command brought into the queue: it was carried out, and confirmed
abbrev pub new_message : Bool → Answer → Command → Option Message
new_message fresh answer command = if fresh && is_confirmed answer then message_in command else None

abbrev pub publish_of : Index → Option Message → Option Publish
publish_of index None = None
publish_of index (Some message) = Some (record { index = index; message = message })

-- what a row of the audit published
abbrev pub publication : AuditRow → Option Publish
publication row = publish_of row.index (new_message row.fresh row.answer row.entry.command)

-- the confirmed publishes of an audit, in order
abbrev pub confirmed_publishes : List AuditRow → List Publish
confirmed_publishes rows = filter_map publication rows

-- what the rows of a queue and the messages that stand beside them are
abbrev pub kept_publishes : List Row → List Message → List Publish
kept_publishes [] messages = []
kept_publishes (row ∷ rows) [] = []
kept_publishes (row ∷ rows) (message ∷ messages) =
    record { index = row.index; message = message } ∷ kept_publishes rows messages

-- a delivery of arrival n shows the nth confirmed publish: its index, and its message
pub record Shows (all : List Publish) (delivery : Delivery) : Type 0 where
  pub counted : 0 < delivery.arrival
  pub published : slice_get all (delivery.arrival - 1)
      ≡ Some (record { index = delivery.index; message = delivery.message })

-- a dead letter is the message of a confirmed publish
abbrev pub WasPublished : List Publish → Message → Type 0
WasPublished all message =
    (n : ℕ) × (index : Index) × (slice_get all n ≡ Some (record { index = index; message = message }))

-- each effect that carries a message carries a published one
abbrev pub EffectShows : List Publish → Effect → Type 0
EffectShows all (Deliver consumer delivery) = Shows all delivery
EffectShows all (DeadOnce reason message) = WasPublished all message
EffectShows all (Offer number reason message) = WasPublished all message

abbrev pub AnswerShows : List Publish → Answer → Type 0
AnswerShows all (Got delivery) = Shows all delivery
AnswerShows all _ = Unit {0}

-- a queue has one message for each publish that was confirmed, in order
abbrev pub KeepsPublishes : QueueArgs → List Entry → Type 0
KeepsPublishes args entries =
    let s = queue_after args entries in
    kept_publishes s.rows s.messages ≡ confirmed_publishes (queue_audit args entries)

-- what an entry delivers was published before it, or by it
abbrev pub EffectsShow : QueueArgs → List Entry → Entry → Type 0
EffectsShow args before entry =
    let all = confirmed_publishes (queue_audit args (before ++ entry ∷ [])) in
    All (EffectShows all) (next_step (queue_after args before) entry).effects

-- what a command that is carried out is answered was published before it
abbrev pub FreshAnswerShows : QueueArgs → List Entry → Entry → Type 0
FreshAnswerShows args before entry =
    let made = next_step (queue_after args before) entry in
    made.fresh ≡ true → AnswerShows (confirmed_publishes (queue_audit args before)) made.answer
