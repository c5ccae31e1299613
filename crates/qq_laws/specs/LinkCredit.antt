-- The credit of link consumers (AMQP 1.0, section 2.6.7).
use Rattle.std.specs.Prelude.{◌≡◌, ◌≤◌, ℕ, ◌+◌, max, length, Bool, true, List, [], ◌∷◌, Some, Contains, if◌then◌else◌}
use Rattle.qq_base.specs.declared.ids.ConsumerId.{ConsumerId}
use Rattle.qq_base.specs.Ids.{same_consumer}
use Rattle.qq_entry.specs.Command.{consumer_id}
use Rattle.qq_entry.specs.declared.answer.Answer.TheVariants.{Credited}
use Rattle.qq_entry.specs.declared.command.Command.{Command}
use Rattle.qq_entry.specs.declared.command.Command.TheVariants.{Credit}
use Rattle.qq_entry.specs.declared.command.Entry.{Entry}
use Rattle.qq_entry.specs.declared.command.Mode.TheVariants.{Link}
use Rattle.qq_entry.specs.declared.command.Stamp.{Stamp}
use Rattle.qq_entry.specs.declared.queue.QueueArgs.{QueueArgs}
use Rattle.qq_model.specs.declared.consumer.Consumer.{Consumer}
use Rattle.qq_model.specs.State.{State, empty_queue}
use Rattle.qq_model.specs.Gate.{IsNumbered}
use Rattle.qq_model.specs.Changes.{consumer_of}
use Rattle.qq_model.specs.Audit.{next_step, deliveries}
use Rattle.qq_laws.specs.Always.{queue_after, queue_audit}

-- up to which delivery a command gives a consumer credit: those that it counts, and those that it grants beyond them
abbrev pub credit_limit : ConsumerId → Command → ℕ
credit_limit consumer (Credit stamp tag count credit drain) =
    if same_consumer (consumer_id stamp tag) consumer then count + credit else 0
credit_limit consumer _ = 0

-- the greatest one that entries give
abbrev pub greatest_limit : ConsumerId → List Entry → ℕ
greatest_limit consumer [] = 0
greatest_limit consumer (entry ∷ entries) =
    max (credit_limit consumer entry.command) (greatest_limit consumer entries)

-- what a link consumer was delivered, and what it may still get, are together no more than it was given
abbrev pub KeepsLinkCredit : QueueArgs → List Entry → Type 0
KeepsLinkCredit args entries =
    let s = queue_after args entries in
    (consumer : Consumer) → Contains s.consumers consumer → IsNumbered consumer.id.session → consumer.mode ≡ Link
    → length (deliveries (empty_queue args) (queue_audit args entries) consumer.id) + consumer.credit
    ≤ greatest_limit consumer.id entries

-- A credit that is carried out, and not refused: what its consumer may still get, and what was delivered to it or
-- drained, are together what it gives, or what was delivered or drained before where that is more. A drain leaves
-- none to get.
pub record GivesCredit (limit : ℕ) (drain : Bool) (old new : Consumer) : Type 0 where
  pub given : new.credit + new.count ≡ max limit old.count
  pub drained : drain ≡ true → new.credit ≡ 0

abbrev pub CreditsAreGiven : State → Entry → Type 0
CreditsAreGiven s entry =
    let made = next_step s entry in
    (given : Stamp) (tag count credit used : ℕ) (drain : Bool) (old new : Consumer)
    → entry.command ≡ Credit given tag count credit drain → made.fresh ≡ true → made.answer ≡ Credited used
    → consumer_of (consumer_id given tag) s.consumers ≡ Some old
    → Contains made.state.consumers new → new.id ≡ consumer_id given tag
    → GivesCredit (count + credit) drain old new
