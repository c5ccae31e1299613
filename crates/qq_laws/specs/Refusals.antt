-- Which commands are refused, and why.
use Rattle.std.specs.Prelude.{IfSome, ◌≡◌, ℕ, true, Option, Some, None, length, nat_le, if◌then◌else◌}
use Rattle.qq_entry.specs.Command.{consumer_id}
use Rattle.qq_entry.specs.declared.answer.Answer.{Answer}
use Rattle.qq_entry.specs.declared.answer.Answer.TheVariants as answer
use Rattle.qq_entry.specs.declared.answer.Cause.{Cause}
use Rattle.qq_entry.specs.declared.answer.Cause.TheVariants.{ConsumersFull, NoConsumer, NumberSpent, SingleActive, WrongMode}
use Rattle.qq_entry.specs.declared.command.Command.{Command}
use Rattle.qq_entry.specs.declared.command.Command.TheVariants.{Noop, Cancel, Credit, Discard, Down, Get, Return, Settle, Subscribe}
use Rattle.qq_entry.specs.declared.command.Entry.{Entry}
use Rattle.qq_entry.specs.declared.command.Mode.{Mode}
use Rattle.qq_entry.specs.declared.command.Mode.TheVariants.{Prefetch, Link}
use Rattle.qq_model.specs.declared.TheConstants.{MOST_CONSUMERS}
use Rattle.qq_model.specs.declared.consumer.Consumer.{Consumer}
use Rattle.qq_model.specs.State.{State, Sessions}
use Rattle.qq_model.specs.Changes.{consumer_of}
use Rattle.qq_model.specs.Gate.{greatest_tag}
use Rattle.qq_model.specs.Audit.{next_step}

abbrev pub refusal_in : Answer → Option Cause
refusal_in (answer.Refused cause) = Some cause
refusal_in _ = None

-- a tag that isn't above all that its session used, else a full table
abbrev pub refused_join : ℕ → ℕ → ℕ → Option Cause
refused_join tag greatest count =
    if nat_le tag greatest then Some NumberSpent else if nat_le MOST_CONSUMERS count then Some ConsumersFull else None

-- a consumer that isn't there
abbrev pub refused_absent : Option Consumer → Option Cause
refused_absent None = Some NoConsumer
refused_absent (Some one) = None

-- or that was cancelled
abbrev pub refused_cancelled : Option Consumer → Option Cause
refused_cancelled None = Some NoConsumer
refused_cancelled (Some one) = if one.cancelled then Some NoConsumer else None

-- or that has a prefetch
abbrev pub refused_mode : Mode → Option Cause
refused_mode (Prefetch prefetch) = Some WrongMode
refused_mode Link = None

abbrev pub refused_credit : Option Consumer → Option Cause
refused_credit None = Some NoConsumer
refused_credit (Some one) = if one.cancelled then Some NoConsumer else refused_mode one.mode

-- why a command is refused, if it is
abbrev pub refused_with : Sessions → State → Command → Option Cause
refused_with x s (Get given) = if s.args.single_active then Some SingleActive else None
refused_with x s (Subscribe given tag mode) =
    refused_join tag (greatest_tag given.session x) (length s.consumers)
refused_with x s (Cancel given tag) = refused_cancelled (consumer_of (consumer_id given tag) s.consumers)
refused_with x s (Credit given tag count credit drain) =
    refused_credit (consumer_of (consumer_id given tag) s.consumers)
refused_with x s (Settle given tag ids) = refused_absent (consumer_of (consumer_id given tag) s.consumers)
refused_with x s (Return given tag ids) = refused_absent (consumer_of (consumer_id given tag) s.consumers)
refused_with x s (Discard given tag ids) = refused_absent (consumer_of (consumer_id given tag) s.consumers)
refused_with x s _ = None

-- a command that is carried out is refused exactly so
abbrev pub RefusesExactly : State → Entry → Type 0
RefusesExactly s entry =
    (next_step s entry).fresh ≡ true
    → refusal_in (next_step s entry).answer ≡ refused_with s.sessions s entry.command

-- what a command that isn't refused is answered, where that is one answer alone
abbrev pub plain_answer : Command → Option Answer
plain_answer (Noop version) = Some answer.Lead
plain_answer (Cancel given tag) = Some answer.Done
plain_answer (Settle given tag ids) = Some answer.Done
plain_answer (Return given tag ids) = Some answer.Done
plain_answer (Discard given tag ids) = Some answer.Done
plain_answer (Down session) = Some answer.Down
plain_answer _ = None

-- a command that is carried out, and not refused, is answered so
abbrev pub AnswersPlainly : State → Entry → Type 0
AnswersPlainly s entry =
    (next_step s entry).fresh ≡ true → refusal_in (next_step s entry).answer ≡ None
    → IfSome (plain_answer entry.command) (λ said. (next_step s entry).answer ≡ said)
