-- What a credit answers (AMQP 1.0, section 2.6.7, drain).
use Rattle.std.specs.Prelude.{◌≡◌, ℕ, Bool, true, List, [], None, if◌then◌else◌}
use Rattle.std.specs.Option.{option_map_or}
use Rattle.qq_entry.specs.Command.{consumer_id}
use Rattle.qq_entry.specs.declared.answer.Answer.TheVariants.{Credited}
use Rattle.qq_entry.specs.declared.command.Command.{Command}
use Rattle.qq_entry.specs.declared.command.Command.TheVariants.{Credit}
use Rattle.qq_entry.specs.declared.command.Entry.{Entry}
use Rattle.qq_entry.specs.declared.command.Stamp.{Stamp}
use Rattle.qq_base.specs.declared.ids.Index.{Index}
use Rattle.qq_model.specs.declared.consumer.Consumer.{Consumer}
use Rattle.qq_model.specs.State.{State}
use Rattle.qq_model.specs.Changes.{consumer_of}
use Rattle.qq_model.specs.Commands.{act}
use Rattle.qq_model.specs.Gate.{admit}
use Rattle.qq_model.specs.Serving.{check_out_all}
use Rattle.qq_model.specs.Audit.{next_index, next_step}
use Rattle.qq_laws.specs.Refusals.{refusal_in}

-- the consumers as a command and the deliveries on it leave them
abbrev pub consumers_served : State → Index → Command → List Consumer
consumers_served s index command =
    (check_out_all (act index command (record { state = s; effects = [] })).progress).state.consumers

-- a credit that isn't refused answers how much of its consumer's credit was left after the deliveries, where it drains that,
-- and 0 where it doesn't
abbrev pub AnswersDrained : State → Entry → Type 0
AnswersDrained s entry =
    (given : Stamp) (tag count credit : ℕ) (drain : Bool) → entry.command ≡ Credit given tag count credit drain
    → (next_step s entry).fresh ≡ true → refusal_in (next_step s entry).answer ≡ None
    → let served = consumers_served (record s { sessions = admit s.sessions given }) (next_index s) entry.command in
    let left = option_map_or (λ (one : Consumer). one.credit) (consumer_of (consumer_id given tag) served) 0 in
    (next_step s entry).answer ≡ Credited (if drain then left else 0)
