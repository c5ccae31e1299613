-- What a credit answers.
use Rattle.std.proofs.Common.{◌≡◌, ℕ, ◌+◌, Bool, true, false, [], Option, Some, None, refl, sym, ap, ◌∙◌, if◌then◌else◌}
use Rattle.std.specs.Option.{option_map_or}
use Rattle.qq_base.specs.declared.ids.Index.{Index}
use Rattle.qq_base.specs.declared.ids.ConsumerId.{ConsumerId}
use Rattle.qq_entry.specs.Command.{consumer_id}
use Rattle.qq_entry.specs.declared.answer.Answer.TheVariants as answer
use Rattle.qq_entry.specs.declared.command.Command.{Command}
use Rattle.qq_entry.specs.declared.command.Command.TheVariants.{Credit}
use Rattle.qq_entry.specs.declared.command.Entry.{Entry}
use Rattle.qq_entry.specs.declared.command.Mode.{Mode}
use Rattle.qq_entry.specs.declared.command.Mode.TheVariants.{Prefetch, Link}
use Rattle.qq_entry.specs.declared.command.Stamp.{Stamp}
use Rattle.qq_model.specs.declared.consumer.Consumer.{Consumer}
use Rattle.qq_model.specs.State.{State}
use Rattle.qq_model.specs.Changes.{Progress, consumer_of}
use Rattle.qq_model.specs.Commands.{Acted, act, credit_by, credit_by_mode, give_credit, refuse}
use Rattle.qq_entry.specs.declared.answer.Cause.TheVariants.{NoConsumer}
use Rattle.qq_model.specs.Serving.{check_out_all, drain, drain_after, drain_by, is_credited}
use Rattle.qq_model.specs.Step.{Step, carry_out, map_progress}
use Rattle.qq_model.specs.Audit.{next_index}
use Rattle.qq_laws.specs.Drained.{AnswersDrained, consumers_served}
use Rattle.qq_laws.specs.Refusals.{refusal_in}
use Rattle.qq_laws.proofs.RefusalLemmas.{drain-refusal}
use Rattle.qq_laws.proofs.TakenLemmas.{let_in, made-carried}

-- a credit by itself answers 0, or is refused
credit-answer : (id : ConsumerId) (credit : ℕ) (p : Progress) → refusal_in (give_credit id credit p).answer ≡ None
    → (give_credit id credit p).answer ≡ answer.Credited 0
unfolding give_credit
credit-answer id credit p = by (consumer_of id p.state.consumers)
  where
    by_mode : (mode : Mode) (one : Consumer) → refusal_in (credit_by_mode mode one credit p).answer ≡ None
        → (credit_by_mode mode one credit p).answer ≡ answer.Credited 0
    by_mode (Prefetch prefetch) one none = absurd cc
    by_mode Link one none = refl

    flag : (b : Bool) (a : Acted) → (refusal_in a.answer ≡ None → a.answer ≡ answer.Credited 0)
        → refusal_in (if b then refuse NoConsumer p else a).answer ≡ None
        → (if b then refuse NoConsumer p else a).answer ≡ answer.Credited 0
    flag true a onward none = absurd cc
    flag false a onward none = onward none

    by : (o : Option Consumer) → refusal_in (credit_by o credit p).answer ≡ None
        → (credit_by o credit p).answer ≡ answer.Credited 0
    by None none = absurd cc
    by (Some one) none = flag one.cancelled (credit_by_mode one.mode one credit p) (by_mode one.mode one) none

-- what a drain makes of that answer
drained-answer : (id : ConsumerId) (wanted : Bool) (a : Acted) → a.answer ≡ answer.Credited 0
    → (drain id wanted a).answer
    ≡ answer.Credited (if wanted then option_map_or (λ (one : Consumer). one.credit)
    (consumer_of id a.progress.state.consumers) 0 else 0)
drained-answer id false a said = said
drained-answer id true a said =
    ap (λ b. (if b then drain_by (consumer_of id a.progress.state.consumers) a.answer a.progress else a).answer)
    (ap is_credited said) ∙ by (consumer_of id a.progress.state.consumers)
  where
    by : (o : Option Consumer) → (drain_by o a.answer a.progress).answer
        ≡ answer.Credited (option_map_or (λ (one : Consumer). one.credit) o 0)
    by None = said
    by (Some one) = refl

credit-carried : (index : Index) (given : Stamp) (tag count credit : ℕ) (wanted : Bool) (s : State)
    → let command = Credit given tag count credit wanted in
    (carry_out index command s).answer
    ≡ (drain (consumer_id given tag) wanted
    (map_progress check_out_all (act index command (record { state = s; effects = [] })))).answer
unfolding carry_out drain_after
credit-carried index given tag count credit wanted s = refl

credit-acted : (index : Index) (given : Stamp) (tag count credit : ℕ) (wanted : Bool) (p : Progress)
    → refusal_in (act index (Credit given tag count credit wanted) p).answer ≡ None
    → (act index (Credit given tag count credit wanted) p).answer ≡ answer.Credited 0
unfolding act
credit-acted index given tag count credit wanted p none =
    credit-answer (consumer_id given tag) (count + credit) p none

drains : (index : Index) (given : Stamp) (tag count credit : ℕ) (wanted : Bool) (s : State)
    → refusal_in (carry_out index (Credit given tag count credit wanted) s).answer ≡ None
    → (carry_out index (Credit given tag count credit wanted) s).answer
    ≡ answer.Credited (if wanted then option_map_or (λ (one : Consumer). one.credit)
    (consumer_of (consumer_id given tag)
    (consumers_served s index (Credit given tag count credit wanted))) 0 else 0)
unfolding carry_out
drains index given tag count credit wanted s none =
    let command : Command = Credit given tag count credit wanted in
    let start : Progress = record { state = s; effects = [] } in
    let acted : Acted = act index command start in
    let checked : Acted = map_progress check_out_all acted in
    let said : acted.answer ≡ answer.Credited 0 =
    credit-acted index given tag count credit wanted start (sym (drain-refusal command checked) ∙ none) in
    credit-carried index given tag count credit wanted s
    ∙ drained-answer (consumer_id given tag) wanted checked said

pub answers_drained : (s : State) (entry : Entry) → AnswersDrained s entry
answers_drained s entry given tag count credit wanted is fresh none =
    let command : Command = Credit given tag count credit wanted in
    let made = made-carried s entry given command is refl fresh in
    ap (λ (m : Step). m.answer) made
    ∙ drains (next_index s) given tag count credit wanted (let_in s given)
    (ap refusal_in (sym (ap (λ (m : Step). m.answer) made)) ∙ none)
    ∙ ap (λ c. answer.Credited (if wanted then option_map_or (λ (one : Consumer). one.credit)
    (consumer_of (consumer_id given tag) (consumers_served (let_in s given) (next_index s) c)) 0 else 0)) (sym is)
