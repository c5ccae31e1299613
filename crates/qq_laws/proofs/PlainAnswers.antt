-- What a command that isn't refused is answered.
use Rattle.std.proofs.Common.{◌≡◌, ℕ, Bool, true, false, List, Option, Some, None, refl, sym, ap, ◌∙◌, if◌then◌else◌}
use Rattle.std.specs.Prelude.{IfSome}
use Rattle.qq_base.specs.declared.ids.Index.{Index}
use Rattle.qq_base.specs.declared.ids.ConsumerId.{ConsumerId}
use Rattle.qq_base.specs.declared.ids.SessionId.{SessionId}
use Rattle.qq_entry.specs.Command.{consumer_id}
use Rattle.qq_entry.specs.declared.answer.Answer.{Answer}
use Rattle.qq_entry.specs.declared.answer.Answer.TheVariants as answer
use Rattle.qq_entry.specs.declared.answer.Cause.TheVariants.{NoConsumer}
use Rattle.qq_entry.specs.declared.command.Command.{Command}
use Rattle.qq_entry.specs.declared.command.Command.TheVariants.{Noop, Cancel, Settle, Return, Discard, Down}
use Rattle.qq_entry.specs.declared.command.Entry.{Entry}
use Rattle.qq_model.specs.declared.consumer.Consumer.{Consumer}
use Rattle.qq_model.specs.declared.consumer.Outcome.{Outcome}
use Rattle.qq_model.specs.declared.consumer.Outcome.TheVariants.{Settled, Returned, Discarded}
use Rattle.qq_model.specs.State.{State}
use Rattle.qq_model.specs.Changes.{Progress, consumer_of}
use Rattle.qq_model.specs.Commands.{Acted, act, cancel, cancel_by, down, finish, finish_by, refuse}
use Rattle.qq_model.specs.Serving.{drain_after}
use Rattle.qq_model.specs.Step.{carry_out}
use Rattle.qq_model.specs.Audit.{next_index, next_step}
use Rattle.qq_laws.specs.Refusals.{AnswersPlainly, plain_answer, refusal_in}
use Rattle.qq_laws.proofs.Carried.{is_carried}

-- an answer, unless it is a refusal
abbrev Says : Answer → Answer → Type 0
Says said given = refusal_in given ≡ None → given ≡ said

cancel-says : (id : ConsumerId) (p : Progress) → Says answer.Done (cancel id p).answer
unfolding cancel
cancel-says id p = by (consumer_of id p.state.consumers)
  where
    flag : (b : Bool) (a : Acted) → a.answer ≡ answer.Done
        → Says answer.Done (if b then refuse NoConsumer p else a).answer
    flag true a said none = absurd cc
    flag false a said none = said

    by : (o : Option Consumer) → Says answer.Done (cancel_by o p).answer
    by None none = absurd cc
    by (Some one) none = flag one.cancelled _ refl none

finish-says : (outcome : Outcome) (id : ConsumerId) (ids : List ℕ) (p : Progress)
    → Says answer.Done (finish outcome id ids p).answer
unfolding finish
finish-says outcome id ids p = by (consumer_of id p.state.consumers)
  where
    by : (o : Option Consumer) → Says answer.Done (finish_by o outcome id ids p).answer
    by None none = absurd cc
    by (Some one) none = refl

down-says : (session : SessionId) (p : Progress) → (down session p).answer ≡ answer.Down
unfolding down
down-says session p = refl

-- these answers stand to the end of the command
says : (index : Index) (command : Command) (s : State)
    → IfSome (plain_answer command) (λ said. Says said (carry_out index command s).answer)
unfolding carry_out act drain_after
says index (Noop version) s = λ none. refl
says index (Cancel given tag) s = λ none. cancel-says (consumer_id given tag) _ none
says index (Settle given tag ids) s = λ none. finish-says Settled (consumer_id given tag) ids _ none
says index (Return given tag ids) s = λ none. finish-says Returned (consumer_id given tag) ids _ none
says index (Discard given tag ids) s = λ none. finish-says Discarded (consumer_id given tag) ids _ none
says index (Down session) s = λ none. down-says session _
says index _ s = tt

pub answers_plainly : (s : State) (entry : Entry) → AnswersPlainly s entry
answers_plainly s entry fresh none = by (plain_answer entry.command) told
  where
    a : Answer
    a = (carry_out (next_index s) entry.command (record s { sessions = (is_carried s entry fresh).sessions })).answer

    same : (next_step s entry).answer ≡ a
    same = (is_carried s entry fresh).answer

    told : IfSome (plain_answer entry.command) (λ said. Says said a)
    told = says (next_index s) entry.command (record s { sessions = (is_carried s entry fresh).sessions })

    by : (o : Option Answer) → IfSome o (λ said. Says said a) → IfSome o (λ said. (next_step s entry).answer ≡ said)
    by None tells = tt
    by (Some said) tells = same ∙ tells (ap refusal_in (sym same) ∙ none)
