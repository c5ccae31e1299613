-- The table of commands, and their drain.
use Rattle.std.proofs.Common.{◌≡◌, ◌+◌, Bool, ◌&&◌, Option, Some, None, refl, sym, ap, subst}
use Rattle.std.specs.Option.{option_map}
use Rattle.qq_base.specs.declared.ids.Index.{Index}
use Rattle.qq_base.specs.declared.ids.ConsumerId.{ConsumerId}
use Rattle.qq_entry.specs.Command.{consumer_id}
use Rattle.qq_entry.specs.declared.command.Command.{Command}
use Rattle.qq_entry.specs.declared.command.Command.TheVariants.{Noop, Enqueue, Get, Subscribe, Cancel, Credit, Settle, Return, Discard, Purge, Down, DeadAttach, DeadSettle}
use Rattle.qq_entry.specs.declared.answer.Answer.{Answer}
use Rattle.qq_entry.specs.declared.answer.Answer.TheVariants as answer
use Rattle.qq_model.specs.declared.consumer.Consumer.{Consumer}
use Rattle.qq_model.specs.declared.consumer.Outcome.TheVariants.{Settled, Returned, Discarded}
use Rattle.qq_model.specs.Changes.{Progress, consumer_of}
use Rattle.qq_model.specs.Commands.{Acted, act}
use Rattle.qq_model.specs.Serving.{drain_credit, drain_by, is_credited, drain, drain_after}
use Rattle.qq_parts.specs.Parts.{Served, consumer_at}
use Rattle.qq_parts.specs.Consumers.{changed}
use Rattle.qq_parts.specs.Work.{Work, Answered, StandsFor, AnswersFor}
use Rattle.qq_parts.specs.Commands.{IsBehind, HasFreeId, one_of, parts_act, drained, parts_drain_by, parts_drain, parts_drain_after}
use Rattle.qq_parts.proofs.Changing.{one-of, one-in, changes-one}
use Rattle.qq_parts.proofs.Acting.{says, held, held-of, answers-if, enqueues, gets, subscribes, cancels, gives_credit, finishes_ids, purges_all, attaches, settles_dead}
use Rattle.qq_parts.proofs.Returning.{downs}

pub acts : (index : Index) (command : Command) (t : Work) (p : Progress) → StandsFor t p → IsBehind index p.state
    → HasFreeId command t.parts → AnswersFor (parts_act index command t) (act index command p)
unfolding act parts_act
acts index (Noop version) t p it behind free = says answer.Lead t p it
acts index (Enqueue stamp origin message) t p it behind free = enqueues index message t p it behind
acts index (Get stamp) t p it behind free = gets t p it
acts index (Subscribe stamp tag mode) t p it behind free = subscribes (consumer_id stamp tag) mode t p it free
acts index (Cancel stamp tag) t p it behind free = cancels (consumer_id stamp tag) t p it
acts index (Credit stamp tag count credit wanted) t p it behind free =
    gives_credit (consumer_id stamp tag) (count + credit) t p it
acts index (Settle stamp tag ids) t p it behind free = finishes_ids Settled (consumer_id stamp tag) ids t p it
acts index (Return stamp tag ids) t p it behind free = finishes_ids Returned (consumer_id stamp tag) ids t p it
acts index (Discard stamp tag ids) t p it behind free = finishes_ids Discarded (consumer_id stamp tag) ids t p it
acts index (Purge stamp) t p it behind free = purges_all t p it
acts index (Down session) t p it behind free = downs session t p it
acts index (DeadAttach term) t p it behind free = attaches term t p it
acts index (DeadSettle term done) t p it behind free = settles_dead term done t p it

-- Drain -----------------------------------------------------------------------------------------------

drains-by : (id : ConsumerId) (o : Option Served) (said : Answer) (t : Work) (p : Progress) → StandsFor t p
    → one_of id t.parts.served ≡ o → AnswersFor (parts_drain_by o said t) (drain_by (option_map consumer_at o) said p)
drains-by id None said t p it found = says said t p it
drains-by id (Some one) said t p it found = record {
  work =
      held (changed (drained one.consumer) t.parts) (drain_credit one.consumer p.state) t p it
      (changes-one t.parts p.state one (drained one.consumer) (held-of t p it) (one-in id t.parts.served one found) refl
      refl);
  answer = refl;
}

drains : (id : ConsumerId) (wanted : Bool) (a : Answered) (b : Acted) → AnswersFor a b
    → AnswersFor (parts_drain id wanted a) (drain id wanted b)
drains id wanted a b it =
    let by : Answered = parts_drain_by (one_of id a.work.parts.served) a.answer a.work in
    answers-if (wanted && is_credited a.answer) (wanted && is_credited b.answer) by a
    (drain_by (consumer_of id b.progress.state.consumers) b.answer b.progress) b
    (ap (λ (said : Answer). wanted && is_credited said) it.answer)
    (λ _.
    subst (λ (said : Answer). AnswersFor by (drain_by (consumer_of id b.progress.state.consumers) said b.progress))
    (sym it.answer)
    (subst (λ (o : Option Consumer). AnswersFor by (drain_by o a.answer b.progress))
    (sym (one-of id a.work.parts b.progress.state it.work.stands))
    (drains-by id (one_of id a.work.parts.served) a.answer a.work b.progress it.work refl)))
    (λ _. it)

pub drains-after : (command : Command) (a : Answered) (b : Acted) → AnswersFor a b
    → AnswersFor (parts_drain_after command a) (drain_after command b)
unfolding drain_after parts_drain_after
drains-after (Credit stamp tag count credit wanted) a b it = drains (consumer_id stamp tag) wanted a b it
drains-after _ a b it = it
