-- Commands do in the parts what they do in the queue, and answer the same.
use Rattle.std.proofs.Common.{◌≡◌, ℕ, ◌+◌, Bool, true, false, ◌&&◌, List, [], ◌∷◌, Option, Some, None, map, fold, length, nat_lt, refl, sym, ap, ◌∙◌, subst, if◌then◌else◌}
use Rattle.std.specs.Prelude.{nat_eq, nat_le}
use Rattle.std.specs.Option.{option_map}
use Rattle.std.proofs.lemmas.List.{length-map}
use Rattle.qq_base.proofs.Lists.{In}
use Rattle.qq_base.specs.declared.ids.Index.{Index}
use Rattle.qq_base.specs.declared.ids.Term.{Term}
use Rattle.qq_base.specs.declared.ids.ConsumerId.{ConsumerId}
use Rattle.qq_entry.specs.declared.queue.QueueArgs.{QueueArgs}
use Rattle.qq_entry.specs.declared.message.Message.{Message}
use Rattle.qq_entry.specs.declared.command.DeadDone.{DeadDone}
use Rattle.qq_entry.specs.declared.command.Mode.{Mode}
use Rattle.qq_entry.specs.declared.command.Mode.TheVariants.{Prefetch, Link}
use Rattle.qq_entry.specs.declared.answer.Answer.{Answer}
use Rattle.qq_entry.specs.declared.answer.Answer.TheVariants as answer
use Rattle.qq_entry.specs.declared.answer.Cause.TheVariants.{SingleActive, NumberSpent, ConsumersFull, NoConsumer, WrongMode}
use Rattle.qq_entry.specs.declared.answer.Full.{Full}
use Rattle.qq_model.specs.declared.TheConstants.{MOST_CONSUMERS}
use Rattle.qq_model.specs.declared.place.GoneReason.TheVariants as gone
use Rattle.qq_model.specs.declared.place.Row.{Row}
use Rattle.qq_model.specs.declared.consumer.Consumer.{Consumer}
use Rattle.qq_model.specs.declared.consumer.Outcome.{Outcome}
use Rattle.qq_model.specs.State.{State}
use Rattle.qq_model.specs.Gate.{greatest_tag}
use Rattle.qq_model.specs.Choice.{next_message}
use Rattle.qq_model.specs.Limits.{publish_limit, ready_bytes, live_count}
use Rattle.qq_model.specs.Changes.{Progress, begin_to_wait, drop_finished, put_consumer}
use Rattle.qq_model.specs.Commands.{Acted, reply, set_state, refuse, enqueue_by, enqueue, get_by, get, join, subscribe, cancel_by, cancel, set_credit, credit_by_mode, credit_by, give_credit, end_deliveries, finish_by, finish, purge_row, purge, is_at_least_once, dead_attach, dead_row, given_row, Settling, settle_dead_by, settle_dead, dead_settle}
use Rattle.qq_rules.specs.Decisions.{refuses}
use Rattle.qq_parts.specs.Parts.{Served, consumer_at, Parts, Stands, IsWhole}
use Rattle.qq_parts.specs.Reads.{ready_items, size_of}
use Rattle.qq_parts.specs.Changes.{Taken, take_first, arrive, Holds}
use Rattle.qq_parts.specs.Outs.{joined, purged, IsFree, taken_row}
use Rattle.qq_parts.specs.Letters.{take_dead}
use Rattle.qq_parts.specs.Consumers.{changed, keep_ones, needed_one}
use Rattle.qq_parts.proofs.Reading.{ready-is, bytes-is, live-is}
use Rattle.qq_parts.proofs.Moving.{arrives, first-taken, goes, message-is, rows-of}
use Rattle.qq_parts.proofs.Delivering.{joins, purges}
use Rattle.qq_parts.proofs.Burying.{tells_dead}
use Rattle.qq_parts.specs.Work.{Work, Answered, say, say_refused, with_parts, StandsFor, AnswersFor}
use Rattle.qq_parts.specs.Ends.{parts_end_deliveries}
use Rattle.qq_parts.specs.Commands.{IsBehind, full_by, parts_enqueue_by, parts_enqueue, parts_get_by, parts_get, parts_subscribe, one_of, cancelled, parts_cancel_by, parts_cancel, parts_credit, parts_begin_to_wait, credited, parts_credit_by_mode, parts_credit_by, parts_give_credit, parts_finish_by, parts_finish, parts_purge, attached_to, parts_dead_attach, take_given, DeadSettled, parts_settle_dead_by, parts_settle_dead, parts_dead_settle}
use Rattle.qq_parts.proofs.Works.{whole-rest, args-are}
use Rattle.qq_parts.proofs.Choosing.{first-row}
use Rattle.qq_parts.proofs.StepEnding.{ends-all}
use Rattle.qq_parts.proofs.Changing.{one-of, one-in, credit-is, changes-one, finishes, begins}

-- Answers ---------------------------------------------------------------------------------------------

pub says : (said : Answer) (t : Work) (p : Progress) → StandsFor t p → AnswersFor (say said t) (reply said p)
says said t p it = record { work = it; answer = refl }

-- other parts and another state, with the same effects so far
pub held : (m : Parts) (s : State) (t : Work) (p : Progress) → StandsFor t p → Holds m s
    → StandsFor (with_parts m t) (set_state s p)
held m s t p it holds = record { stands = holds.stands; whole = holds.whole; effects = it.effects }

pub held-of : (t : Work) (p : Progress) → StandsFor t p → Holds t.parts p.state
held-of t p it = record { stands = it.stands; whole = it.whole }

-- a choice of answers by one test
pub answers-if : (a b : Bool) (x y : Answered) (u v : Acted) → b ≡ a → (a ≡ true → AnswersFor x u)
    → (a ≡ false → AnswersFor y v) → AnswersFor (if a then x else y) (if b then u else v)
answers-if a b x y u v is first second =
    subst (λ (c : Bool). AnswersFor (if a then x else y) (if c then u else v)) (sym is) (by a refl)
  where
    by : (c : Bool) → a ≡ c → AnswersFor (if c then x else y) (if c then u else v)
    by true e = first e
    by false e = second e

-- Enqueue ---------------------------------------------------------------------------------------------

full-is : (m : Parts) (s : State) → Stands m s → IsWhole m → publish_limit s.args s.rows ≡ full_by m
full-is m s stands whole =
    let args : QueueArgs = m.rest.args in
    ap (λ (a : QueueArgs). publish_limit a s.rows) (args-are m s stands)
    ∙ ap (λ n. refuses args n (ready_bytes s.rows) (live_count s.rows)) (ready-is m s stands whole)
    ∙ ap (λ n. refuses args (length (ready_items m)) n (live_count s.rows)) (bytes-is m s stands whole)
    ∙ ap (λ n. refuses args (length (ready_items m)) (size_of (ready_items m)) n) (live-is m s stands whole)

enqueues-by : (o : Option Full) (index : Index) (message : Message) (t : Work) (p : Progress) → StandsFor t p
    → IsBehind index p.state → AnswersFor (parts_enqueue_by o index message t) (enqueue_by o index message p)
enqueues-by (Some full) index message t p it behind = says (answer.Rejected full) t p it
enqueues-by None index message t p it behind = record {
  work = held (arrive index message t.parts) _ t p it (arrives t.parts p.state it.stands it.whole index message behind);
  answer = refl;
}

pub enqueues : (index : Index) (message : Message) (t : Work) (p : Progress) → StandsFor t p → IsBehind index p.state
    → AnswersFor (parts_enqueue index message t) (enqueue index message p)
unfolding enqueue parts_enqueue
enqueues index message t p it behind =
    subst (λ (o : Option Full). AnswersFor (parts_enqueue_by (full_by t.parts) index message t)
    (enqueue_by o index message p)) (sym (full-is t.parts p.state it.stands it.whole))
    (enqueues-by (full_by t.parts) index message t p it behind)

-- Get -------------------------------------------------------------------------------------------------

gets-by : (o : Option Taken) (t : Work) (p : Progress) → StandsFor t p → take_first t.parts ≡ o
    → AnswersFor (parts_get_by o t) (get_by (option_map taken_row o) p)
gets-by None t p it first = says answer.Empty t p it
gets-by (Some taken) t p it first =
    let is = first-taken t.parts p.state taken it.stands it.whole first in
    let x = taken.item in
    record {
      work = held taken.left _ t p it (goes x taken.left p.state is.stands is.whole gone.Got);
      answer =
          ap (λ (message : Message). answer.Got (record {
            index = x.row.index;
            arrival = x.row.arrival;
            id = 0;
            count = x.row.count;
            message = message;
          }))
          (message-is x x.row taken.left p.state.rows p.state.messages (rows-of x taken.left p.state is.stands) refl);
    }

pub gets : (t : Work) (p : Progress) → StandsFor t p → AnswersFor (parts_get t) (get p)
unfolding get parts_get
gets t p it =
    answers-if t.parts.rest.args.single_active p.state.args.single_active (say_refused SingleActive t)
    (parts_get_by (take_first t.parts) t) (refuse SingleActive p) (get_by (next_message p.state.rows) p)
    (ap (λ (a : QueueArgs). a.single_active) (args-are t.parts p.state it.stands))
    (λ _. says (answer.Refused SingleActive) t p it)
    (λ _. subst (λ (row : Option Row). AnswersFor (parts_get_by (take_first t.parts) t) (get_by row p))
    (sym (first-row t.parts p.state it.stands it.whole)) (gets-by (take_first t.parts) t p it refl))

-- Subscribe -------------------------------------------------------------------------------------------

pub subscribes : (id : ConsumerId) (mode : Mode) (t : Work) (p : Progress) → StandsFor t p
    → (nat_le id.tag (greatest_tag id.session t.parts.rest.sessions) ≡ false → IsFree id t.parts)
    → AnswersFor (parts_subscribe id mode t) (subscribe id mode p)
unfolding subscribe parts_subscribe
subscribes id mode t p it free =
    let m : Parts = t.parts in
    answers-if (nat_le id.tag (greatest_tag id.session m.rest.sessions))
    (nat_le id.tag (greatest_tag id.session p.state.sessions)) (say_refused NumberSpent t)
    (if nat_le MOST_CONSUMERS (length m.served) then say_refused ConsumersFull t
    else say answer.Subscribed (with_parts (joined id mode m) t))
    (refuse NumberSpent p)
    (if nat_le MOST_CONSUMERS (length p.state.consumers) then refuse ConsumersFull p
    else reply answer.Subscribed (set_state (join id mode p.state) p))
    (ap (λ (s : State). nat_le id.tag (greatest_tag id.session s.sessions)) it.stands.rest)
    (λ _. says (answer.Refused NumberSpent) t p it)
    (λ above.
    answers-if (nat_le MOST_CONSUMERS (length m.served)) (nat_le MOST_CONSUMERS (length p.state.consumers))
    (say_refused ConsumersFull t) (say answer.Subscribed (with_parts (joined id mode m) t)) (refuse ConsumersFull p)
    (reply answer.Subscribed (set_state (join id mode p.state) p))
    (ap (λ (s : State). nat_le MOST_CONSUMERS (length s.consumers)) it.stands.rest
    ∙ ap (nat_le MOST_CONSUMERS) (length-map m.served consumer_at))
    (λ _. says (answer.Refused ConsumersFull) t p it)
    (λ _. record {
      work =
          held (joined id mode m) (join id mode p.state) t p it
          (joins m p.state it.stands it.whole id mode (free above));
      answer = refl;
    }))

-- Cancel ----------------------------------------------------------------------------------------------

cancels-by : (id : ConsumerId) (o : Option Served) (t : Work) (p : Progress) → StandsFor t p
    → one_of id t.parts.served ≡ o → AnswersFor (parts_cancel_by o t) (cancel_by (option_map consumer_at o) p)
cancels-by id None t p it found = says (answer.Refused NoConsumer) t p it
cancels-by id (Some one) t p it found = by one.consumer.cancelled
  where
    new : Consumer
    new = cancelled one.consumer

    made : Holds (changed new t.parts) (record (p.state) { consumers = put_consumer new p.state.consumers })
    made =
        changes-one t.parts p.state one new (held-of t p it) (one-in id t.parts.served one found) refl refl

    by : (b : Bool)
        → AnswersFor
        (if b then say_refused NoConsumer t
        else say answer.Done (with_parts (keep_ones needed_one (changed new t.parts)) t))
        (if b then refuse NoConsumer p
        else reply answer.Done (set_state
        (drop_finished (record (p.state) { consumers = put_consumer new p.state.consumers })) p))
    by true = says (answer.Refused NoConsumer) t p it
    by false = record { work = held _ _ t p it (finishes (changed new t.parts) _ made); answer = refl }

pub cancels : (id : ConsumerId) (t : Work) (p : Progress) → StandsFor t p → AnswersFor (parts_cancel id t) (cancel id p)
unfolding cancel parts_cancel
cancels id t p it =
    subst (λ (o : Option Consumer). AnswersFor (parts_cancel_by (one_of id t.parts.served) t) (cancel_by o p))
    (sym (one-of id t.parts p.state it.stands)) (cancels-by id (one_of id t.parts.served) t p it refl)

-- Credit ----------------------------------------------------------------------------------------------

credits-mode : (mode : Mode) (one : Served) (credit : ℕ) (t : Work) (p : Progress) → StandsFor t p
    → In one t.parts.served
    → AnswersFor (parts_credit_by_mode mode one credit t) (credit_by_mode mode one.consumer credit p)
credits-mode (Prefetch prefetch) one credit t p it here = says (answer.Refused WrongMode) t p it
credits-mode Link one credit t p it here =
    let m : Parts = t.parts in
    let c : Consumer = one.consumer in
    let made : Holds (changed (credited credit c) m) (set_credit c credit p.state) =
    changes-one m p.state one (credited credit c) (held-of t p it) here refl refl in
    record {
      work =
          subst (λ n. StandsFor
          (with_parts (parts_begin_to_wait (parts_credit c.id m) c.id (changed (credited credit c) m)) t)
          (set_state (begin_to_wait n c.id (set_credit c credit p.state)) p))
          (sym (credit-is c.id m p.state it.stands it.whole))
          (held _ _ t p it
          (begins (parts_credit c.id m) c.id (changed (credited credit c) m) (set_credit c credit p.state) made));
      answer = refl;
    }

credits-by : (id : ConsumerId) (o : Option Served) (credit : ℕ) (t : Work) (p : Progress) → StandsFor t p
    → one_of id t.parts.served ≡ o
    → AnswersFor (parts_credit_by o credit t) (credit_by (option_map consumer_at o) credit p)
credits-by id None credit t p it found = says (answer.Refused NoConsumer) t p it
credits-by id (Some one) credit t p it found =
    answers-if one.consumer.cancelled one.consumer.cancelled (say_refused NoConsumer t)
    (parts_credit_by_mode one.consumer.mode one credit t) (refuse NoConsumer p)
    (credit_by_mode one.consumer.mode one.consumer credit p) refl
    (λ _. says (answer.Refused NoConsumer) t p it)
    (λ _. credits-mode one.consumer.mode one credit t p it (one-in id t.parts.served one found))

pub gives_credit : (id : ConsumerId) (credit : ℕ) (t : Work) (p : Progress) → StandsFor t p
    → AnswersFor (parts_give_credit id credit t) (give_credit id credit p)
unfolding give_credit parts_give_credit
gives_credit id credit t p it =
    subst (λ (o : Option Consumer). AnswersFor (parts_credit_by (one_of id t.parts.served) credit t)
    (credit_by o credit p)) (sym (one-of id t.parts p.state it.stands))
    (credits-by id (one_of id t.parts.served) credit t p it refl)

-- Settle, Return, Discard -----------------------------------------------------------------------------

finishes-by : (o : Option Served) (outcome : Outcome) (id : ConsumerId) (ids : List ℕ) (t : Work) (p : Progress)
    → StandsFor t p
    → AnswersFor (parts_finish_by o outcome id ids t) (finish_by (option_map consumer_at o) outcome id ids p)
finishes-by None outcome id ids t p it = says (answer.Refused NoConsumer) t p it
finishes-by (Some one) outcome id ids t p it =
    let u : Work = parts_end_deliveries outcome id ids t in
    let q : Progress = end_deliveries outcome id ids p in
    let ends : StandsFor u q = ends-all outcome id ids t p it in
    let left : Holds (keep_ones needed_one u.parts) (drop_finished q.state) =
    finishes u.parts q.state (held-of u q ends) in
    record {
      work =
          subst (λ n. StandsFor
          (with_parts (parts_begin_to_wait (parts_credit id t.parts) id (keep_ones needed_one u.parts)) u)
          (set_state (begin_to_wait n id (drop_finished q.state)) q))
          (sym (credit-is id t.parts p.state it.stands it.whole))
          (held _ _ u q ends
          (begins (parts_credit id t.parts) id (keep_ones needed_one u.parts) (drop_finished q.state) left));
      answer = refl;
    }

pub finishes_ids : (outcome : Outcome) (id : ConsumerId) (ids : List ℕ) (t : Work) (p : Progress) → StandsFor t p
    → AnswersFor (parts_finish outcome id ids t) (finish outcome id ids p)
unfolding finish parts_finish
finishes_ids outcome id ids t p it =
    subst (λ (o : Option Consumer). AnswersFor (parts_finish_by (one_of id t.parts.served) outcome id ids t)
    (finish_by o outcome id ids p)) (sym (one-of id t.parts p.state it.stands))
    (finishes-by (one_of id t.parts.served) outcome id ids t p it)

-- Purge -----------------------------------------------------------------------------------------------

pub purges_all : (t : Work) (p : Progress) → StandsFor t p → AnswersFor (parts_purge t) (purge p)
unfolding purge parts_purge
purges_all t p it = record {
  work =
      held (purged t.parts) (record (p.state) { rows = map purge_row p.state.rows }) t p it
      (purges t.parts p.state it.stands it.whole);
  answer = ap (λ n. answer.Purged n) (ready-is t.parts p.state it.stands it.whole);
}

-- DeadAttach, DeadSettle ------------------------------------------------------------------------------

attaches-to : (term : ℕ) (m : Parts) (s : State) → Holds m s
    → Holds (attached_to term m) (record s { attached = term; given = 0 })
attaches-to term m s it = record {
  stands = record {
    rest = ap (λ (t : State). record t { attached = term; given = 0 }) it.stands.rest;
    perm = it.stands.perm;
    rising = it.stands.rising;
    long = it.stands.long;
  };
  whole = whole-rest m (attached_to term m).rest refl refl refl it.whole;
}

pub attaches : (term : Term) (t : Work) (p : Progress) → StandsFor t p
    → AnswersFor (parts_dead_attach term t) (dead_attach term p)
unfolding dead_attach parts_dead_attach
attaches term t p it =
    answers-if (is_at_least_once t.parts.rest.args.strategy && nat_lt t.parts.rest.attached term.0)
    (is_at_least_once p.state.args.strategy && nat_lt p.state.attached term.0)
    (say answer.Attached (with_parts (attached_to term.0 t.parts) t)) (say answer.Stale t)
    (reply answer.Attached (set_state (record (p.state) { attached = term.0; given = 0 }) p)) (reply answer.Stale p)
    (ap (λ (s : State). is_at_least_once s.args.strategy && nat_lt s.attached term.0) it.stands.rest)
    (λ _. record {
      work = held _ _ t p it (attaches-to term.0 t.parts p.state (held-of t p it));
      answer = refl;
    })
    (λ _. says answer.Stale t p it)

-- so many were settled in both
record SettlesFor (a : DeadSettled) (b : Settling) : Type 0 where
  work : StandsFor a.work b.progress
  count : b.count ≡ a.count

given-row : (number : ℕ) (m : Parts) (s : State) → Stands m s → IsWhole m
    → given_row number s ≡ option_map taken_row (take_given number m)
given-row number m s stands whole =
    ap (λ (t : State). if nat_le number t.given then dead_row number s.rows else None) stands.rest
    ∙ ap (λ (o : Option Row). if nat_le number m.rest.given then o else None)
    ((tells_dead m s stands whole).found number)
    ∙ by (nat_le number m.rest.given)
  where
    by : (b : Bool) → (if b then option_map taken_row (take_dead number m) else None)
        ≡ option_map taken_row (if b then take_dead number m else None)
    by true = refl
    by false = refl

given-dead : (b : Bool) (number : ℕ) (m : Parts) (taken : Taken)
    → (if b then take_dead number m else None) ≡ Some taken → take_dead number m ≡ Some taken
given-dead true number m taken is = is
given-dead false number m taken is = absurd cc

settles-by : (number : ℕ) (o : Option Taken) (a : DeadSettled) (b : Settling) → SettlesFor a b
    → take_given number a.work.parts ≡ o
    → SettlesFor (parts_settle_dead_by o a) (settle_dead_by (option_map taken_row o) b)
settles-by number None a b it found = it
settles-by number (Some taken) a b it found =
    let m : Parts = a.work.parts in
    let s : State = b.progress.state in
    let is =
    (tells_dead m s it.work.stands it.work.whole).taken number taken
    (given-dead (nat_le number m.rest.given) number m taken found) in
    record {
      work =
          held taken.left _ a.work b.progress it.work (goes taken.item taken.left s is.stands is.whole gone.DeadLettered);
      count = ap (λ n. n + 1) it.count;
    }

settles-all : (done : List DeadDone) (a : DeadSettled) (b : Settling) → SettlesFor a b
    → SettlesFor
    (fold (λ (now : DeadSettled) (one : DeadDone). parts_settle_dead_by (take_given one.number now.work.parts) now) a
    done)
    (fold (λ (now : Settling) (one : DeadDone). settle_dead_by (given_row one.number now.progress.state) now) b done)
settles-all [] a b it = it
settles-all (one ∷ done) a b it =
    settles-all done (parts_settle_dead_by (take_given one.number a.work.parts) a)
    (settle_dead_by (given_row one.number b.progress.state) b)
    (subst (λ (o : Option Row). SettlesFor (parts_settle_dead_by (take_given one.number a.work.parts) a)
    (settle_dead_by o b)) (sym (given-row one.number a.work.parts b.progress.state it.work.stands it.work.whole))
    (settles-by one.number (take_given one.number a.work.parts) a b it refl))

pub settles_dead : (term : Term) (done : List DeadDone) (t : Work) (p : Progress) → StandsFor t p
    → AnswersFor (parts_dead_settle term done t) (dead_settle term done p)
unfolding dead_settle parts_dead_settle
settles_dead term done t p it =
    let a : DeadSettled = parts_settle_dead done t in
    let b : Settling = settle_dead done p in
    let made : SettlesFor a b =
    settles-all done (record { work = t; count = 0 }) (record { progress = p; count = 0 })
    (record { work = it; count = refl }) in
    answers-if (is_at_least_once t.parts.rest.args.strategy && nat_eq term.0 t.parts.rest.attached)
    (is_at_least_once p.state.args.strategy && nat_eq term.0 p.state.attached)
    (say (answer.DeadSettled a.count) a.work) (say answer.Stale t) (reply (answer.DeadSettled b.count) b.progress)
    (reply answer.Stale p)
    (ap (λ (s : State). is_at_least_once s.args.strategy && nat_eq term.0 s.attached) it.stands.rest)
    (λ _. record { work = made.work; answer = ap (λ n. answer.DeadSettled n) made.count })
    (λ _. says answer.Stale t p it)
