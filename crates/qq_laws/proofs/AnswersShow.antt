-- What a get is answered shows a confirmed publish.
use Rattle.std.proofs.Common.{◌≡◌, ℕ, ◌+◌, Bool, true, ◌&&◌, List, [], Option, Some, None, length, refl, subst, if◌then◌else◌}
use Rattle.std.specs.Prelude.{nat_le, nat_lt, nat_eq}
use Rattle.std.proofs.lemmas.Bool.{false≢true, cond_both}
use Rattle.qq_base.specs.declared.ids.Index.{Index}
use Rattle.qq_base.specs.declared.ids.ConsumerId.{ConsumerId}
use Rattle.qq_entry.specs.declared.queue.QueueArgs.{QueueArgs}
use Rattle.qq_entry.specs.declared.message.Message.{Message}
use Rattle.qq_entry.specs.declared.command.Stamp.{Stamp}
use Rattle.qq_entry.specs.declared.command.Command.{Command}
use Rattle.qq_entry.specs.declared.command.Command.TheVariants.{Enqueue, Get, Subscribe, Cancel, Credit, Settle, Return, Discard, DeadAttach, DeadSettle}
use Rattle.qq_entry.specs.declared.command.Mode.{Mode}
use Rattle.qq_entry.specs.declared.command.Mode.TheVariants.{Prefetch, Link}
use Rattle.qq_entry.specs.declared.command.Entry.{Entry}
use Rattle.qq_base.specs.declared.ids.Term.{Term}
use Rattle.qq_entry.specs.declared.command.DeadDone.{DeadDone}
use Rattle.qq_entry.specs.declared.answer.Answer.TheVariants as answer
use Rattle.qq_entry.specs.declared.answer.Cause.TheVariants.{NumberSpent, ConsumersFull}
use Rattle.qq_entry.specs.declared.answer.Full.{Full}
use Rattle.qq_model.specs.declared.place.Row.{Row}
use Rattle.qq_model.specs.declared.consumer.Consumer.{Consumer}
use Rattle.qq_model.specs.declared.consumer.Outcome.{Outcome}
use Rattle.qq_model.specs.declared.consumer.Outcome.TheVariants.{Settled, Returned, Discarded}
use Rattle.qq_model.specs.declared.session.Gate.{Gate}
use Rattle.qq_model.specs.declared.session.Gate.TheVariants.{Fresh}
use Rattle.qq_model.specs.State.{State, empty_queue}
use Rattle.qq_model.specs.Choice.{next_message}
use Rattle.qq_model.specs.Limits.{publish_limit}
use Rattle.qq_model.specs.Changes.{Progress, consumer_of}
use Rattle.qq_model.specs.declared.TheConstants.{MOST_CONSUMERS}
use Rattle.qq_model.specs.Gate.{gate, admit, greatest_tag}
use Rattle.qq_entry.specs.Command.{consumer_id}
use Rattle.qq_model.specs.Commands.{Acted, reply, set_state, refuse, join, is_at_least_once, settle_dead, act, enqueue_by, enqueue, get_by, get, subscribe, cancel_by, cancel, credit_by_mode, credit_by, give_credit, finish_by, finish, purge, down, dead_attach, dead_settle}
use Rattle.qq_model.specs.Serving.{check_out_all, is_credited, drain_by, drain, drain_after}
use Rattle.qq_entry.specs.Command.{stamp}
use Rattle.qq_model.specs.Step.{map_progress, carry_out, go_through, step_by, step}
use Rattle.qq_model.specs.Audit.{next_index, next_step, audit_of, state_after}
use Rattle.qq_laws.specs.Published.{Publish, confirmed_publishes, AnswerShows}
use Rattle.qq_model.proofs.Choices.{next_message-in}
use Rattle.qq_laws.proofs.Runs.{publishes_at, sound_at}
use Rattle.qq_laws.proofs.Since.{Orderly, Since-start, publishes_of, row_shows}
use Rattle.qq_laws.proofs.Steps.{Sound}

-- an answer shows a publish of the list
abbrev ActedShows : List Publish → Acted → Type 0
ActedShows all a = AnswerShows all a.answer

get-shows : (s : State) (command : Command) → Orderly s
    → ActedShows (publishes_of s) (get (record { state = s; effects = [] }))
unfolding get
get-shows s command orderly =
    cond_both s.args.single_active _ (get_by (next_message s.rows) start) (ActedShows (publishes_of s)) (λ _. tt)
    (λ _. by (next_message s.rows) refl)
  where
    start : Progress
    start = record { state = s; effects = [] }

    by : (o : Option Row) → next_message s.rows ≡ o → ActedShows (publishes_of s) (get_by o start)
    by None found = tt
    by (Some row) found =
        row_shows s command start row 0 orderly (Since-start s command start refl refl refl refl refl)
        (next_message-in s.rows row found).0

enqueue-shows : (all : List Publish) (index : Index) (message : Message) (p : Progress)
    → ActedShows all (enqueue index message p)
unfolding enqueue
enqueue-shows all index message p = by (publish_limit p.state.args p.state.rows)
  where
    by : (o : Option Full) → ActedShows all (enqueue_by o index message p)
    by None = tt
    by (Some full) = tt

subscribe-shows : (all : List Publish) (id : ConsumerId) (mode : Mode) (p : Progress)
    → ActedShows all (subscribe id mode p)
unfolding subscribe
subscribe-shows all id mode p =
    let joins : Acted = reply answer.Subscribed (set_state (join id mode p.state) p) in
    let full : Acted = refuse ConsumersFull p in
    cond_both (nat_le id.tag (greatest_tag id.session p.state.sessions)) (refuse NumberSpent p)
    (if nat_le MOST_CONSUMERS (length p.state.consumers) then full else joins) (ActedShows all) (λ _. tt)
    (λ _. cond_both (nat_le MOST_CONSUMERS (length p.state.consumers)) full joins (ActedShows all) (λ _. tt)
    (λ _. tt))

cancel-shows : (all : List Publish) (id : ConsumerId) (p : Progress) → ActedShows all (cancel id p)
unfolding cancel
cancel-shows all id p = by (consumer_of id p.state.consumers)
  where
    by : (o : Option Consumer) → ActedShows all (cancel_by o p)
    by None = tt
    by (Some consumer) = cond_both consumer.cancelled _ _ (ActedShows all) (λ _. tt) (λ _. tt)

credit-shows : (all : List Publish) (id : ConsumerId) (credit : ℕ) (p : Progress)
    → ActedShows all (give_credit id credit p)
unfolding give_credit
credit-shows all id credit p = by (consumer_of id p.state.consumers)
  where
    by_mode : (mode : Mode) (consumer : Consumer) → ActedShows all (credit_by_mode mode consumer credit p)
    by_mode (Prefetch prefetch) consumer = tt
    by_mode Link consumer = tt

    by : (o : Option Consumer) → ActedShows all (credit_by o credit p)
    by None = tt
    by (Some consumer) =
        cond_both consumer.cancelled _ (credit_by_mode consumer.mode consumer credit p) (ActedShows all) (λ _. tt)
        (λ _. by_mode consumer.mode consumer)

drain-shows : (all : List Publish) (id : ConsumerId) (wanted : Bool) (a : Acted) → ActedShows all a
    → ActedShows all (drain id wanted a)
drain-shows all id wanted a fine =
    cond_both (wanted && is_credited a.answer)
    (drain_by (consumer_of id a.progress.state.consumers) a.answer a.progress) a (ActedShows all)
    (λ _. by (consumer_of id a.progress.state.consumers)) (λ _. fine)
  where
    by : (o : Option Consumer) → ActedShows all (drain_by o a.answer a.progress)
    by None = fine
    by (Some consumer) = tt

finish-shows : (all : List Publish) (outcome : Outcome) (id : ConsumerId) (ids : List ℕ) (p : Progress)
    → ActedShows all (finish outcome id ids p)
unfolding finish
finish-shows all outcome id ids p = by (consumer_of id p.state.consumers)
  where
    by : (o : Option Consumer) → ActedShows all (finish_by o outcome id ids p)
    by None = tt
    by (Some consumer) = tt

attach-shows : (all : List Publish) (term : Term) (p : Progress) → ActedShows all (dead_attach term p)
unfolding dead_attach
attach-shows all term p =
    cond_both (is_at_least_once p.state.args.strategy && nat_lt p.state.attached term.0)
    (reply answer.Attached (set_state (record (p.state) { attached = term.0; given = 0 }) p)) (reply answer.Stale p)
    (ActedShows all) (λ _. tt) (λ _. tt)

settle-shows : (all : List Publish) (term : Term) (done : List DeadDone) (p : Progress)
    → ActedShows all (dead_settle term done p)
unfolding dead_settle
settle-shows all term done p =
    cond_both (is_at_least_once p.state.args.strategy && nat_eq term.0 p.state.attached)
    (reply (answer.DeadSettled (settle_dead done p).count) (settle_dead done p).progress) (reply answer.Stale p)
    (ActedShows all) (λ _. tt) (λ _. tt)

carry_out-shows : (s : State) (index : Index) (command : Command) → Orderly s
    → ActedShows (publishes_of s) (carry_out index command s)
unfolding carry_out act drain_after purge down
carry_out-shows s index (Enqueue stamp origin message) orderly =
    enqueue-shows (publishes_of s) index message (record { state = s; effects = [] })
carry_out-shows s index (Get stamp) orderly = get-shows s (Get stamp) orderly
carry_out-shows s index (Subscribe stamp tag mode) orderly =
    subscribe-shows (publishes_of s) (consumer_id stamp tag) mode (record { state = s; effects = [] })
carry_out-shows s index (Cancel stamp tag) orderly =
    cancel-shows (publishes_of s) (consumer_id stamp tag) (record { state = s; effects = [] })
carry_out-shows s index (Credit stamp tag count credit wanted) orderly =
    let a : Acted = give_credit (consumer_id stamp tag) (count + credit) (record { state = s; effects = [] }) in
    drain-shows (publishes_of s) (consumer_id stamp tag) wanted (map_progress check_out_all a)
    (credit-shows (publishes_of s) (consumer_id stamp tag) (count + credit) (record { state = s; effects = [] }))
carry_out-shows s index (Settle stamp tag ids) orderly =
    finish-shows (publishes_of s) Settled (consumer_id stamp tag) ids (record { state = s; effects = [] })
carry_out-shows s index (Return stamp tag ids) orderly =
    finish-shows (publishes_of s) Returned (consumer_id stamp tag) ids (record { state = s; effects = [] })
carry_out-shows s index (Discard stamp tag ids) orderly =
    finish-shows (publishes_of s) Discarded (consumer_id stamp tag) ids (record { state = s; effects = [] })
carry_out-shows s index (DeadAttach term) orderly =
    attach-shows (publishes_of s) term (record { state = s; effects = [] })
carry_out-shows s index (DeadSettle term done) orderly =
    settle-shows (publishes_of s) term done (record { state = s; effects = [] })
carry_out-shows s index _ orderly = tt

-- what an entry is answered, if it was let in
next-shows : (s : State) (entry : Entry) → Sound s → (next_step s entry).fresh ≡ true
    → AnswerShows (publishes_of s) (next_step s entry).answer
unfolding step
next-shows s entry sound fresh = by (stamp entry.command) fresh
  where
    index : Index
    index = next_index s

    passes : (g : Gate) (stamp : Stamp) → (go_through g index stamp entry.command s).fresh ≡ true
        → AnswerShows (publishes_of s) (go_through g index stamp entry.command s).answer
    passes Fresh stamp fresh =
        let s' : State = record s { sessions = admit s.sessions stamp } in
        carry_out-shows s' index entry.command
        (record {
          rising = sound.orderly.rising;
          counted = sound.orderly.counted;
          arrivals = sound.orderly.arrivals;
          messages = sound.orderly.messages;
        })
    passes _ stamp fresh = absurd (false≢true fresh)

    by : (o : Option Stamp) → (step_by o index entry.command s).fresh ≡ true
        → AnswerShows (publishes_of s) (step_by o index entry.command s).answer
    by None fresh = carry_out-shows s index entry.command sound.orderly
    by (Some stamp) fresh = passes (gate s.sessions stamp) stamp fresh

pub answers_show : (args : QueueArgs) (entries : List Entry) (entry : Entry) → let made =
    next_step (state_after (empty_queue args) entries) entry in
    made.fresh ≡ true → AnswerShows (confirmed_publishes (audit_of (empty_queue args) entries)) made.answer
answers_show args entries entry fresh =
    let s : State = state_after (empty_queue args) entries in
    subst (λ (all : List Publish). AnswerShows all (next_step s entry).answer) (publishes_at args entries)
    (next-shows s entry (sound_at args entries) fresh)
