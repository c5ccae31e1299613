-- A command is refused exactly where its row of the table says so.
use Rattle.std.proofs.Common.{◌≡◌, ℕ, ◌+◌, Bool, true, false, ◌&&◌, List, [], Option, Some, None, length, refl, sym, ap, ◌∙◌, if◌then◌else◌}
use Rattle.std.specs.Prelude.{nat_eq, nat_le, nat_lt}
use Rattle.std.proofs.lemmas.Bool.{false≢true, cond_both, and_parts}
use Rattle.qq_base.specs.declared.ids.Index.{Index}
use Rattle.qq_base.specs.declared.ids.ConsumerId.{ConsumerId}
use Rattle.qq_entry.specs.Command.{consumer_id}
use Rattle.qq_entry.specs.declared.answer.Answer.{Answer}
use Rattle.qq_entry.specs.declared.answer.Answer.TheVariants as answer
use Rattle.qq_entry.specs.declared.answer.Cause.{Cause}
use Rattle.qq_entry.specs.declared.answer.Cause.TheVariants.{ConsumersFull, NoConsumer, NumberSpent, SingleActive}
use Rattle.qq_entry.specs.declared.answer.Full.{Full}
use Rattle.qq_entry.specs.declared.command.Command.{Command}
use Rattle.qq_entry.specs.declared.command.Command.TheVariants.{Noop, Enqueue, Get, Subscribe, Cancel, Credit, Settle, Return, Discard, Purge, Down, DeadAttach, DeadSettle}
use Rattle.qq_entry.specs.declared.command.Entry.{Entry}
use Rattle.qq_base.specs.declared.ids.SessionId.{SessionId}
use Rattle.qq_base.specs.declared.ids.Term.{Term}
use Rattle.qq_entry.specs.declared.command.DeadDone.{DeadDone}
use Rattle.qq_entry.specs.declared.message.Message.{Message}
use Rattle.qq_entry.specs.declared.command.Mode.{Mode}
use Rattle.qq_entry.specs.declared.command.Mode.TheVariants.{Prefetch, Link}
use Rattle.qq_model.specs.declared.TheConstants.{MOST_CONSUMERS}
use Rattle.qq_model.specs.declared.consumer.Consumer.{Consumer}
use Rattle.qq_model.specs.declared.consumer.Outcome.{Outcome}
use Rattle.qq_model.specs.declared.consumer.Outcome.TheVariants.{Settled, Returned, Discarded}
use Rattle.qq_model.specs.declared.place.Row.{Row}
use Rattle.qq_model.specs.State.{State, Sessions}
use Rattle.qq_model.specs.Choice.{next_message}
use Rattle.qq_model.specs.Limits.{publish_limit}
use Rattle.qq_model.specs.Changes.{Progress, consumer_of}
use Rattle.qq_model.specs.Commands.{Acted, act, cancel, cancel_by, credit_by, credit_by_mode, dead_attach, dead_settle, down, enqueue, enqueue_by, finish, finish_by, get, get_by, give_credit, is_at_least_once, join, purge, refuse, reply, set_state, settle_dead, subscribe}
use Rattle.qq_model.specs.Gate.{admit, greatest_tag}
use Rattle.qq_model.specs.Serving.{check_out_all, drain_after, drain_by, is_credited}
use Rattle.qq_model.specs.Step.{Step, carry_out, map_progress}
use Rattle.qq_model.specs.Audit.{next_index, next_step}
use Rattle.qq_laws.specs.Refusals.{RefusesExactly, refusal_in, refused_absent, refused_cancelled, refused_credit, refused_join, refused_mode, refused_with}
use Rattle.qq_laws.proofs.Carried.{is_carried}
use Rattle.qq_laws.proofs.Subscribing.{admit-tag}
use Rattle.qq_laws.proofs.TakenLemmas.{made-carried}

-- The commands -----------------------------------------------------------------------------------------

get-refusal : (p : Progress)
    → refusal_in (get p).answer ≡ (if p.state.args.single_active then Some SingleActive else None)
unfolding get
get-refusal p = by p.state.args.single_active (next_message p.state.rows)
  where
    by : (single : Bool) (o : Option Row)
        → refusal_in (if single then refuse SingleActive p else get_by o p).answer
        ≡ (if single then Some SingleActive else None)
    by true o = refl
    by false None = refl
    by false (Some row) = refl

join-refusal : (id : ConsumerId) (mode : Mode) (p : Progress)
    → refusal_in (subscribe id mode p).answer
    ≡ refused_join id.tag (greatest_tag id.session p.state.sessions) (length p.state.consumers)
unfolding subscribe
join-refusal id mode p =
    by (nat_le id.tag (greatest_tag id.session p.state.sessions)) (nat_le MOST_CONSUMERS (length p.state.consumers))
  where
    by : (spent full : Bool)
        → refusal_in (if spent then refuse NumberSpent p else if full then refuse ConsumersFull p
        else reply answer.Subscribed (set_state (join id mode p.state) p)).answer
        ≡ (if spent then Some NumberSpent else if full then Some ConsumersFull else None)
    by true full = refl
    by false true = refl
    by false false = refl

cancel-refusal : (id : ConsumerId) (p : Progress)
    → refusal_in (cancel id p).answer ≡ refused_cancelled (consumer_of id p.state.consumers)
unfolding cancel
cancel-refusal id p = by (consumer_of id p.state.consumers)
  where
    flag : (b : Bool) (a : Acted) → refusal_in a.answer ≡ None
        → refusal_in (if b then refuse NoConsumer p else a).answer ≡ (if b then Some NoConsumer else None)
    flag true a none = refl
    flag false a none = none

    by : (o : Option Consumer) → refusal_in (cancel_by o p).answer ≡ refused_cancelled o
    by None = refl
    by (Some one) = flag one.cancelled _ refl

credit-refusal : (id : ConsumerId) (credit : ℕ) (p : Progress)
    → refusal_in (give_credit id credit p).answer ≡ refused_credit (consumer_of id p.state.consumers)
unfolding give_credit
credit-refusal id credit p = by (consumer_of id p.state.consumers)
  where
    by_mode : (mode : Mode) (one : Consumer)
        → refusal_in (credit_by_mode mode one credit p).answer ≡ refused_mode mode
    by_mode (Prefetch prefetch) one = refl
    by_mode Link one = refl

    flag : (b : Bool) (a : Acted) (o : Option Cause) → refusal_in a.answer ≡ o
        → refusal_in (if b then refuse NoConsumer p else a).answer ≡ (if b then Some NoConsumer else o)
    flag true a o same = refl
    flag false a o same = same

    by : (o : Option Consumer) → refusal_in (credit_by o credit p).answer ≡ refused_credit o
    by None = refl
    by (Some one) =
        flag one.cancelled (credit_by_mode one.mode one credit p) (refused_mode one.mode) (by_mode one.mode one)

finish-refusal : (outcome : Outcome) (id : ConsumerId) (ids : List ℕ) (p : Progress)
    → refusal_in (finish outcome id ids p).answer ≡ refused_absent (consumer_of id p.state.consumers)
unfolding finish
finish-refusal outcome id ids p = by (consumer_of id p.state.consumers)
  where
    by : (o : Option Consumer) → refusal_in (finish_by o outcome id ids p).answer ≡ refused_absent o
    by None = refl
    by (Some one) = refl

enqueued : (index : Index) (message : Message) (p : Progress) → refusal_in (enqueue index message p).answer ≡ None
unfolding enqueue
enqueued index message p = by (publish_limit p.state.args p.state.rows)
  where
    by : (o : Option Full) → refusal_in (enqueue_by o index message p).answer ≡ None
    by None = refl
    by (Some full) = refl

purged : (p : Progress) → refusal_in (purge p).answer ≡ None
unfolding purge
purged p = refl

ended : (session : SessionId) (p : Progress) → refusal_in (down session p).answer ≡ None
unfolding down
ended session p = refl

attached : (term : Term) (p : Progress) → refusal_in (dead_attach term p).answer ≡ None
unfolding dead_attach
attached term p = by (is_at_least_once p.state.args.strategy && nat_lt p.state.attached term.0)
  where
    by : (b : Bool)
        → refusal_in (if b then reply answer.Attached (set_state (record (p.state) {
          attached = term.0;
          given = 0;
        }) p) else reply answer.Stale p).answer ≡ None
    by true = refl
    by false = refl

settled : (term : Term) (done : List DeadDone) (p : Progress) → refusal_in (dead_settle term done p).answer ≡ None
unfolding dead_settle
settled term done p = by (is_at_least_once p.state.args.strategy && nat_eq term.0 p.state.attached)
  where
    by : (b : Bool)
        → refusal_in (if b then (let settling = settle_dead done p in
        reply (answer.DeadSettled settling.count) settling.progress) else reply answer.Stale p).answer ≡ None
    by true = refl
    by false = refl

-- a command's row of the table
act-refusal : (index : Index) (command : Command) (s : State) (x : Sessions)
    → refusal_in (act index command (record { state = record s { sessions = x }; effects = [] })).answer
    ≡ refused_with x s command
unfolding act
act-refusal index (Noop version) s x = refl
act-refusal index (Enqueue given origin message) s x = enqueued index message _
act-refusal index (Get given) s x = get-refusal _
act-refusal index (Subscribe given tag mode) s x = join-refusal (consumer_id given tag) mode _
act-refusal index (Cancel given tag) s x = cancel-refusal (consumer_id given tag) _
act-refusal index (Credit given tag count credit drain) s x =
    credit-refusal (consumer_id given tag) (count + credit) _
act-refusal index (Settle given tag ids) s x = finish-refusal Settled (consumer_id given tag) ids _
act-refusal index (Return given tag ids) s x = finish-refusal Returned (consumer_id given tag) ids _
act-refusal index (Discard given tag ids) s x = finish-refusal Discarded (consumer_id given tag) ids _
act-refusal index (Purge given) s x = purged _
act-refusal index (Down session) s x = ended session _
act-refusal index (DeadAttach term) s x = attached term _
act-refusal index (DeadSettle term done) s x = settled term done _

-- What follows -----------------------------------------------------------------------------------------

credited-unrefused : (said : Answer) → is_credited said ≡ true → refusal_in said ≡ None
credited-unrefused (answer.Credited n) is = refl
credited-unrefused _ is = absurd (false≢true is)

pub drain-refusal : (command : Command) (a : Acted)
    → refusal_in (drain_after command a).answer ≡ refusal_in a.answer
unfolding drain_after
drain-refusal (Credit given tag count credit wanted) a =
    cond_both (wanted && is_credited a.answer)
    (drain_by (consumer_of (consumer_id given tag) a.progress.state.consumers) a.answer a.progress) a
    (λ (b : Acted). refusal_in b.answer ≡ refusal_in a.answer)
    (λ drains. by (credited-unrefused a.answer (and_parts wanted (is_credited a.answer) drains).1)
    (consumer_of (consumer_id given tag) a.progress.state.consumers)) (λ _. refl)
  where
    by : refusal_in a.answer ≡ None → (o : Option Consumer)
        → refusal_in (drain_by o a.answer a.progress).answer ≡ refusal_in a.answer
    by none None = refl
    by none (Some one) = sym none
drain-refusal _ a = refl

carried-refusal : (index : Index) (command : Command) (s : State) (x : Sessions)
    → refusal_in (carry_out index command (record s { sessions = x })).answer ≡ refused_with x s command
unfolding carry_out
carried-refusal index command s x =
    drain-refusal command (map_progress check_out_all
    (act index command (record { state = record s { sessions = x }; effects = [] })))
    ∙ act-refusal index command s x

pub refuses_exactly : (s : State) (entry : Entry) → RefusesExactly s entry
refuses_exactly s entry fresh = by entry.command refl
  where
    -- the sessions matter to a subscribe alone
    other : (command : Command) → entry.command ≡ command
        → refused_with (is_carried s entry fresh).sessions s command ≡ refused_with s.sessions s command
        → refusal_in (next_step s entry).answer ≡ refused_with s.sessions s command
    other command is same =
        let it = is_carried s entry fresh in
        ap refusal_in it.answer
        ∙ ap (λ c. refusal_in (carry_out (next_index s) c (record s { sessions = it.sessions })).answer) is
        ∙ carried-refusal (next_index s) command s it.sessions ∙ same

    by : (command : Command) → entry.command ≡ command
        → refusal_in (next_step s entry).answer ≡ refused_with s.sessions s entry.command
    by (Subscribe given tag mode) is =
        let made = made-carried s entry given (Subscribe given tag mode) is refl fresh in
        ap (λ (m : Step). refusal_in m.answer) made
        ∙ carried-refusal (next_index s) (Subscribe given tag mode) s (admit s.sessions given)
        ∙ ap (λ n. refused_join tag n (length s.consumers)) (admit-tag s.sessions given)
        ∙ ap (refused_with s.sessions s) (sym is)
    by command is = other command is refl ∙ ap (refused_with s.sessions s) (sym is)
