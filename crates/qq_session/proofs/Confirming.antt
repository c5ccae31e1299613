-- Only a publish is confirmed.
use Rattle.std.proofs.Common.{◌≡◌, ℕ, ◌+◌, Bool, true, false, ◌&&◌, List, [], Option, Some, None, length, refl, sym, ◌∙◌, if◌then◌else◌}
use Rattle.std.specs.Prelude.{nat_le, nat_lt, nat_eq}
use Rattle.std.proofs.lemmas.Bool.{false≢true, cond_both}
use Rattle.qq_base.specs.declared.ids.ConsumerId.{ConsumerId}
use Rattle.qq_base.specs.declared.ids.Index.{Index}
use Rattle.qq_base.specs.declared.ids.Term.{Term}
use Rattle.qq_entry.specs.declared.answer.Answer.TheVariants as answer
use Rattle.qq_entry.specs.declared.answer.Cause.TheVariants.{NumberSpent, ConsumersFull}
use Rattle.qq_entry.specs.declared.command.Command.{Command}
use Rattle.qq_entry.specs.declared.command.Command.TheVariants.{Noop, Enqueue, Get, Subscribe, Cancel, Credit, Settle, Return, Discard, Purge, Down, DeadAttach, DeadSettle}
use Rattle.qq_entry.specs.declared.command.DeadDone.{DeadDone}
use Rattle.qq_entry.specs.declared.command.Entry.{Entry}
use Rattle.qq_entry.specs.declared.command.Mode.{Mode}
use Rattle.qq_entry.specs.declared.command.Mode.TheVariants.{Prefetch, Link}
use Rattle.qq_entry.specs.declared.command.Stamp.{Stamp}
use Rattle.qq_entry.specs.declared.message.Message.{Message}
use Rattle.qq_entry.specs.declared.message.Origin.{Origin}
use Rattle.qq_entry.specs.Command.{consumer_id, stamp}
use Rattle.qq_laws.specs.Published.{is_confirmed}
use Rattle.qq_model.specs.declared.TheConstants.{MOST_CONSUMERS}
use Rattle.qq_model.specs.declared.consumer.Consumer.{Consumer}
use Rattle.qq_model.specs.declared.consumer.Outcome.{Outcome}
use Rattle.qq_model.specs.declared.consumer.Outcome.TheVariants.{Settled, Returned, Discarded}
use Rattle.qq_model.specs.declared.place.Row.{Row}
use Rattle.qq_model.specs.declared.session.Gate.{Gate}
use Rattle.qq_model.specs.declared.session.Gate.TheVariants.{Fresh}
use Rattle.qq_model.specs.Audit.{next_index, next_step}
use Rattle.qq_model.specs.Changes.{Progress, consumer_of}
use Rattle.qq_model.specs.Choice.{next_message}
use Rattle.qq_model.specs.Commands.{Acted, reply, set_state, refuse, join, is_at_least_once, settle_dead, act, get_by, get, subscribe, cancel_by, cancel, credit_by_mode, credit_by, give_credit, finish_by, finish, purge, down, dead_attach, dead_settle}
use Rattle.qq_model.specs.Gate.{gate, admit, greatest_tag}
use Rattle.qq_model.specs.Serving.{check_out_all, is_credited, drain_by, drain, drain_after}
use Rattle.qq_model.specs.State.{State}
use Rattle.qq_model.specs.Step.{map_progress, carry_out, go_through, step_by, step}

-- what was done isn't confirmed
abbrev Other : Acted → Type 0
Other a = is_confirmed a.answer ≡ false

get-other : (p : Progress) → Other (get p)
unfolding get
get-other p =
    cond_both p.state.args.single_active _ (get_by (next_message p.state.rows) p) Other (λ _. refl)
    (λ _. by (next_message p.state.rows))
  where
    by : (o : Option Row) → Other (get_by o p)
    by None = refl
    by (Some row) = refl

subscribe-other : (id : ConsumerId) (mode : Mode) (p : Progress) → Other (subscribe id mode p)
unfolding subscribe
subscribe-other id mode p =
    let joins : Acted = reply answer.Subscribed (set_state (join id mode p.state) p) in
    let full : Acted = refuse ConsumersFull p in
    cond_both (nat_le id.tag (greatest_tag id.session p.state.sessions)) (refuse NumberSpent p)
    (if nat_le MOST_CONSUMERS (length p.state.consumers) then full else joins) Other (λ _. refl)
    (λ _. cond_both (nat_le MOST_CONSUMERS (length p.state.consumers)) full joins Other (λ _. refl) (λ _. refl))

cancel-other : (id : ConsumerId) (p : Progress) → Other (cancel id p)
unfolding cancel
cancel-other id p = by (consumer_of id p.state.consumers)
  where
    by : (o : Option Consumer) → Other (cancel_by o p)
    by None = refl
    by (Some consumer) = cond_both consumer.cancelled _ _ Other (λ _. refl) (λ _. refl)

credit-other : (id : ConsumerId) (credit : ℕ) (p : Progress) → Other (give_credit id credit p)
unfolding give_credit
credit-other id credit p = by (consumer_of id p.state.consumers)
  where
    by_mode : (mode : Mode) (consumer : Consumer) → Other (credit_by_mode mode consumer credit p)
    by_mode (Prefetch prefetch) consumer = refl
    by_mode Link consumer = refl

    by : (o : Option Consumer) → Other (credit_by o credit p)
    by None = refl
    by (Some consumer) =
        cond_both consumer.cancelled _ (credit_by_mode consumer.mode consumer credit p) Other (λ _. refl)
        (λ _. by_mode consumer.mode consumer)

drain-other : (id : ConsumerId) (wanted : Bool) (a : Acted) → Other a → Other (drain id wanted a)
drain-other id wanted a fine =
    cond_both (wanted && is_credited a.answer)
    (drain_by (consumer_of id a.progress.state.consumers) a.answer a.progress) a Other
    (λ _. by (consumer_of id a.progress.state.consumers)) (λ _. fine)
  where
    by : (o : Option Consumer) → Other (drain_by o a.answer a.progress)
    by None = fine
    by (Some consumer) = refl

finish-other : (outcome : Outcome) (id : ConsumerId) (ids : List ℕ) (p : Progress) → Other (finish outcome id ids p)
unfolding finish
finish-other outcome id ids p = by (consumer_of id p.state.consumers)
  where
    by : (o : Option Consumer) → Other (finish_by o outcome id ids p)
    by None = refl
    by (Some consumer) = refl

attach-other : (term : Term) (p : Progress) → Other (dead_attach term p)
unfolding dead_attach
attach-other term p =
    cond_both (is_at_least_once p.state.args.strategy && nat_lt p.state.attached term.0)
    (reply answer.Attached (set_state (record (p.state) { attached = term.0; given = 0 }) p)) (reply answer.Stale p)
    Other (λ _. refl) (λ _. refl)

settle-other : (term : Term) (done : List DeadDone) (p : Progress) → Other (dead_settle term done p)
unfolding dead_settle
settle-other term done p =
    cond_both (is_at_least_once p.state.args.strategy && nat_eq term.0 p.state.attached)
    (reply (answer.DeadSettled (settle_dead done p).count) (settle_dead done p).progress) (reply answer.Stale p) Other
    (λ _. refl) (λ _. refl)

-- a command is a publish, or what it does isn't confirmed
abbrev pub IsEnqueue : Command → Type 0
IsEnqueue command =
    (by : Stamp) × (origin : Option Origin) × (message : Message) × (command ≡ Enqueue by origin message)

carried-out : (s : State) (index : Index) (command : Command)
    → is_confirmed (carry_out index command s).answer ≡ true → IsEnqueue command
unfolding carry_out act drain_after purge down
carried-out s index (Enqueue by origin message) confirmed = (by, origin, message, refl)
carried-out s index (Get by) confirmed =
    absurd (false≢true (sym (get-other (record { state = s; effects = [] })) ∙ confirmed))
carried-out s index (Subscribe by tag mode) confirmed =
    absurd (false≢true (sym (subscribe-other (consumer_id by tag) mode (record { state = s; effects = [] }))
    ∙ confirmed))
carried-out s index (Cancel by tag) confirmed =
    absurd (false≢true (sym (cancel-other (consumer_id by tag) (record { state = s; effects = [] })) ∙ confirmed))
carried-out s index (Credit by tag count credit wanted) confirmed =
    let p : Progress = record { state = s; effects = [] } in
    let a : Acted = give_credit (consumer_id by tag) (count + credit) p in
    absurd (false≢true (sym (drain-other (consumer_id by tag) wanted (map_progress check_out_all a)
    (credit-other (consumer_id by tag) (count + credit) p)) ∙ confirmed))
carried-out s index (Settle by tag ids) confirmed =
    absurd (false≢true (sym (finish-other Settled (consumer_id by tag) ids (record { state = s; effects = [] }))
    ∙ confirmed))
carried-out s index (Return by tag ids) confirmed =
    absurd (false≢true (sym (finish-other Returned (consumer_id by tag) ids (record { state = s; effects = [] }))
    ∙ confirmed))
carried-out s index (Discard by tag ids) confirmed =
    absurd (false≢true (sym (finish-other Discarded (consumer_id by tag) ids (record { state = s; effects = [] }))
    ∙ confirmed))
carried-out s index (DeadAttach term) confirmed =
    absurd (false≢true (sym (attach-other term (record { state = s; effects = [] })) ∙ confirmed))
carried-out s index (DeadSettle term done) confirmed =
    absurd (false≢true (sym (settle-other term done (record { state = s; effects = [] })) ∙ confirmed))
carried-out s index (Noop version) confirmed = absurd (false≢true confirmed)
carried-out s index (Purge by) confirmed = absurd (false≢true confirmed)
carried-out s index (Down session) confirmed = absurd (false≢true confirmed)

-- a command that was carried out and confirmed is a publish
pub confirmed-enqueue : (s : State) (entry : Entry) → (next_step s entry).fresh ≡ true
    → is_confirmed (next_step s entry).answer ≡ true → IsEnqueue entry.command
unfolding step
confirmed-enqueue s entry fresh confirmed = by (stamp entry.command) fresh confirmed
  where
    index : Index
    index = next_index s

    passes : (g : Gate) (given : Stamp) → (go_through g (next_index s) given entry.command s).fresh ≡ true
        → is_confirmed (go_through g (next_index s) given entry.command s).answer ≡ true → IsEnqueue entry.command
    passes Fresh given fresh confirmed =
        carried-out (record s { sessions = admit s.sessions given }) (next_index s) entry.command confirmed
    passes _ given fresh confirmed = absurd (false≢true fresh)

    by : (o : Option Stamp) → (step_by o (next_index s) entry.command s).fresh ≡ true
        → is_confirmed (step_by o (next_index s) entry.command s).answer ≡ true → IsEnqueue entry.command
    by None fresh confirmed = carried-out s (next_index s) entry.command confirmed
    by (Some given) fresh confirmed = passes (gate s.sessions given) given fresh confirmed
