-- How a command itself changes the consumers.
use Rattle.std.proofs.Common.{◌≡◌, ℕ, ◌+◌, ◌-◌, Bool, true, not, ◌&&◌, List, [], ◌∷◌, ◌++◌, Option, Some, None, refl, sym, ◌∙◌, subst, length}
use Rattle.std.specs.Prelude.{nat_eq, nat_lt, nat_le, filter}
use Rattle.std.proofs.lemmas.Bool.{cond_both}
use Rattle.qq_base.specs.declared.ids.Index.{Index}
use Rattle.qq_base.specs.declared.ids.Term.{Term}
use Rattle.qq_base.specs.declared.ids.SessionId.{SessionId}
use Rattle.qq_base.specs.declared.ids.ConsumerId.{ConsumerId}
use Rattle.qq_entry.specs.Command.{consumer_id}
use Rattle.qq_entry.specs.declared.answer.Answer.TheVariants as answer
use Rattle.qq_entry.specs.declared.answer.Cause.TheVariants.{SingleActive, NumberSpent, ConsumersFull, NoConsumer}
use Rattle.qq_entry.specs.declared.answer.Full.{Full}
use Rattle.qq_entry.specs.declared.command.Command.{Command}
use Rattle.qq_entry.specs.declared.command.Command.TheVariants.{Noop, Enqueue, Get, Subscribe, Cancel, Credit, Settle, Return, Discard, Purge, Down, DeadAttach, DeadSettle}
use Rattle.qq_entry.specs.declared.command.DeadDone.{DeadDone}
use Rattle.qq_entry.specs.declared.command.Mode.{Mode}
use Rattle.qq_entry.specs.declared.command.Mode.TheVariants.{Prefetch, Link}
use Rattle.qq_entry.specs.declared.command.Stamp.{Stamp}
use Rattle.qq_entry.specs.declared.message.Message.{Message}
use Rattle.qq_model.specs.declared.TheConstants.{MOST_CONSUMERS}
use Rattle.qq_model.specs.declared.consumer.Consumer.{Consumer}
use Rattle.qq_model.specs.declared.consumer.Outcome.{Outcome}
use Rattle.qq_model.specs.declared.consumer.Outcome.TheVariants.{Settled, Returned, Discarded}
use Rattle.qq_model.specs.declared.place.Row.{Row}
use Rattle.qq_model.specs.State.{State}
use Rattle.qq_model.specs.Gate.{greatest_tag}
use Rattle.qq_model.specs.Choice.{next_message}
use Rattle.qq_model.specs.Limits.{publish_limit}
use Rattle.qq_model.specs.Changes.{Progress, put_consumer, consumer_of, take_turn, begin_to_wait, drop_finished, credit_of, is_needed}
use Rattle.qq_model.specs.Commands.{Acted, reply, refuse, set_state, act, enqueue_by, enqueue, get_by, get, new_consumer, join, subscribe, cancel_by, cancel, set_credit, credit_by_mode, credit_by, give_credit, end_deliveries, finish_by, finish, purge, is_of_session, return_session, down, is_at_least_once, dead_attach, given_row, Settling, settle_dead_by, settle_dead, dead_settle}
use Rattle.qq_base.proofs.Lists.{In, fold-keeps}
use Rattle.qq_model.proofs.ActKeeps.{return_session-keeps}
use Rattle.qq_model.proofs.Ids.{consumer-found}
use Rattle.qq_laws.proofs.Endings.{end_deliveries-keep}

-- a command is a subscribe, a cancel or a credit of a consumer
abbrev pub Subscribes : Command → ConsumerId → Mode → Type 0
Subscribes command id mode =
    (given : Stamp) × (tag : ℕ) × (command ≡ Subscribe given tag mode) × (id ≡ consumer_id given tag)

abbrev pub Cancels : Command → ConsumerId → Type 0
Cancels command id = (given : Stamp) × (tag : ℕ) × (command ≡ Cancel given tag) × (id ≡ consumer_id given tag)

abbrev pub Credits : Command → ConsumerId → ℕ → Type 0
Credits command id total =
    (given : Stamp) × (tag : ℕ) × (count : ℕ) × (credit : ℕ) × (wanted : Bool)
    × (command ≡ Credit given tag count credit wanted) × (id ≡ consumer_id given tag) × (total ≡ count + credit)

-- each change of the consumers that a command itself is made of keeps L
pub record KeepsConsumers (command : Command) (L : List Consumer → Type 0) : Type 0 where
  pub join : (consumers : List Consumer) (id : ConsumerId) (mode : Mode) (turn : ℕ) → L consumers
      → Subscribes command id mode → L (consumers ++ new_consumer id mode turn ∷ [])
  pub cancel : (consumers : List Consumer) (id : ConsumerId) (one : Consumer) → L consumers
      → consumer_of id consumers ≡ Some one → Cancels command id
      → L (put_consumer (record one { cancelled = true }) consumers)
  pub credit : (consumers : List Consumer) (id : ConsumerId) (one : Consumer) (total : ℕ) → L consumers
      → consumer_of id consumers ≡ Some one → one.mode ≡ Link → Credits command id total
      → L (put_consumer (record one { credit = total - one.count }) consumers)
  pub turn : (consumers : List Consumer) (one : Consumer) (turn : ℕ) → L consumers → In one consumers
      → L (put_consumer (record one { turn = turn }) consumers)
  pub needed : (rows : List Row) (consumers : List Consumer) → L consumers → L (filter (is_needed rows) consumers)
  pub leave : (consumers : List Consumer) (session : SessionId) → L consumers → command ≡ Down session
      → L (filter (λ (one : Consumer). not (is_of_session session one)) consumers)

abbrev After : (List Consumer → Type 0) → Acted → Type 0
After L a = L a.progress.state.consumers

-- a consumer may begin to wait
waits : {command : Command} (L : List Consumer → Type 0) → KeepsConsumers command L → (before : ℕ) (id : ConsumerId)
    (s : State) → L s.consumers → L (begin_to_wait before id s).consumers
waits L keeps before id s holds =
    cond_both _ (take_turn (consumer_of id s.consumers) s) s (λ (t : State). L t.consumers)
    (λ _. by (consumer_of id s.consumers) refl) (λ _. holds)
  where
    by : (o : Option Consumer) → consumer_of id s.consumers ≡ o → L (take_turn o s).consumers
    by None found = holds
    by (Some consumer) found =
        keeps.turn s.consumers consumer (s.turns + 1) holds (consumer-found id s.consumers consumer found)

enqueue-after : (L : List Consumer → Type 0) (index : Index) (message : Message) (p : Progress) → L p.state.consumers
    → After L (enqueue index message p)
unfolding enqueue
enqueue-after L index message p holds = by (publish_limit p.state.args p.state.rows)
  where
    by : (o : Option Full) → After L (enqueue_by o index message p)
    by None = holds
    by (Some full) = holds

get-after : (L : List Consumer → Type 0) (p : Progress) → L p.state.consumers → After L (get p)
unfolding get
get-after L p holds =
    cond_both p.state.args.single_active (refuse SingleActive p) (get_by (next_message p.state.rows) p) (After L)
    (λ _. holds) (λ _. by (next_message p.state.rows))
  where
    by : (o : Option Row) → After L (get_by o p)
    by None = holds
    by (Some row) = holds

subscribe-after : {command : Command} (L : List Consumer → Type 0) → KeepsConsumers command L → (id : ConsumerId)
    (mode : Mode) (p : Progress) → Subscribes command id mode → L p.state.consumers → After L (subscribe id mode p)
unfolding subscribe
subscribe-after L keeps id mode p is holds =
    cond_both (nat_le id.tag (greatest_tag id.session p.state.sessions)) (refuse NumberSpent p) _ (After L)
    (λ _. holds) (λ _.
    cond_both (nat_le MOST_CONSUMERS (length p.state.consumers)) (refuse ConsumersFull p)
    (reply answer.Subscribed (set_state (join id mode p.state) p)) (After L) (λ _. holds)
    (λ _. keeps.join p.state.consumers id mode (p.state.turns + 1) holds is))

cancel-after : {command : Command} (L : List Consumer → Type 0) → KeepsConsumers command L → (id : ConsumerId)
    (p : Progress) → Cancels command id → L p.state.consumers → After L (cancel id p)
unfolding cancel
cancel-after L keeps id p is holds = by (consumer_of id p.state.consumers) refl
  where
    by : (o : Option Consumer) → consumer_of id p.state.consumers ≡ o → After L (cancel_by o p)
    by None found = holds
    by (Some consumer) found =
        cond_both consumer.cancelled (refuse NoConsumer p) _ (After L) (λ _. holds)
        (λ _. keeps.needed p.state.rows _ (keeps.cancel p.state.consumers id consumer holds found is))

credit-after : {command : Command} (L : List Consumer → Type 0) → KeepsConsumers command L → (id : ConsumerId)
    (total : ℕ) (p : Progress) → Credits command id total → L p.state.consumers → After L (give_credit id total p)
unfolding give_credit
credit-after L keeps id total p is holds = by (consumer_of id p.state.consumers) refl
  where
    in_mode : (mode : Mode) (consumer : Consumer) → consumer.mode ≡ mode
        → consumer_of id p.state.consumers ≡ Some consumer
        → After L (credit_by_mode mode consumer total p)
    in_mode (Prefetch prefetch) consumer link found = holds
    in_mode Link consumer link found =
        waits L keeps (credit_of consumer.id p.state.rows p.state.consumers) consumer.id
        (set_credit consumer total p.state) (keeps.credit p.state.consumers id consumer total holds found link is)

    by : (o : Option Consumer) → consumer_of id p.state.consumers ≡ o → After L (credit_by o total p)
    by None found = holds
    by (Some consumer) found =
        cond_both consumer.cancelled (refuse NoConsumer p) (credit_by_mode consumer.mode consumer total p) (After L)
        (λ _. holds) (λ _. in_mode consumer.mode consumer refl found)

finish-after : {command : Command} (L : List Consumer → Type 0) → KeepsConsumers command L → (outcome : Outcome)
    (consumer : ConsumerId) (ids : List ℕ) (p : Progress) → L p.state.consumers
    → After L (finish outcome consumer ids p)
unfolding finish
finish-after L keeps outcome consumer ids p holds = by (consumer_of consumer p.state.consumers)
  where
    rest : Progress
    rest = end_deliveries outcome consumer ids p

    same : rest.state.consumers ≡ p.state.consumers
    same =
        end_deliveries-keep (λ q. q.state.consumers ≡ p.state.consumers) outcome consumer ids
        (λ a b id row same here is ending. ending.puts.consumers ∙ same) p refl

    by : (o : Option Consumer) → After L (finish_by o outcome consumer ids p)
    by None = holds
    by (Some found) =
        waits L keeps (credit_of consumer p.state.rows p.state.consumers) consumer (drop_finished rest.state)
        (keeps.needed rest.state.rows rest.state.consumers (subst L (sym same) holds))

down-after : {command : Command} (L : List Consumer → Type 0) → KeepsConsumers command L → (session : SessionId)
    (p : Progress) → command ≡ Down session → L p.state.consumers → After L (down session p)
unfolding down
down-after L keeps session p is holds =
    let back : Progress = return_session session p.state.consumers p in
    let same : back.state.consumers ≡ p.state.consumers =
    return_session-keeps {I = λ q. q.state.consumers ≡ p.state.consumers} session
    (record { row = λ a b old new same there moves out why turns. turns.consumers ∙ same }) p.state.consumers p refl
    in
    keeps.leave back.state.consumers session (subst L (sym same) holds) is

dead_attach-after : (L : List Consumer → Type 0) (term : Term) (p : Progress) → L p.state.consumers
    → After L (dead_attach term p)
unfolding dead_attach
dead_attach-after L term p holds =
    cond_both (is_at_least_once p.state.args.strategy && nat_lt p.state.attached term.0)
    (reply answer.Attached (set_state (record (p.state) { attached = term.0; given = 0 }) p)) (reply answer.Stale p)
    (After L) (λ _. holds) (λ _. holds)

dead_settle-after : (L : List Consumer → Type 0) (term : Term) (done : List DeadDone) (p : Progress)
    → L p.state.consumers → After L (dead_settle term done p)
unfolding dead_settle
dead_settle-after L term done p holds =
    cond_both (is_at_least_once p.state.args.strategy && nat_eq term.0 p.state.attached)
    (reply (answer.DeadSettled (settle_dead done p).count) (settle_dead done p).progress) (reply answer.Stale p)
    (After L) (λ _. fold-keeps (λ (now : Settling). L now.progress.state.consumers)
    (λ (now : Settling) (one : DeadDone). settle_dead_by (given_row one.number now.progress.state) now)
    (λ now one holds. by now (given_row one.number now.progress.state) holds) done
    (record { progress = p; count = 0 }) holds) (λ _. holds)
  where
    by : (now : Settling) (o : Option Row) → L now.progress.state.consumers
        → L (settle_dead_by o now).progress.state.consumers
    by now None holds = holds
    by now (Some row) holds = holds

-- the command's row of the table
pub act-consumers : (L : List Consumer → Type 0) (index : Index) (command : Command) → KeepsConsumers command L
    → (p : Progress) → L p.state.consumers → After L (act index command p)
unfolding act purge
act-consumers L index (Noop version) keeps p holds = holds
act-consumers L index (Enqueue stamp origin message) keeps p holds = enqueue-after L index message p holds
act-consumers L index (Get stamp) keeps p holds = get-after L p holds
act-consumers L index (Subscribe stamp tag mode) keeps p holds =
    subscribe-after L keeps (consumer_id stamp tag) mode p (stamp, tag, refl, refl) holds
act-consumers L index (Cancel stamp tag) keeps p holds =
    cancel-after L keeps (consumer_id stamp tag) p (stamp, tag, refl, refl) holds
act-consumers L index (Credit stamp tag count credit wanted) keeps p holds =
    credit-after L keeps (consumer_id stamp tag) (count + credit) p
    (stamp, tag, count, credit, wanted, refl, refl, refl) holds
act-consumers L index (Settle stamp tag ids) keeps p holds =
    finish-after L keeps Settled (consumer_id stamp tag) ids p holds
act-consumers L index (Return stamp tag ids) keeps p holds =
    finish-after L keeps Returned (consumer_id stamp tag) ids p holds
act-consumers L index (Discard stamp tag ids) keeps p holds =
    finish-after L keeps Discarded (consumer_id stamp tag) ids p holds
act-consumers L index (Purge stamp) keeps p holds = holds
act-consumers L index (Down session) keeps p holds = down-after L keeps session p refl holds
act-consumers L index (DeadAttach term) keeps p holds = dead_attach-after L term p holds
act-consumers L index (DeadSettle term done) keeps p holds = dead_settle-after L term done p holds
