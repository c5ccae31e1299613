-- What each single change keeps, the command's row of the table keeps.
use Rattle.std.proofs.Common.{◌≡◌, ℕ, ◌+◌, ◌≤◌, Bool, true, false, ◌&&◌, ◌||◌, cond, List, [], ◌∷◌, Option, Some, None, length, refl, sym, ap, ◌∙◌, subst, inl, inr, arith, if◌then◌else◌}
use Rattle.std.specs.Prelude.{nat_eq, nat_lt, nat_le}
use Rattle.std.specs.Option.{is_some}
use Rattle.std.specs.List.{AllByRecursion, list_any}
use Rattle.std.proofs.lemmas.Bool.{cases_Bool, cond-true, cond-false, cond_both, and_parts, and_from, eq-eqb, leb-true}
use Rattle.qq_base.specs.declared.ids.Index.{Index}
use Rattle.qq_base.specs.declared.ids.Term.{Term}
use Rattle.qq_base.specs.declared.ids.SessionId.{SessionId}
use Rattle.qq_base.specs.declared.ids.ConsumerId.{ConsumerId}
use Rattle.qq_entry.specs.declared.message.Message.{Message}
use Rattle.qq_entry.specs.declared.message.Reason.TheVariants as reason
use Rattle.qq_entry.specs.declared.command.Stamp.{Stamp}
use Rattle.qq_entry.specs.declared.command.Command.{Command}
use Rattle.qq_entry.specs.declared.command.Command.TheVariants.{Noop, Enqueue, Get, Subscribe, Cancel, Credit, Settle, Return, Discard, Purge, Down, DeadAttach, DeadSettle}
use Rattle.qq_entry.specs.declared.command.DeadDone.{DeadDone}
use Rattle.qq_entry.specs.declared.command.Mode.{Mode}
use Rattle.qq_entry.specs.declared.command.Mode.TheVariants.{Prefetch, Link}
use Rattle.qq_entry.specs.declared.answer.Answer.TheVariants as answer
use Rattle.qq_entry.specs.declared.answer.Cause.TheVariants.{SingleActive, NumberSpent, ConsumersFull, NoConsumer}
use Rattle.qq_entry.specs.declared.answer.Full.{Full}
use Rattle.qq_model.specs.declared.TheConstants.{MOST_CONSUMERS}
use Rattle.qq_model.specs.declared.place.GoneReason.TheVariants as gone
use Rattle.qq_model.specs.declared.place.Row.{Row}
use Rattle.qq_model.specs.declared.consumer.Consumer.{Consumer}
use Rattle.qq_model.specs.declared.consumer.Outcome.{Outcome}
use Rattle.qq_model.specs.declared.consumer.Outcome.TheVariants.{Settled, Returned, Discarded}
use Rattle.qq_base.specs.Ids.{same_consumer}
use Rattle.qq_model.specs.State.{State}
use Rattle.qq_model.specs.Choice.{next_message, is_out_to, out_count}
use Rattle.qq_model.specs.Limits.{is_live, publish_limit}
use Rattle.qq_model.specs.Changes.{Progress, consumer_of, put_row, put_consumer, return_row, drop_finished, credit_of}
use Rattle.qq_model.specs.Gate.{greatest_tag}
use Rattle.qq_entry.specs.Command.{consumer_id}
use Rattle.qq_model.specs.Commands.{Acted, reply, set_state, refuse, append_message, enqueue_by, enqueue, get_by, get, join, subscribe, cancel_by, cancel, set_credit, credit_by_mode, credit_by, give_credit, delivered_row, end_delivery, end_delivery_by, end_deliveries, finish_by, finish, purge, return_by, return_first, delivery_id, first_delivery, return_all, is_of_session, return_session, down, dead_attach, dead_row, given_row, Settling, settle_dead_by, settle_dead, dead_settle, is_at_least_once, act}
use Rattle.qq_model.specs.Reasons.{is_enqueue, is_get, is_settle, is_return, is_discard, is_purge, is_down, ends_delivery, settles_dead, may_go_back}
use Rattle.qq_model.proofs.Choices.{delivery_id-out, next_message-in, first_delivery-in}
use Rattle.qq_model.proofs.Least.{least_by-none, nat_lt-order}
use Rattle.qq_model.proofs.OneConsumer.{same_consumer-refl}
use Rattle.qq_model.proofs.OutCounts.{not_out, out-cons, out-with}
use Rattle.qq_model.proofs.RunsOut.{return_all-runs_out}
use Rattle.qq_base.proofs.Lists.{In, fold-keeps, list_any-from_in}
use Rattle.qq_model.proofs.Loops.{fold-keeps_in, while_next-keeps}
use Rattle.qq_model.proofs.Lookups.{dead_row-in, delivered_row-in, out-place}
use Rattle.qq_model.specs.declared.place.Place.TheVariants.{Out}
use Rattle.qq_model.proofs.SingleChanges.Because.{IsGot, IsSettled, IsDiscarded, IsDeadLettered}
use Rattle.qq_model.proofs.SingleChanges.{Acts, IsIn, IsIn-ready, IsOwn, KeepsRows, Recounts-same, begin_to_wait-keeps, die-keeps, move_row-keeps, return_row-keeps}

pub get-keeps : {command : Command} {I : Progress → Type 0} → Acts command I → is_get command ≡ true → (p : Progress)
    → I p → I (get p).progress
unfolding get
get-keeps {I = I} closed gets p holds =
    cond_both p.state.args.single_active (refuse SingleActive p) (get_by (next_message p.state.rows) p)
    (λ (a : Acted). I a.progress) (λ _. holds) (λ _. takes (next_message p.state.rows) refl)
  where
    takes : (o : Option Row) → next_message p.state.rows ≡ o → I (get_by o p).progress
    takes None found = holds
    takes (Some row) found =
        let some = next_message-in p.state.rows row found in
        move_row-keeps closed.rows row gone.Got p holds some.0 (IsIn-ready row.place some.1).live gets
        (IsGot gets found refl)

-- Subscribe
pub subscribe-keeps : {command : Command} {I : Progress → Type 0} → Acts command I
    → (id : ConsumerId) (mode : Mode) (p : Progress) → IsOwn command id → I p → I (subscribe id mode p).progress
unfolding subscribe
subscribe-keeps {I = I} closed id mode p own holds =
    cond_both (nat_le id.tag (greatest_tag id.session p.state.sessions)) (refuse NumberSpent p) _
    (λ (a : Acted). I a.progress) (λ _. holds) (λ above.
    cond_both (nat_le MOST_CONSUMERS (length p.state.consumers)) (refuse ConsumersFull p)
    (reply answer.Subscribed (set_state (join id mode p.state) p)) (λ (a : Acted). I a.progress)
    (λ _. holds) (λ _. closed.join p id mode holds above own))

-- Cancel
pub cancel-keeps : {command : Command} {I : Progress → Type 0} → Acts command I → (id : ConsumerId) (p : Progress)
    → I p
    → I (cancel id p).progress
unfolding cancel
cancel-keeps {I = I} closed id p holds = cancels (consumer_of id p.state.consumers) refl
  where
    cancels : (o : Option Consumer) → consumer_of id p.state.consumers ≡ o → I (cancel_by o p).progress
    cancels None found = holds
    cancels (Some consumer) found =
        cond_both consumer.cancelled (refuse NoConsumer p) _ (λ (a : Acted). I a.progress) (λ _. holds)
        (λ _. closed.finish (set_state (record (p.state) {
          consumers = put_consumer (record consumer { cancelled = true }) p.state.consumers;
        }) p) (closed.cancel p id consumer holds found))

-- Credit
pub credit-keeps : {command : Command} {I : Progress → Type 0} → Acts command I
    → (id : ConsumerId) (credit : ℕ) (p : Progress) → I p → I (give_credit id credit p).progress
unfolding give_credit
credit-keeps {I = I} closed id credit p holds = gives (consumer_of id p.state.consumers) refl
  where
    by_mode : (mode : Mode) (consumer : Consumer) → consumer_of id p.state.consumers ≡ Some consumer
        → I (credit_by_mode mode consumer credit p).progress
    by_mode (Prefetch prefetch) consumer found = holds
    by_mode Link consumer found =
        begin_to_wait-keeps closed (credit_of consumer.id p.state.rows p.state.consumers) consumer.id
        (set_state (set_credit consumer credit p.state) p) (closed.credit p id consumer credit holds found)

    gives : (o : Option Consumer) → consumer_of id p.state.consumers ≡ o → I (credit_by o credit p).progress
    gives None found = holds
    gives (Some consumer) found =
        cond_both consumer.cancelled (refuse NoConsumer p) (credit_by_mode consumer.mode consumer credit p)
        (λ (a : Acted). I a.progress) (λ _. holds) (λ _. by_mode consumer.mode consumer found)

-- whether an outcome is that of a command
abbrev pub fits : Command → Outcome → Bool
fits command Settled = is_settle command
fits command Returned = is_return command
fits command Discarded = is_discard command

returns_back : (command : Command) → is_return command ≡ true → may_go_back command ≡ true
returns_back command is = ap (λ b. b || is_down command) is

-- Settle, Return, Discard
pub end_delivery-keeps : {command : Command} {I : Progress → Type 0} → Acts command I → (outcome : Outcome)
    → fits command outcome ≡ true → (row : Row) (p : Progress) (consumer : ConsumerId) (id : ℕ)
    → row.place ≡ Out consumer id → ends_delivery command consumer id ≡ true
    → I p → In row p.state.rows → I (end_delivery outcome row p)
end_delivery-keeps closed Settled fit row p consumer id is ends holds here =
    move_row-keeps closed.rows row gone.Settled p holds here (ap is_live is) fit
    (IsSettled consumer id is ends fit refl)
end_delivery-keeps {command = command} closed Returned fit row p consumer id is ends holds here =
    return_row-keeps closed.rows row p consumer id is ends (returns_back command fit) holds here
end_delivery-keeps {command = command} closed Discarded fit row p consumer id is ends holds here =
    die-keeps closed.rows reason.Rejected row row p holds here
    (subst IsIn (sym is) (record { live = refl; dead = refl }))
    (Recounts-same command row) fit (λ place death. IsDiscarded consumer id place is ends fit death refl)

pub finish-keeps : {command : Command} {I : Progress → Type 0} → Acts command I → (outcome : Outcome)
    → fits command outcome ≡ true → (consumer : ConsumerId) (ids : List ℕ) (p : Progress)
    → ((id : ℕ) → In id ids → ends_delivery command consumer id ≡ true)
    → I p → I (finish outcome consumer ids p).progress
unfolding finish
finish-keeps {command = command} {I = I} closed outcome fit consumer ids p ends holds =
    by (consumer_of consumer p.state.consumers)
  where
    one : (now : Progress) (o : Option Row) (id : ℕ) → delivered_row consumer id now.state.rows ≡ o → In id ids
        → I now
        → I (end_delivery_by outcome o now)
    one now None id found within holds = holds
    one now (Some row) id found within holds =
        let some = delivered_row-in consumer id now.state.rows row found in
        end_delivery-keeps closed outcome fit row now consumer id some.1 (ends id within) holds some.0

    all : I (end_deliveries outcome consumer ids p)
    all =
        fold-keeps_in I
        (λ (now : Progress) (id : ℕ). end_delivery_by outcome (delivered_row consumer id now.state.rows) now) ids
        (λ now id within holds. one now (delivered_row consumer id now.state.rows) id refl within holds) p holds

    by : (o : Option Consumer) → I (finish_by o outcome consumer ids p).progress
    by None = holds
    by (Some found) =
        let rest : Progress = end_deliveries outcome consumer ids p in
        begin_to_wait-keeps closed (credit_of consumer p.state.rows p.state.consumers) consumer
        (set_state (drop_finished rest.state) rest) (closed.finish rest all)

-- Purge
pub purge-keeps : {command : Command} {I : Progress → Type 0} → Acts command I → is_purge command ≡ true
    → (p : Progress) → I p → I (purge p).progress
unfolding purge
purge-keeps closed purges p holds = closed.purge p holds purges

-- Down
pub return_all-keeps : {command : Command} {I : Progress → Type 0} → KeepsRows command I → may_go_back command ≡ true
    → (consumer : Consumer) (p : Progress) → ((id : ℕ) → ends_delivery command consumer.id id ≡ true) → I p
    → I (return_all consumer p)
unfolding return_all
return_all-keeps {I = I} rows back consumer p ends holds =
    while_next-keeps I (return_first consumer.id)
    (λ now next holds made. one now next (first_delivery consumer.id now.state.rows) refl holds made) _ p holds
  where
    one : (now next : Progress) (o : Option Row) → first_delivery consumer.id now.state.rows ≡ o → I now
        → return_by o now ≡ Some next → I next
    one now next None found holds made = absurd cc
    one now next (Some row) found holds made =
        let some = first_delivery-in consumer.id now.state.rows row found in
        let at = out-place consumer.id row.place some.1 in
        let same : return_row row now ≡ next = cc in
        subst I same (return_row-keeps rows row now consumer.id at.0 at.1 (ends at.0) back holds some.0)

-- what a command that ends a session ends
down-ends : (session : SessionId) (consumer : Consumer) → is_of_session session consumer ≡ true → (id : ℕ)
    → ends_delivery (Down session) consumer.id id ≡ true
down-ends session consumer is id = is

pub return_session-keeps : {I : Progress → Type 0} (session : SessionId) → KeepsRows (Down session) I
    → (consumers : List Consumer) (p : Progress) → I p → I (return_session session consumers p)
return_session-keeps {I = I} session rows consumers p holds =
    fold-keeps I
    (λ (now : Progress) (consumer : Consumer). if is_of_session session consumer then return_all consumer now
    else now)
    (λ now consumer holds. cond_both (is_of_session session consumer) (return_all consumer now) now I
    (λ is. return_all-keeps rows refl consumer now (down-ends session consumer is) holds) (λ _. holds)) consumers p
    holds

-- returns leave no more with a consumer than was with it, and all consumers as they are
record Fewer (id : ConsumerId) (n : ℕ) (all : List Consumer) (p : Progress) : Type 0 where
  count : out_count id p.state.rows ≤ n
  consumers : p.state.consumers ≡ all

Fewer-rows : (command : Command) (id : ConsumerId) (count : ℕ) (consumers : List Consumer)
    → KeepsRows command (Fewer id count consumers)
Fewer-rows command id count consumers = record {
  row = λ p q old new fewer here moves out why turns.
      let less : out_count id (put_row new p.state.rows) ≤ out_count id p.state.rows =
      out-with id new p.state.rows (not_out id new.place out) in
      record {
        count = omega (arith, less, fewer.count, ap (out_count id) turns.rows);
        consumers = turns.consumers ∙ fewer.consumers;
      };
}

none-out : (id : ConsumerId) (rows : List Row) → first_delivery id rows ≡ None → out_count id rows ≡ 0
none-out id rows none =
    keyless rows (least_by-none nat_lt (λ (row : Row). delivery_id id row.place) nat_lt-order rows none)
  where
    keyless : (rows : List Row) → AllByRecursion (λ (row : Row). delivery_id id row.place ≡ None) rows
        → out_count id rows ≡ 0
    keyless [] each = refl
    keyless (row ∷ rows) each =
        let here : is_out_to id row.place ≡ false = sym (delivery_id-out id row.place) ∙ ap is_some each.0 in
        let nothing : cond (is_out_to id row.place) 1 0 ≡ 0 = ap (λ (b : Bool). let n : ℕ = cond b 1 0 in n) here in
        omega (arith, out-cons id row rows, nothing, keyless rows each.1)

-- all that was with the consumers of a session has gone back
return_session-empties : (session : SessionId) (consumers : List Consumer) (p : Progress) (consumer : Consumer)
    → In consumer consumers → is_of_session session consumer ≡ true
    → out_count consumer.id (return_session session consumers p).state.rows ≡ 0
return_session-empties session [] p consumer here is = absurd here
return_session-empties session (first ∷ rest) p consumer (inl same) is =
    let now : Progress = if is_of_session session first then return_all first p else p in
    let all : now ≡ return_all first p =
    cond-true (is_of_session session first) (return_all first p) p (ap (is_of_session session) (sym same) ∙ is) in
    let none : out_count first.id now.state.rows ≡ 0 =
    ap (λ (q : Progress). out_count first.id q.state.rows) all
    ∙ none-out first.id (return_all first p).state.rows
    (return_first-none first.id (return_all first p) (return_all-runs_out first p)) in
    let fewer = return_session-keeps session (Fewer-rows (Down session) first.id 0 now.state.consumers) rest now
    (record { count = omega (arith, none); consumers = refl }) in
    let zero' : out_count first.id (return_session session rest now).state.rows ≡ 0 = omega (arith, fewer.count) in
    ap (λ (c : Consumer). out_count c.id (return_session session rest now).state.rows) same ∙ zero'
  where
    return_first-none : (id : ConsumerId) (q : Progress) → return_first id q ≡ None
        → first_delivery id q.state.rows ≡ None
    return_first-none id q none = by (first_delivery id q.state.rows) refl
      where
        by : (o : Option Row) → first_delivery id q.state.rows ≡ o → o ≡ None
        by None found = refl
        by (Some row) found =
            let made : Some (return_row row q) ≡ None = ap (λ (o : Option Row). return_by o q) (sym found) ∙ none in
            absurd cc
return_session-empties session (first ∷ rest) p consumer (inr later) is =
    return_session-empties session rest (if is_of_session session first then return_all first p else p) consumer later
    is

pub down-keeps : {I : Progress → Type 0} (session : SessionId) → Acts (Down session) I → (p : Progress) → I p
    → I (down session p).progress
unfolding down
down-keeps {I = I} session closed p holds =
    let back : Progress = return_session session p.state.consumers p in
    let same =
    return_session-keeps session
    (Fewer-rows (Down session) (record { session = session; tag = 0 })
    (out_count (record { session = session; tag = 0 }) p.state.rows)
    p.state.consumers) p.state.consumers p (record { count = omega arith; consumers = refl }) in
    closed.leave back session (return_session-keeps session closed.rows p.state.consumers p holds) refl refl
    (λ consumer here is. return_session-empties session p.state.consumers p consumer
    (subst (In consumer) same.consumers here) is)

-- DeadAttach, DeadSettle
pub dead_attach-keeps : {command : Command} {I : Progress → Type 0} → Acts command I → (term : Term) (p : Progress)
    → I p → I (dead_attach term p).progress
unfolding dead_attach
dead_attach-keeps {I = I} closed term p holds =
    cond_both _ _ (reply answer.Stale p) (λ (a : Acted). I a.progress)
    (λ may. let parts = and_parts (is_at_least_once p.state.args.strategy) (nat_lt p.state.attached term.0) may in
    closed.attach p term holds parts.0 parts.1) (λ _. holds)

pub dead_settle-keeps : {I : Progress → Type 0} (term : Term) (done : List DeadDone) → Acts (DeadSettle term done) I
    → (p : Progress) → I p → I (dead_settle term done p).progress
unfolding dead_settle
dead_settle-keeps {I = I} term done closed p holds =
    cond_both _ _ (reply answer.Stale p) (λ (a : Acted). I a.progress)
    (λ may. (all (and_parts (is_at_least_once p.state.args.strategy) (nat_eq term.0 p.state.attached) may).1).0)
    (λ _. holds)
  where
    given-row : (number : ℕ) (s : State) (row : Row) → given_row number s ≡ Some row
        → (number ≤ s.given) × (dead_row number s.rows ≡ Some row)
    given-row number s row found = elim (cases_Bool (nat_le number s.given)) [
      | inl up_to ↦ (
        leb-true number s.given up_to,
        sym (cond-true (nat_le number s.given) (dead_row number s.rows) None up_to) ∙ found,
      )
      | inr fails ↦
          let none : None ≡ Some row =
          sym (cond-false (nat_le number s.given) (dead_row number s.rows) None fails) ∙ found in
          absurd cc
    ]

    -- the worker stays the same
    Goes : Settling → Type 0
    Goes now = I now.progress × (now.progress.state.attached ≡ p.state.attached)

    one : (now : Settling) (one : DeadDone) (o : Option Row) → given_row one.number now.progress.state ≡ o
        → In one done → nat_eq term.0 p.state.attached ≡ true → Goes now → Goes (settle_dead_by o now)
    one now done' None found within same goes = goes
    one now done' (Some row) found within same goes =
        let up_to = given-row done'.number now.progress.state row found in
        let some = dead_row-in done'.number now.progress.state.rows row up_to.1 in
        let settles : settles_dead (DeadSettle term done) now.progress.state.attached done'.number ≡ true =
        and_from _ _ (ap (nat_eq term.0) goes.1 ∙ same)
        (list_any-from_in (λ (d : DeadDone). nat_eq d.number done'.number) done' done within
        (eq-eqb done'.number done'.number refl)) in (
          move_row-keeps closed.rows row gone.DeadLettered now.progress goes.0 some.0 (ap is_live some.1.1) refl
              (IsDeadLettered done'.number some.1.0 some.1.1 settles up_to.0 refl),
          goes.1,
        )

    all : nat_eq term.0 p.state.attached ≡ true → Goes (settle_dead done p)
    all same =
        fold-keeps_in Goes
        (λ (now : Settling) (one : DeadDone). settle_dead_by (given_row one.number now.progress.state) now) done
        (λ now done' within goes. one now done' (given_row done'.number now.progress.state) refl within same goes)
        (record { progress = p; count = 0 }) (holds, refl)

-- a message that arrives, as a command of I's may bring it
abbrev pub KeepsArrivals : Index → Command → (Progress → Type 0) → Type 0
KeepsArrivals index command I =
    (p : Progress) (stamp : Stamp) (message : Message) → I p → is_enqueue command ≡ true
    → publish_limit p.state.args p.state.rows ≡ None → I (set_state (append_message p.state index message) p)

pub enqueue-keeps : {I : Progress → Type 0} (index : Index) (command : Command) → KeepsArrivals index command I
    → is_enqueue command ≡ true → (stamp : Stamp) (message : Message) (p : Progress) → I p
    → I (enqueue index message p).progress
unfolding enqueue
enqueue-keeps {I = I} index command arrives is stamp message p holds =
    by (publish_limit p.state.args p.state.rows) refl
  where
    by : (o : Option Full) → publish_limit p.state.args p.state.rows ≡ o → I (enqueue_by o index message p).progress
    by None found = arrives p stamp message holds is found
    by (Some full) found = holds

-- a command names the consumer and the deliveries that it ends
ends-own : (consumer : ConsumerId) (id : ℕ) (ids : List ℕ) → In id ids
    → (same_consumer consumer consumer && list_any (nat_eq id) ids) ≡ true
ends-own consumer id ids within =
    and_from _ _ (same_consumer-refl consumer) (list_any-from_in (nat_eq id) id ids within (eq-eqb id id refl))

-- the command's row of the table
pub act-keeps : {I : Progress → Type 0} (index : Index) (command : Command) → Acts command I
    → KeepsArrivals index command I → (p : Progress) → I p → I (act index command p).progress
unfolding act
act-keeps index (Noop version) closed arrives p holds = holds
act-keeps index (Enqueue stamp origin message) closed arrives p holds =
    enqueue-keeps index (Enqueue stamp origin message) arrives refl stamp message p holds
act-keeps index (Get stamp) closed arrives p holds = get-keeps closed refl p holds
act-keeps index (Subscribe stamp tag mode) closed arrives p holds =
    subscribe-keeps closed (consumer_id stamp tag) mode p (stamp, refl, refl) holds
act-keeps index (Cancel stamp tag) closed arrives p holds = cancel-keeps closed (consumer_id stamp tag) p holds
act-keeps index (Credit stamp tag count credit wanted) closed arrives p holds =
    credit-keeps closed (consumer_id stamp tag) (count + credit) p holds
act-keeps index (Settle stamp tag ids) closed arrives p holds =
    finish-keeps closed Settled refl (consumer_id stamp tag) ids p
    (λ id within. ends-own (consumer_id stamp tag) id ids within)
    holds
act-keeps index (Return stamp tag ids) closed arrives p holds =
    finish-keeps closed Returned refl (consumer_id stamp tag) ids p
    (λ id within. ends-own (consumer_id stamp tag) id ids within) holds
act-keeps index (Discard stamp tag ids) closed arrives p holds =
    finish-keeps closed Discarded refl (consumer_id stamp tag) ids p
    (λ id within. ends-own (consumer_id stamp tag) id ids within) holds
act-keeps index (Purge stamp) closed arrives p holds = purge-keeps closed refl p holds
act-keeps index (Down session) closed arrives p holds = down-keeps session closed p holds
act-keeps index (DeadAttach term) closed arrives p holds = dead_attach-keeps closed term p holds
act-keeps index (DeadSettle term done) closed arrives p holds = dead_settle-keeps term done closed p holds
