-- Each command does the same without what is gone.
use Rattle.std.proofs.Common.{◌≡◌, ℕ, ◌+◌, ◌<◌, Bool, true, false, ◌&&◌, List, [], ◌∷◌, ◌++◌, Option, Some, None, map, length, refl, sym, ap, ◌∙◌, subst, arith, if◌then◌else◌}
use Rattle.std.specs.Prelude.{nat_eq, nat_lt, nat_le, fold}
use Rattle.qq_base.specs.declared.ids.Index.{Index}
use Rattle.qq_base.specs.declared.ids.Term.{Term}
use Rattle.qq_base.specs.declared.ids.SessionId.{SessionId}
use Rattle.qq_base.specs.declared.ids.ConsumerId.{ConsumerId}
use Rattle.qq_entry.specs.Command.{consumer_id}
use Rattle.qq_entry.specs.declared.message.Message.{Message}
use Rattle.qq_entry.specs.declared.message.Reason.TheVariants as reason
use Rattle.qq_entry.specs.declared.command.Command.{Command}
use Rattle.qq_entry.specs.declared.command.Command.TheVariants.{Noop, Enqueue, Get, Subscribe, Cancel, Credit, Settle, Return, Discard, Purge, Down, DeadAttach, DeadSettle}
use Rattle.qq_entry.specs.declared.command.DeadDone.{DeadDone}
use Rattle.qq_entry.specs.declared.command.Mode.{Mode}
use Rattle.qq_entry.specs.declared.command.Mode.TheVariants.{Prefetch, Link}
use Rattle.qq_entry.specs.declared.answer.Answer.{Answer}
use Rattle.qq_entry.specs.declared.answer.Answer.TheVariants as answer
use Rattle.qq_entry.specs.declared.answer.Cause.{Cause}
use Rattle.qq_entry.specs.declared.answer.Cause.TheVariants.{SingleActive, NumberSpent, ConsumersFull, NoConsumer, WrongMode}
use Rattle.qq_entry.specs.declared.answer.Full.{Full}
use Rattle.qq_entry.specs.declared.answer.Full.TheVariants.{Length, ByteLength, Live}
use Rattle.qq_model.specs.declared.TheConstants.{MOST_CONSUMERS}
use Rattle.qq_model.specs.declared.place.Key.TheVariants.{Back}
use Rattle.qq_model.specs.declared.place.GoneReason.TheVariants as gone
use Rattle.qq_model.specs.declared.place.Place.{Place}
use Rattle.qq_model.specs.declared.place.Place.TheVariants.{Ready, Gone}
use Rattle.qq_model.specs.declared.place.Row.{Row}
use Rattle.qq_model.specs.declared.consumer.Consumer.{Consumer}
use Rattle.qq_model.specs.declared.consumer.Outcome.{Outcome}
use Rattle.qq_model.specs.declared.consumer.Outcome.TheVariants.{Settled, Returned, Discarded}
use Rattle.qq_model.specs.State.{State}
use Rattle.qq_model.specs.Gate.{greatest_tag}
use Rattle.qq_model.specs.Choice.{next_message, out_count}
use Rattle.qq_model.specs.Limits.{publish_limit, is_live, is_reject_publish, has_reached, ready_count, ready_bytes, live_count}
use Rattle.qq_model.specs.Changes.{Progress, put_row, put_consumer, consumer_of, drop_finished, credit_of, begin_to_wait}
use Rattle.qq_model.specs.Commands.{Acted, reply, set_state, refuse, enqueue_by, enqueue, move_row, get_by, get, join, subscribe, cancel_by, cancel, set_credit, credit_by_mode, credit_by, give_credit, delivered_row, end_delivery, end_delivery_by, end_deliveries, leave_or_wait, finish_by, finish, purge_row, purge, first_delivery, return_by, return_first, return_all, is_of_session, return_session, leave, down, is_at_least_once, dead_attach, dead_row, given_row, Settling, settle_dead_by, settle_dead, dead_settle, act}
use Rattle.qq_model.proofs.Choices.{first_delivery-in}
use Rattle.qq_model.proofs.Lookups.{delivered_row-in, dead_row-in}
use Rattle.qq_model.proofs.SingleChanges.{IsIn-out}
use Rattle.qq_parts.proofs.Live.{Alike, scans}
use Rattle.qq_parts.proofs.Puts.{Lives, put-alike, purge-alike, append-alike, message-alike}
use Rattle.qq_parts.proofs.Same.{over_rows, with_rows, Same, SameActed, SameMaybe, Keeps, KeepsMaybe, KeepsActed, then_same, acted-later, cond-pair, same-as, fold-same, rounds-same, lives-at, die-same, return_row-same, credit_of-same, finished-same, waits-same}
use Rattle.qq_parts.proofs.Follows.{lives-next}

refused : {last : ℕ} (cause : Cause) → KeepsActed last (refuse cause)
refused cause p rows messages alike = record { progress = same-as p rows messages alike; answer = refl }

replied : {last : ℕ} (said : Answer) (f : Progress → Progress) → Keeps last f → KeepsActed last (λ p. reply said (f p))
replied said f keeps p rows messages alike = record { progress = keeps p rows messages alike; answer = refl }

-- Enqueue ---------------------------------------------------------------------------------------------

publish_limit-same : {last : ℕ} (p : Progress) (rows : List Row) (messages : List Message)
    → Alike last p.state.rows p.state.messages rows messages
    → publish_limit p.state.args p.state.rows ≡ publish_limit p.state.args rows
publish_limit-same p rows messages alike =
    let args = p.state.args in
    let same = scans p.state.rows p.state.messages rows messages alike in
    let limit : ℕ → ℕ → ℕ → Option Full = λ ready bytes live.
    if is_reject_publish args.overflow && has_reached args.max_length ready then Some Length
    else if is_reject_publish args.overflow && has_reached args.max_bytes bytes then Some ByteLength
    else if nat_le args.live live then Some Live
    else None in
    ap (λ n. limit n (ready_bytes p.state.rows) (live_count p.state.rows)) same.ready
    ∙ ap (λ n. limit (ready_count rows) n (live_count p.state.rows)) same.bytes
    ∙ ap (limit (ready_count rows) (ready_bytes rows)) same.live

enqueue_by-same : {last : ℕ} (index : Index) (message : Message) (o : Option Full) (p : Progress) (rows : List Row)
    (messages : List Message) → last < index.0 → Alike last p.state.rows p.state.messages rows messages
    → SameActed index.0 (enqueue_by o index message p) (enqueue_by o index message (over_rows rows messages p))
enqueue_by-same index message (Some full) p rows messages above alike =
    acted-later index.0 (enqueue_by (Some full) index message p)
    (enqueue_by (Some full) index message (over_rows rows messages p)) (omega arith)
    (record { progress = same-as p rows messages alike; answer = refl })
enqueue_by-same index message None p rows messages above alike =
    let row : Row = record {
      index = index;
      arrival = p.state.arrivals + 1;
      count = 0;
      size = message.size;
      place = Ready (Back (p.state.orders + 1));
    } in
    record {
      progress = record {
        rows = rows ++ row ∷ [];
        messages = messages ++ message ∷ [];
        is = refl;
        alike = append-alike row message p.state.rows p.state.messages rows messages above alike;
      };
      answer = refl;
    }

enqueue-same : {last : ℕ} (index : Index) (message : Message) (p : Progress) (rows : List Row)
    (messages : List Message) → last < index.0 → Alike last p.state.rows p.state.messages rows messages
    → SameActed index.0 (enqueue index message p) (enqueue index message (over_rows rows messages p))
unfolding enqueue
enqueue-same index message p rows messages above alike =
    let limit : Option Full = publish_limit p.state.args p.state.rows in
    subst (λ (o : Option Full). SameActed index.0 (enqueue_by limit index message p)
    (enqueue_by o index message (over_rows rows messages p))) (publish_limit-same p rows messages alike)
    (enqueue_by-same index message limit p rows messages above alike)

-- Get -------------------------------------------------------------------------------------------------

-- a message leaves
move-same : {last : ℕ} (row : Row) (place : Place) (p : Progress) (rows : List Row) (messages : List Message)
    → Alike last p.state.rows p.state.messages rows messages → Lives p.state.rows row
    → Same last (set_state (move_row row place p.state) p)
    (set_state (move_row row place (with_rows rows messages p.state)) (over_rows rows messages p))
move-same row place p rows messages alike lives =
    let new : Row = record row { place = place } in
    record {
      rows = put_row new rows;
      messages = messages;
      is = refl;
      alike = put-alike new p.state.rows p.state.messages rows messages alike (lives-at _ row _ lives);
    }

get_by-same : {last : ℕ} (o : Option Row) (p : Progress) (rows : List Row) (messages : List Message)
    → Alike last p.state.rows p.state.messages rows messages → next_message p.state.rows ≡ o
    → SameActed last (get_by o p) (get_by o (over_rows rows messages p))
get_by-same None p rows messages alike found =
    record { progress = same-as p rows messages alike; answer = refl }
get_by-same (Some row) p rows messages alike found =
    let lives = lives-next p.state.rows row found in
    record {
      progress = move-same row (Gone gone.Got) p rows messages alike lives;
      answer =
          ap (λ (message : Message).
          answer.Got (record {
            index = row.index;
            arrival = row.arrival;
            id = 0;
            count = row.count;
            message = message;
          })) (message-alike row p.state.rows p.state.messages rows messages alike lives);
    }

get-same : {last : ℕ} → KeepsActed last get
unfolding get
get-same {last = last} p rows messages alike =
    let same = scans p.state.rows p.state.messages rows messages alike in
    let q : Progress = over_rows rows messages p in
    let row : Option Row = next_message p.state.rows in
    cond-pair p.state.args.single_active (SameActed last) (refuse SingleActive p) (get_by row p)
    (refuse SingleActive q) (get_by (next_message rows) q) (λ _. refused SingleActive p rows messages alike)
    (λ _. subst (λ (o : Option Row). SameActed last (get_by row p) (get_by o q)) same.next
    (get_by-same row p rows messages alike refl))

-- Subscribe, Cancel, Credit ---------------------------------------------------------------------------

join-same : {last : ℕ} (id : ConsumerId) (mode : Mode) → Keeps last (λ p. set_state (join id mode p.state) p)
join-same id mode p rows messages alike =
    record { rows = rows; messages = messages; is = refl; alike = alike }

subscribe-same : {last : ℕ} (id : ConsumerId) (mode : Mode) → KeepsActed last (subscribe id mode)
unfolding subscribe
subscribe-same {last = last} id mode p rows messages alike =
    let q : Progress = over_rows rows messages p in
    let joins : Progress → Acted = λ r. reply answer.Subscribed (set_state (join id mode r.state) r) in
    cond-pair (nat_le id.tag (greatest_tag id.session p.state.sessions)) (SameActed last) (refuse NumberSpent p)
    (if nat_le MOST_CONSUMERS (length p.state.consumers) then refuse ConsumersFull p else joins p)
    (refuse NumberSpent q)
    (if nat_le MOST_CONSUMERS (length p.state.consumers) then refuse ConsumersFull q else joins q)
    (λ _. refused NumberSpent p rows messages alike)
    (λ _. cond-pair (nat_le MOST_CONSUMERS (length p.state.consumers)) (SameActed last) (refuse ConsumersFull p)
    (joins p) (refuse ConsumersFull q) (joins q) (λ _. refused ConsumersFull p rows messages alike)
    (λ _. replied answer.Subscribed (λ r. set_state (join id mode r.state) r) (join-same id mode) p rows messages
    alike))

-- consumers are changed, and those that aren't needed leave
cancelled-same : {last : ℕ} (one : Consumer)
    → Keeps last (λ p. set_state
    (drop_finished (record (p.state)
    { consumers = put_consumer (record one { cancelled = true }) p.state.consumers })) p)
cancelled-same one p rows messages alike =
    finished-same (record p {
      state = record (p.state) { consumers = put_consumer (record one { cancelled = true }) p.state.consumers };
    }) rows messages alike

cancel_by-same : {last : ℕ} (o : Option Consumer) → KeepsActed last (cancel_by o)
cancel_by-same None p rows messages alike = refused NoConsumer p rows messages alike
cancel_by-same {last = last} (Some one) p rows messages alike =
    let q : Progress = over_rows rows messages p in
    let cancels : Progress → Progress = λ r.
    set_state (drop_finished (record (r.state)
    { consumers = put_consumer (record one { cancelled = true }) r.state.consumers })) r in
    cond-pair one.cancelled (SameActed last) (refuse NoConsumer p) (reply answer.Done (cancels p))
    (refuse NoConsumer q) (reply answer.Done (cancels q)) (λ _. refused NoConsumer p rows messages alike)
    (λ _. replied answer.Done cancels (cancelled-same one) p rows messages alike)

cancel-same : {last : ℕ} (id : ConsumerId) → KeepsActed last (cancel id)
unfolding cancel
cancel-same id p rows messages alike = cancel_by-same (consumer_of id p.state.consumers) p rows messages alike

set_credit-same : {last : ℕ} (one : Consumer) (credit : ℕ) → Keeps last (λ p. set_state (set_credit one credit p.state) p)
set_credit-same one credit p rows messages alike =
    record { rows = rows; messages = messages; is = refl; alike = alike }

credit_by_mode-same : {last : ℕ} (mode : Mode) (one : Consumer) (credit : ℕ)
    → KeepsActed last (credit_by_mode mode one credit)
credit_by_mode-same (Prefetch prefetch) one credit p rows messages alike = refused WrongMode p rows messages alike
credit_by_mode-same {last = last} Link one credit p rows messages alike =
    let same = scans p.state.rows p.state.messages rows messages alike in
    let q : Progress = over_rows rows messages p in
    let before : ℕ = credit_of one.id p.state.rows p.state.consumers in
    let given : Progress → Progress = λ r. set_state (set_credit one credit r.state) r in
    let waits : ℕ → Progress → Acted = λ n r.
    reply (answer.Credited 0) (set_state (begin_to_wait n one.id r.state) r) in
    subst (λ n. SameActed last (waits before (given p)) (waits n (given q)))
    (credit_of-same one.id p.state.rows rows same p.state.consumers)
    (record {
      progress =
          then_same (λ r. set_state (begin_to_wait before one.id r.state) r) (waits-same before one.id) (given p)
          (given q) (set_credit-same one credit p rows messages alike);
      answer = refl;
    })

credit_by-same : {last : ℕ} (o : Option Consumer) (credit : ℕ) → KeepsActed last (credit_by o credit)
credit_by-same None credit p rows messages alike = refused NoConsumer p rows messages alike
credit_by-same {last = last} (Some one) credit p rows messages alike =
    let q : Progress = over_rows rows messages p in
    cond-pair one.cancelled (SameActed last) (refuse NoConsumer p) (credit_by_mode one.mode one credit p)
    (refuse NoConsumer q) (credit_by_mode one.mode one credit q) (λ _. refused NoConsumer p rows messages alike)
    (λ _. credit_by_mode-same one.mode one credit p rows messages alike)

give_credit-same : {last : ℕ} (id : ConsumerId) (credit : ℕ) → KeepsActed last (give_credit id credit)
unfolding give_credit
give_credit-same id credit p rows messages alike =
    credit_by-same (consumer_of id p.state.consumers) credit p rows messages alike

-- Settle, Return, Discard -----------------------------------------------------------------------------

-- what is out is live
lives-out : (consumer : ConsumerId) (id : ℕ) (rows : List Row) (row : Row)
    → delivered_row consumer id rows ≡ Some row → Lives rows row
lives-out consumer id rows row found =
    let it = delivered_row-in consumer id rows row found in
    record { old = row; here = it.0; live = ap is_live it.1; index = refl }

end_delivery-same : {last : ℕ} (outcome : Outcome) (row : Row) (p : Progress) (rows : List Row)
    (messages : List Message) → Alike last p.state.rows p.state.messages rows messages → Lives p.state.rows row
    → Same last (end_delivery outcome row p) (end_delivery outcome row (over_rows rows messages p))
end_delivery-same Settled row p rows messages alike lives =
    move-same row (Gone gone.Settled) p rows messages alike lives
end_delivery-same Returned row p rows messages alike lives = return_row-same row p rows messages alike lives
end_delivery-same Discarded row p rows messages alike lives =
    die-same reason.Rejected row p rows messages alike lives

end_delivery_by-same : {last : ℕ} (outcome : Outcome) (consumer : ConsumerId) (id : ℕ) (o : Option Row) (p : Progress)
    (rows : List Row) (messages : List Message) → Alike last p.state.rows p.state.messages rows messages
    → delivered_row consumer id p.state.rows ≡ o
    → Same last (end_delivery_by outcome o p) (end_delivery_by outcome o (over_rows rows messages p))
end_delivery_by-same outcome consumer id None p rows messages alike found = same-as p rows messages alike
end_delivery_by-same outcome consumer id (Some row) p rows messages alike found =
    end_delivery-same outcome row p rows messages alike (lives-out consumer id p.state.rows row found)

one_end-same : {last : ℕ} (outcome : Outcome) (consumer : ConsumerId) (id : ℕ)
    → Keeps last (λ p. end_delivery_by outcome (delivered_row consumer id p.state.rows) p)
one_end-same {last = last} outcome consumer id p rows messages alike =
    let same = scans p.state.rows p.state.messages rows messages alike in
    let row : Option Row = delivered_row consumer id p.state.rows in
    subst (λ (o : Option Row). Same last (end_delivery_by outcome row p)
    (end_delivery_by outcome o (over_rows rows messages p))) (same.delivered consumer id)
    (end_delivery_by-same outcome consumer id row p rows messages alike refl)

end_deliveries-same : {last : ℕ} (outcome : Outcome) (consumer : ConsumerId) (ids : List ℕ)
    → Keeps last (end_deliveries outcome consumer ids)
end_deliveries-same outcome consumer ids p rows messages alike =
    fold-same (λ (now : Progress) (id : ℕ). end_delivery_by outcome (delivered_row consumer id now.state.rows) now)
    (λ id. one_end-same outcome consumer id) ids p (over_rows rows messages p) (same-as p rows messages alike)

leave_or_wait-same : {last : ℕ} (consumer : ConsumerId) (before : ℕ) → Keeps last (leave_or_wait consumer before)
leave_or_wait-same consumer before p rows messages alike =
    let q : Progress = over_rows rows messages p in
    then_same (λ r. set_state (begin_to_wait before consumer r.state) r) (waits-same before consumer)
    (set_state (drop_finished p.state) p) (set_state (drop_finished q.state) q)
    (finished-same p rows messages alike)

finish_by-same : {last : ℕ} (o : Option Consumer) (outcome : Outcome) (consumer : ConsumerId) (ids : List ℕ)
    → KeepsActed last (finish_by o outcome consumer ids)
finish_by-same None outcome consumer ids p rows messages alike = refused NoConsumer p rows messages alike
finish_by-same {last = last} (Some found) outcome consumer ids p rows messages alike =
    let same = scans p.state.rows p.state.messages rows messages alike in
    let q : Progress = over_rows rows messages p in
    let before : ℕ = credit_of consumer p.state.rows p.state.consumers in
    let ends : ℕ → Progress → Acted = λ n r.
    reply answer.Done (leave_or_wait consumer n (end_deliveries outcome consumer ids r)) in
    subst (λ n. SameActed last (ends before p) (ends n q))
    (credit_of-same consumer p.state.rows rows same p.state.consumers)
    (record {
      progress =
          then_same (leave_or_wait consumer before) (leave_or_wait-same consumer before)
          (end_deliveries outcome consumer ids p) (end_deliveries outcome consumer ids q)
          (end_deliveries-same outcome consumer ids p rows messages alike);
      answer = refl;
    })

finish-same : {last : ℕ} (outcome : Outcome) (consumer : ConsumerId) (ids : List ℕ)
    → KeepsActed last (finish outcome consumer ids)
unfolding finish
finish-same outcome consumer ids p rows messages alike =
    finish_by-same (consumer_of consumer p.state.consumers) outcome consumer ids p rows messages alike

-- Purge -----------------------------------------------------------------------------------------------

purge-same : {last : ℕ} → KeepsActed last purge
unfolding purge
purge-same p rows messages alike = record {
  progress = record {
    rows = map purge_row rows;
    messages = messages;
    is = refl;
    alike = purge-alike p.state.rows p.state.messages rows messages alike;
  };
  answer = ap (λ n. answer.Purged n) (scans p.state.rows p.state.messages rows messages alike).ready;
}

-- Down ------------------------------------------------------------------------------------------------

lives-first : (consumer : ConsumerId) (rows : List Row) (row : Row) → first_delivery consumer rows ≡ Some row
    → Lives rows row
lives-first consumer rows row found =
    let it = first_delivery-in consumer rows row found in
    record { old = row; here = it.0; live = (IsIn-out consumer row.place it.1).live; index = refl }

return_by-same : {last : ℕ} (consumer : ConsumerId) (o : Option Row) (p : Progress) (rows : List Row)
    (messages : List Message) → Alike last p.state.rows p.state.messages rows messages
    → first_delivery consumer p.state.rows ≡ o
    → SameMaybe last (return_by o p) (return_by o (over_rows rows messages p))
return_by-same consumer None p rows messages alike found = tt
return_by-same consumer (Some row) p rows messages alike found =
    return_row-same row p rows messages alike (lives-first consumer p.state.rows row found)

return_first-same : {last : ℕ} (consumer : ConsumerId) → KeepsMaybe last (return_first consumer)
return_first-same {last = last} consumer p rows messages alike =
    let same = scans p.state.rows p.state.messages rows messages alike in
    let row : Option Row = first_delivery consumer p.state.rows in
    subst (λ (o : Option Row). SameMaybe last (return_by row p) (return_by o (over_rows rows messages p)))
    (same.first consumer) (return_by-same consumer row p rows messages alike refl)

return_all-same : {last : ℕ} (consumer : Consumer) → Keeps last (return_all consumer)
unfolding return_all
return_all-same consumer p rows messages alike =
    rounds-same (return_first consumer.id) (return_first-same consumer.id) (out_count consumer.id p.state.rows)
    (out_count consumer.id rows)
    ((scans p.state.rows p.state.messages rows messages alike).out consumer.id) p (over_rows rows messages p)
    (same-as p rows messages alike)

return_if-same : {last : ℕ} (session : SessionId) (consumer : Consumer)
    → Keeps last (λ p. if is_of_session session consumer then return_all consumer p else p)
return_if-same {last = last} session consumer p rows messages alike =
    let q : Progress = over_rows rows messages p in
    cond-pair (is_of_session session consumer) (Same last) (return_all consumer p) p (return_all consumer q) q
    (λ _. return_all-same consumer p rows messages alike) (λ _. same-as p rows messages alike)

leave-same : {last : ℕ} (session : SessionId) → Keeps last (λ p. set_state (leave session p.state) p)
leave-same session p rows messages alike =
    record { rows = rows; messages = messages; is = refl; alike = alike }

down-same : {last : ℕ} (session : SessionId) → KeepsActed last (down session)
unfolding down
down-same session p rows messages alike =
    let q : Progress = over_rows rows messages p in
    let back : Progress → Progress = return_session session p.state.consumers in
    record {
      progress =
          then_same (λ r. set_state (leave session r.state) r) (leave-same session) (back p) (back q)
          (fold-same
          (λ (now : Progress) (consumer : Consumer). if is_of_session session consumer then return_all consumer now
          else now) (return_if-same session) p.state.consumers p q (same-as p rows messages alike));
      answer = refl;
    }

-- DeadAttach, DeadSettle ------------------------------------------------------------------------------

dead_attach-same : {last : ℕ} (term : Term) → KeepsActed last (dead_attach term)
unfolding dead_attach
dead_attach-same {last = last} term p rows messages alike =
    let q : Progress = over_rows rows messages p in
    let attaches : Progress → Acted = λ r.
    reply answer.Attached (set_state (record (r.state) { attached = term.0; given = 0 }) r) in
    cond-pair (is_at_least_once p.state.args.strategy && nat_lt p.state.attached term.0) (SameActed last)
    (attaches p) (reply answer.Stale p) (attaches q) (reply answer.Stale q)
    (λ _. record {
      progress = record { rows = rows; messages = messages; is = refl; alike = alike };
      answer = refl;
    })
    (λ _. record { progress = same-as p rows messages alike; answer = refl })

record SameSettling (last : ℕ) (a b : Settling) : Type 0 where
  progress : Same last a.progress b.progress
  count : a.count ≡ b.count

lives-numbered : (number : ℕ) (rows : List Row) (row : Row) → dead_row number rows ≡ Some row → Lives rows row
lives-numbered number rows row found =
    let it = dead_row-in number rows row found in
    record { old = row; here = it.0; live = ap is_live it.1.1; index = refl }

given-lives : (number : ℕ) (s : State) (row : Row) → given_row number s ≡ Some row → Lives s.rows row
given-lives number s row found = by (nat_le number s.given) found
  where
    by : (b : Bool) → (if b then dead_row number s.rows else None) ≡ Some row → Lives s.rows row
    by true is = lives-numbered number s.rows row is
    by false is = absurd cc

settle_by-same : {last : ℕ} (number : ℕ) (o : Option Row) (count : ℕ) (p : Progress) (rows : List Row)
    (messages : List Message) → Alike last p.state.rows p.state.messages rows messages
    → given_row number p.state ≡ o
    → SameSettling last (settle_dead_by o (record { progress = p; count = count }))
    (settle_dead_by o (record { progress = over_rows rows messages p; count = count }))
settle_by-same number None count p rows messages alike found =
    record { progress = same-as p rows messages alike; count = refl }
settle_by-same number (Some row) count p rows messages alike found = record {
  progress = move-same row (Gone gone.DeadLettered) p rows messages alike (given-lives number p.state row found);
  count = refl;
}

settle_one-over : {last : ℕ} (number count : ℕ) (p : Progress) (rows : List Row) (messages : List Message)
    → Alike last p.state.rows p.state.messages rows messages
    → SameSettling last (settle_dead_by (given_row number p.state) (record { progress = p; count = count }))
    (settle_dead_by (given_row number (with_rows rows messages p.state))
    (record { progress = over_rows rows messages p; count = count }))
settle_one-over {last = last} number count p rows messages alike =
    let same = scans p.state.rows p.state.messages rows messages alike in
    let row : Option Row = given_row number p.state in
    let now : Settling = record { progress = p; count = count } in
    let after : Settling = record { progress = over_rows rows messages p; count = count } in
    subst (λ (o : Option Row). SameSettling last (settle_dead_by row now)
    (settle_dead_by (if nat_le number p.state.given then o else None) after)) (same.numbered number)
    (settle_by-same number row count p rows messages alike refl)

settle_one-same : {last : ℕ} (number : ℕ) (a b : Settling) → SameSettling last a b
    → SameSettling last (settle_dead_by (given_row number a.progress.state) a)
    (settle_dead_by (given_row number b.progress.state) b)
settle_one-same {last = last} number a b same =
    let rows = same.progress.rows in
    let messages = same.progress.messages in
    let is : b ≡ record { progress = over_rows rows messages a.progress; count = a.count } =
    ap (λ (p : Progress). record { progress = p; count = b.count }) same.progress.is
    ∙ ap (λ n. record { progress = over_rows rows messages a.progress; count = n }) (sym same.count) in
    subst (λ (c : Settling). SameSettling last (settle_dead_by (given_row number a.progress.state) a)
    (settle_dead_by (given_row number c.progress.state) c)) (sym is)
    (settle_one-over number a.count a.progress rows messages same.progress.alike)

settle-same : {last : ℕ} (done : List DeadDone) (a b : Settling) → SameSettling last a b
    → SameSettling last
    (fold (λ (now : Settling) (one : DeadDone). settle_dead_by (given_row one.number now.progress.state) now) a done)
    (fold (λ (now : Settling) (one : DeadDone). settle_dead_by (given_row one.number now.progress.state) now) b done)
settle-same [] a b same = same
settle-same (one ∷ done) a b same =
    settle-same done (settle_dead_by (given_row one.number a.progress.state) a)
    (settle_dead_by (given_row one.number b.progress.state) b) (settle_one-same one.number a b same)

dead_settle-same : {last : ℕ} (term : Term) (done : List DeadDone) → KeepsActed last (dead_settle term done)
unfolding dead_settle
dead_settle-same {last = last} term done p rows messages alike =
    let q : Progress = over_rows rows messages p in
    let settles : Progress → Acted = λ r.
    reply (answer.DeadSettled (settle_dead done r).count) (settle_dead done r).progress in
    cond-pair (is_at_least_once p.state.args.strategy && nat_eq term.0 p.state.attached) (SameActed last) (settles p)
    (reply answer.Stale p) (settles q) (reply answer.Stale q)
    (λ _.
    let it =
    settle-same done (record { progress = p; count = 0 }) (record { progress = q; count = 0 })
    (record { progress = same-as p rows messages alike; count = refl }) in
    record { progress = it.progress; answer = ap (λ n. answer.DeadSettled n) it.count })
    (λ _. record { progress = same-as p rows messages alike; answer = refl })

-- The table -------------------------------------------------------------------------------------------

later-acted : {last : ℕ} (index : Index) (f : Progress → Acted) → last < index.0 → KeepsActed last f
    → (p : Progress) (rows : List Row) (messages : List Message)
    → Alike last p.state.rows p.state.messages rows messages
    → SameActed index.0 (f p) (f (over_rows rows messages p))
later-acted index f above keeps p rows messages alike =
    acted-later index.0 (f p) (f (over_rows rows messages p)) (omega arith) (keeps p rows messages alike)

pub act-same : {last : ℕ} (index : Index) (command : Command) → last < index.0 → (p : Progress) (rows : List Row)
    (messages : List Message) → Alike last p.state.rows p.state.messages rows messages
    → SameActed index.0 (act index command p) (act index command (over_rows rows messages p))
unfolding act
act-same index (Noop version) above p rows messages alike =
    later-acted index (reply answer.Lead) above
    (λ p rows messages alike. record { progress = same-as p rows messages alike; answer = refl }) p rows messages alike
act-same index (Enqueue stamp origin message) above p rows messages alike =
    enqueue-same index message p rows messages above alike
act-same index (Get stamp) above p rows messages alike =
    later-acted index get above get-same p rows messages alike
act-same index (Subscribe stamp tag mode) above p rows messages alike =
    later-acted index (subscribe (consumer_id stamp tag) mode) above (subscribe-same (consumer_id stamp tag) mode) p
    rows messages alike
act-same index (Cancel stamp tag) above p rows messages alike =
    later-acted index (cancel (consumer_id stamp tag)) above (cancel-same (consumer_id stamp tag)) p rows messages
    alike
act-same index (Credit stamp tag count credit drain) above p rows messages alike =
    later-acted index (give_credit (consumer_id stamp tag) (count + credit)) above
    (give_credit-same (consumer_id stamp tag) (count + credit)) p rows messages alike
act-same index (Settle stamp tag ids) above p rows messages alike =
    later-acted index (finish Settled (consumer_id stamp tag) ids) above
    (finish-same Settled (consumer_id stamp tag) ids) p rows messages alike
act-same index (Return stamp tag ids) above p rows messages alike =
    later-acted index (finish Returned (consumer_id stamp tag) ids) above
    (finish-same Returned (consumer_id stamp tag) ids) p rows messages alike
act-same index (Discard stamp tag ids) above p rows messages alike =
    later-acted index (finish Discarded (consumer_id stamp tag) ids) above
    (finish-same Discarded (consumer_id stamp tag) ids) p rows messages alike
act-same index (Purge stamp) above p rows messages alike =
    later-acted index purge above purge-same p rows messages alike
act-same index (Down session) above p rows messages alike =
    later-acted index (down session) above (down-same session) p rows messages alike
act-same index (DeadAttach term) above p rows messages alike =
    later-acted index (dead_attach term) above (dead_attach-same term) p rows messages alike
act-same index (DeadSettle term done) above p rows messages alike =
    later-acted index (dead_settle term done) above (dead_settle-same term done) p rows messages alike
