-- A queue has no more consumers than it may, and a cancelled one has something out, over whole commands.
use Rattle.std.proofs.Common.{◌≡◌, ℕ, ◌+◌, ◌<◌, ◌≤◌, Bool, true, false, not, ◌&&◌, List, [], Option, Some, None, length, refl, sym, ap, ◌∙◌, subst, inl, inr, arith}
use Rattle.std.specs.Prelude.{nat_eq, nat_le, nat_lt}
use Rattle.std.proofs.lemmas.Bool.{false≢true, cases_Bool, cond_both, not-true}
use Rattle.qq_base.specs.declared.ids.Index.{Index}
use Rattle.qq_base.specs.declared.ids.Term.{Term}
use Rattle.qq_base.specs.declared.ids.SessionId.{SessionId}
use Rattle.qq_base.specs.declared.ids.ConsumerId.{ConsumerId}
use Rattle.qq_base.specs.Ids.{same_session}
use Rattle.qq_entry.specs.Command.{consumer_id}
use Rattle.qq_entry.specs.declared.answer.Answer.TheVariants as answer
use Rattle.qq_entry.specs.declared.command.Command.{Command}
use Rattle.qq_entry.specs.declared.command.Command.TheVariants.{Noop, Enqueue, Get, Subscribe, Cancel, Credit, Settle, Return, Discard, Purge, Down, DeadAttach, DeadSettle}
use Rattle.qq_entry.specs.declared.command.DeadDone.{DeadDone}
use Rattle.qq_model.specs.declared.TheConstants.{MOST_CONSUMERS}
use Rattle.qq_model.specs.declared.consumer.Consumer.{Consumer}
use Rattle.qq_model.specs.declared.consumer.Outcome.TheVariants.{Settled, Returned, Discarded}
use Rattle.qq_model.specs.declared.place.GoneReason.TheVariants as gone
use Rattle.qq_model.specs.declared.place.Place.TheVariants.{Out, Gone}
use Rattle.qq_model.specs.declared.place.Row.{Row}
use Rattle.qq_model.specs.State.{State}
use Rattle.qq_model.specs.Choice.{is_out_to, out_count}
use Rattle.qq_model.specs.Limits.{is_with_consumer}
use Rattle.qq_model.specs.Changes.{Progress, put_row}
use Rattle.qq_model.specs.Commands.{Acted, reply, set_state, is_at_least_once, act, is_of_session, return_session, down, dead_attach, dead_row, given_row, Settling, settle_dead_by, settle_dead, dead_settle}
use Rattle.qq_model.specs.Serving.{serve, check_out_all, drain_after}
use Rattle.qq_model.specs.Step.{map_progress, carry_out}
use Rattle.qq_base.proofs.Lists.{In, In-filter_passes, fold-keeps}
use Rattle.qq_model.proofs.ActKeeps.{return_session-keeps}
use Rattle.qq_model.proofs.CarryOut.{check_out_all-keeps, drain-keeps, follow_on, give_all_dead-keeps, keep_limits-keeps}
use Rattle.qq_model.proofs.Choices.{next_message-in}
use Rattle.qq_model.proofs.Few.{Bounds, BoundsOf, Busy, busy-consumer, busy-row, cancel-bounds, credit-bounds, enqueue-bounds, filter-few, finish-bounds, get-bounds, out-put_more, purge-bounds, put-few, ready-in, subscribe-bounds}
use Rattle.qq_model.proofs.Holders.{In-filtered}
use Rattle.qq_model.proofs.Ids.{consumer-found}
use Rattle.qq_model.proofs.Indices.{Rises, indices}
use Rattle.qq_model.proofs.InOrder.{indices-put}
use Rattle.qq_model.proofs.Lookups.{dead_row-in, next_consumer-in, out-place}
use Rattle.qq_model.proofs.Serve.{serve-cancelled, serve-id}
use Rattle.qq_model.proofs.SingleChanges.{Because, KeepsDeliveries, KeepsRows, Serves}
use Rattle.qq_model.proofs.SingleChanges.Because.{IsGot, IsSettled, IsDiscarded, GoesBack, PassesLimit, IsDropped, IsDeadLettered}

-- Down -----------------------------------------------------------------------------------------------------

-- of other sessions than one that ends, what was out still is
record Spares (session : SessionId) (consumers : List Consumer) (p : Progress) : Type 0 where
  rising : Rises (indices p.state.rows)
  same : p.state.consumers ≡ consumers
  busy : (one : Consumer) → In one consumers → one.cancelled ≡ true → is_of_session session one ≡ false
      → 0 < out_count one.id p.state.rows

-- what was out with a consumer of another session isn't ended
not-ended : (session : SessionId) (p : Progress) (old new : Row) (one : Consumer)
    → Because p (Down session) old new → is_of_session session one ≡ false → is_out_to one.id old.place ≡ true → ⊥
not-ended session p old new one why other out = by why
  where
    at : (id : ℕ) × (old.place ≡ Out one.id id)
    at = out-place one.id old.place out

    ended : (consumer : ConsumerId) (id : ℕ) → old.place ≡ Out consumer id → same_session consumer.session session ≡ true
        → ⊥
    ended consumer id is ends =
        let e : Out consumer id ≡ Out one.id at.0 = sym is ∙ at.1 in
        let own : consumer ≡ one.id = cc in
        false≢true (sym other ∙ ap (λ (c : ConsumerId). same_session c.session session) (sym own) ∙ ends)

    by : Because p (Down session) old new → ⊥
    by (IsGot gets found made) = false≢true gets
    by (IsSettled consumer id is ends settles made) = false≢true settles
    by (IsDiscarded consumer id place is ends discards death made) = false≢true discards
    by (GoesBack consumer id key is ends back within made) = ended consumer id is ends
    by (PassesLimit consumer id place is ends back passed death made) = ended consumer id is ends
    by (IsDropped place found passed death made) =
        let ready = (next_message-in p.state.rows old found).1 in
        false≢true (sym (ready-in old.place ready) ∙ ap is_with_consumer at.1)
    by (IsDeadLettered number cause is settles given made) = false≢true settles

spares-rows : (session : SessionId) (consumers : List Consumer)
    → KeepsRows (Down session) (Spares session consumers)
spares-rows session consumers = record {
  row = λ p q old new it here moves out why turns. record {
    rising = subst Rises (sym (ap indices turns.rows ∙ indices-put new p.state.rows)) it.rising;
    same = turns.consumers ∙ it.same;
    busy = λ one there over other.
        let before = it.busy one there over other in
        elim (cases_Bool (is_out_to one.id old.place)) [
          | inl with' ↦ absurd (not-ended session p old new one why other with')
          | inr none ↦
              let more = out-put_more one.id old new p.state.rows it.rising here (ap (λ (i : Index). i.0) moves.index)
              none in
              omega (arith, before, more, ap (out_count one.id) turns.rows)
        ];
  };
}

down-bounds : (session : SessionId) (p : Progress) → Rises (indices p.state.rows) → Bounds p
    → BoundsOf (down session p)
unfolding down
down-bounds session p rising it =
    let back : Progress = return_session session p.state.consumers p in
    let stays : Consumer → Bool = λ (consumer : Consumer). not (is_of_session session consumer) in
    let spares = return_session-keeps session (spares-rows session p.state.consumers) p.state.consumers p
    (record { rising = rising; same = refl; busy = λ one here over other. it.busy one here over }) in
    record {
      few = omega (
        arith,
        filter-few stays back.state.consumers,
        ap (λ (cs : List Consumer). length cs) spares.same,
        it.few,
      );
      busy = λ one here over.
          spares.busy one (subst (In one) spares.same (In-filtered stays one back.state.consumers here)) over
          (not-true (is_of_session session one) (In-filter_passes stays one back.state.consumers here));
    }

-- DeadAttach, DeadSettle -----------------------------------------------------------------------------------

dead_attach-bounds : (term : Term) (p : Progress) → Bounds p → BoundsOf (dead_attach term p)
unfolding dead_attach
dead_attach-bounds term p it =
    cond_both (is_at_least_once p.state.args.strategy && nat_lt p.state.attached term.0)
    (reply answer.Attached (set_state (record (p.state) { attached = term.0; given = 0 }) p)) (reply answer.Stale p)
    BoundsOf
    (λ _. record { few = it.few; busy = it.busy }) (λ _. it)

-- rows in order, and the bounds
record Steady (p : Progress) : Type 0 where
  rising : Rises (indices p.state.rows)
  few : length p.state.consumers ≤ MOST_CONSUMERS
  busy : Busy p.state.rows p.state.consumers

dead_settle-bounds : (term : Term) (done : List DeadDone) (p : Progress) → Rises (indices p.state.rows) → Bounds p
    → BoundsOf (dead_settle term done p)
unfolding dead_settle
dead_settle-bounds term done p rising it =
    cond_both (is_at_least_once p.state.args.strategy && nat_eq term.0 p.state.attached)
    (reply (answer.DeadSettled (settle_dead done p).count) (settle_dead done p).progress) (reply answer.Stale p)
    BoundsOf
    (λ _. let all = fold-keeps (λ (now : Settling). Steady now.progress)
    (λ (now : Settling) (one : DeadDone). settle_dead_by (given_row one.number now.progress.state) now)
    (λ now one steady. by now one.number (given_row one.number now.progress.state) refl steady) done
    (record { progress = p; count = 0 }) (record { rising = rising; few = it.few; busy = it.busy }) in
    record { few = all.few; busy = all.busy }) (λ _. it)
  where
    dead : (number : ℕ) (s : State) (row : Row) → given_row number s ≡ Some row → dead_row number s.rows ≡ Some row
    dead number s row found =
        cond_both (nat_le number s.given) (dead_row number s.rows) None
        (λ (o : Option Row). o ≡ Some row → dead_row number s.rows ≡ Some row) (λ _ is. is) (λ _ none. absurd cc)
        found

    by : (now : Settling) (number : ℕ) (o : Option Row) → given_row number now.progress.state ≡ o
        → Steady now.progress → Steady (settle_dead_by o now).progress
    by now number None found steady = steady
    by now number (Some row) found steady =
        let rows : List Row = now.progress.state.rows in
        let new : Row = record row { place = Gone gone.DeadLettered } in
        let some = dead_row-in number rows row (dead number now.progress.state row found) in
        record {
          rising = subst Rises (sym (indices-put new rows)) steady.rising;
          few = steady.few;
          busy = busy-row rows now.progress.state.consumers row new steady.rising some.0 refl
              (ap is_with_consumer some.1.1) steady.busy;
        }

-- the command's row of the table
act-bounds : (index : Index) (command : Command) (p : Progress) → Rises (indices p.state.rows) → Bounds p
    → BoundsOf (act index command p)
unfolding act
act-bounds index (Noop version) p rising it = it
act-bounds index (Enqueue stamp origin message) p rising it = enqueue-bounds index message p it
act-bounds index (Get stamp) p rising it = get-bounds p rising it
act-bounds index (Subscribe stamp tag mode) p rising it = subscribe-bounds (consumer_id stamp tag) mode p it
act-bounds index (Cancel stamp tag) p rising it = cancel-bounds (consumer_id stamp tag) p it
act-bounds index (Credit stamp tag count credit wanted) p rising it =
    credit-bounds (consumer_id stamp tag) (count + credit) p it
act-bounds index (Settle stamp tag ids) p rising it = finish-bounds Settled (consumer_id stamp tag) ids p it
act-bounds index (Return stamp tag ids) p rising it = finish-bounds Returned (consumer_id stamp tag) ids p it
act-bounds index (Discard stamp tag ids) p rising it = finish-bounds Discarded (consumer_id stamp tag) ids p it
act-bounds index (Purge stamp) p rising it = purge-bounds p it
act-bounds index (Down session) p rising it = down-bounds session p rising it
act-bounds index (DeadAttach term) p rising it = dead_attach-bounds term p it
act-bounds index (DeadSettle term done) p rising it = dead_settle-bounds term done p rising it

-- What follows ---------------------------------------------------------------------------------------------

-- what deliveries, drops, offers and drains keep, all that follows on a command keeps
pub follow-keeps : {I : Progress → Type 0} → KeepsDeliveries I → Serves (Noop 0) I → (command : Command) (a : Acted)
    → I a.progress → I (follow_on command a).progress
unfolding drain_after
follow-keeps {I = I} delivers serves command a holds =
    give_all_dead-keeps serves _
    (keep_limits-keeps serves _
    (drains command (map_progress check_out_all a) (check_out_all-keeps I delivers a.progress holds)))
  where
    drains : (command : Command) (a : Acted) → I a.progress → I (drain_after command a).progress
    drains (Credit stamp tag count credit wanted) a holds = drain-keeps serves (consumer_id stamp tag) wanted a holds
    drains _ a holds = holds

steady-delivers : KeepsDeliveries Steady
steady-delivers p row consumer it found next =
    let some = next_message-in p.state.rows row found in
    let there = (next_consumer-in p.state.args.single_active p.state.rows p.state.consumers consumer next).0 in
    let new : Row = record row { place = Out consumer.id consumer.next_id } in
    let served : Consumer = serve (p.state.turns + 1) consumer in
    record {
      rising = subst Rises (sym (indices-put new p.state.rows)) it.rising;
      few = omega (arith, put-few served p.state.consumers, it.few);
      busy = busy-consumer (put_row new p.state.rows) p.state.consumers consumer served there
          (serve-id (p.state.turns + 1) consumer) (serve-cancelled (p.state.turns + 1) consumer)
          (busy-row p.state.rows p.state.consumers row new it.rising some.0 refl (ready-in row.place some.1) it.busy);
    }

-- only a drop at the head moves a message then
pub drops-only : (p : Progress) (old new : Row) → Because p (Noop 0) old new → is_with_consumer old.place ≡ false
drops-only p old new (IsGot gets found made) = absurd (false≢true gets)
drops-only p old new (IsSettled consumer id at ends settles made) = absurd (false≢true ends)
drops-only p old new (IsDiscarded consumer id place at ends discards death made) = absurd (false≢true ends)
drops-only p old new (GoesBack consumer id key at ends back within made) = absurd (false≢true ends)
drops-only p old new (PassesLimit consumer id place at ends back passed death made) = absurd (false≢true ends)
drops-only p old new (IsDropped place found passed death made) =
    ready-in old.place (next_message-in p.state.rows old found).1
drops-only p old new (IsDeadLettered number cause at settles given made) = absurd (false≢true settles)

steady-rows : KeepsRows (Noop 0) Steady
steady-rows = record {
  row = λ p q old new it here moves out why turns.
      let busy : Busy (put_row new p.state.rows) p.state.consumers =
      busy-row p.state.rows p.state.consumers old new it.rising here (ap (λ (i : Index). i.0) moves.index)
      (drops-only p old new why) it.busy in
      record {
        rising = subst Rises (sym (ap indices turns.rows ∙ indices-put new p.state.rows)) it.rising;
        few = omega (arith, ap (λ (cs : List Consumer). length cs) turns.consumers, it.few);
        busy = subst (λ (rows : List Row). Busy rows q.state.consumers) (sym turns.rows)
            (subst (Busy (put_row new p.state.rows)) (sym turns.consumers) busy);
      };
}

steady-serves : Serves (Noop 0) Steady
steady-serves = record {
  rows = steady-rows;
  offer = λ p number cause row it here is next may room.
      record { rising = it.rising; few = it.few; busy = it.busy };
  drain = λ p id consumer it found.
      let new : Consumer = record consumer { credit = 0; count = consumer.count + consumer.credit } in
      record {
        rising = it.rising;
        few = omega (arith, put-few new p.state.consumers, it.few);
        busy = busy-consumer p.state.rows p.state.consumers consumer new
            (consumer-found id p.state.consumers consumer found) refl refl it.busy;
      };
}

-- each row keeps its index
indices-follow : (command : Command) (a : Acted)
    → indices (follow_on command a).progress.state.rows ≡ indices a.progress.state.rows
indices-follow command a =
    follow-keeps {I = λ p. indices p.state.rows ≡ indices a.progress.state.rows}
    (λ p row consumer same found next. indices-put _ p.state.rows ∙ same)
    (record {
      rows = record {
        row = λ p q old new same here moves out why turns.
            ap indices turns.rows ∙ indices-put new p.state.rows ∙ same;
      };
      offer = λ p number cause row same here is next may room. same;
      drain = λ p id consumer same found. same;
    }) command a refl

-- a whole command, of rows that are in order before and after it
pub carried-bounds : (index : Index) (command : Command) (s : State) → Rises (indices s.rows)
    → Rises (indices (carry_out index command s).progress.state.rows) → length s.consumers ≤ MOST_CONSUMERS
    → Busy s.rows s.consumers → BoundsOf (carry_out index command s)
unfolding carry_out
carried-bounds index command s first last few busy =
    let a : Acted = act index command (record { state = s; effects = [] }) in
    let it : Bounds a.progress =
    act-bounds index command (record { state = s; effects = [] }) first (record { few = few; busy = busy }) in
    let done : Steady (follow_on command a).progress = follow-keeps steady-delivers steady-serves command a (record {
      rising = subst Rises (indices-follow command a) last;
      few = it.few;
      busy = it.busy;
    }) in
    record { few = done.few; busy = done.busy }
