-- What each single change of a queue keeps, and each command begins with, each command ends with.
use Rattle.std.proofs.Common.{◌≡◌, ℕ, ◌+◌, ◌≤◌, ◌⊎◌, true, false, not, ◌&&◌, [], ◌∷◌, ◌++◌, Option, Some, None, map, refl, sym, ap, ◌∙◌, subst, inl, inr, arith}
use Rattle.std.specs.Prelude.{nat_le, nat_lt}
use Rattle.std.proofs.lemmas.Bool.{false≢true, cond_both, and_from}
use Rattle.qq_base.specs.declared.ids.Term.{Term}
use Rattle.qq_base.specs.declared.ids.SessionId.{SessionId}
use Rattle.qq_base.specs.declared.ids.ConsumerId.{ConsumerId}
use Rattle.qq_entry.specs.declared.message.Reason.{Reason}
use Rattle.qq_entry.specs.declared.message.Reason.TheVariants as reason
use Rattle.qq_entry.specs.declared.command.Stamp.{Stamp}
use Rattle.qq_entry.specs.declared.command.Command.{Command}
use Rattle.qq_entry.specs.declared.command.Mode.{Mode}
use Rattle.qq_entry.specs.declared.audit.Effect.TheVariants.{DeadOnce, Offer}
use Rattle.qq_entry.specs.declared.queue.Strategy.{Strategy}
use Rattle.qq_entry.specs.declared.queue.Strategy.TheVariants.{Absent, AtMostOnce, AtLeastOnce}
use Rattle.qq_model.specs.declared.place.Key.TheVariants.{Front, Back}
use Rattle.qq_model.specs.declared.place.GoneReason.{GoneReason}
use Rattle.qq_model.specs.declared.place.GoneReason.TheVariants as gone
use Rattle.qq_model.specs.declared.place.Place.{Place}
use Rattle.qq_model.specs.declared.place.Place.TheVariants.{Ready, Out, Dead, Gone}
use Rattle.qq_model.specs.declared.place.Row.{Row}
use Rattle.qq_model.specs.declared.consumer.Consumer.{Consumer}
use Rattle.qq_model.specs.State.{State}
use Rattle.qq_model.specs.Choice.{next_message, next_consumer, is_out_to, out_count}
use Rattle.qq_model.specs.Limits.{is_live, is_dead, is_ready, is_with_consumer, is_over_limit, has_passed}
use Rattle.qq_model.specs.Changes.{Progress, put_row, put_consumer, consumer_of, message_of, die, die_by, go_back, return_row, drop_finished, take_turn, begin_to_wait}
use Rattle.qq_model.specs.Commands.{set_state, move_row, join, set_credit, leave, purge_row, is_at_least_once, is_of_session}
use Rattle.qq_model.specs.Serving.{deliver, drain_credit, next_dead, given_count}
use Rattle.qq_model.specs.declared.TheConstants.{MOST_GIVEN}
use Rattle.qq_entry.specs.declared.command.Command.TheVariants.{Down}
use Rattle.qq_model.specs.declared.place.Key.{Key}
use Rattle.qq_model.specs.Gate.{greatest_tag}
use Rattle.qq_base.proofs.Lists.{In}
use Rattle.qq_entry.specs.Command.{stamp}
use Rattle.qq_model.specs.Reasons.{is_get, is_settle, is_discard, is_purge, is_down, ends_delivery, settles_dead, may_go_back, may_die, may_move, Moves}

-- a place in the queue, and a number among the dead, is the next that is drawn
abbrev pub Draws : State → State → Place → Type 0
Draws s t (Ready (Back n)) =
    (n ≡ s.orders + 1) × (t.orders ≡ s.orders + 1) × (t.returns ≡ s.returns) × (t.deads ≡ s.deads)
Draws s t (Ready (Front n)) =
    (n ≡ s.returns + 1) × (t.orders ≡ s.orders) × (t.returns ≡ s.returns + 1) × (t.deads ≡ s.deads)
Draws s t (Out consumer id) = ⊥
Draws s t (Dead n reason) =
    (n ≡ s.deads + 1) × (t.orders ≡ s.orders) × (t.returns ≡ s.returns) × (t.deads ≡ s.deads + 1)
Draws s t (Gone reason) = (t.orders ≡ s.orders) × (t.returns ≡ s.returns) × (t.deads ≡ s.deads)

-- the place of a message that died of this, whether the queue keeps it or not
abbrev pub IsDeath : Reason → Place → Type 0
IsDeath cause place = (place ≡ Gone (gone.Died cause)) ⊎ ((n : ℕ) × (place ≡ Dead n cause))

-- why a command moves a message
pub data Because (p : Progress) (command : Command) (old new : Row) : Type 0 where
  IsGot : is_get command ≡ true → next_message p.state.rows ≡ Some old → new ≡ record old { place = Gone gone.Got }
      → Because p command old new
  IsSettled : (consumer : ConsumerId) (id : ℕ) → old.place ≡ Out consumer id
      → ends_delivery command consumer id ≡ true
      → is_settle command ≡ true → new ≡ record old { place = Gone gone.Settled } → Because p command old new
  IsDiscarded : (consumer : ConsumerId) (id : ℕ) (place : Place) → old.place ≡ Out consumer id
      → ends_delivery command consumer id ≡ true → is_discard command ≡ true → IsDeath reason.Rejected place
      → new ≡ record old { place = place } → Because p command old new
  GoesBack : (consumer : ConsumerId) (id : ℕ) (key : Key) → old.place ≡ Out consumer id
      → ends_delivery command consumer id ≡ true → may_go_back command ≡ true
      → has_passed p.state.args.delivery_limit (old.count + 1) ≡ false
      → new ≡ record old { count = old.count + 1; place = Ready key } → Because p command old new
  PassesLimit : (consumer : ConsumerId) (id : ℕ) (place : Place) → old.place ≡ Out consumer id
      → ends_delivery command consumer id ≡ true → may_go_back command ≡ true
      → has_passed p.state.args.delivery_limit (old.count + 1) ≡ true → IsDeath reason.DeliveryLimit place
      → new ≡ record old { count = old.count + 1; place = place } → Because p command old new
  IsDropped : (place : Place) → next_message p.state.rows ≡ Some old → is_over_limit p.state.args p.state.rows ≡ true
      → IsDeath reason.MaxLen place → new ≡ record old { place = place } → Because p command old new
  IsDeadLettered : (number : ℕ) (cause : Reason) → old.place ≡ Dead number cause
      → settles_dead command p.state.attached number ≡ true → number ≤ p.state.given
      → new ≡ record old { place = Gone gone.DeadLettered } → Because p command old new

-- the row of an index is another one, and at most a dead letter leaves
pub record Turns (p q : Progress) (new : Row) : Type 0 where
  pub rows : q.state.rows ≡ put_row new p.state.rows
  pub args : q.state.args ≡ p.state.args
  pub arrivals : q.state.arrivals ≡ p.state.arrivals
  pub messages : q.state.messages ≡ p.state.messages
  pub consumers : q.state.consumers ≡ p.state.consumers
  pub sessions : q.state.sessions ≡ p.state.sessions
  pub turns : q.state.turns ≡ p.state.turns
  pub given : q.state.given ≡ p.state.given
  pub attached : q.state.attached ≡ p.state.attached
  pub draws : Draws p.state q.state new.place
  pub effects : (q.effects ≡ p.effects)
      ⊎ ((reason : Reason) × (q.effects ≡ p.effects ++ DeadOnce reason (message_of p.state.rows p.state.messages new)
      ∷ []))

-- each change of one row keeps I, at a command
pub record KeepsRows (command : Command) (I : Progress → Type 0) : Type 0 where
  pub row : (p q : Progress) (old new : Row) → I p → In old p.state.rows → Moves p.state.args command old new
      → is_with_consumer new.place ≡ false → Because p command old new → Turns p q new → I q

-- a consumer is one of the session that sent the command
abbrev pub IsOwn : Command → ConsumerId → Type 0
IsOwn command id = (given : Stamp) × (stamp command ≡ Some given) × (id.session ≡ given.session)

-- each single change that carrying out the command itself makes keeps I
pub record Acts (command : Command) (I : Progress → Type 0) : Type 0 where
  pub rows : KeepsRows command I
  pub purge : (p : Progress) → I p → is_purge command ≡ true
      → I (set_state (record (p.state) { rows = map purge_row p.state.rows }) p)
  pub attach : (p : Progress) (term : Term) → I p → is_at_least_once p.state.args.strategy ≡ true
      → nat_lt p.state.attached term.0 ≡ true
      → I (set_state (record (p.state) { attached = term.0; given = 0 }) p)
  pub join : (p : Progress) (id : ConsumerId) (mode : Mode) → I p
      → nat_le id.tag (greatest_tag id.session p.state.sessions) ≡ false → IsOwn command id
      → I (set_state (join id mode p.state) p)
  pub cancel : (p : Progress) (id : ConsumerId) (consumer : Consumer) → I p
      → consumer_of id p.state.consumers ≡ Some consumer
      → I (set_state
      (record (p.state) { consumers = put_consumer (record consumer { cancelled = true }) p.state.consumers }) p)
  pub finish : (p : Progress) → I p → I (set_state (drop_finished p.state) p)
  pub credit : (p : Progress) (id : ConsumerId) (consumer : Consumer) (credit : ℕ) → I p
      → consumer_of id p.state.consumers ≡ Some consumer → I (set_state (set_credit consumer credit p.state) p)
  pub turn : (p : Progress) (id : ConsumerId) (consumer : Consumer) → I p
      → consumer_of id p.state.consumers ≡ Some consumer → I (set_state (take_turn (Some consumer) p.state) p)
  pub leave : (p : Progress) (session : SessionId) → I p → is_down command ≡ true → command ≡ Down session
      → ((consumer : Consumer) → In consumer p.state.consumers → is_of_session session consumer ≡ true
      → out_count consumer.id p.state.rows ≡ 0)
      → I (set_state (leave session p.state) p)

-- each delivery keeps I
abbrev pub KeepsDeliveries : (Progress → Type 0) → Type 0
KeepsDeliveries I =
    (p : Progress) (row : Row) (consumer : Consumer) → I p → next_message p.state.rows ≡ Some row
    → next_consumer p.state.args.single_active p.state.rows p.state.consumers ≡ Some consumer
    → I (deliver row consumer p)

-- each single change that follows on the deliveries keeps I
pub record Serves (command : Command) (I : Progress → Type 0) : Type 0 where
  pub rows : KeepsRows command I
  pub offer : (p : Progress) (number : ℕ) (reason : Reason) (row : Row) → I p → In row p.state.rows
      → row.place ≡ Dead number reason → next_dead p.state.given p.state.rows ≡ Some row
      → nat_lt 0 p.state.attached ≡ true → nat_lt (given_count p.state.given p.state.rows) MOST_GIVEN ≡ true
      → I (record {
        state = record (p.state) { given = number };
        effects =
            p.effects ++ Offer number reason (message_of p.state.rows p.state.messages row) ∷ [];
      })
  pub drain : (p : Progress) (id : ConsumerId) (consumer : Consumer) → I p
      → consumer_of id p.state.consumers ≡ Some consumer → I (set_state (drain_credit consumer p.state) p)

-- a row, but perhaps counted once more
pub record Recounts (command : Command) (old row : Row) : Type 0 where
  pub index : row.index ≡ old.index
  pub arrival : row.arrival ≡ old.arrival
  pub size : row.size ≡ old.size
  pub rises : old.count ≤ row.count
  pub counted : (row.count ≡ old.count) ⊎ (may_go_back command ≡ true)

pub Recounts-same : (command : Command) (row : Row) → Recounts command row row
Recounts-same command row =
    record { index = refl; arrival = refl; size = refl; rises = omega arith; counted = inl refl }

-- a place in the queue, that of a message that isn't dead
pub record IsIn (place : Place) : Type 0 where
  pub live : is_live place ≡ true
  pub dead : is_dead place ≡ false

pub IsIn-ready : (place : Place) → is_ready place ≡ true → IsIn place
IsIn-ready (Ready key) h = record { live = refl; dead = refl }
IsIn-ready _ h = absurd (false≢true h)

pub IsIn-out : (consumer : ConsumerId) (place : Place) → is_out_to consumer place ≡ true → IsIn place
IsIn-out consumer (Out other id) h = record { live = refl; dead = refl }
IsIn-out consumer _ h = absurd (false≢true h)

pub Moves-in : {command : Command} (p : Progress) (old row : Row) (place : Place) → IsIn old.place
    → Recounts command old row → may_move p.state.args command place ≡ true
    → Moves p.state.args command old (record row { place = place })
Moves-in p old row place at same explained = record {
  live = at.live;
  index = same.index;
  arrival = same.arrival;
  size = same.size;
  place = explained;
  dead = λ h. absurd (false≢true (sym at.dead ∙ h));
  rises = same.rises;
  counted = same.counted;
}

pub die_by-keeps : {command : Command} {I : Progress → Type 0} → KeepsRows command I
    → (strategy : Strategy) (cause : Reason) (old row : Row) (p : Progress) → p.state.args.strategy ≡ strategy
    → I p → In old p.state.rows → IsIn old.place → Recounts command old row → may_die p.state.args command cause ≡
    true
    → ((place : Place) → IsDeath cause place → Because p command old (record row { place = place }))
    → I (die_by strategy cause row p)
die_by-keeps closed Absent cause old row p is holds here at same explained why =
    let place = Gone (gone.Died cause) in
    let explained' : (not (is_at_least_once p.state.args.strategy) && may_die p.state.args _ cause) ≡ true =
    and_from _ _ (ap (λ s. not (is_at_least_once s)) is) explained in
    closed.row p (die_by Absent cause row p) old (record row { place = place }) holds here
    (Moves-in p old row place at same explained') refl (why place (inl refl))
    (record {
      rows = refl;
      args = refl;
      arrivals = refl;
      messages = refl;
      consumers = refl;
      sessions = refl;
      turns = refl;
      given = refl;
      attached = refl;
      draws = (refl, refl, refl);
      effects = inl refl;
    })
die_by-keeps closed AtMostOnce cause old row p is holds here at same explained why =
    let place = Gone (gone.Died cause) in
    let explained' : (not (is_at_least_once p.state.args.strategy) && may_die p.state.args _ cause) ≡ true =
    and_from _ _ (ap (λ s. not (is_at_least_once s)) is) explained in
    closed.row p (die_by AtMostOnce cause row p) old (record row { place = place }) holds here
    (Moves-in p old row place at same explained') refl (why place (inl refl))
    (record {
      rows = refl;
      args = refl;
      arrivals = refl;
      messages = refl;
      consumers = refl;
      sessions = refl;
      turns = refl;
      given = refl;
      attached = refl;
      draws = (refl, refl, refl);
      effects = inr (cause, refl);
    })
die_by-keeps closed AtLeastOnce cause old row p is holds here at same explained why =
    let place = Dead (p.state.deads + 1) cause in
    let explained' : (is_at_least_once p.state.args.strategy && may_die p.state.args _ cause) ≡ true =
    and_from _ _ (ap is_at_least_once is) explained in
    closed.row p (die_by AtLeastOnce cause row p) old (record row { place = place }) holds here
    (Moves-in p old row place at same explained') refl (why place (inr (p.state.deads + 1, refl)))
    (record {
      rows = refl;
      args = refl;
      arrivals = refl;
      messages = refl;
      consumers = refl;
      sessions = refl;
      turns = refl;
      given = refl;
      attached = refl;
      draws = (refl, refl, refl, refl);
      effects = inl refl;
    })

pub die-keeps : {command : Command} {I : Progress → Type 0} → KeepsRows command I
    → (cause : Reason) (old row : Row) (p : Progress)
    → I p → In old p.state.rows → IsIn old.place → Recounts command old row → may_die p.state.args command cause ≡
    true
    → ((place : Place) → IsDeath cause place → Because p command old (record row { place = place }))
    → I (die cause row p)
unfolding die
die-keeps closed cause old row p holds here at same explained why =
    die_by-keeps closed p.state.args.strategy cause old row p refl holds here at same explained why

pub go_back-keeps : {command : Command} {I : Progress → Type 0} → KeepsRows command I
    → (limit : Option ℕ) (old row : Row) (p : Progress)
    → I p → In old p.state.rows → IsIn old.place → Recounts command old row
    → ((key : Key) → Because p command old (record row { place = Ready key })) → I (go_back limit row p)
go_back-keeps closed None old row p holds here at same why =
    let place = Ready (Back (p.state.orders + 1)) in
    closed.row p (go_back None row p) old (record row { place = place }) holds here
    (Moves-in p old row place at same refl) refl (why (Back (p.state.orders + 1)))
    (record {
      rows = refl;
      args = refl;
      arrivals = refl;
      messages = refl;
      consumers = refl;
      sessions = refl;
      turns = refl;
      given = refl;
      attached = refl;
      draws = (refl, refl, refl, refl);
      effects = inl refl;
    })
go_back-keeps closed (Some limit) old row p holds here at same why =
    let place = Ready (Front (p.state.returns + 1)) in
    closed.row p (go_back (Some limit) row p) old (record row { place = place }) holds here
    (Moves-in p old row place at same refl) refl (why (Front (p.state.returns + 1)))
    (record {
      rows = refl;
      args = refl;
      arrivals = refl;
      messages = refl;
      consumers = refl;
      sessions = refl;
      turns = refl;
      given = refl;
      attached = refl;
      draws = (refl, refl, refl, refl);
      effects = inl refl;
    })

pub return_row-keeps : {command : Command} {I : Progress → Type 0} → KeepsRows command I → (row : Row) (p : Progress)
    (consumer : ConsumerId) (id : ℕ) → row.place ≡ Out consumer id → ends_delivery command consumer id ≡ true
    → may_go_back command ≡ true → I p → In row p.state.rows → I (return_row row p)
unfolding return_row
return_row-keeps {command = command} {I = I} closed row p consumer id is ends back holds here =
    let more : Row = record row { count = row.count + 1 } in
    let same : Recounts command row more =
    record { index = refl; arrival = refl; size = refl; rises = omega arith; counted = inr back } in
    let at : IsIn row.place = subst IsIn (sym is) (record { live = refl; dead = refl }) in
    cond_both (has_passed p.state.args.delivery_limit more.count) (die reason.DeliveryLimit more p)
    (go_back p.state.args.delivery_limit more p) I
    (λ passed. die-keeps closed reason.DeliveryLimit row more p holds here at same back
    (λ place death. PassesLimit consumer id place is ends back passed death refl))
    (λ within. go_back-keeps closed p.state.args.delivery_limit row more p holds here at same
    (λ key. GoesBack consumer id key is ends back within refl))

-- a message leaves the queue
pub move_row-keeps : {command : Command} {I : Progress → Type 0} → KeepsRows command I
    → (row : Row) (cause : GoneReason) (p : Progress)
    → I p → In row p.state.rows → is_live row.place ≡ true → may_move p.state.args command (Gone cause) ≡ true
    → Because p command row (record row { place = Gone cause })
    → I (set_state (move_row row (Gone cause) p.state) p)
move_row-keeps {command = command} closed row cause p holds here live explained why =
    closed.row p (set_state (move_row row (Gone cause) p.state) p) row (record row { place = Gone cause }) holds here
    (record {
      live = live;
      index = refl;
      arrival = refl;
      size = refl;
      place = explained;
      dead = λ _. refl;
      rises = omega arith;
      counted = inl refl;
    }) refl why
    (record {
      rows = refl;
      args = refl;
      arrivals = refl;
      messages = refl;
      consumers = refl;
      sessions = refl;
      turns = refl;
      given = refl;
      attached = refl;
      draws = (refl, refl, refl);
      effects = inl refl;
    })

-- a consumer may begin to wait
pub begin_to_wait-keeps : {command : Command} {I : Progress → Type 0} → Acts command I
    → (before : ℕ) (id : ConsumerId) (p : Progress) → I p → I (set_state (begin_to_wait before id p.state) p)
begin_to_wait-keeps {I = I} closed before id p holds =
    cond_both _ (take_turn (consumer_of id p.state.consumers) p.state) p.state (λ (s : State). I (set_state s p))
    (λ _. takes (consumer_of id p.state.consumers) refl) (λ _. holds)
  where
    takes : (o : Option Consumer) → consumer_of id p.state.consumers ≡ o → I (set_state (take_turn o p.state) p)
    takes None found = holds
    takes (Some consumer) found = closed.turn p id consumer holds found
