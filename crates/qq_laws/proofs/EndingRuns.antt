-- Settles, returns, discards and the ends of sessions take effect.
use Rattle.std.proofs.Common.{◌≡◌, ℕ, ◌+◌, ◌<◌, ◌≤◌, ◌⊎◌, true, false, not, List, [], ◌∷◌, ◌++◌, Option, Some, None, refl, sym, ap, ◌∙◌, subst, inl, inr, arith}
use Rattle.std.proofs.lemmas.Bool.{false≢true, cond-true, not-true}
use Rattle.qq_base.specs.declared.ids.Index.{Index}
use Rattle.qq_base.specs.declared.ids.SessionId.{SessionId}
use Rattle.qq_base.specs.declared.ids.ConsumerId.{ConsumerId}
use Rattle.qq_base.specs.Ids.{same_session, same_consumer}
use Rattle.qq_entry.specs.Command.{stamp, consumer_id}
use Rattle.qq_entry.specs.declared.audit.Effect.TheVariants.{Deliver}
use Rattle.qq_entry.specs.declared.command.Command.{Command}
use Rattle.qq_entry.specs.declared.command.Command.TheVariants.{Down}
use Rattle.qq_entry.specs.declared.command.Entry.{Entry}
use Rattle.qq_entry.specs.declared.command.Stamp.{Stamp}
use Rattle.qq_entry.specs.declared.message.Reason.{Reason}
use Rattle.qq_entry.specs.declared.message.Reason.TheVariants.{Rejected, DeliveryLimit}
use Rattle.qq_entry.specs.declared.queue.QueueArgs.{QueueArgs}
use Rattle.qq_model.specs.declared.consumer.Consumer.{Consumer}
use Rattle.qq_model.specs.declared.consumer.Outcome.{Outcome}
use Rattle.qq_model.specs.declared.consumer.Outcome.TheVariants.{Settled, Returned, Discarded}
use Rattle.qq_model.specs.declared.place.GoneReason.TheVariants as gone
use Rattle.qq_model.specs.declared.place.Place.{Place}
use Rattle.qq_model.specs.declared.place.Place.TheVariants.{Out, Dead, Gone}
use Rattle.qq_model.specs.declared.place.Row.{Row}
use Rattle.qq_model.specs.declared.session.Gate.{Gate}
use Rattle.qq_model.specs.declared.session.Gate.TheVariants.{Fresh}
use Rattle.qq_model.specs.State.{State, Sessions, empty_queue}
use Rattle.qq_model.specs.Gate.{gate, admit}
use Rattle.qq_model.specs.Limits.{is_ready, has_passed}
use Rattle.qq_model.specs.Changes.{Progress, put_consumer}
use Rattle.qq_model.specs.Commands.{Acted, act, delivery_id, is_of_session, return_session, down}
use Rattle.qq_model.specs.Serving.{check_out_all, drain_after, keep_limits, give_all_dead}
use Rattle.qq_model.specs.Step.{Step, map_progress, carry_out, go_through, step_by, step, pass_gate, pass_ungated}
use Rattle.qq_model.specs.Audit.{next_index, next_step, state_after}
use Rattle.qq_base.proofs.Lists.{In, In-filter_passes}
use Rattle.qq_model.proofs.ActKeeps.{act-keeps}
use Rattle.qq_model.proofs.CarryOut.{follow_on, follow_on-keeps}
use Rattle.qq_model.proofs.Drawn.{Drawn}
use Rattle.qq_model.proofs.Holders.{Held, Held-acts, Held-arrives, In-put_consumer}
use Rattle.qq_model.proofs.Ids.{consumer-found, ids_of}
use Rattle.qq_model.proofs.IdSteps.{Known, next-knows}
use Rattle.qq_model.proofs.Indices.{Rises, indices, unique}
use Rattle.qq_model.proofs.Lookups.{next_consumer-in}
use Rattle.qq_model.proofs.OneConsumer.{same_consumer-refl}
use Rattle.qq_model.proofs.Serve.{serve-id}
use Rattle.qq_model.proofs.SessionLemmas.{same_session-refl}
use Rattle.qq_model.proofs.SingleChanges.{KeepsDeliveries, Serves}
use Rattle.qq_model.proofs.Soundness.{Contains-in, in_contains, known_at, rows-kept, rows_at, SoundRows}
use Rattle.qq_model.proofs.StepKeeps.{next-keeps}
use Rattle.qq_laws.specs.Ended.{disposition, DiedOf, GoesBehind, IsBack, EndsAs, Ends, IsNotOut, EndsDeliveries, PassesOver, EndsSessions}
use Rattle.qq_laws.proofs.ActiveLemmas.{act-delivers_none}
use Rattle.qq_laws.proofs.Endings.{Done, Goes, Left, NoneOut, OneOut, Turned, act-done, act-passes, return_session-goes}
use Rattle.qq_laws.proofs.Fares.{Fares, Moved, fares_at_last}
use Rattle.qq_laws.proofs.OutByDelivery.{counts-above, delivery-id, next-out_by}
use Rattle.qq_laws.proofs.TakenLemmas.{let_in, made-carried}

-- What a message has become --------------------------------------------------------------------------------

-- a message that is in the queue no more, nor with a consumer, is as the command left it
same-if : (args : QueueArgs) (y row : Row) (p : Progress) → is_ready y.place ≡ false → (row ≡ y) ⊎ Moved args y row p → row ≡ y
same-if args y row p dead (inl same) = same
same-if args y row p dead (inr moved) = absurd (false≢true (sym dead ∙ moved.before))

died-unready : (cause : Reason) (place : Place) → DiedOf cause place → is_ready place ≡ false
died-unready cause place (inl is) = ap is_ready is
died-unready cause place (inr some) = ap is_ready some.1

-- what goes behind is ready
behind-ready : (limit : Option ℕ) (returns orders : ℕ) (place : Place) → GoesBehind limit returns orders place
    → is_ready place ≡ true
behind-ready None returns orders place behind = ap is_ready behind.1
behind-ready (Some limit) returns orders place behind = ap is_ready behind.1

back : (s : State) (made : Step) (p : Progress) (y row : Row) → made.effects ≡ p.effects
    → GoesBehind s.args.delivery_limit s.returns s.orders y.place → (row ≡ y) ⊎ Moved s.args y row p
    → IsBack s made row
back s made p y row effects behind (inl same) =
    inl (subst (λ (r : Row). GoesBehind s.args.delivery_limit s.returns s.orders r.place) (sym same) behind)
back s made p y row effects behind (inr moved) = elim (moved.how) [
  | inl some ↦
      inr (inl (
        some.0,
        some.1,
        Contains-in (Deliver some.0 some.1) made.effects
            (subst (λ es. In (Deliver some.0 some.1) es) (sym effects) some.2),
        some.3,
      ))
  | inr death ↦ inr (inr death)
]

placed : (outcome : Outcome) (s : State) (x y : Row) (made : Step) (p : Progress) (row : Row)
    → Turned outcome s x y → made.effects ≡ p.effects → row ≡ record y { place = row.place }
    → (row ≡ y) ⊎ Moved s.args y row p → EndsAs outcome s made x row
placed Settled s x y made p row turned effects same how =
    let is : row ≡ y = same-if s.args y row p (ap (λ (r : Row). is_ready r.place) turned) how in
    let all : row ≡ record x { place = Gone gone.Settled } = is ∙ turned in
    record {
      index = ap (λ (r : Row). r.index) all;
      arrival = ap (λ (r : Row). r.arrival) all;
      size = ap (λ (r : Row). r.size) all;
      count = ap (λ (r : Row). r.count) all;
      place = ap (λ (r : Row). r.place) all;
    }
placed Returned s x y made p row turned effects same how =
    let more : y ≡ record x { count = x.count + 1; place = turned.0 } = turned.1 in
    let count : row.count ≡ x.count + 1 =
    ap (λ (r : Row). r.count) same ∙ ap (λ (r : Row). r.count) more in
    let at : y.place ≡ turned.0 = ap (λ (r : Row). r.place) more in
    record {
      index = ap (λ (r : Row). r.index) same ∙ ap (λ (r : Row). r.index) more;
      arrival = ap (λ (r : Row). r.arrival) same ∙ ap (λ (r : Row). r.arrival) more;
      size = ap (λ (r : Row). r.size) same ∙ ap (λ (r : Row). r.size) more;
      count = count;
      place = elim (turned.2) [
        | inl over ↦
            let is : row ≡ y =
            same-if s.args y row p (ap is_ready at ∙ died-unready DeliveryLimit turned.0 over.1) how in
            record {
              passed = λ _. subst (DiedOf DeliveryLimit) (sym (ap (λ (r : Row). r.place) is ∙ at)) over.1;
              back = λ within.
                  absurd (false≢true (sym within ∙ ap (has_passed s.args.delivery_limit) count ∙ over.0));
            }
        | inr behind ↦ record {
          passed = λ over.
              absurd (false≢true (sym behind.0 ∙ ap (has_passed s.args.delivery_limit) (sym count) ∙ over));
          back = λ _.
              back s made p y row effects
              (subst (GoesBehind s.args.delivery_limit s.returns s.orders) (sym at) behind.1) how;
        }
      ];
    }
placed Discarded s x y made p row turned effects same how =
    let more : y ≡ record x { place = turned.0 } = turned.1 in
    let at : y.place ≡ turned.0 = ap (λ (r : Row). r.place) more in
    let is : row ≡ y = same-if s.args y row p (ap is_ready at ∙ died-unready Rejected turned.0 turned.2) how in
    let all : row ≡ record x { place = turned.0 } = is ∙ more in
    record {
      index = ap (λ (r : Row). r.index) all;
      arrival = ap (λ (r : Row). r.arrival) all;
      size = ap (λ (r : Row). r.size) all;
      count = ap (λ (r : Row). r.count) all;
      place = subst (DiedOf Rejected) (sym (ap (λ (r : Row). r.place) all)) turned.2;
    }

ends-from : (outcome : Outcome) (s : State) (x : Row) (command : Command) (a : Acted) (made : Step)
    → ((b : Acted) → drain_after command b ≡ b) → a.progress.state.args ≡ s.args
    → Rises (indices a.progress.state.rows) → Left outcome s x a.progress.state.rows
    → made.state.rows ≡ (follow_on command a).progress.state.rows
    → made.effects ≡ (follow_on command a).progress.effects → Ends outcome s made x
ends-from outcome s x command a made none same rising left rows effects =
    let p : Progress = (follow_on command a).progress in
    let fares : Fares s.args left.new p = fares_at_last s.args left.new command a none same rising left.here in (
      fares.row,
      Contains-in fares.row made.state.rows (subst (In fares.row) (sym rows) fares.here),
      placed outcome s x left.new made p fares.row left.turned effects fares.same fares.how,
    )

-- Settle, Return, Discard ----------------------------------------------------------------------------------

disposition-drains : (outcome : Outcome) (given : Stamp) (tag : ℕ) (ids : List ℕ) (a : Acted)
    → drain_after (disposition outcome given tag ids) a ≡ a
unfolding drain_after
disposition-drains Settled given tag ids a = refl
disposition-drains Returned given tag ids a = refl
disposition-drains Discarded given tag ids a = refl

disposition-stamp : (outcome : Outcome) (given : Stamp) (tag : ℕ) (ids : List ℕ)
    → stamp (disposition outcome given tag ids) ≡ Some given
disposition-stamp Settled given tag ids = refl
disposition-stamp Returned given tag ids = refl
disposition-stamp Discarded given tag ids = refl

pub carried-follows : (index : Index) (command : Command) (s : State)
    → carry_out index command s ≡ follow_on command (act index command (record { state = s; effects = [] }))
unfolding carry_out
carried-follows index command s = refl

out-id : (consumer : ConsumerId) (id : ℕ) (row : Row) → row.place ≡ Out consumer id
    → delivery_id consumer row.place ≡ Some id
out-id consumer id row is =
    ap (delivery_id consumer) is
    ∙ cond-true (same_consumer consumer consumer) (Some id) None (same_consumer-refl consumer)

one-out : (consumer : ConsumerId) (id last : ℕ) (rows : List Row) → Drawn (delivery_id consumer) last rows
    → OneOut consumer id rows
one-out consumer id last rows drawn a b ina inb isa isb =
    drawn.once a b id ina inb (out-id consumer id a isa) (out-id consumer id b isb)

-- a message as its delivery's end makes it isn't as it was
changed : (outcome : Outcome) (s : State) (made : Step) (x new : Row) (consumer : ConsumerId) (id : ℕ)
    → x.place ≡ Out consumer id → EndsAs outcome s made x new → new ≡ x → ⊥
changed Settled s made x new consumer id is ends same =
    let e : Gone gone.Settled ≡ Out consumer id = sym ends.place ∙ ap (λ (r : Row). r.place) same ∙ is in cc
changed Returned s made x new consumer id is ends same =
    let more : new.count ≡ x.count + 1 = ends.count in
    let e : new.count ≡ x.count = ap (λ (r : Row). r.count) same in omega arith
changed Discarded s made x new consumer id is ends same = by ends.place
  where
    by : DiedOf Rejected new.place → ⊥
    by (inl dead) =
        let e : Gone (gone.Died Rejected) ≡ Out consumer id = sym dead ∙ ap (λ (r : Row). r.place) same ∙ is in cc
    by (inr some) =
        let e : Dead some.0 Rejected ≡ Out consumer id = sym some.1 ∙ ap (λ (r : Row). r.place) same ∙ is in cc

pub ends_deliveries : (args : QueueArgs) (before : List Entry) (entry : Entry)
    → EndsDeliveries (state_after (empty_queue args) before) entry
ends_deliveries args before entry outcome given tag ids id x numbered is fresh within there at = (none, ends)
  where
    s : State
    s = state_after (empty_queue args) before

    index : Index
    index = next_index s

    consumer : ConsumerId
    consumer = consumer_id given tag

    command : Command
    command = disposition outcome given tag ids

    start : Progress
    start = record { state = let_in s given; effects = [] }

    a : Acted
    a = act index command start

    here : In x s.rows
    here = in_contains s.rows x there

    sound : SoundRows s
    sound = rows_at args before

    known : (count : ℕ) × Known consumer count s
    known = known_at args before consumer numbered

    one : OneOut consumer id s.rows
    one = one-out consumer id known.0 s.rows known.1.drawn

    done : Done outcome consumer id s x a.progress.state.rows
    done =
        act-done index outcome given tag ids id s x start
        (record { args = refl; returns = omega arith; orders = omega arith }) (in_contains ids id within) here at sound.ordered.rising one
        (sound.held x consumer id here at)

    made : next_step s entry ≡ pass_gate index given (follow_on command a)
    made =
        made-carried s entry given command is (disposition-stamp outcome given tag ids) fresh
        ∙ ap (pass_gate index given) (carried-follows index command (let_in s given))

    ends : Ends outcome s (next_step s entry) x
    ends =
        ends-from outcome s x command a (next_step s entry) (disposition-drains outcome given tag ids)
        (act-delivers_none (let_in s given) index command).args done.rising
        done.left (ap (λ (m : Step). m.state.rows) made) (ap (λ (m : Step). m.effects) made)

    none : IsNotOut (next_step s entry).state consumer id
    none row inside out =
        elim (next-out_by s entry row consumer id (in_contains (next_step s entry).state.rows row inside) out) [
          | inl old ↦
              let after : SoundRows (next_step s entry).state =
              next-keeps SoundRows SoundRows s entry (rows-kept s) sound in
              let itself : row ≡ x = unique row x s.rows sound.ordered.rising old here (one row x old here out at) in
              let index' : ends.0.index.0 ≡ row.index.0 =
              ap (λ (i : Index). i.0) ends.2.index ∙ sym (ap (λ (r : Row). r.index.0) itself) in
              let same : ends.0 ≡ row =
              unique ends.0 row (next_step s entry).state.rows after.ordered.rising
              (in_contains (next_step s entry).state.rows ends.0 ends.1)
              (in_contains (next_step s entry).state.rows row inside) index' in
              changed outcome s (next_step s entry) x ends.0 consumer id at ends.2 (same ∙ itself)
          | inr some ↦
              let now = next-knows consumer known.0 s entry numbered known.1 in
              let above : known.0 < some.0.id =
              counts-above known.0 some.0.id (ids_of consumer (next_step s entry).effects) now.ids
              (delivery-id consumer some.0 (next_step s entry).effects some.1) in
              let below : id ≤ known.0 = (known.1.drawn.drawn x id here (out-id consumer id x at)).1 in
              let e : Out consumer some.0.id ≡ Out consumer id = sym some.2.place ∙ out in
              let same : some.0.id ≡ id = cc in
              omega arith
        ]

-- an id that isn't out
through-same : (index : Index) (given : Stamp) (first second : Command) (s : State)
    → ((x : Sessions) → carry_out index first (record s { sessions = x })
    ≡ carry_out index second (record s { sessions = x }))
    → (g : Gate) → go_through g index given first s ≡ go_through g index given second s
through-same index given first second s same Fresh = ap (pass_gate index given) (same (admit s.sessions given))
through-same index given first second s same _ = refl

follow-same : (first second : Command) (a : Acted) → ((b : Acted) → drain_after first b ≡ b)
    → ((b : Acted) → drain_after second b ≡ b) → follow_on first a ≡ follow_on second a
follow-same first second a none none' =
    let checked : Acted = map_progress check_out_all a in
    ap (λ (b : Acted). map_progress give_all_dead (map_progress keep_limits b)) (none checked ∙ sym (none' checked))

stamped-through : (s : State) (entry : Entry) (command : Command) (given : Stamp) → entry.command ≡ command
    → stamp command ≡ Some given
    → next_step s entry ≡ go_through (gate s.sessions given) (next_index s) given command s
unfolding step
stamped-through s entry command given is stamped =
    ap (λ (c : Command). step_by (stamp c) (next_index s) c s) is
    ∙ ap (λ (o : Option Stamp). step_by o (next_index s) command s) stamped

pub passes_over : (s : State) → PassesOver s
passes_over s outcome given tag id before after with' without is is' out =
    stamped-through s with' first given is (disposition-stamp outcome given tag (before ++ id ∷ after))
    ∙ through-same index given first second s same (gate s.sessions given)
    ∙ sym (stamped-through s without second given is' (disposition-stamp outcome given tag (before ++ after)))
  where
    index : Index
    index = next_index s

    first : Command
    first = disposition outcome given tag (before ++ id ∷ after)

    second : Command
    second = disposition outcome given tag (before ++ after)

    none : NoneOut (consumer_id given tag) id s.rows
    none row here is = out row (Contains-in row s.rows here) is

    same : (x : Sessions) → carry_out index first (record s { sessions = x })
        ≡ carry_out index second (record s { sessions = x })
    same x =
        let t : State = record s { sessions = x } in
        let start : Progress = record { state = t; effects = [] } in
        carried-follows index first t
        ∙ ap (follow_on first) (act-passes index outcome given tag before after id start none)
        ∙ follow-same first second (act index second start)
        (disposition-drains outcome given tag (before ++ id ∷ after))
        (disposition-drains outcome given tag (before ++ after))
        ∙ sym (carried-follows index second t)

-- Down -----------------------------------------------------------------------------------------------------

down-drains : (session : SessionId) (a : Acted) → drain_after (Down session) a ≡ a
unfolding drain_after
down-drains session a = refl

down-made : (s : State) (entry : Entry) (session : SessionId) → entry.command ≡ Down session
    → next_step s entry
    ≡ pass_ungated (next_index s)
    (follow_on (Down session) (act (next_index s) (Down session) (record { state = s; effects = [] })))
unfolding step carry_out
down-made s entry session is = ap (λ (c : Command). step_by (stamp c) (next_index s) c s) is

-- no consumer of a session is there
abbrev Leaves : SessionId → List Consumer → Type 0
Leaves session consumers = (one : Consumer) → In one consumers → one.id.session ≡ session → ⊥

leaves-put : (session : SessionId) (consumers : List Consumer) (consumer new : Consumer) → Leaves session consumers
    → In consumer consumers → new.id ≡ consumer.id → Leaves session (put_consumer new consumers)
leaves-put session consumers consumer new leaves here same one there is =
    elim (In-put_consumer one new consumers there) [
      | inl itself ↦
          leaves consumer here
          (ap (λ (i : ConsumerId). i.session) (sym same) ∙ ap (λ (c : Consumer). c.id.session) (sym itself) ∙ is)
      | inr old ↦ leaves one old is
    ]

leaves-delivers : (session : SessionId) → KeepsDeliveries (λ p. Leaves session p.state.consumers)
leaves-delivers session p row consumer leaves found next =
    let there =
    (next_consumer-in p.state.args.single_active p.state.rows p.state.consumers consumer next).0 in
    leaves-put session p.state.consumers consumer _ leaves there (serve-id (p.state.turns + 1) consumer)

leaves-serves : (session : SessionId) (command : Command)
    → Serves command (λ p. Leaves session p.state.consumers)
leaves-serves session command = record {
  rows = record {
    row = λ p q old new leaves here moves out why turns. subst (Leaves session) (sym turns.consumers) leaves;
  };
  offer = λ p number cause row leaves here is next may few. leaves;
  drain = λ p id consumer leaves found.
      leaves-put session p.state.consumers consumer _ leaves (consumer-found id p.state.consumers consumer found)
      refl;
}

down-leaves : (index : Index) (session : SessionId) (p : Progress)
    → Leaves session (act index (Down session) p).progress.state.consumers
unfolding act down
down-leaves index session p one here is =
    let back' : Progress = return_session session p.state.consumers p in
    let passes =
    In-filter_passes (λ (consumer : Consumer). not (is_of_session session consumer)) one back'.state.consumers here in
    false≢true (sym (not-true (is_of_session session one) passes)
    ∙ ap (λ (i : SessionId). same_session i session) is ∙ same_session-refl session)

down-goes : (index : Index) (session : SessionId) (s : State) (x : Row) (p : Progress)
    → Goes Returned s x p → Goes Returned s x (act index (Down session) p).progress
unfolding act down
down-goes index session s x p goes =
    let goes' = return_session-goes s x session p.state.consumers p goes in
    record {
      rising = goes'.rising;
      since = record {
        args = goes'.since.args;
        returns = goes'.since.returns;
        orders = goes'.since.orders;
      };
      how = goes'.how;
    }

pub ends_sessions : (args : QueueArgs) (before : List Entry) (entry : Entry)
    → EndsSessions (state_after (empty_queue args) before) entry
ends_sessions args before entry session is = record {
  consumers = λ one here. left one (in_contains t.consumers one here);
  out = λ consumer id own row here at.
      let seat = after.held row consumer id (in_contains t.rows row here) at in
      left seat.0 seat.1 (ap (λ (i : ConsumerId). i.session) seat.2 ∙ own);
  returned = λ x consumer id there at own.
      let here : In x s.rows = in_contains s.rows x there in
      let goes : Goes Returned s x a.progress =
      down-goes index session s x start (record {
        rising = sound.ordered.rising;
        since = record { args = refl; returns = omega arith; orders = omega arith };
        how = inl here;
      }) in
      let gone : Left Returned s x a.progress.state.rows = elim (goes.how) [
        | inl still ↦
            let seat = held x consumer id still at in
            absurd (down-leaves index session start seat.0 seat.1 (ap (λ (i : ConsumerId). i.session) seat.2 ∙ own))
        | inr left' ↦ left'
      ] in
      ends-from Returned s x (Down session) a (next_step s entry) (down-drains session)
      (act-delivers_none s index (Down session)).args goes.rising gone
      (ap (λ (m : Step). m.state.rows) made) (ap (λ (m : Step). m.effects) made);
}
  where
    s : State
    s = state_after (empty_queue args) before

    t : State
    t = (next_step s entry).state

    index : Index
    index = next_index s

    start : Progress
    start = record { state = s; effects = [] }

    a : Acted
    a = act index (Down session) start

    made : next_step s entry ≡ pass_ungated index (follow_on (Down session) a)
    made = down-made s entry session is

    sound : SoundRows s
    sound = rows_at args before

    after : SoundRows t
    after = next-keeps SoundRows SoundRows s entry (rows-kept s) sound

    held : Held a.progress.state.rows a.progress.state.consumers
    held =
        act-keeps {I = λ p. Held p.state.rows p.state.consumers} index (Down session) (Held-acts (Down session))
        (Held-arrives index (Down session)) start sound.held

    left : Leaves session t.consumers
    left =
        subst (λ (m : Step). Leaves session m.state.consumers) (sym made)
        (follow_on-keeps {I = λ p. Leaves session p.state.consumers} (Down session) (leaves-delivers session)
        (leaves-serves session (Down session)) a (down-leaves index session start))
