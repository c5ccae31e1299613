-- Which consumers are there: they join by a subscribe, and stay until they are cancelled or their session ends.
use Rattle.std.proofs.Common.{◌≡◌, ℕ, ◌+◌, ◌-◌, ◌⊎◌, Bool, true, false, not, List, [], ◌∷◌, ◌++◌, Option, Some, None, refl, sym, ap, ◌∙◌, subst, inl, inr, length, if◌then◌else◌}
use Rattle.std.specs.Prelude.{nat_eq, nat_le, filter}
use Rattle.std.proofs.lemmas.Bool.{false≢true, cases_Bool, cond-true, cond-false, cond_both, and_left, not_from_false}
use Rattle.std.proofs.lemmas.Option.{none-some}
use Rattle.std.proofs.lemmas.List.{append-nil}
use Rattle.std.proofs.lemmas.List.Elements.{filter-append}
use Rattle.qq_base.specs.declared.ids.Index.{Index}
use Rattle.qq_base.specs.declared.ids.SessionId.{SessionId}
use Rattle.qq_base.specs.declared.ids.ConsumerId.{ConsumerId}
use Rattle.qq_base.specs.Ids.{same_consumer}
use Rattle.qq_entry.specs.Command.{stamp, consumer_id}
use Rattle.qq_entry.specs.declared.answer.Answer.TheVariants as answer
use Rattle.qq_entry.specs.declared.answer.Cause.TheVariants.{NumberSpent, ConsumersFull, NoConsumer}
use Rattle.qq_entry.specs.declared.command.Command.{Command}
use Rattle.qq_entry.specs.declared.command.Command.TheVariants.{Subscribe, Cancel, Down}
use Rattle.qq_entry.specs.declared.command.Entry.{Entry}
use Rattle.qq_entry.specs.declared.command.Mode.{Mode}
use Rattle.qq_entry.specs.declared.command.Mode.TheVariants.{Prefetch, Link}
use Rattle.qq_entry.specs.declared.command.Stamp.{Stamp}
use Rattle.qq_entry.specs.declared.queue.QueueArgs.{QueueArgs}
use Rattle.qq_model.specs.declared.TheConstants.{MOST_CONSUMERS}
use Rattle.qq_model.specs.declared.consumer.Consumer.{Consumer}
use Rattle.qq_model.specs.declared.session.Gate.{Gate}
use Rattle.qq_model.specs.declared.session.Gate.TheVariants.{Fresh}
use Rattle.qq_model.specs.State.{State, Sessions, empty_queue}
use Rattle.qq_model.specs.Gate.{is_dead_letter, gate, admit, greatest_tag, IsNumbered}
use Rattle.qq_model.specs.Choice.{out_count}
use Rattle.qq_model.specs.Changes.{Progress, put_consumer, consumer_of, is_needed, drop_finished}
use Rattle.qq_model.specs.Commands.{Acted, act, reply, refuse, set_state, new_consumer, join, subscribe, cancel_by, cancel, is_of_session}
use Rattle.qq_model.specs.Serving.{serve, use_credit, drain_after}
use Rattle.qq_model.specs.Step.{Step, carry_out, go_through, step_by, step, pass_gate}
use Rattle.qq_model.specs.Audit.{next_index, next_step, state_after}
use Rattle.qq_base.proofs.Lists.{In, In-append_cases, In-filter, filter-swap, find-in}
use Rattle.qq_model.proofs.CarryOut.{follow_on, follow_on-keeps}
use Rattle.qq_model.proofs.Current.{IsCurrent, admit-current, numbered-plain, tag-unused}
use Rattle.qq_model.proofs.Holders.{In-filtered}
use Rattle.qq_model.proofs.Ids.{consumer-found}
use Rattle.qq_model.proofs.IdSteps.{Known}
use Rattle.qq_model.proofs.Later.{Used}
use Rattle.qq_model.proofs.LaterSteps.{admit-later}
use Rattle.qq_model.proofs.Lookups.{next_consumer-in}
use Rattle.qq_model.proofs.OneConsumer.{Who, consumers-new, consumers-other, consumers_with, same_consumer-refl, same_consumer-true, who-one}
use Rattle.qq_model.proofs.OneConsumer.Who.{Never, Went, Stays}
use Rattle.qq_model.proofs.Serve.{serve-cancelled, serve-id}
use Rattle.qq_model.proofs.SessionLemmas.{same_session-refl, same_session-true}
use Rattle.qq_model.proofs.SingleChanges.{KeepsDeliveries, Serves}
use Rattle.qq_model.proofs.Soundness.{Contains-in, in_contains, known_at}
use Rattle.qq_laws.specs.Joining.{CameFrom, CancelsConsumer, Consumes, HasConsumer, Joins, OnlyJoin, StaysThere, ends_consumer}
use Rattle.qq_laws.proofs.ActConsumers.{Cancels, KeepsConsumers, Subscribes, act-consumers}
use Rattle.qq_laws.proofs.EachConsumer.{EachOf, In-put_apart, each-delivers, each-put, each-serves}
use Rattle.qq_laws.proofs.EndingRuns.{carried-follows}
use Rattle.qq_laws.proofs.OnceLemmas.{fresh-gate}
use Rattle.qq_laws.proofs.TakenLemmas.{let_in, made-carried}

-- serving leaves a consumer its mode
serve-mode : (turn : ℕ) (one : Consumer) → (serve turn one).mode ≡ one.mode
serve-mode turn one = by one.mode (record one { next_id = one.next_id + 1; turn = turn })
  where
    by : (mode : Mode) (other : Consumer) → (use_credit mode other).mode ≡ other.mode
    by (Prefetch prefetch) other = refl
    by Link other = refl

-- Who stays ------------------------------------------------------------------------------------------------

-- of an id there is one consumer, in this mode, and it isn't cancelled
record Sole (id : ConsumerId) (mode : Mode) (consumers : List Consumer) : Type 0 where
  one : Consumer
  only : consumers_with id consumers ≡ one ∷ []
  is : Consumes id mode one

sole-in : (id : ConsumerId) (mode : Mode) (consumers : List Consumer) (x : Consumer) → (sole : Sole id mode consumers)
    → In x consumers → same_consumer x.id id ≡ true → x ≡ sole.one
sole-in id mode consumers x sole here own =
    by (subst (In x) sole.only (In-filter (λ (one : Consumer). same_consumer one.id id) x consumers here own))
  where
    by : In x (sole.one ∷ []) → x ≡ sole.one
    by (inl same) = same
    by (inr no') = absurd no'

-- where a consumer is replaced by one of its id, its mode and as much cancelled
sole-put : (id : ConsumerId) (mode : Mode) (consumers : List Consumer) (old new : Consumer) → In old consumers
    → new.id ≡ old.id → new.mode ≡ old.mode → new.cancelled ≡ old.cancelled → Sole id mode consumers
    → Sole id mode (put_consumer new consumers)
sole-put id mode consumers old new there same kind flag sole =
    elim (cases_Bool (same_consumer old.id id)) [
      | inl own ↦
          let itself : old ≡ sole.one = sole-in id mode consumers old sole there own in
          record {
            one = new;
            only = consumers-new id sole.one new consumers sole.only
                (same ∙ ap (λ (c : Consumer). c.id) itself);
            is = record {
              itself = same ∙ ap (λ (c : Consumer). c.id) itself ∙ sole.is.itself;
              kind = kind ∙ ap (λ (c : Consumer). c.mode) itself ∙ sole.is.kind;
              going = flag ∙ ap (λ (c : Consumer). c.cancelled) itself ∙ sole.is.going;
            };
          }
      | inr other ↦ record {
        one = sole.one;
        only = consumers-other id new consumers (ap (λ (i : ConsumerId). same_consumer i id) same ∙ other)
            ∙ sole.only;
        is = sole.is;
      }
    ]

-- some leave, and not this one
sole-filter : (id : ConsumerId) (mode : Mode) (consumers : List Consumer) (keeps : Consumer → Bool)
    → (sole : Sole id mode consumers) → keeps sole.one ≡ true → Sole id mode (filter keeps consumers)
sole-filter id mode consumers keeps sole stays = record {
  one = sole.one;
  only = filter-swap (λ (one : Consumer). same_consumer one.id id) keeps consumers ∙ ap (filter keeps) sole.only
      ∙ cond-true (keeps sole.one) (sole.one ∷ []) [] stays;
  is = sole.is;
}

-- a command that doesn't subscribe, cancel or end the consumer
record Leaves (command : Command) (id : ConsumerId) : Type 0 where
  subscribe : (mode : Mode) → Subscribes command id mode → ⊥
  cancel : Cancels command id → ⊥
  down : command ≡ Down id.session → ⊥

sole-acts : (id : ConsumerId) (mode : Mode) (command : Command) → Leaves command id
    → KeepsConsumers command (Sole id mode)
sole-acts id mode command leaves = record {
  join = λ consumers other kind turn sole is. elim (cases_Bool (same_consumer other id)) [
    | inl own ↦
        absurd (leaves.subscribe kind
        (subst (λ (i : ConsumerId). Subscribes command i kind) (same_consumer-true other id own) is))
    | inr differs ↦ record {
      one = sole.one;
      only =
          filter-append (λ (one : Consumer). same_consumer one.id id) consumers (new_consumer other kind turn ∷ [])
          ∙ ap (λ (cs : List Consumer). consumers_with id consumers ++ cs)
          (cond-false (same_consumer other id) (new_consumer other kind turn ∷ []) [] differs)
          ∙ append-nil (consumers_with id consumers) ∙ sole.only;
      is = sole.is;
    }
  ];
  cancel = λ consumers other one sole found is.
      let there = find-in (λ (c : Consumer). same_consumer c.id other) consumers one found in
      let its : one.id ≡ other = same_consumer-true one.id other there.1 in
      elim (cases_Bool (same_consumer one.id id)) [
        | inl own ↦
            absurd (leaves.cancel (subst (Cancels command) (sym its ∙ same_consumer-true one.id id own) is))
        | inr differs ↦ record {
          one = sole.one;
          only = consumers-other id (record one { cancelled = true }) consumers differs ∙ sole.only;
          is = sole.is;
        }
      ];
  credit = λ consumers other one total sole found link is.
      sole-put id mode consumers one _ (consumer-found other consumers one found) refl refl refl sole;
  turn = λ consumers one turn sole here. sole-put id mode consumers one _ here refl refl refl sole;
  needed = λ rows consumers sole.
      sole-filter id mode consumers (is_needed rows) sole
      (not_from_false _ (and_left sole.one.cancelled (nat_eq (out_count sole.one.id rows) 0) sole.is.going));
  leave = λ consumers session sole is.
      sole-filter id mode consumers (λ (one : Consumer). not (is_of_session session one)) sole
      (not_from_false (is_of_session session sole.one) (not-of session is sole.one sole.is.itself));
}
  where
    not-of : (session : SessionId) → command ≡ Down session → (one : Consumer) → one.id ≡ id
        → is_of_session session one ≡ false
    not-of session is one itself = elim (cases_Bool (is_of_session session one)) [
      | inr other ↦ other
      | inl own ↦
          let same : session ≡ id.session =
          sym (same_session-true one.id.session session own) ∙ ap (λ (i : ConsumerId). i.session) itself in
          absurd (leaves.down (is ∙ ap (λ (i : SessionId). Down i) same))
    ]

sole-delivers : (id : ConsumerId) (mode : Mode) → KeepsDeliveries (λ p. Sole id mode p.state.consumers)
sole-delivers id mode p row consumer sole found next =
    let there = (next_consumer-in p.state.args.single_active p.state.rows p.state.consumers consumer next).0 in
    sole-put id mode p.state.consumers consumer (serve (p.state.turns + 1) consumer) there
    (serve-id (p.state.turns + 1) consumer) (serve-mode (p.state.turns + 1) consumer)
    (serve-cancelled (p.state.turns + 1) consumer) sole

sole-serves : (id : ConsumerId) (mode : Mode) (command : Command)
    → Serves command (λ p. Sole id mode p.state.consumers)
sole-serves id mode command = record {
  rows = record {
    row = λ p q old new sole here moves out why turns. subst (Sole id mode) (sym turns.consumers) sole;
  };
  offer = λ p number cause row sole here is next may few. sole;
  drain = λ p other consumer sole found.
      sole-put id mode p.state.consumers consumer _ (consumer-found other p.state.consumers consumer found) refl refl
      refl sole;
}

-- what is left of it
sole-has : (id : ConsumerId) (mode : Mode) (s : State) → Sole id mode s.consumers → HasConsumer s id mode
sole-has id mode s sole =
    let here : In sole.one (consumers_with id s.consumers) =
    subst (In sole.one) (sym sole.only) (inl refl) in (
      sole.one,
      Contains-in sole.one s.consumers
          (In-filtered (λ (one : Consumer). same_consumer one.id id) sole.one s.consumers here),
      sole.is,
    )

-- a tag that was used is refused
abbrev Spent : ConsumerId → Sessions → Type 0
Spent id s = nat_le id.tag (greatest_tag id.session s) ≡ true

subscribe-refused : (id : ConsumerId) (mode : Mode) (p : Progress) → Spent id p.state.sessions
    → (subscribe id mode p).progress ≡ p
unfolding subscribe
subscribe-refused id mode p spent =
    ap (λ (a : Acted). a.progress)
    (cond-true (nat_le id.tag (greatest_tag id.session p.state.sessions)) (refuse NumberSpent p) _ spent)

abbrev is_subscribe : Command → Bool
is_subscribe (Subscribe given tag mode) = true
is_subscribe _ = false

act-subscribes : (index : Index) (given : Stamp) (tag : ℕ) (mode : Mode) (p : Progress)
    → act index (Subscribe given tag mode) p ≡ subscribe (consumer_id given tag) mode p
unfolding act
act-subscribes index given tag mode p = refl

-- a command that doesn't end the consumer, and doesn't subscribe it unless its tag was used
sole-act : (id : ConsumerId) (mode : Mode) (index : Index) (command : Command) (p : Progress)
    → (Cancels command id → ⊥) → (command ≡ Down id.session → ⊥)
    → ((kind : Mode) → Subscribes command id kind → Spent id p.state.sessions)
    → Sole id mode p.state.consumers → Sole id mode (act index command p).progress.state.consumers
sole-act id mode index command p cancel down spent sole = by command refl
  where
    others : (other : Command) → other ≡ command → is_subscribe other ≡ false
        → Sole id mode (act index command p).progress.state.consumers
    others other same plain =
        act-consumers (Sole id mode) index command (sole-acts id mode command (record {
          subscribe = λ kind is. false≢true (sym plain ∙ ap is_subscribe (same ∙ is.2));
          cancel = cancel;
          down = down;
        })) p sole

    by : (other : Command) → other ≡ command → Sole id mode (act index command p).progress.state.consumers
    by (Subscribe given tag kind) same = elim (cases_Bool (same_consumer (consumer_id given tag) id)) [
      | inl own ↦
          let itself : consumer_id given tag ≡ id = same_consumer-true (consumer_id given tag) id own in
          let used : Spent (consumer_id given tag) p.state.sessions =
          subst (λ (i : ConsumerId). Spent i p.state.sessions) (sym itself)
          (spent kind (given, tag, sym same, sym itself)) in
          subst (λ (q : Progress). Sole id mode q.state.consumers)
          (sym (ap (λ (c : Command). (act index c p).progress) (sym same) ∙ ap (λ (b : Acted). b.progress) (act-subscribes index given tag kind p)
          ∙ subscribe-refused (consumer_id given tag) kind p used)) sole
      | inr differs ↦
          act-consumers (Sole id mode) index command (sole-acts id mode command (record {
            subscribe = λ kind' is.
                let e : Subscribe given tag kind ≡ Subscribe is.0 is.1 kind' = same ∙ is.2 in
                let who : given ≡ is.0 = cc in
                let which : tag ≡ is.1 = cc in
                false≢true (sym differs ∙ ap (λ (g : Stamp). same_consumer (consumer_id g tag) id) who
                ∙ ap (λ (n : ℕ). same_consumer (consumer_id is.0 n) id) which
                ∙ ap (λ (i : ConsumerId). same_consumer i id) (sym is.3) ∙ same_consumer-refl id);
            cancel = cancel;
            down = down;
          })) p sole
    ]
    by other same = others other same refl

follow-sole : (id : ConsumerId) (mode : Mode) (command : Command) (a : Acted) → Sole id mode a.progress.state.consumers
    → Sole id mode (follow_on command a).progress.state.consumers
follow-sole id mode command a sole =
    follow_on-keeps {I = λ p. Sole id mode p.state.consumers} command (sole-delivers id mode)
    (sole-serves id mode command) a sole

-- Over an entry --------------------------------------------------------------------------------------------

pub ends-cancel : (command : Command) (id : ConsumerId) → ends_consumer command id ≡ false → Cancels command id → ⊥
ends-cancel command id goes is =
    false≢true (sym goes ∙ ap (λ (c : Command). ends_consumer c id) is.2
    ∙ ap (same_consumer id) (sym is.3) ∙ same_consumer-refl id)

pub ends-down : (command : Command) (id : ConsumerId) → ends_consumer command id ≡ false → command ≡ Down id.session → ⊥
ends-down command id goes is =
    false≢true (sym goes ∙ ap (λ (c : Command). ends_consumer c id) is ∙ same_session-refl id.session)

-- what is known of a consumer of a numbered session that was let in
let-in-spent : (s : State) (given : Stamp) (id : ConsumerId) (count : ℕ) → IsNumbered id.session → Known id count s
    → Used s.sessions id.session 0 id.tag → gate s.sessions given ≡ Fresh → given.session ≡ id.session
    → Spent id (admit s.sessions given)
let-in-spent s given id count numbered known used fresh own =
    elim (cases_Bool (nat_le id.tag (greatest_tag id.session x))) [
      | inl spent ↦ spent
      | inr above ↦
          absurd (tag-unused x id current above
          ((admit-later id.session s.sessions given fresh).used 0 id.tag known.guarded used))
    ]
  where
    x : Sessions
    x = admit s.sessions given

    current : IsCurrent x id.session
    current =
        subst (IsCurrent x) own
        (admit-current s.sessions given (ap is_dead_letter own ∙ numbered-plain id.session numbered) fresh)

carried-sole : (id : ConsumerId) (mode : Mode) (index : Index) (command : Command) (s : State)
    → ends_consumer command id ≡ false → ((kind : Mode) → Subscribes command id kind → Spent id s.sessions)
    → Sole id mode s.consumers → Sole id mode (carry_out index command s).progress.state.consumers
carried-sole id mode index command s goes spent sole =
    let start : Progress = record { state = s; effects = [] } in
    subst (λ (a : Acted). Sole id mode a.progress.state.consumers) (sym (carried-follows index command s))
    (follow-sole id mode command (act index command start)
    (sole-act id mode index command start (ends-cancel command id goes) (ends-down command id goes) spent sole))

stamp-of : (command : Command) (id : ConsumerId) (kind : Mode) (given : Stamp) → stamp command ≡ Some given
    → Subscribes command id kind → given.session ≡ id.session
stamp-of command id kind given is by =
    let e : Some given ≡ Some by.0 = sym is ∙ ap stamp by.2 in
    let same : given ≡ by.0 = cc in
    ap (λ (g : Stamp). g.session) same ∙ ap (λ (i : ConsumerId). i.session) (sym by.3)

next-sole : (s : State) (entry : Entry) (id : ConsumerId) (mode : Mode) (count : ℕ) → IsNumbered id.session
    → Known id count s → Used s.sessions id.session 0 id.tag → ends_consumer entry.command id ≡ false
    → Sole id mode s.consumers → Sole id mode (next_step s entry).state.consumers
unfolding step
next-sole s entry id mode count numbered known used goes sole = by (stamp entry.command) refl
  where
    index : Index
    index = next_index s

    passes : (g : Gate) (given : Stamp) → stamp entry.command ≡ Some given → gate s.sessions given ≡ g
        → Sole id mode (go_through g index given entry.command s).state.consumers
    passes Fresh given is fresh =
        carried-sole id mode index entry.command (record s { sessions = admit s.sessions given }) goes
        (λ kind subscribes.
        let-in-spent s given id count numbered known used fresh (stamp-of entry.command id kind given is subscribes))
        sole
    passes _ given is fresh = sole

    by : (o : Option Stamp) → stamp entry.command ≡ o → Sole id mode (step_by o index entry.command s).state.consumers
    by None is =
        carried-sole id mode index entry.command s goes
        (λ kind subscribes. absurd (none-some subscribes.0 (sym is ∙ ap stamp subscribes.2))) sole
    by (Some given) is = passes (gate s.sessions given) given is refl

pub stays_there : (args : QueueArgs) (before : List Entry) (entry : Entry)
    → StaysThere (state_after (empty_queue args) before) entry
stays_there args before entry one there numbered going goes =
    let s = state_after (empty_queue args) before in
    let known = known_at args before one.id numbered in
    let its = who-one one.id s.consumers known.0 s.sessions one (in_contains s.consumers one there)
    (same_consumer-refl one.id) known.1.who in
    sole-has one.id one.mode (next_step s entry).state
    (next-sole s entry one.id one.mode known.0 numbered known.1 its.2 goes
    (record { one = one; only = its.0; is = record { itself = refl; kind = refl; going = going } }))

-- Who joins ------------------------------------------------------------------------------------------------

subscribe-drains : (given : Stamp) (tag : ℕ) (mode : Mode) (a : Acted)
    → drain_after (Subscribe given tag mode) a ≡ a
unfolding drain_after
subscribe-drains given tag mode a = refl

follow-answer : (given : Stamp) (tag : ℕ) (mode : Mode) (a : Acted)
    → (follow_on (Subscribe given tag mode) a).answer ≡ a.answer
unfolding drain_after
follow-answer given tag mode a = refl

-- a subscribe that isn't refused
record Joined (id : ConsumerId) (mode : Mode) (p q : Progress) : Type 0 where
  above : nat_le id.tag (greatest_tag id.session p.state.sessions) ≡ false
  turn : ℕ
  consumers : q.state.consumers ≡ p.state.consumers ++ new_consumer id mode turn ∷ []

subscribe-joins : (id : ConsumerId) (mode : Mode) (p : Progress) → (subscribe id mode p).answer ≡ answer.Subscribed
    → Joined id mode p (subscribe id mode p).progress
unfolding subscribe
subscribe-joins id mode p said =
    cond_both (nat_le id.tag (greatest_tag id.session p.state.sessions)) (refuse NumberSpent p) late
    (λ (a : Acted). a.answer ≡ answer.Subscribed → Joined id mode p a.progress) (λ _ no'. absurd cc)
    (λ above. cond_both (nat_le MOST_CONSUMERS (length p.state.consumers)) (refuse ConsumersFull p)
    (reply answer.Subscribed (set_state (join id mode p.state) p))
    (λ (a : Acted). a.answer ≡ answer.Subscribed → Joined id mode p a.progress) (λ _ no'. absurd cc)
    (λ _ _. record { above = above; turn = p.state.turns + 1; consumers = refl })) said
  where
    late : Acted
    late =
        if nat_le MOST_CONSUMERS (length p.state.consumers) then refuse ConsumersFull p
        else reply answer.Subscribed (set_state (join id mode p.state) p)

pub joins : (args : QueueArgs) (before : List Entry) (entry : Entry)
    → Joins (state_after (empty_queue args) before) entry
joins args before entry given tag mode numbered is fresh said =
    sole-has id mode (next_step s entry).state
    (subst (λ (m : Step). Sole id mode m.state.consumers) (sym made) (follow-sole id mode command a sole))
  where
    s : State
    s = state_after (empty_queue args) before

    index : Index
    index = next_index s

    id : ConsumerId
    id = consumer_id given tag

    command : Command
    command = Subscribe given tag mode

    start : Progress
    start = record { state = let_in s given; effects = [] }

    a : Acted
    a = subscribe id mode start

    made : next_step s entry ≡ pass_gate index given (follow_on command a)
    made =
        made-carried s entry given command is refl fresh
        ∙ ap (pass_gate index given) (carried-follows index command (let_in s given)
        ∙ ap (follow_on command) (act-subscribes index given tag mode start))

    joined : Joined id mode start a.progress
    joined =
        subscribe-joins id mode start
        (sym (follow-answer given tag mode a) ∙ ap (λ (m : Step). m.answer) (sym made) ∙ said)

    known : (count : ℕ) × Known id count s
    known = known_at args before id numbered

    passed : gate s.sessions given ≡ Fresh
    passed = fresh-gate s entry given (ap stamp is) fresh

    new : Consumer
    new = new_consumer id mode joined.turn

    none : Who id s.consumers known.0 s.sessions → consumers_with id s.consumers ≡ []
    none (Never no' zero') = no'
    none (Went no' used) = no'
    none (Stays one only next used) =
        absurd (false≢true (sym joined.above
        ∙ let-in-spent s given id known.0 numbered known.1 used passed refl))

    sole : Sole id mode a.progress.state.consumers
    sole = record {
      one = new;
      only = ap (consumers_with id) joined.consumers
          ∙ filter-append (λ (one : Consumer). same_consumer one.id id) s.consumers (new ∷ [])
          ∙ ap (λ (cs : List Consumer). cs ++ consumers_with id (new ∷ [])) (none known.1.who)
          ∙ cond-true (same_consumer id id) (new ∷ []) [] (same_consumer-refl id);
      is = record { itself = refl; kind = refl; going = refl };
    }

-- Cancel ---------------------------------------------------------------------------------------------------

-- no consumer of an id but cancelled ones
abbrev IsOver : ConsumerId → Consumer → Type 0
IsOver id one = one.id ≡ id → one.cancelled ≡ true

cancel-over : (id : ConsumerId) (p : Progress) → (cancel id p).answer ≡ answer.Done
    → EachOf (IsOver id) (cancel id p).progress.state.consumers
unfolding cancel
cancel-over id p said = by (consumer_of id p.state.consumers) refl said
  where
    by : (o : Option Consumer) → consumer_of id p.state.consumers ≡ o → (cancel_by o p).answer ≡ answer.Done
        → EachOf (IsOver id) (cancel_by o p).progress.state.consumers
    by None found no' = absurd cc
    by (Some consumer) found said' =
        let new : Consumer = record consumer { cancelled = true } in
        let consumers : List Consumer = put_consumer new p.state.consumers in
        let there = find-in (λ (c : Consumer). same_consumer c.id id) p.state.consumers consumer found in
        let its : consumer.id ≡ id = same_consumer-true consumer.id id there.1 in
        cond_both consumer.cancelled (refuse NoConsumer p)
        (reply answer.Done (set_state (drop_finished (record (p.state) { consumers = consumers })) p))
        (λ (a : Acted). a.answer ≡ answer.Done → EachOf (IsOver id) a.progress.state.consumers)
        (λ _ no'. absurd cc)
        (λ _ _ one here same.
        elim (In-put_apart one new p.state.consumers (In-filtered (is_needed p.state.rows) one consumers here)) [
          | inl itself ↦ ap (λ (c : Consumer). c.cancelled) itself
          | inr other ↦
              absurd (false≢true (sym other.1 ∙ ap (λ (i : ConsumerId). same_consumer i consumer.id) (same ∙ sym its)
              ∙ same_consumer-refl consumer.id))
        ]) said'

act-cancels : (index : Index) (given : Stamp) (tag : ℕ) (p : Progress)
    → act index (Cancel given tag) p ≡ cancel (consumer_id given tag) p
unfolding act
act-cancels index given tag p = refl

cancel-answer : (given : Stamp) (tag : ℕ) (a : Acted) → (follow_on (Cancel given tag) a).answer ≡ a.answer
unfolding drain_after
cancel-answer given tag a = refl

pub cancels_consumer : (s : State) (entry : Entry) → CancelsConsumer s entry
cancels_consumer s entry given tag one is fresh said there same =
    follow_on-keeps {I = λ p. EachOf (IsOver id) p.state.consumers} command
    (each-delivers (IsOver id)
    (λ rows turn c over may own. serve-cancelled turn c ∙ over (sym (serve-id turn c) ∙ own)))
    (each-serves (IsOver id) command (λ c over own. over own)) a
    (cancel-over id start (sym (cancel-answer given tag a) ∙ ap (λ (m : Step). m.answer) (sym made) ∙ said)) one
    (subst (λ (m : Step). In one m.state.consumers) made (in_contains (next_step s entry).state.consumers one there))
    same
  where
    index : Index
    index = next_index s

    id : ConsumerId
    id = consumer_id given tag

    command : Command
    command = Cancel given tag

    start : Progress
    start = record { state = let_in s given; effects = [] }

    a : Acted
    a = cancel id start

    made : next_step s entry ≡ pass_gate index given (follow_on command a)
    made =
        made-carried s entry given command is refl fresh
        ∙ ap (pass_gate index given) (carried-follows index command (let_in s given)
        ∙ ap (follow_on command) (act-cancels index given tag start))

-- Where consumers come from --------------------------------------------------------------------------------

-- the same of a list of consumers as it was at first
abbrev From : List Consumer → Command → Consumer → Type 0
From first command one =
    ((old : Consumer) × In old first × (old.id ≡ one.id) × (old.mode ≡ one.mode)
    × (old.cancelled ≡ true → one.cancelled ≡ true))
    ⊎ ((given : Stamp) × (tag : ℕ) × (command ≡ Subscribe given tag one.mode) × (one.id ≡ consumer_id given tag))

from-changed : (first : List Consumer) (command : Command) (one new : Consumer) → new.id ≡ one.id
    → new.mode ≡ one.mode → (one.cancelled ≡ true → new.cancelled ≡ true) → From first command one
    → From first command new
from-changed first command one new same kind flag (inl was) =
    inl (was.0, was.1, was.2 ∙ sym same, was.3 ∙ sym kind, λ over. flag (was.4 over))
from-changed first command one new same kind flag (inr is) =
    inr (is.0, is.1, is.2 ∙ ap (λ (m : Mode). Subscribe is.0 is.1 m) (sym kind), same ∙ is.3)

from-acts : (first : List Consumer) (command : Command) → KeepsConsumers command (EachOf (From first command))
from-acts first command = record {
  join = λ consumers id mode turn each is one here. elim (In-append_cases one consumers _ here) [
    | inl old ↦ each one old
    | inr new ↦ elim new [
      | inl same ↦
          subst (From first command) (sym same) (inr (is.0, is.1, is.2, is.3))
      | inr no' ↦ absurd no'
    ]
  ];
  cancel = λ consumers id one each found is.
      each-put (From first command) consumers _ each
      (from-changed first command one (record one { cancelled = true }) refl refl (λ over. refl)
      (each one (consumer-found id consumers one found)));
  credit = λ consumers id one total each found link is.
      each-put (From first command) consumers _ each
      (from-changed first command one (record one { credit = total - one.count }) refl refl (λ over. over)
      (each one (consumer-found id consumers one found)));
  turn = λ consumers one turn each here.
      each-put (From first command) consumers _ each
      (from-changed first command one (record one { turn = turn }) refl refl (λ over. over) (each one here));
  needed = λ rows consumers each one here. each one (In-filtered (is_needed rows) one consumers here);
  leave = λ consumers session each is one here. each one (In-filtered _ one consumers here);
}

carried-from : (first : List Consumer) (index : Index) (command : Command) (s : State) → EachOf (From first command)
    s.consumers → EachOf (From first command) (carry_out index command s).progress.state.consumers
carried-from first index command s each =
    let start : Progress = record { state = s; effects = [] } in
    subst (λ (a : Acted). EachOf (From first command) a.progress.state.consumers)
    (sym (carried-follows index command s))
    (follow_on-keeps {I = λ p. EachOf (From first command) p.state.consumers} command
    (each-delivers (From first command)
    (λ rows turn one from may. from-changed first command one (serve turn one) (serve-id turn one)
    (serve-mode turn one) (λ over. serve-cancelled turn one ∙ over) from))
    (each-serves (From first command) command
    (λ one from. from-changed first command one
    (record one { credit = 0; count = one.count + one.credit }) refl refl (λ over. over) from)) (act index command start)
    (act-consumers (EachOf (From first command)) index command (from-acts first command) start each))

step-from : (s : State) (entry : Entry) → EachOf (From s.consumers entry.command) (next_step s entry).state.consumers
unfolding step
step-from s entry = by (stamp entry.command)
  where
    index : Index
    index = next_index s

    same : EachOf (From s.consumers entry.command) s.consumers
    same one here = inl (one, here, refl, refl, λ over. over)

    passes : (g : Gate) (given : Stamp)
        → EachOf (From s.consumers entry.command) (go_through g index given entry.command s).state.consumers
    passes Fresh given =
        carried-from s.consumers index entry.command (record s { sessions = admit s.sessions given }) same
    passes _ given = same

    by : (o : Option Stamp)
        → EachOf (From s.consumers entry.command) (step_by o index entry.command s).state.consumers
    by None = carried-from s.consumers index entry.command s same
    by (Some given) = passes (gate s.sessions given) given

pub only_join : (s : State) (entry : Entry) → OnlyJoin s entry
only_join s entry one there =
    by (step-from s entry one (in_contains (next_step s entry).state.consumers one there))
  where
    by : From s.consumers entry.command one → CameFrom s entry.command one
    by (inl was) = inl (was.0, Contains-in was.0 s.consumers was.1, was.2, was.3, was.4)
    by (inr is) = inr is
