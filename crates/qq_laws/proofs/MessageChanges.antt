-- Each change that a command itself makes of the messages of a queue, with its reason and its effects.
use Rattle.std.proofs.Common.{◌≡◌, ℕ, ◌+◌, ◌≤◌, true, false, ◌&&◌, ◌||◌, List, [], ◌∷◌, ◌++◌, Option, Some, None, map, length, refl, sym, ap, ◌∙◌, subst, inl, inr, arith, if◌then◌else◌}
use Rattle.std.specs.Prelude.{nat_eq, nat_lt, nat_le}
use Rattle.std.specs.List.{list_any}
use Rattle.std.proofs.lemmas.Bool.{false≢true, cases_Bool, cond-true, cond-false, cond_both, and_parts, and_from, eq-eqb, leb-true}
use Rattle.std.proofs.lemmas.List.{append-nil}
use Rattle.qq_base.specs.declared.ids.Index.{Index}
use Rattle.qq_base.specs.declared.ids.Term.{Term}
use Rattle.qq_base.specs.declared.ids.SessionId.{SessionId}
use Rattle.qq_base.specs.declared.ids.ConsumerId.{ConsumerId}
use Rattle.qq_base.specs.Ids.{same_consumer}
use Rattle.qq_entry.specs.Command.{consumer_id}
use Rattle.qq_entry.specs.declared.message.Message.{Message}
use Rattle.qq_entry.specs.declared.message.Reason.{Reason}
use Rattle.qq_entry.specs.declared.message.Reason.TheVariants as reason
use Rattle.qq_entry.specs.declared.command.Command.{Command}
use Rattle.qq_entry.specs.declared.command.Command.TheVariants.{Noop, Enqueue, Get, Subscribe, Cancel, Credit, Settle, Return, Discard, Purge, Down, DeadAttach, DeadSettle}
use Rattle.qq_entry.specs.declared.command.DeadDone.{DeadDone}
use Rattle.qq_entry.specs.declared.command.Mode.{Mode}
use Rattle.qq_entry.specs.declared.command.Mode.TheVariants.{Prefetch, Link}
use Rattle.qq_entry.specs.declared.answer.Answer.TheVariants as answer
use Rattle.qq_entry.specs.declared.answer.Cause.TheVariants.{SingleActive, NumberSpent, ConsumersFull, NoConsumer}
use Rattle.qq_entry.specs.declared.audit.Effect.{Effect}
use Rattle.qq_entry.specs.declared.audit.Effect.TheVariants.{DeadOnce}
use Rattle.qq_entry.specs.declared.queue.Strategy.{Strategy}
use Rattle.qq_entry.specs.declared.queue.Strategy.TheVariants.{Absent, AtMostOnce, AtLeastOnce}
use Rattle.qq_model.specs.declared.TheConstants.{MOST_CONSUMERS}
use Rattle.qq_model.specs.declared.place.GoneReason.{GoneReason}
use Rattle.qq_model.specs.declared.place.GoneReason.TheVariants as gone
use Rattle.qq_model.specs.declared.place.Key.{Key}
use Rattle.qq_model.specs.declared.place.Key.TheVariants.{Front, Back}
use Rattle.qq_model.specs.declared.place.Place.{Place}
use Rattle.qq_model.specs.declared.place.Place.TheVariants.{Ready, Out, Dead, Gone}
use Rattle.qq_model.specs.declared.place.Row.{Row}
use Rattle.qq_model.specs.declared.consumer.Consumer.{Consumer}
use Rattle.qq_model.specs.declared.consumer.Outcome.{Outcome}
use Rattle.qq_model.specs.declared.consumer.Outcome.TheVariants.{Settled, Returned, Discarded}
use Rattle.qq_model.specs.State.{State}
use Rattle.qq_model.specs.Choice.{next_message}
use Rattle.qq_model.specs.Limits.{has_passed}
use Rattle.qq_model.specs.Gate.{greatest_tag}
use Rattle.qq_model.specs.Changes.{Progress, consumer_of, put_row, put_consumer, message_of, die, die_by, go_back, return_row, drop_finished, credit_of, take_turn, begin_to_wait}
use Rattle.qq_model.specs.Commands.{Acted, reply, set_state, refuse, move_row, get_by, get, join, subscribe, cancel_by, cancel, set_credit, credit_by_mode, credit_by, give_credit, delivered_row, end_delivery, end_delivery_by, end_deliveries, finish_by, finish, purge_row, purge, return_by, return_first, first_delivery, return_all, is_of_session, return_session, leave, down, is_at_least_once, dead_attach, dead_row, given_row, Settling, settle_dead_by, settle_dead, dead_settle, act}
use Rattle.qq_model.specs.Reasons.{is_enqueue, is_get, is_return, is_purge, is_down, ends_delivery, settles_dead, may_go_back}
use Rattle.qq_base.proofs.Lists.{In, fold-keeps, list_any-from_in}
use Rattle.qq_model.proofs.ActKeeps.{fits}
use Rattle.qq_model.proofs.Choices.{first_delivery-in}
use Rattle.qq_model.proofs.Loops.{fold-keeps_in, while_next-keeps}
use Rattle.qq_model.proofs.Lookups.{dead_row-in, delivered_row-in, out-place}
use Rattle.qq_model.proofs.OneConsumer.{same_consumer-refl}
use Rattle.qq_laws.specs.Explains.{death_place, IsDeath, last_key, returned_key, IsReturnedKey, DisposesOf}
use Rattle.qq_laws.specs.Explains.DisposesOf.{IsSettled, IsDiscarded, GoesBack, PassesLimit, IsDeadLettered}

-- the dead letter of a message that has come to a place
abbrev pub letter_by : Strategy → Reason → Message → List Effect
letter_by Absent reason message = []
letter_by AtMostOnce reason message = DeadOnce reason message ∷ []
letter_by AtLeastOnce reason message = []

abbrev pub gone_letter : GoneReason → Strategy → Message → List Effect
gone_letter (gone.Died reason) strategy message = letter_by strategy reason message
gone_letter _ strategy message = []

abbrev pub letters : Place → Strategy → Message → List Effect
letters (Gone reason) strategy message = gone_letter reason strategy message
letters _ strategy message = []

-- a message is at another place, for a reason, and at most its dead letter leaves
pub record Replaced (Why : Row → Type 0) (p q : Progress) (old : Row) : Type 0 where
  pub new : Row
  pub here : In old p.state.rows
  pub why : Why new
  pub rows : q.state.rows ≡ put_row new p.state.rows
  pub args : q.state.args ≡ p.state.args
  pub messages : q.state.messages ≡ p.state.messages
  pub arrivals : q.state.arrivals ≡ p.state.arrivals
  pub attached : q.state.attached ≡ p.state.attached
  pub given : q.state.given ≡ p.state.given
  pub orders : p.state.orders ≤ q.state.orders
  pub returns : p.state.returns ≤ q.state.returns
  pub effects : q.effects
      ≡ p.effects ++ letters new.place p.state.args.strategy (message_of p.state.rows p.state.messages new)

-- a command has ended a delivery, or a dead letter
abbrev pub Ended : Command → Progress → Progress → Row → Type 0
Ended command p q old = Replaced (DisposesOf p.state command old) p q old

-- the messages stay as they are
pub record SameMessages (p q : Progress) : Type 0 where
  pub rows : q.state.rows ≡ p.state.rows
  pub args : q.state.args ≡ p.state.args
  pub messages : q.state.messages ≡ p.state.messages
  pub arrivals : q.state.arrivals ≡ p.state.arrivals
  pub attached : q.state.attached ≡ p.state.attached
  pub given : q.state.given ≡ p.state.given
  pub orders : q.state.orders ≡ p.state.orders
  pub returns : q.state.returns ≡ p.state.returns
  pub effects : q.effects ≡ p.effects

-- what each change of messages by a command keeps, which began at s
pub record KeepsMessages (command : Command) (s : Progress) (J : Progress → Type 0) : Type 0 where
  pub ends : (p q : Progress) (old : Row) → J p → Ended command p q old → J q
  pub same : (p q : Progress) → J p → SameMessages p q → J q
  pub takes : (row : Row) → is_get command ≡ true → next_message s.state.rows ≡ Some row → J s
      → J (set_state (move_row row (Gone gone.Got) s.state) s)
  pub purges : is_purge command ≡ true → J s
      → J (set_state (record (s.state) { rows = map purge_row s.state.rows }) s)
  pub attaches : (term : Term) → command ≡ DeadAttach term → nat_lt s.state.attached term.0 ≡ true → J s
      → J (set_state (record (s.state) { attached = term.0; given = 0 }) s)

-- Deaths and returns -----------------------------------------------------------------------------------

die_by-ended : {Why : Row → Type 0} (strategy : Strategy) (cause : Reason) (old more : Row) (p : Progress)
    → p.state.args.strategy ≡ strategy → In old p.state.rows
    → ((place : Place) → IsDeath p.state.args cause place → Why (record more { place = place }))
    → Replaced Why p (die_by strategy cause more p) old
die_by-ended Absent cause old more p is here why =
    let message : Message = message_of p.state.rows p.state.messages more in record {
      new = record more { place = Gone (gone.Died cause) };
      here = here;
      why = why (Gone (gone.Died cause)) (0, ap (λ s. death_place s 0 cause) (sym is));
      rows = refl;
      args = refl;
      messages = refl;
      arrivals = refl;
      attached = refl;
      given = refl;
      orders = omega arith;
      returns = omega arith;
      effects = sym (append-nil p.effects) ∙ ap (λ s. p.effects ++ letter_by s cause message) (sym is);
    }
die_by-ended AtMostOnce cause old more p is here why =
    let message : Message = message_of p.state.rows p.state.messages more in record {
      new = record more { place = Gone (gone.Died cause) };
      here = here;
      why = why (Gone (gone.Died cause)) (0, ap (λ s. death_place s 0 cause) (sym is));
      rows = refl;
      args = refl;
      messages = refl;
      arrivals = refl;
      attached = refl;
      given = refl;
      orders = omega arith;
      returns = omega arith;
      effects = ap (λ s. p.effects ++ letter_by s cause message) (sym is);
    }
die_by-ended AtLeastOnce cause old more p is here why =
    let number : ℕ = p.state.deads + 1 in record {
      new = record more { place = Dead number cause };
      here = here;
      why = why (Dead number cause) (number, ap (λ s. death_place s number cause) (sym is));
      rows = refl;
      args = refl;
      messages = refl;
      arrivals = refl;
      attached = refl;
      given = refl;
      orders = omega arith;
      returns = omega arith;
      effects = sym (append-nil p.effects);
    }

pub die-ended : {Why : Row → Type 0} (cause : Reason) (old more : Row) (p : Progress) → In old p.state.rows
    → ((place : Place) → IsDeath p.state.args cause place → Why (record more { place = place }))
    → Replaced Why p (die cause more p) old
unfolding die
die-ended cause old more p here why = die_by-ended p.state.args.strategy cause old more p refl here why

go_back-ended : {command : Command} (limit : Option ℕ) (old more : Row) (p : Progress)
    → p.state.args.delivery_limit ≡ limit → In old p.state.rows
    → ((key : Key) → IsReturnedKey p.state key
    → DisposesOf p.state command old (record more { place = Ready key })) → Ended command p (go_back limit more p) old
go_back-ended None old more p is here why =
    let n : ℕ = p.state.orders + 1 in
    let last : last_key p.state.args.delivery_limit p.state ≡ p.state.orders =
    ap (λ limit. last_key limit p.state) is in
    record {
      new = record more { place = Ready (Back n) };
      here = here;
      why = why (Back n) (n, omega (arith, last), ap (λ limit. returned_key limit n) (sym is));
      rows = refl;
      args = refl;
      messages = refl;
      arrivals = refl;
      attached = refl;
      given = refl;
      orders = omega arith;
      returns = omega arith;
      effects = sym (append-nil p.effects);
    }
go_back-ended (Some most) old more p is here why =
    let n : ℕ = p.state.returns + 1 in
    let last : last_key p.state.args.delivery_limit p.state ≡ p.state.returns =
    ap (λ limit. last_key limit p.state) is in
    record {
      new = record more { place = Ready (Front n) };
      here = here;
      why = why (Front n) (n, omega (arith, last), ap (λ limit. returned_key limit n) (sym is));
      rows = refl;
      args = refl;
      messages = refl;
      arrivals = refl;
      attached = refl;
      given = refl;
      orders = omega arith;
      returns = omega arith;
      effects = sym (append-nil p.effects);
    }

return_row-ended : {command : Command} (row : Row) (p : Progress) (consumer : ConsumerId) (id : ℕ)
    → row.place ≡ Out consumer id → ends_delivery command consumer id ≡ true → may_go_back command ≡ true
    → In row p.state.rows → Ended command p (return_row row p) row
unfolding return_row
return_row-ended {command = command} row p consumer id is ends back here =
    let more : Row = record row { count = row.count + 1 } in
    cond_both (has_passed p.state.args.delivery_limit more.count) (die reason.DeliveryLimit more p)
    (go_back p.state.args.delivery_limit more p) (λ (q : Progress). Ended command p q row)
    (λ passed. die-ended reason.DeliveryLimit row more p here
    (λ place death. PassesLimit consumer id place is back ends passed death refl))
    (λ within. go_back-ended p.state.args.delivery_limit row more p refl here
    (λ key at. GoesBack consumer id key is back ends within at refl))

gone-ended : {command : Command} (row : Row) (cause : GoneReason) (p : Progress)
    → gone_letter cause p.state.args.strategy (message_of p.state.rows p.state.messages row) ≡ []
    → In row p.state.rows → DisposesOf p.state command row (record row { place = Gone cause })
    → Ended command p (set_state (move_row row (Gone cause) p.state) p) row
gone-ended row cause p none here why = record {
  new = record row { place = Gone cause };
  here = here;
  why = why;
  rows = refl;
  args = refl;
  messages = refl;
  arrivals = refl;
  attached = refl;
  given = refl;
  orders = omega arith;
  returns = omega arith;
  effects = sym (append-nil p.effects) ∙ ap (λ (more : List Effect). p.effects ++ more) (sym none);
}

-- Settle, Return, Discard ------------------------------------------------------------------------------

returns_back : (command : Command) → is_return command ≡ true → may_go_back command ≡ true
returns_back command is = ap (λ b. b || is_down command) is

pub end_delivery-ended : {command : Command} (outcome : Outcome) → fits command outcome ≡ true → (row : Row)
    (p : Progress) (consumer : ConsumerId) (id : ℕ) → row.place ≡ Out consumer id
    → ends_delivery command consumer id ≡ true → In row p.state.rows → Ended command p (end_delivery outcome row p) row
end_delivery-ended Settled fit row p consumer id is ends here =
    gone-ended row gone.Settled p refl here (IsSettled consumer id is fit ends refl)
end_delivery-ended {command = command} Returned fit row p consumer id is ends here =
    return_row-ended row p consumer id is ends (returns_back command fit) here
end_delivery-ended Discarded fit row p consumer id is ends here =
    die-ended reason.Rejected row row p here (λ place death. IsDiscarded consumer id place is fit ends death refl)

-- a consumer begins to wait, and no message is changed
pub same-waits : (before : ℕ) (id : ConsumerId) (p : Progress)
    → SameMessages p (set_state (begin_to_wait before id p.state) p)
same-waits before id p =
    cond_both _ (take_turn (consumer_of id p.state.consumers) p.state) p.state
    (λ (s : State). SameMessages p (set_state s p)) (λ _. takes (consumer_of id p.state.consumers)) (λ _. itself)
  where
    itself : SameMessages p (set_state p.state p)
    itself = record {
      rows = refl;
      args = refl;
      messages = refl;
      arrivals = refl;
      attached = refl;
      given = refl;
      orders = refl;
      returns = refl;
      effects = refl;
    }

    takes : (o : Option Consumer) → SameMessages p (set_state (take_turn o p.state) p)
    takes None = itself
    takes (Some consumer) = record {
      rows = refl;
      args = refl;
      messages = refl;
      arrivals = refl;
      attached = refl;
      given = refl;
      orders = refl;
      returns = refl;
      effects = refl;
    }

-- a state with the same messages
abbrev IsSameState : State → State → Type 0
IsSameState s t =
    (t.rows ≡ s.rows) × (t.args ≡ s.args) × (t.messages ≡ s.messages) × (t.arrivals ≡ s.arrivals)
    × (t.attached ≡ s.attached) × (t.given ≡ s.given) × (t.orders ≡ s.orders) × (t.returns ≡ s.returns)

same-state : (p : Progress) (t : State) → IsSameState p.state t → SameMessages p (set_state t p)
same-state p t same = record {
  rows = same.0;
  args = same.1;
  messages = same.2;
  arrivals = same.3;
  attached = same.4;
  given = same.5;
  orders = same.6;
  returns = same.7;
  effects = refl;
}

finish-messages : {command : Command} {s : Progress} {J : Progress → Type 0} → KeepsMessages command s J
    → (outcome : Outcome) → fits command outcome ≡ true → (consumer : ConsumerId) (ids : List ℕ) (p : Progress)
    → ((id : ℕ) → In id ids → ends_delivery command consumer id ≡ true) → J p
    → J (finish outcome consumer ids p).progress
unfolding finish
finish-messages {command = command} {J = J} keeps outcome fit consumer ids p ends holds =
    by (consumer_of consumer p.state.consumers)
  where
    one : (now : Progress) (o : Option Row) (id : ℕ) → delivered_row consumer id now.state.rows ≡ o → In id ids
        → J now → J (end_delivery_by outcome o now)
    one now None id found within holds = holds
    one now (Some row) id found within holds =
        let some = delivered_row-in consumer id now.state.rows row found in
        keeps.ends now (end_delivery outcome row now) row holds
        (end_delivery-ended outcome fit row now consumer id some.1 (ends id within) some.0)

    all : J (end_deliveries outcome consumer ids p)
    all =
        fold-keeps_in J
        (λ (now : Progress) (id : ℕ). end_delivery_by outcome (delivered_row consumer id now.state.rows) now) ids
        (λ now id within holds. one now (delivered_row consumer id now.state.rows) id refl within holds) p holds

    by : (o : Option Consumer) → J (finish_by o outcome consumer ids p).progress
    by None = holds
    by (Some found) =
        let rest : Progress = end_deliveries outcome consumer ids p in
        let left : Progress = set_state (drop_finished rest.state) rest in
        keeps.same left _
        (keeps.same rest left all (same-state rest (drop_finished rest.state) (refl, refl, refl, refl, refl, refl, refl, refl)))
        (same-waits (credit_of consumer p.state.rows p.state.consumers) consumer left)

-- Down -------------------------------------------------------------------------------------------------

return_all-messages : {session : SessionId} {s : Progress} {J : Progress → Type 0}
    → KeepsMessages (Down session) s J → (consumer : Consumer) → is_of_session session consumer ≡ true
    → (p : Progress) → J p → J (return_all consumer p)
unfolding return_all
return_all-messages {J = J} keeps consumer of p holds =
    while_next-keeps J (return_first consumer.id)
    (λ now next holds made. one now next (first_delivery consumer.id now.state.rows) refl holds made) _ p holds
  where
    one : (now next : Progress) (o : Option Row) → first_delivery consumer.id now.state.rows ≡ o → J now
        → return_by o now ≡ Some next → J next
    one now next None found holds made = absurd cc
    one now next (Some row) found holds made =
        let some = first_delivery-in consumer.id now.state.rows row found in
        let at = out-place consumer.id row.place some.1 in
        let same : return_row row now ≡ next = cc in
        subst J same
        (keeps.ends now (return_row row now) row holds
        (return_row-ended row now consumer.id at.0 at.1 of refl some.0))

down-messages : {session : SessionId} {s : Progress} {J : Progress → Type 0} → KeepsMessages (Down session) s J
    → (p : Progress) → J p → J (down session p).progress
unfolding down
down-messages {session = session} {J = J} keeps p holds =
    let back : Progress = return_session session p.state.consumers p in
    let all : J back =
    fold-keeps J
    (λ (now : Progress) (consumer : Consumer). if is_of_session session consumer then return_all consumer now
    else now)
    (λ now consumer holds. cond_both (is_of_session session consumer) (return_all consumer now) now J
    (λ is. return_all-messages keeps consumer is now holds) (λ _. holds)) p.state.consumers p holds in
    keeps.same back (set_state (leave session back.state) back) all
    (same-state back (leave session back.state) (refl, refl, refl, refl, refl, refl, refl, refl))

-- DeadSettle -------------------------------------------------------------------------------------------

pub given-row : (number : ℕ) (s : State) (row : Row) → given_row number s ≡ Some row
    → (number ≤ s.given) × (dead_row number s.rows ≡ Some row)
given-row number s row found = elim (cases_Bool (nat_le number s.given)) [
  | inl up_to ↦ (
    leb-true number s.given up_to,
    sym (cond-true (nat_le number s.given) (dead_row number s.rows) None up_to) ∙ found,
  )
  | inr fails ↦
      let none : None ≡ Some row =
      sym (cond-false (nat_le number s.given) (dead_row number s.rows) None fails) ∙ found in
      absurd cc
]

dead_settle-messages : {s : Progress} {J : Progress → Type 0} (term : Term) (done : List DeadDone)
    → KeepsMessages (DeadSettle term done) s J → (p : Progress) → J p → J (dead_settle term done p).progress
unfolding dead_settle
dead_settle-messages {J = J} term done keeps p holds =
    cond_both _ _ (reply answer.Stale p) (λ (a : Acted). J a.progress)
    (λ may. (all (and_parts (is_at_least_once p.state.args.strategy) (nat_eq term.0 p.state.attached) may).1).0)
    (λ _. holds)
  where
    -- the worker stays the same
    Goes : Settling → Type 0
    Goes now = J now.progress × (now.progress.state.attached ≡ p.state.attached)

    one : (now : Settling) (one : DeadDone) (o : Option Row) → given_row one.number now.progress.state ≡ o
        → In one done → nat_eq term.0 p.state.attached ≡ true → Goes now → Goes (settle_dead_by o now)
    one now done' None found within same goes = goes
    one now done' (Some row) found within same goes =
        let up_to = given-row done'.number now.progress.state row found in
        let some = dead_row-in done'.number now.progress.state.rows row up_to.1 in
        let settles : settles_dead (DeadSettle term done) now.progress.state.attached done'.number ≡ true =
        and_from _ _ (ap (nat_eq term.0) goes.1 ∙ same)
        (list_any-from_in (λ (d : DeadDone). nat_eq d.number done'.number) done' done within
        (eq-eqb done'.number done'.number refl)) in (
          keeps.ends now.progress _ row goes.0
              (gone-ended row gone.DeadLettered now.progress refl some.0
              (IsDeadLettered done'.number some.1.0 some.1.1 settles up_to.0 refl)),
          goes.1,
        )

    all : nat_eq term.0 p.state.attached ≡ true → Goes (settle_dead done p)
    all same =
        fold-keeps_in Goes
        (λ (now : Settling) (one : DeadDone). settle_dead_by (given_row one.number now.progress.state) now) done
        (λ now done' within goes. one now done' (given_row done'.number now.progress.state) refl within same goes)
        (record { progress = p; count = 0 }) (holds, refl)

-- The others -------------------------------------------------------------------------------------------

get-messages : {command : Command} {s : Progress} {J : Progress → Type 0} → KeepsMessages command s J
    → is_get command ≡ true → J s → J (get s).progress
unfolding get
get-messages {s = s} {J = J} keeps gets holds =
    cond_both s.state.args.single_active (refuse SingleActive s) (get_by (next_message s.state.rows) s)
    (λ (a : Acted). J a.progress) (λ _. holds) (λ _. takes (next_message s.state.rows) refl)
  where
    takes : (o : Option Row) → next_message s.state.rows ≡ o → J (get_by o s).progress
    takes None found = holds
    takes (Some row) found = keeps.takes row gets found holds

subscribe-messages : {command : Command} {s : Progress} {J : Progress → Type 0} → KeepsMessages command s J
    → (id : ConsumerId) (mode : Mode) → J s → J (subscribe id mode s).progress
unfolding subscribe
subscribe-messages {s = s} {J = J} keeps id mode holds =
    cond_both (nat_le id.tag (greatest_tag id.session s.state.sessions)) (refuse NumberSpent s) _
    (λ (a : Acted). J a.progress) (λ _. holds) (λ above.
    cond_both (nat_le MOST_CONSUMERS (length s.state.consumers)) (refuse ConsumersFull s)
    (reply answer.Subscribed (set_state (join id mode s.state) s)) (λ (a : Acted). J a.progress)
    (λ _. holds)
    (λ _. keeps.same s _ holds (same-state s (join id mode s.state) (refl, refl, refl, refl, refl, refl, refl, refl))))

cancel-messages : {command : Command} {s : Progress} {J : Progress → Type 0} → KeepsMessages command s J
    → (id : ConsumerId) → J s → J (cancel id s).progress
unfolding cancel
cancel-messages {s = s} {J = J} keeps id holds = by (consumer_of id s.state.consumers)
  where
    by : (o : Option Consumer) → J (cancel_by o s).progress
    by None = holds
    by (Some consumer) =
        let cancelled : State = drop_finished (record (s.state) {
          consumers = put_consumer (record consumer { cancelled = true }) s.state.consumers;
        }) in
        cond_both consumer.cancelled (refuse NoConsumer s) (reply answer.Done (set_state cancelled s))
        (λ (a : Acted). J a.progress) (λ _. holds)
        (λ _. keeps.same s _ holds (same-state s cancelled (refl, refl, refl, refl, refl, refl, refl, refl)))

credit-messages : {command : Command} {s : Progress} {J : Progress → Type 0} → KeepsMessages command s J
    → (id : ConsumerId) (credit : ℕ) → J s → J (give_credit id credit s).progress
unfolding give_credit
credit-messages {s = s} {J = J} keeps id credit holds = by (consumer_of id s.state.consumers)
  where
    by_mode : (mode : Mode) (consumer : Consumer) → J (credit_by_mode mode consumer credit s).progress
    by_mode (Prefetch prefetch) consumer = holds
    by_mode Link consumer =
        let given : Progress = set_state (set_credit consumer credit s.state) s in
        keeps.same given _
        (keeps.same s given holds
        (same-state s (set_credit consumer credit s.state) (refl, refl, refl, refl, refl, refl, refl, refl)))
        (same-waits (credit_of consumer.id s.state.rows s.state.consumers) consumer.id given)

    by : (o : Option Consumer) → J (credit_by o credit s).progress
    by None = holds
    by (Some consumer) =
        cond_both consumer.cancelled (refuse NoConsumer s) (credit_by_mode consumer.mode consumer credit s)
        (λ (a : Acted). J a.progress) (λ _. holds) (λ _. by_mode consumer.mode consumer)

purge-messages : {command : Command} {s : Progress} {J : Progress → Type 0} → KeepsMessages command s J
    → is_purge command ≡ true → J s → J (purge s).progress
unfolding purge
purge-messages keeps purges holds = keeps.purges purges holds

dead_attach-messages : {s : Progress} {J : Progress → Type 0} (term : Term) → KeepsMessages (DeadAttach term) s J
    → J s → J (dead_attach term s).progress
unfolding dead_attach
dead_attach-messages {s = s} {J = J} term keeps holds =
    cond_both _ _ (reply answer.Stale s) (λ (a : Acted). J a.progress)
    (λ may. let parts = and_parts (is_at_least_once s.state.args.strategy) (nat_lt s.state.attached term.0) may in
    keeps.attaches term refl parts.1 holds) (λ _. holds)

ends-own : (consumer : ConsumerId) (id : ℕ) (ids : List ℕ) → In id ids
    → (same_consumer consumer consumer && list_any (nat_eq id) ids) ≡ true
ends-own consumer id ids within =
    and_from _ _ (same_consumer-refl consumer) (list_any-from_in (nat_eq id) id ids within (eq-eqb id id refl))

-- the command's row of the table, of one that brings no message
pub act-messages : {J : Progress → Type 0} (index : Index) (command : Command) (s : Progress)
    → is_enqueue command ≡ false → KeepsMessages command s J → J s → J (act index command s).progress
unfolding act
act-messages index (Noop version) s none keeps holds = holds
act-messages index (Enqueue stamp origin message) s none keeps holds = absurd (false≢true (sym none))
act-messages index (Get stamp) s none keeps holds = get-messages keeps refl holds
act-messages index (Subscribe stamp tag mode) s none keeps holds =
    subscribe-messages keeps (consumer_id stamp tag) mode holds
act-messages index (Cancel stamp tag) s none keeps holds = cancel-messages keeps (consumer_id stamp tag) holds
act-messages index (Credit stamp tag count credit wanted) s none keeps holds =
    credit-messages keeps (consumer_id stamp tag) (count + credit) holds
act-messages index (Settle stamp tag ids) s none keeps holds =
    finish-messages keeps Settled refl (consumer_id stamp tag) ids s
    (λ id within. ends-own (consumer_id stamp tag) id ids within) holds
act-messages index (Return stamp tag ids) s none keeps holds =
    finish-messages keeps Returned refl (consumer_id stamp tag) ids s
    (λ id within. ends-own (consumer_id stamp tag) id ids within) holds
act-messages index (Discard stamp tag ids) s none keeps holds =
    finish-messages keeps Discarded refl (consumer_id stamp tag) ids s
    (λ id within. ends-own (consumer_id stamp tag) id ids within) holds
act-messages index (Purge stamp) s none keeps holds = purge-messages keeps refl holds
act-messages index (Down session) s none keeps holds = down-messages keeps s holds
act-messages index (DeadAttach term) s none keeps holds = dead_attach-messages term keeps holds
act-messages index (DeadSettle term done) s none keeps holds = dead_settle-messages term done keeps s holds
