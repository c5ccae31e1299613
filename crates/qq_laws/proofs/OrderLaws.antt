-- Consumers that aren't cancelled keep their order over an entry, and the active one stays.
use Rattle.std.proofs.Common.{◌≡◌, ◌+◌, false, not, List, [], ◌∷◌, ◌++◌, Option, Some, None, refl, sym, ap, ◌∙◌, subst, inl, inr, length, Contains}
use Rattle.std.specs.Prelude.{nat_le, map}
use Rattle.std.specs.Option.{option_map}
use Rattle.std.proofs.lemmas.Bool.{cases_Bool, cond-true, cond-false, cond_both, not_from_false}
use Rattle.std.proofs.lemmas.List.{append-nil}
use Rattle.std.proofs.lemmas.List.Elements.{filter-append}
use Rattle.qq_base.specs.declared.ids.Index.{Index}
use Rattle.qq_base.specs.declared.ids.ConsumerId.{ConsumerId}
use Rattle.qq_base.specs.Ids.{same_consumer}
use Rattle.qq_entry.specs.Command.{stamp, consumer_id}
use Rattle.qq_entry.specs.declared.answer.Answer.TheVariants as answer
use Rattle.qq_entry.specs.declared.answer.Cause.{Cause}
use Rattle.qq_entry.specs.declared.answer.Cause.TheVariants.{NumberSpent, ConsumersFull}
use Rattle.qq_entry.specs.declared.command.Command.{Command}
use Rattle.qq_entry.specs.declared.command.Command.TheVariants.{Subscribe}
use Rattle.qq_entry.specs.declared.command.Entry.{Entry}
use Rattle.qq_entry.specs.declared.command.Mode.{Mode}
use Rattle.qq_entry.specs.declared.command.Stamp.{Stamp}
use Rattle.qq_model.specs.declared.TheConstants.{MOST_CONSUMERS}
use Rattle.qq_model.specs.declared.consumer.Consumer.{Consumer}
use Rattle.qq_model.specs.declared.session.Gate.{Gate}
use Rattle.qq_model.specs.declared.session.Gate.TheVariants.{Fresh}
use Rattle.qq_model.specs.State.{State}
use Rattle.qq_model.specs.Gate.{gate, admit, greatest_tag}
use Rattle.qq_model.specs.Changes.{Progress, put_consumer}
use Rattle.qq_model.specs.Commands.{Acted, act, reply, refuse, set_state, new_consumer, join, subscribe}
use Rattle.qq_model.specs.Serving.{serve}
use Rattle.qq_model.specs.Step.{Step, carry_out, go_through, step_by, step}
use Rattle.qq_model.specs.Audit.{next_index, next_step}
use Rattle.qq_base.proofs.Lists.{In, In-map, In-filter}
use Rattle.qq_model.proofs.CarryOut.{follow_on, follow_on-keeps}
use Rattle.qq_model.proofs.Ids.{consumer-found}
use Rattle.qq_model.proofs.Lookups.{next_consumer-in}
use Rattle.qq_model.proofs.OneConsumer.{same_consumer-true}
use Rattle.qq_model.proofs.Serve.{serve-id, serve-cancelled}
use Rattle.qq_model.proofs.SingleChanges.{KeepsDeliveries, Serves}
use Rattle.qq_model.proofs.Soundness.{Contains-in}
use Rattle.qq_laws.specs.Joining.{ends_consumer}
use Rattle.qq_laws.specs.Order.{IsPart, ids, joined_by, joined, KeepsOrder, AreApart, going, GoOnInOrder, ActiveStays, first, FirstIsActive}
use Rattle.qq_laws.proofs.ActConsumers.{act-consumers}
use Rattle.qq_laws.proofs.GoingLemmas.{GoesOn, Stays, on-acts, one_of, part-apart, part-in, put, stays-acts}
use Rattle.qq_laws.proofs.OrderLemmas.{ids-put, ids-append, is_subscribe, follow-ids, follow-joined, part-refl, part-filter}

-- What follows a command leaves who goes on ------------------------------------------------------------

-- consumers that keep their ids and whether they are cancelled
record Alike (change : Consumer → Consumer) (consumers : List Consumer) : Type 0 where
  id : (one : Consumer) → In one consumers → (change one).id ≡ one.id
  cancelled : (one : Consumer) → In one consumers → (change one).cancelled ≡ one.cancelled

alike-more : (change : Consumer → Consumer) (one : Consumer) (rest : List Consumer) → (change one).id ≡ one.id
    → (change one).cancelled ≡ one.cancelled → ids (going (map change rest)) ≡ ids (going rest)
    → ids (going (change one ∷ map change rest)) ≡ ids (going (one ∷ rest))
alike-more change one rest same flag later = elim (cases_Bool (not one.cancelled)) [
  | inl goes ↦
      ap ids (cond-true _ (change one ∷ going (map change rest)) (going (map change rest)) (ap not flag ∙ goes))
      ∙ ap (λ (id : ConsumerId). id ∷ ids (going (map change rest))) same
      ∙ ap (λ (list : List ConsumerId). one.id ∷ list) later
      ∙ sym (ap ids (cond-true _ (one ∷ going rest) (going rest) goes))
  | inr ends ↦
      ap ids (cond-false _ (change one ∷ going (map change rest)) (going (map change rest)) (ap not flag ∙ ends))
      ∙ later ∙ sym (ap ids (cond-false _ (one ∷ going rest) (going rest) ends))
]

alike-going : (change : Consumer → Consumer) (consumers : List Consumer) → Alike change consumers
    → ids (going (map change consumers)) ≡ ids (going consumers)
alike-going change [] alike = refl
alike-going change (one ∷ rest) alike =
    alike-more change one rest (alike.id one (inl refl)) (alike.cancelled one (inl refl))
    (alike-going change rest (record {
      id = λ x here. alike.id x (inr here);
      cancelled = λ x here. alike.cancelled x (inr here);
    }))

-- ids are apart, and these go on
record Go (who : List ConsumerId) (consumers : List Consumer) : Type 0 where
  apart : AreApart (ids consumers)
  are : ids (going consumers) ≡ who

go-put : (who : List ConsumerId) (new old : Consumer) (consumers : List Consumer) → Go who consumers
    → In old consumers → new.id ≡ old.id → new.cancelled ≡ old.cancelled → Go who (put_consumer new consumers)
go-put who new old consumers go there same flag = record {
  apart = subst AreApart (sym (ids-put new consumers)) go.apart;
  are = alike-going (put new) consumers (record {
    id = λ one here.
        cond_both (same_consumer one.id new.id) new one (λ (c : Consumer). c.id ≡ one.id)
        (λ is. sym (same_consumer-true one.id new.id is)) (λ _. refl);
    cancelled = λ one here.
        cond_both (same_consumer one.id new.id) new one (λ (c : Consumer). c.cancelled ≡ one.cancelled)
        (λ is. flag ∙ ap (λ (c : Consumer). c.cancelled)
        (one_of old one consumers go.apart there here (sym same ∙ sym (same_consumer-true one.id new.id is))))
        (λ _. refl);
  }) ∙ go.are;
}

go-delivers : (who : List ConsumerId) → KeepsDeliveries (λ p. Go who p.state.consumers)
go-delivers who p row consumer go found next =
    go-put who (serve (p.state.turns + 1) consumer) consumer p.state.consumers go
    (next_consumer-in p.state.args.single_active p.state.rows p.state.consumers consumer next).0
    (serve-id (p.state.turns + 1) consumer) (serve-cancelled (p.state.turns + 1) consumer)

go-serves : (who : List ConsumerId) (command : Command) → Serves command (λ p. Go who p.state.consumers)
go-serves who command = record {
  rows = record {
    row = λ p q old new go here moves out why turns. subst (Go who) (sym turns.consumers) go;
  };
  offer = λ p number cause row go here is next may few. go;
  drain = λ p id consumer go found.
      go-put who _ consumer p.state.consumers go (consumer-found id p.state.consumers consumer found) refl refl;
}

follow-going : (command : Command) (a : Acted) → AreApart (ids a.progress.state.consumers)
    → ids (going (follow_on command a).progress.state.consumers) ≡ ids (going a.progress.state.consumers)
follow-going command a apart =
    let who = ids (going a.progress.state.consumers) in
    (follow_on-keeps {I = λ p. Go who p.state.consumers} command (go-delivers who) (go-serves who command) a
    (record { apart = apart; are = refl })).are

-- Who joins and who stays ------------------------------------------------------------------------------

going-append : (consumers : List Consumer) (new : Consumer) → new.cancelled ≡ false
    → ids (going (consumers ++ new ∷ [])) ≡ ids (going consumers) ++ new.id ∷ []
going-append consumers new goes =
    ap ids (filter-append (λ (one : Consumer). not one.cancelled) consumers (new ∷ []))
    ∙ ids-append (going consumers) (going (new ∷ []))
    ∙ ap (λ (list : List Consumer). ids (going consumers) ++ ids list)
    (cond-true (not new.cancelled) (new ∷ []) [] (not_from_false new.cancelled goes))

-- the first that goes on is there
going-first : (consumers : List Consumer) (id : ConsumerId) → first (ids (going consumers)) ≡ Some id
    → (one : Consumer) × In one consumers × (one.id ≡ id) × (one.cancelled ≡ false)
going-first [] id found = absurd cc
going-first (one ∷ rest) id found = elim (cases_Bool one.cancelled) [
  | inl was ↦
      let later = going-first rest id
      (sym (ap (λ (list : List Consumer). first (ids list)) (cond-false (not one.cancelled) (one ∷ going rest) _ (ap not was))) ∙ found) in
      (later.0, inr later.1, later.2, later.3)
  | inr goes ↦
      let is : Some one.id ≡ Some id =
      sym (ap (λ (list : List Consumer). first (ids list)) (cond-true (not one.cancelled) (one ∷ going rest) _ (ap not goes))) ∙ found in
      (one, inl refl, cc, goes)
]

-- those that go on after a command's row of the table
abbrev Order : Command → State → Acted → Type 0
Order command s a =
    KeepsOrder (ids (going s.consumers)) (joined_by command a.answer) (ids (going a.progress.state.consumers))

all-go : (consumers : List Consumer) → KeepsOrder (ids (going consumers)) [] (ids (going consumers))
all-go consumers =
    (ids (going consumers), part-refl (ids (going consumers)), sym (append-nil (ids (going consumers))))

-- after a subscribe all go on, or all and the new one
subscribe-cases : (P : Acted → Type 0) (id : ConsumerId) (mode : Mode) (s : State)
    → (cause : (why : Cause) → P (refuse why (record { state = s; effects = [] })))
    → P (reply answer.Subscribed (set_state (join id mode s) (record { state = s; effects = [] })))
    → P (subscribe id mode (record { state = s; effects = [] }))
unfolding subscribe
subscribe-cases P id mode s refused joins =
    cond_both (nat_le id.tag (greatest_tag id.session s.sessions)) (refuse NumberSpent start) _ P
    (λ _. refused NumberSpent) (λ _.
    cond_both (nat_le MOST_CONSUMERS (length s.consumers)) (refuse ConsumersFull start)
    (reply answer.Subscribed (set_state (join id mode s) start)) P (λ _. refused ConsumersFull) (λ _. joins))
  where
    start : Progress
    start = record { state = s; effects = [] }

act-going : (index : Index) (command : Command) (s : State) → AreApart (ids s.consumers)
    → Order command s (act index command (record { state = s; effects = [] }))
unfolding act
act-going index command s apart = by command
  where
    start : Progress
    start = record { state = s; effects = [] }

    others : (other : Command) → is_subscribe other ≡ false
        → KeepsOrder (ids (going s.consumers)) [] (ids (going (act index other start).progress.state.consumers))
    others other plain =
        let kept = act-consumers (GoesOn (ids (going s.consumers))) index other (on-acts (ids (going s.consumers)) other plain) start
        (record { apart = apart; part = part-refl (ids (going s.consumers)) }) in (
          ids (going (act index other start).progress.state.consumers),
          kept.part,
          sym (append-nil (ids (going (act index other start).progress.state.consumers))),
        )

    by : (other : Command) → Order other s (act index other start)
    by (Subscribe given tag mode) =
        let id = consumer_id given tag in
        subscribe-cases (Order (Subscribe given tag mode) s) id mode s (λ why. all-go s.consumers) (
          ids (going s.consumers),
          part-refl (ids (going s.consumers)),
          going-append s.consumers (new_consumer id mode (s.turns + 1)) refl,
        )
    by other = others other refl

-- The active consumer ----------------------------------------------------------------------------------

pub first_is_active : (consumers : List Consumer) → FirstIsActive consumers
first_is_active [] = refl
first_is_active (one ∷ rest) = elim (cases_Bool (not one.cancelled)) [
  | inl goes ↦
      ap (option_map (λ (c : Consumer). c.id)) (cond-true (not one.cancelled) (Some one) _ goes)
      ∙ sym (ap (λ (list : List Consumer). first (ids list)) (cond-true (not one.cancelled) (one ∷ going rest) _ goes))
  | inr ends ↦
      ap (option_map (λ (c : Consumer). c.id)) (cond-false (not one.cancelled) (Some one) _ ends)
      ∙ first_is_active rest
      ∙ sym (ap (λ (list : List Consumer). first (ids list)) (cond-false (not one.cancelled) (one ∷ going rest) _ ends))
]

-- the first of a list that stays in a part of it is the part's first
first-stays : (id : ConsumerId) (xs ys : List ConsumerId) → IsPart xs ys → AreApart ys → first ys ≡ Some id
    → In id xs → first xs ≡ Some id
first-stays id [] ys part apart is here = absurd here
first-stays id (x ∷ xs) [] part apart is here = absurd part
first-stays id (x ∷ xs) (y ∷ ys) (inl part) apart is here = ap Some part.0 ∙ is
first-stays id (x ∷ xs) (y ∷ ys) (inr part) apart is here =
    let same : y ≡ id = cc in
    absurd (apart.0 (subst (Contains ys) (sym same) (Contains-in id ys (part-in id (x ∷ xs) ys part here))))

first-more : (id : ConsumerId) (xs ys : List ConsumerId) → first xs ≡ Some id → first (xs ++ ys) ≡ Some id
first-more id [] ys is = absurd cc
first-more id (x ∷ xs) ys is = is

act-active : (index : Index) (command : Command) (s : State) (id : ConsumerId) → AreApart (ids s.consumers)
    → first (ids (going s.consumers)) ≡ Some id → ends_consumer command id ≡ false
    → first (ids (going (act index command (record { state = s; effects = [] })).progress.state.consumers)) ≡ Some id
unfolding act
act-active index command s id apart is goes = by command goes
  where
    start : Progress
    start = record { state = s; effects = [] }

    before : List ConsumerId
    before = ids (going s.consumers)

    Is : Acted → Type 0
    Is a = first (ids (going a.progress.state.consumers)) ≡ Some id

    here : (consumers : List Consumer) → first (ids (going consumers)) ≡ Some id → AreApart (ids consumers)
        → Stays id consumers
    here consumers found apart =
        let there = going-first consumers id found in
        record { apart = apart; one = there.0; there = there.1; itself = there.2; goes = there.3 }

    others : (other : Command) → is_subscribe other ≡ false → ends_consumer other id ≡ false
        → Is (act index other start)
    others other plain stays =
        let after = (act index other start).progress.state.consumers in
        let on = act-consumers (GoesOn before) index other (on-acts before other plain) start
        (record { apart = apart; part = part-refl before }) in
        let kept = act-consumers (Stays id) index other (stays-acts id other plain stays) start (here s.consumers is apart) in
        let goes : In kept.one (going after) =
        In-filter (λ (c : Consumer). not c.cancelled) kept.one after kept.there
        (not_from_false kept.one.cancelled kept.goes) in
        first-stays id (ids (going after)) before on.part
        (part-apart before (ids s.consumers) (part-filter (λ (c : Consumer). not c.cancelled) s.consumers) apart) is
        (subst (λ (i : ConsumerId). In i (ids (going after))) kept.itself
        (In-map (λ (c : Consumer). c.id) kept.one (going after) goes))

    by : (other : Command) → ends_consumer other id ≡ false → Is (act index other start)
    by (Subscribe given tag mode) stays =
        let new = new_consumer (consumer_id given tag) mode (s.turns + 1) in
        subscribe-cases Is (consumer_id given tag) mode s (λ why. is)
        (ap first (going-append s.consumers new refl) ∙ first-more id before (new.id ∷ []) is)
    by other stays = others other refl stays

-- An entry ---------------------------------------------------------------------------------------------

carry-going : (index : Index) (command : Command) (s : State) → AreApart (ids s.consumers)
    → AreApart (ids (carry_out index command s).progress.state.consumers) → Order command s (carry_out index command s)
unfolding carry_out
carry-going index command s before after =
    let acted : Acted = act index command (record { state = s; effects = [] }) in
    let kept = act-going index command s before in (
      kept.0,
      kept.1,
      follow-going command acted (subst AreApart (follow-ids command acted) after) ∙ kept.2
          ∙ ap (λ (new : List ConsumerId). kept.0 ++ new) (sym (follow-joined command acted)),
    )

carry-active : (index : Index) (command : Command) (s : State) (id : ConsumerId) → AreApart (ids s.consumers)
    → AreApart (ids (carry_out index command s).progress.state.consumers)
    → first (ids (going s.consumers)) ≡ Some id → ends_consumer command id ≡ false
    → first (ids (going (carry_out index command s).progress.state.consumers)) ≡ Some id
unfolding carry_out
carry-active index command s id before after is goes =
    let acted : Acted = act index command (record { state = s; effects = [] }) in
    ap first (follow-going command acted (subst AreApart (follow-ids command acted) after))
    ∙ act-active index command s id before is goes

pub go_on_in_order : (s : State) (entry : Entry) → GoOnInOrder s entry
unfolding step
go_on_in_order s entry apart = by (stamp entry.command) apart.after
  where
    index : Index
    index = next_index s

    Goes : Step → Type 0
    Goes made =
        AreApart (ids made.state.consumers)
        → KeepsOrder (ids (going s.consumers)) (joined entry made) (ids (going made.state.consumers))

    passes : (g : Gate) (given : Stamp) → Goes (go_through g index given entry.command s)
    passes Fresh given after =
        carry-going index entry.command (record s { sessions = admit s.sessions given }) apart.before after
    passes _ given after = all-go s.consumers

    by : (o : Option Stamp) → Goes (step_by o index entry.command s)
    by None after = carry-going index entry.command s apart.before after
    by (Some given) after = passes (gate s.sessions given) given after

pub active_stays : (s : State) (entry : Entry) → ActiveStays s entry
unfolding step
active_stays s entry id apart active goes =
    first_is_active (next_step s entry).state.consumers ∙ by (stamp entry.command) apart.after
  where
    index : Index
    index = next_index s

    is : first (ids (going s.consumers)) ≡ Some id
    is = sym (first_is_active s.consumers) ∙ active

    Stay : Step → Type 0
    Stay made = AreApart (ids made.state.consumers) → first (ids (going made.state.consumers)) ≡ Some id

    passes : (g : Gate) (given : Stamp) → Stay (go_through g index given entry.command s)
    passes Fresh given after =
        carry-active index entry.command (record s { sessions = admit s.sessions given }) id apart.before after is goes
    passes _ given after = is

    by : (o : Option Stamp) → Stay (step_by o index entry.command s)
    by None after = carry-active index entry.command s id apart.before after is goes
    by (Some given) after = passes (gate s.sessions given) given after
