-- The ids of a consumer's deliveries count by one over each entry.
use Rattle.std.proofs.Common.{◌≡◌, ℕ, ◌+◌, ◌⊎◌, true, false, List, [], ◌∷◌, ◌++◌, Option, Some, None, map, length, refl, sym, ap, ◌∙◌, subst, inl, inr, arith, length-append}
use Rattle.std.specs.List.{cons_option}
use Rattle.std.proofs.lemmas.Bool.{cases_Bool, cond-true, cond-false}
use Rattle.qq_base.specs.declared.ids.Index.{Index}
use Rattle.qq_base.specs.declared.ids.SessionId.{SessionId}
use Rattle.qq_base.specs.declared.ids.ConsumerId.{ConsumerId}
use Rattle.qq_entry.specs.declared.command.Stamp.{Stamp}
use Rattle.qq_entry.specs.declared.command.Command.{Command}
use Rattle.qq_entry.specs.declared.command.Entry.{Entry}
use Rattle.qq_entry.specs.declared.answer.Answer.{Answer}
use Rattle.qq_entry.specs.declared.answer.Delivery.{Delivery}
use Rattle.qq_entry.specs.declared.audit.Effect.{Effect}
use Rattle.qq_entry.specs.declared.audit.Effect.TheVariants.{Deliver, Offer}
use Rattle.qq_model.specs.declared.consumer.Consumer.{Consumer}
use Rattle.qq_model.specs.declared.session.Gate.{Gate}
use Rattle.qq_model.specs.declared.session.Gate.TheVariants.{Fresh}
use Rattle.qq_model.specs.State.{State, Sessions}
use Rattle.qq_base.specs.Ids.{same_consumer}
use Rattle.qq_model.specs.Changes.{Progress, put_consumer, message_of, delivery_of, put_row}
use Rattle.qq_model.specs.Gate.{is_dead_letter, gate, admit, IsNumbered}
use Rattle.qq_model.specs.Commands.{Acted, delivery_id}
use Rattle.qq_model.specs.Serving.{serve, deliver}
use Rattle.qq_entry.specs.Command.{stamp}
use Rattle.qq_model.specs.Step.{Step, carry_out, go_through, step_by, step}
use Rattle.qq_model.specs.Audit.{next_index, next_step}
use Rattle.qq_base.proofs.Lists.{In}
use Rattle.qq_model.proofs.CarryOut.{carry_out-keeps}
use Rattle.qq_model.proofs.Current.{admit-current, IsCurrent, numbered-plain}
use Rattle.qq_model.proofs.Ids.{CountsOn, consumer-found, counts-acts, counts-consumers, counts-rows, counts-same, ids-append, ids-none, ids_of}
use Rattle.qq_model.proofs.Later.{Guarded, Later, Later-same}
use Rattle.qq_model.proofs.LaterSteps.{admit-later, answer-later, turn_away-later}
use Rattle.qq_model.proofs.Lookups.{next_consumer-in}
use Rattle.qq_model.proofs.OneConsumer.{Who, consumers-new, consumers-other, who-at, who-changed, who-later, who-one}
use Rattle.qq_model.proofs.OneConsumer.Who.{Stays}
use Rattle.qq_model.proofs.SingleChanges.{KeepsDeliveries, Serves}
use Rattle.qq_model.proofs.Indices.{Counts, counts-push}
use Rattle.qq_model.proofs.Serve.{serve-id, serve-next}
use Rattle.qq_model.proofs.Drawn.{Drawn, Drawn-append, Drawn-put, Drawn-put_none}
use Rattle.qq_model.specs.declared.place.Place.TheVariants.{Out}
use Rattle.std.proofs.lemmas.Option.{none-some}

-- Deliveries -----------------------------------------------------------------------------------------------

ids-one : (id : ConsumerId) (xs : List Effect) (consumer : ConsumerId) (delivery : Delivery)
    → same_consumer consumer id ≡ true
    → ids_of id (xs ++ Deliver consumer delivery ∷ []) ≡ ids_of id xs ++ delivery.id ∷ []
ids-one id xs consumer delivery is =
    ids-append id xs (Deliver consumer delivery ∷ [])
    ∙ ap (λ (o : Option Delivery). ids_of id xs ++ map (λ (d : Delivery). d.id) (cons_option o []))
    (cond-true (same_consumer consumer id) (Some delivery) None is)

some-same : {m n : ℕ} → Some m ≡ Some n → m ≡ n
some-same same = cc

pub counts-delivers : (id : ConsumerId) (before : ℕ) (command : Command)
    → KeepsDeliveries (CountsOn id before command)
counts-delivers id before command p row consumer on found next = by (cases_Bool (same_consumer consumer.id id))
  where
    here : In consumer p.state.consumers
    here = (next_consumer-in p.state.args.single_active p.state.rows p.state.consumers consumer next).0

    new : Consumer
    new = serve (p.state.turns + 1) consumer

    same : new.id ≡ consumer.id
    same = serve-id (p.state.turns + 1) consumer

    delivery : Delivery
    delivery = delivery_of p.state consumer.next_id row

    made : List Effect
    made = p.effects ++ Deliver consumer.id delivery ∷ []

    by : (same_consumer consumer.id id ≡ true) ⊎ (same_consumer consumer.id id ≡ false)
        → CountsOn id before command (deliver row consumer p)
    by (inl is) =
        let one =
        who-one id p.state.consumers (before + length (ids_of id p.effects)) p.state.sessions consumer here is
        on.who in
        let ids : ids_of id made ≡ ids_of id p.effects ++ (before + length (ids_of id p.effects) + 1) ∷ [] =
        ids-one id p.effects consumer.id delivery is ∙ ap (λ (n : ℕ). ids_of id p.effects ++ n ∷ []) one.1 in
        let count : before + length (ids_of id made) ≡ before + length (ids_of id p.effects) + 1 =
        ap (λ (ns : List ℕ). before + length ns) ids
        ∙ omega (arith, length-append (ids_of id p.effects) ((before + length (ids_of id p.effects) + 1) ∷ [])) in
        let next' : new.next_id ≡ before + length (ids_of id made) + 1 =
        serve-next (p.state.turns + 1) consumer ∙ ap (λ n. n + 1) (one.1 ∙ sym count) in
        record {
          guarded = on.guarded;
          ids = subst (Counts before) (sym ids) (counts-push before (ids_of id p.effects) on.ids);
          who = Stays new (consumers-new id consumer new p.state.consumers one.0 same) next' one.2;
          current = on.current;
          drawn =
              Drawn-put (delivery_id id) (before + length (ids_of id p.effects)) (before + length (ids_of id made))
              p.state.rows (record row { place = Out consumer.id consumer.next_id }) on.drawn (omega (arith, count))
              (λ n e. let first : consumer.next_id ≡ n =
              some-same (sym (cond-true (same_consumer consumer.id id) (Some consumer.next_id) None is) ∙ e) in
              (omega (arith, first, one.1), omega (arith, first, one.1, count)));
        }
    by (inr other) =
        let ids : ids_of id made ≡ ids_of id p.effects =
        ids-none id p.effects (Deliver consumer.id delivery)
        (cond-false (same_consumer consumer.id id) (Some delivery) None other) in
        record {
          guarded = on.guarded;
          ids = subst (Counts before) (sym ids) on.ids;
          who =
              subst (λ (ns : List ℕ). Who id (put_consumer new p.state.consumers) (before + length ns)
              p.state.sessions)
              (sym ids)
              (who-at id p.state.consumers (put_consumer new p.state.consumers)
              (before + length (ids_of id p.effects))
              p.state.sessions
              (consumers-other id new p.state.consumers (ap (λ (i : ConsumerId). same_consumer i id) same ∙ other))
              on.who);
          current = on.current;
          drawn = subst (λ (ns : List ℕ). Drawn (delivery_id id) (before + length ns)
              (put_row (record row { place = Out consumer.id consumer.next_id }) p.state.rows)) (sym ids)
              (Drawn-put_none (delivery_id id) _ p.state.rows
              (record row { place = Out consumer.id consumer.next_id })
              on.drawn (cond-false (same_consumer consumer.id id) (Some consumer.next_id) None other));
        }

pub counts-serves : (id : ConsumerId) (before : ℕ) (command : Command) → Serves command (CountsOn id before command)
counts-serves id before command = record {
  rows = counts-rows id before command;
  offer =
      λ p number reason row on here is next may few.
      counts-same id before command p _ on
      (ids-none id p.effects (Offer number reason (message_of p.state.rows p.state.messages row)) refl) refl refl
      on.drawn;
  drain =
      λ p other consumer on found. counts-consumers id before command p _ on refl refl refl
      (who-changed id p.state.consumers _ p.state.sessions consumer _
      (consumer-found other p.state.consumers consumer found) refl refl on.who);
}

-- Over entries ---------------------------------------------------------------------------------------------

-- what is known between entries, after so many deliveries
pub record Known (id : ConsumerId) (count : ℕ) (s : State) : Type 0 where
  pub guarded : Guarded s.sessions
  pub who : Who id s.consumers count s.sessions
  pub drawn : Drawn (delivery_id id) count s.rows

pub record Knows (id : ConsumerId) (before : ℕ) (made : Step) : Type 0 where
  pub ids : Counts before (ids_of id made.effects)
  pub known : Known id (before + length (ids_of id made.effects)) made.state

fresh-knows : (id : ConsumerId) (before : ℕ) (s : State) (x y : Sessions) (index : Index) (command : Command)
    → IsNumbered id.session → Known id before s → Later id.session s.sessions x
    → ((given : Stamp) → stamp command ≡ Some given → given.session ≡ id.session → IsCurrent x id.session)
    → let a = carry_out index command (record s { sessions = x }) in Later id.session a.progress.state.sessions y
    → Knows id before
    (record {
      state = record (a.progress.state) { applied = index.0; sessions = y };
      fresh = true;
      answer = a.answer;
      effects = a.progress.effects;
    })
fresh-knows id before s x y index command numbered known first current last =
    let start : Progress = record { state = record s { sessions = x }; effects = [] } in
    let none : before ≡ before + length (ids_of id []) = omega arith in
    let on : CountsOn id before command start = record {
      guarded = first.guarded known.guarded;
      ids = tt;
      who =
          subst (λ (n : ℕ). Who id s.consumers n x) none
          (who-later id s.consumers before s.sessions x first known.guarded known.who);
      current = current;
      drawn = subst (λ (n : ℕ). Drawn (delivery_id id) n s.rows) none known.drawn;
    } in
    let a : Acted = carry_out index command (record s { sessions = x }) in
    let done : CountsOn id before command a.progress =
    carry_out-keeps index command (record s { sessions = x }) (counts-acts id before command numbered)
    (counts-delivers id before command) (counts-serves id before command)
    (λ p stamp message on is found. record {
      guarded = on.guarded;
      ids = on.ids;
      who = on.who;
      current = on.current;
      drawn = Drawn-append (delivery_id id) _ _ p.state.rows _ on.drawn (omega arith) (λ n e. absurd (none-some n e));
    })
    on in
    record {
      ids = done.ids;
      known =
          record {
            guarded = last.guarded done.guarded;
            who = who-later id a.progress.state.consumers _ a.progress.state.sessions y last done.guarded done.who;
            drawn = done.drawn;
          };
    }

stale-knows : (id : ConsumerId) (before : ℕ) (s : State) (y : Sessions) (index : Index) (answer : Answer)
    → Known id before s → Later id.session s.sessions y
    → Knows id before
    (record { state = record s { applied = index.0; sessions = y }; fresh = false; answer = answer; effects = [] })
stale-knows id before s y index answer known later =
    let none : before ≡ before + length (ids_of id []) = omega arith in
    record {
      ids = tt;
      known =
          record {
            guarded = later.guarded known.guarded;
            who =
                subst (λ (n : ℕ). Who id s.consumers n y) none
                (who-later id s.consumers before s.sessions y later known.guarded known.who);
            drawn = subst (λ (n : ℕ). Drawn (delivery_id id) n s.rows) none known.drawn;
          };
    }

pub next-knows : (id : ConsumerId) (before : ℕ) (s : State) (entry : Entry) → IsNumbered id.session
    → Known id before s
    → Knows id before (next_step s entry)
unfolding step
next-knows id before s entry numbered known = by (stamp entry.command) refl
  where
    index : Index
    index = next_index s

    command : Command
    command = entry.command

    passes : (g : Gate) (given : Stamp) → stamp command ≡ Some given → gate s.sessions given ≡ g
        → Knows id before (go_through g index given command s)
    passes Fresh stamp is fresh =
        let x : Sessions = admit s.sessions stamp in
        fresh-knows id before s x _ index command numbered known (admit-later id.session s.sessions stamp fresh)
        (λ other some own.
        let same : other ≡ stamp = cc (sym some ∙ is) in
        let mine' : stamp.session ≡ id.session = ap (λ (one : Stamp). one.session) (sym same) ∙ own in
        subst (λ (i : SessionId). IsCurrent x i) mine'
        (admit-current s.sessions stamp (ap is_dead_letter mine' ∙ numbered-plain id.session numbered) fresh))
        (answer-later id.session _ stamp _)
    passes _ stamp is fresh = stale-knows id before s _ index _ known (turn_away-later id.session s.sessions stamp)

    by : (o : Option Stamp) → stamp command ≡ o → Knows id before (step_by o index command s)
    by None is =
        fresh-knows id before s s.sessions _ index command numbered known (Later-same id.session s.sessions)
        (λ stamp some own. absurd (cc (sym is ∙ some))) (Later-same id.session _)
    by (Some stamp) is = passes (gate s.sessions stamp) stamp is refl
