-- The ids of a consumer's deliveries count by one.
use Rattle.std.proofs.Common.{◌≡◌, ℕ, ◌+◌, ◌⊎◌, true, false, not, List, [], ◌∷◌, ◌++◌, Option, Some, None, map, length, refl, sym, ap, ◌∙◌, subst, inl, inr, arith}
use Rattle.std.specs.Prelude.{nat_le, filter, filter_map}
use Rattle.std.specs.List.{cons_option}
use Rattle.std.proofs.lemmas.Bool.{false≢true, cases_Bool, cond-true, cond-false}
use Rattle.std.proofs.lemmas.List.{map-append, append-nil}
use Rattle.std.proofs.lemmas.List.Elements.{filter_map-append, filter-append}
use Rattle.qq_base.specs.declared.ids.ConsumerId.{ConsumerId}
use Rattle.qq_entry.specs.declared.message.Reason.{Reason}
use Rattle.qq_entry.specs.declared.command.Stamp.{Stamp}
use Rattle.qq_entry.specs.declared.command.Command.{Command}
use Rattle.qq_entry.specs.declared.command.Command.TheVariants.{Down}
use Rattle.qq_entry.specs.declared.command.Mode.{Mode}
use Rattle.qq_entry.specs.declared.answer.Delivery.{Delivery}
use Rattle.qq_entry.specs.declared.audit.Effect.{Effect}
use Rattle.qq_entry.specs.declared.audit.Effect.TheVariants.{DeadOnce}
use Rattle.qq_model.specs.declared.place.Row.{Row}
use Rattle.qq_model.specs.declared.consumer.Consumer.{Consumer}
use Rattle.qq_model.specs.State.{Sessions}
use Rattle.qq_base.specs.Ids.{same_consumer}
use Rattle.qq_model.specs.Changes.{Progress, consumer_of, message_of, is_needed}
use Rattle.qq_model.specs.Gate.{greatest_tag, take_tag, IsNumbered}
use Rattle.qq_model.specs.Commands.{new_consumer, is_of_session, delivery_id, purge_row}
use Rattle.qq_entry.specs.Command.{stamp}
use Rattle.qq_model.specs.Audit.{delivery_to}
use Rattle.qq_base.proofs.Lists.{In, find-in}
use Rattle.qq_model.specs.Reasons.{is_down}
use Rattle.qq_model.proofs.Ending.{Later-ends}
use Rattle.qq_model.proofs.Later.{Guarded, Used}
use Rattle.qq_model.proofs.LaterSteps.{tag-later}
use Rattle.qq_model.proofs.Current.{IsCurrent, tag-current, tag-used, tag-unused}
use Rattle.qq_model.proofs.OneConsumer.{Who, consumers_with, same_consumer-true, who-at, who-changed, who-later, who-leave}
use Rattle.qq_model.proofs.SingleChanges.{Acts, IsOwn, KeepsRows}
use Rattle.qq_model.proofs.OneConsumer.Who.{Never, Went, Stays}
use Rattle.qq_model.proofs.Indices.{Counts}
use Rattle.qq_model.proofs.Drawn.{Drawn, Drawn-map, Drawn-put_none}
use Rattle.qq_model.proofs.Numbers.{purged-index, purged-number}
use Rattle.qq_model.specs.Limits.{is_with_consumer}
use Rattle.qq_model.specs.declared.place.Place.{Place}
use Rattle.qq_model.specs.declared.place.Place.TheVariants.{Out}

abbrev pub ids_of : ConsumerId → List Effect → List ℕ
ids_of id effects = map (λ (delivery : Delivery). delivery.id) (filter_map (delivery_to id) effects)

-- of so many deliveries before, those since then count on, and what is known of the consumer fits
pub record CountsOn (id : ConsumerId) (before : ℕ) (command : Command) (p : Progress) : Type 0 where
  pub guarded : Guarded p.state.sessions
  pub ids : Counts before (ids_of id p.effects)
  pub who : Who id p.state.consumers (before + length (ids_of id p.effects)) p.state.sessions
  pub current : (given : Stamp) → stamp command ≡ Some given → given.session ≡ id.session
      → IsCurrent p.state.sessions id.session
  pub drawn : Drawn (delivery_id id) (before + length (ids_of id p.effects)) p.state.rows

pub counts-same : (id : ConsumerId) (before : ℕ) (command : Command) (p q : Progress) → CountsOn id before command p
    → ids_of id q.effects ≡ ids_of id p.effects → q.state.consumers ≡ p.state.consumers
    → q.state.sessions ≡ p.state.sessions
    → Drawn (delivery_id id) (before + length (ids_of id p.effects)) q.state.rows → CountsOn id before command q
counts-same id before command p q on effects consumers sessions drawn = record {
  drawn = subst (λ (ns : List ℕ). Drawn (delivery_id id) (before + length ns) q.state.rows) (sym effects) drawn;
  guarded = subst Guarded (sym sessions) on.guarded;
  ids = subst (Counts before) (sym effects) on.ids;
  who = subst (λ (ns : List ℕ). Who id q.state.consumers (before + length ns) q.state.sessions) (sym effects)
      (subst (λ (cs : List Consumer). Who id cs (before + length (ids_of id p.effects)) q.state.sessions)
      (sym consumers)
      (subst (λ (s : Sessions). Who id p.state.consumers (before + length (ids_of id p.effects)) s) (sym sessions)
      on.who));
  current = λ stamp is own. subst (λ (s : Sessions). IsCurrent s id.session) (sym sessions) (on.current stamp is own);
}

pub ids-append : (id : ConsumerId) (xs ys : List Effect) → ids_of id (xs ++ ys) ≡ ids_of id xs ++ ids_of id ys
ids-append id xs ys =
    ap (map (λ (delivery : Delivery). delivery.id)) (filter_map-append (delivery_to id) xs ys)
    ∙ map-append (λ (delivery : Delivery). delivery.id) (filter_map (delivery_to id) xs)
    (filter_map (delivery_to id) ys)

pub ids-none : (id : ConsumerId) (xs : List Effect) (effect : Effect) → delivery_to id effect ≡ None
    → ids_of id (xs ++ effect ∷ []) ≡ ids_of id xs
ids-none id xs effect none =
    ids-append id xs (effect ∷ [])
    ∙ ap (λ (o : Option Delivery). ids_of id xs ++ map (λ (delivery : Delivery). delivery.id) (cons_option o [])) none
    ∙ append-nil (ids_of id xs)

-- what isn't with a consumer is no delivery
not-delivered : (id : ConsumerId) (place : Place) → is_with_consumer place ≡ false → delivery_id id place ≡ None
not-delivered id (Out other number) none = absurd (false≢true (sym none))
not-delivered id _ none = refl

pub counts-rows : (id : ConsumerId) (before : ℕ) (command : Command) → KeepsRows command (CountsOn id before command)
counts-rows id before command =
    record {
      row =
          λ p q old new on here moves out why turns.
          counts-same id before command p q on (effects p q new turns.effects) turns.consumers turns.sessions
          (subst (Drawn (delivery_id id) (before + length (ids_of id p.effects))) (sym turns.rows)
          (Drawn-put_none (delivery_id id) _ p.state.rows new on.drawn (not-delivered id new.place out)));
    }
  where
    effects : (p q : Progress) (new : Row) → (q.effects ≡ p.effects)
        ⊎ ((reason : Reason) × (q.effects ≡ p.effects ++ DeadOnce reason
        (message_of p.state.rows p.state.messages new)
        ∷ [])) → ids_of id q.effects ≡ ids_of id p.effects
    effects p q new (inl same) = ap (ids_of id) same
    effects p q new (inr more) =
        ap (ids_of id) more.1 ∙ ids-none id p.effects (DeadOnce more.0 (message_of p.state.rows p.state.messages new))
        refl

-- the consumers change, and the sessions stay
pub counts-consumers : (id : ConsumerId) (before : ℕ) (command : Command) (p q : Progress)
    → CountsOn id before command p → q.effects ≡ p.effects → q.state.sessions ≡ p.state.sessions
    → q.state.rows ≡ p.state.rows
    → Who id q.state.consumers (before + length (ids_of id p.effects)) p.state.sessions → CountsOn id before command q
counts-consumers id before command p q on effects sessions rows who = record {
  drawn =
      subst (λ (es : List Effect). Drawn (delivery_id id) (before + length (ids_of id es)) q.state.rows) (sym effects)
      (subst (Drawn (delivery_id id) (before + length (ids_of id p.effects))) (sym rows) on.drawn);
  guarded = subst Guarded (sym sessions) on.guarded;
  ids = subst (λ (es : List Effect). Counts before (ids_of id es)) (sym effects) on.ids;
  who =
      subst (λ (es : List Effect). Who id q.state.consumers (before + length (ids_of id es)) q.state.sessions)
      (sym effects)
      (subst (λ (s : Sessions). Who id q.state.consumers (before + length (ids_of id p.effects)) s) (sym sessions)
      who);
  current = λ stamp is own. subst (λ (s : Sessions). IsCurrent s id.session) (sym sessions) (on.current stamp is own);
}

pub consumer-found : (id : ConsumerId) (consumers : List Consumer) (consumer : Consumer)
    → consumer_of id consumers ≡ Some consumer → In consumer consumers
consumer-found id consumers consumer found =
    (find-in (λ (one : Consumer). same_consumer one.id id) consumers consumer found).0

down-unstamped : (command : Command) (given : Stamp) → is_down command ≡ true → stamp command ≡ Some given → ⊥
down-unstamped (Down session) stamp is some = cc
down-unstamped _ stamp is some = false≢true is

-- a consumer joins
counts-join : (id : ConsumerId) (before : ℕ) (command : Command) (p : Progress) (other : ConsumerId) (mode : Mode)
    → CountsOn id before command p → nat_le other.tag (greatest_tag other.session p.state.sessions) ≡ false
    → IsOwn command other
    → Who id (p.state.consumers ++ new_consumer other mode (p.state.turns + 1) ∷ [])
    (before + length (ids_of id p.effects)) (take_tag other.session other.tag p.state.sessions)
counts-join id before command p other mode on above own = by (cases_Bool (same_consumer other id))
  where
    new : Consumer
    new = new_consumer other mode (p.state.turns + 1)

    count : ℕ
    count = before + length (ids_of id p.effects)

    more : consumers_with id (p.state.consumers ++ new ∷ []) ≡ consumers_with id p.state.consumers
        ++ consumers_with id (new ∷ [])
    more = filter-append (λ (one : Consumer). same_consumer one.id id) p.state.consumers (new ∷ [])

    itself : same_consumer other id ≡ true → other ≡ id → Who id p.state.consumers count p.state.sessions
        → Who id (p.state.consumers ++ new ∷ []) count (take_tag other.session other.tag p.state.sessions)
    itself is same who =
        let current : IsCurrent p.state.sessions id.session =
        on.current own.0 own.1 (sym own.2 ∙ ap (λ (i : ConsumerId). i.session) same) in
        let above' : nat_le id.tag (greatest_tag id.session p.state.sessions) ≡ false =
        subst (λ (i : ConsumerId). nat_le i.tag (greatest_tag i.session p.state.sessions) ≡ false) same above in
        let used : Used (take_tag other.session other.tag p.state.sessions) id.session 0 id.tag =
        subst (λ (i : ConsumerId). Used (take_tag i.session i.tag p.state.sessions) id.session 0 id.tag) (sym same)
        (tag-used p.state.sessions id current) in
        first current above' used who
      where
        first : IsCurrent p.state.sessions id.session → nat_le id.tag (greatest_tag id.session p.state.sessions) ≡
            false
            → Used (take_tag other.session other.tag p.state.sessions) id.session 0 id.tag
            → Who id p.state.consumers count p.state.sessions
            → Who id (p.state.consumers ++ new ∷ []) count (take_tag other.session other.tag p.state.sessions)
        first current above' used (Never none zero') =
            Stays new (more ∙ ap (λ (cs : List Consumer). cs ++ consumers_with id (new ∷ [])) none
            ∙ cond-true (same_consumer other id) (new ∷ []) [] is) (omega arith) used
        first current above' used (Went none spent) = absurd (tag-unused p.state.sessions id current above' spent)
        first current above' used (Stays one only next spent) =
            absurd (tag-unused p.state.sessions id current above' spent)

    by : (same_consumer other id ≡ true) ⊎ (same_consumer other id ≡ false)
        → Who id (p.state.consumers ++ new ∷ []) count (take_tag other.session other.tag p.state.sessions)
    by (inl is) = itself is (same_consumer-true other id is) on.who
    by (inr differs) =
        who-later id (p.state.consumers ++ new ∷ []) count p.state.sessions
        (take_tag other.session other.tag p.state.sessions) (tag-later id.session p.state.sessions other above)
        on.guarded
        (who-at id p.state.consumers (p.state.consumers ++ new ∷ []) count p.state.sessions
        (more ∙ ap (λ (cs : List Consumer). consumers_with id p.state.consumers ++ cs)
        (cond-false (same_consumer other id) (new ∷ []) [] differs)
        ∙ append-nil (consumers_with id p.state.consumers))
        on.who)

pub counts-acts : (id : ConsumerId) (before : ℕ) (command : Command) → IsNumbered id.session
    → Acts command (CountsOn id before command)
counts-acts id before command numbered = record {
  rows = counts-rows id before command;
  purge = λ p on purges. record {
    guarded = on.guarded;
    ids = on.ids;
    who = on.who;
    current = on.current;
    drawn =
        Drawn-map (delivery_id id) _ p.state.rows purge_row on.drawn purged-index
        (purged-number (delivery_id id) refl);
  };
  attach = λ p term on least greater. record {
    guarded = on.guarded;
    ids = on.ids;
    who = on.who;
    current = on.current;
    drawn = on.drawn;
  };
  join = λ p other mode on above own. record {
    guarded = (tag-later id.session p.state.sessions other above).guarded on.guarded;
    ids = on.ids;
    who = counts-join id before command p other mode on above own;
    current =
        λ stamp is mine'. tag-current id.session p.state.sessions other.session other.tag (on.current stamp is mine');
    drawn = on.drawn;
  };
  cancel =
      λ p other consumer on found. counts-consumers id before command p _ on refl refl refl
      (who-changed id p.state.consumers _ p.state.sessions consumer _
      (consumer-found other p.state.consumers consumer found) refl refl on.who);
  finish =
      λ p on. counts-consumers id before command p _ on refl refl refl
      (who-leave id p.state.consumers _ p.state.sessions (is_needed p.state.rows) on.who);
  credit =
      λ p other consumer credit on found.
      counts-consumers id before command p _ on refl refl refl
      (who-changed id p.state.consumers _ p.state.sessions consumer _
      (consumer-found other p.state.consumers consumer found) refl refl on.who);
  turn =
      λ p other consumer on found. counts-consumers id before command p _ on refl refl refl
      (who-changed id p.state.consumers _ p.state.sessions consumer _
      (consumer-found other p.state.consumers consumer found) refl refl on.who);
  leave = λ p session on is same none.
      let later = Later-ends id.session p.state.sessions session numbered in
      let staying : List Consumer =
      filter (λ (consumer : Consumer). not (is_of_session session consumer)) p.state.consumers in
      record {
        guarded = later.guarded on.guarded;
        ids = on.ids;
        who =
            who-later id staying (before + length (ids_of id p.effects)) p.state.sessions _ later on.guarded
            (who-leave id p.state.consumers (before + length (ids_of id p.effects)) p.state.sessions
            (λ (consumer : Consumer). not (is_of_session session consumer)) on.who);
        current = λ stamp some own. absurd (down-unstamped command stamp is some);
        drawn = on.drawn;
      };
}
