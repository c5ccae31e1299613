-- What follows on a command does to a message that the command left: it may be delivered, or dropped at the head.
use Rattle.std.proofs.Common.{◌≡◌, ◌⊎◌, true, false, refl, sym, ap, ◌∙◌, subst, inl, inr}
use Rattle.std.proofs.lemmas.Bool.{false≢true, and_parts, cases_eq}
use Rattle.qq_base.specs.declared.ids.ConsumerId.{ConsumerId}
use Rattle.qq_entry.specs.declared.answer.Delivery.{Delivery}
use Rattle.qq_entry.specs.declared.audit.Effect.{Effect}
use Rattle.qq_entry.specs.declared.audit.Effect.TheVariants.{Deliver}
use Rattle.qq_entry.specs.declared.command.Command.{Command}
use Rattle.qq_entry.specs.declared.command.Command.TheVariants.{Noop}
use Rattle.qq_entry.specs.declared.message.Reason.{Reason}
use Rattle.qq_entry.specs.declared.queue.QueueArgs.{QueueArgs}
use Rattle.qq_entry.specs.declared.message.Reason.TheVariants.{MaxLen}
use Rattle.qq_model.specs.declared.place.Place.{Place}
use Rattle.qq_model.specs.declared.place.Place.TheVariants.{Out}
use Rattle.qq_model.specs.declared.place.Row.{Row}
use Rattle.qq_model.specs.Limits.{is_ready, is_drop_head}
use Rattle.qq_model.specs.Changes.{Progress, put_row, delivery_of}
use Rattle.qq_model.specs.Commands.{Acted}
use Rattle.qq_model.specs.Serving.{check_out_all, drain_after}
use Rattle.qq_model.specs.Step.{map_progress}
use Rattle.qq_base.proofs.Lists.{In, In-append_left, In-append_right}
use Rattle.qq_model.proofs.CarryOut.{check_out_all-keeps, follow_on, give_all_dead-keeps, keep_limits-keeps}
use Rattle.qq_model.proofs.Choices.{next_message-in}
use Rattle.qq_model.proofs.Drawn.{In-put_new}
use Rattle.qq_model.proofs.Indices.{Rises, indices, unique}
use Rattle.qq_model.proofs.InOrder.{indices-put}
use Rattle.qq_model.proofs.SingleChanges.{Because, KeepsDeliveries, KeepsRows, Serves, Turns}
use Rattle.qq_model.proofs.SingleChanges.Because.{IsGot, IsSettled, IsDiscarded, GoesBack, PassesLimit, IsDropped, IsDeadLettered}
use Rattle.qq_model.proofs.Spared.{In-put_other}
use Rattle.qq_laws.specs.Ended.{DiedOf}
use Rattle.qq_laws.specs.Served.{IsOutAs}

-- a command after which nothing is drained: what follows on it moves no message but by deliveries and drops
pub undrained-keeps : (I : Progress → Type 0) → KeepsDeliveries I → Serves (Noop 0) I → (command : Command) (a : Acted)
    → ((b : Acted) → drain_after command b ≡ b) → I a.progress → I (follow_on command a).progress
undrained-keeps I delivers serves command a none holds =
    give_all_dead-keeps serves _
    (keep_limits-keeps serves _
    (subst (λ (b : Acted). I b.progress) (sym (none (map_progress check_out_all a)))
    (check_out_all-keeps I delivers a.progress holds)))

-- the message of a delivery
abbrev pub WasDelivered : Progress → Row → Type 0
WasDelivered p row =
    (consumer : ConsumerId) × (delivery : Delivery) × In (Deliver consumer delivery) p.effects
    × IsOutAs consumer delivery row

-- a message that was ready, and isn't any more
pub record Moved (start : QueueArgs) (y row : Row) (p : Progress) : Type 0 where
  pub before : is_ready y.place ≡ true
  pub now : is_ready row.place ≡ false
  pub how : WasDelivered p row ⊎ ((is_drop_head start.overflow ≡ true) × DiedOf MaxLen row.place)

-- a message is as the command left it, or was ready and moved
pub record Fares (start : QueueArgs) (y : Row) (p : Progress) : Type 0 where
  pub args : p.state.args ≡ start
  pub rising : Rises (indices p.state.rows)
  pub row : Row
  pub here : In row p.state.rows
  pub same : row ≡ record y { place = row.place }
  pub how : (row ≡ y) ⊎ Moved start y row p

-- a ready row is replaced
record Replaces (start : QueueArgs) (old new : Row) (p q : Progress) : Type 0 where
  there : In old p.state.rows
  ready : is_ready old.place ≡ true
  is : new ≡ record old { place = new.place }
  moved : is_ready new.place ≡ false
  rows : q.state.rows ≡ put_row new p.state.rows
  effects : (effect : Effect) → In effect p.effects → In effect q.effects
  args : q.state.args ≡ p.state.args
  how : WasDelivered q new ⊎ ((is_drop_head start.overflow ≡ true) × DiedOf MaxLen new.place)

moved-still : (start : QueueArgs) (y row : Row) (p q : Progress) → ((effect : Effect) → In effect p.effects → In effect q.effects)
    → Moved start y row p → Moved start y row q
moved-still start y row p q effects moved = record {
  before = moved.before;
  now = moved.now;
  how = elim (moved.how) [
    | inl some ↦ inl (some.0, some.1, effects (Deliver some.0 some.1) some.2, some.3)
    | inr death ↦ inr death
  ];
}

fares-still : (start : QueueArgs) (y row : Row) (p q : Progress) → ((effect : Effect) → In effect p.effects → In effect q.effects)
    → (row ≡ y) ⊎ Moved start y row p → (row ≡ y) ⊎ Moved start y row q
fares-still start y row p q effects (inl same) = inl same
fares-still start y row p q effects (inr moved) = inr (moved-still start y row p q effects moved)

fares-on : (start : QueueArgs) (y old new : Row) (p q : Progress) → Fares start y p → Replaces start old new p q → Fares start y q
fares-on start y old new p q fares puts = by (cases_eq fares.row.index.0 new.index.0)
  where
    rising : Rises (indices q.state.rows)
    rising = subst Rises (sym (ap indices puts.rows ∙ indices-put new p.state.rows)) fares.rising

    index : new.index.0 ≡ old.index.0
    index = ap (λ (r : Row). r.index.0) puts.is

    itself : fares.row ≡ old → (fares.row ≡ y) ⊎ Moved start y fares.row p → Fares start y q
    itself same (inl left) =
        let first : old ≡ y = sym same ∙ left in
        record {
          args = puts.args ∙ fares.args;
          rising = rising;
          row = new;
          here = subst (In new) (sym puts.rows) (In-put_new new old p.state.rows puts.there index);
          same = puts.is ∙ ap (λ (r : Row). let made : Row = record r { place = new.place } in made) first;
          how = inr (record {
            before = ap (λ (r : Row). is_ready r.place) (sym first) ∙ puts.ready;
            now = puts.moved;
            how = puts.how;
          });
        }
    itself same (inr moved) =
        absurd (false≢true (sym moved.now ∙ ap (λ (r : Row). is_ready r.place) same ∙ puts.ready))

    by : (fares.row.index.0 ≡ new.index.0) ⊎ (fares.row.index.0 ≡ new.index.0 → ⊥) → Fares start y q
    by (inl e) = itself (unique fares.row old p.state.rows fares.rising fares.here puts.there (e ∙ index)) fares.how
    by (inr differ) = record {
      args = puts.args ∙ fares.args;
      rising = rising;
      row = fares.row;
      here = subst (In fares.row) (sym puts.rows) (In-put_other fares.row new p.state.rows fares.here differ);
      same = fares.same;
      how = fares-still start y fares.row p q puts.effects fares.how;
    }

fares-delivers : (start : QueueArgs) (y : Row) → KeepsDeliveries (Fares start y)
fares-delivers start y p row consumer fares found next =
    let some = next_message-in p.state.rows row found in
    let new : Row = record row { place = Out consumer.id consumer.next_id } in
    let delivery : Delivery = delivery_of p.state consumer.next_id row in
    fares-on start y row new p _ fares (record {
      there = some.0;
      ready = some.1;
      is = refl;
      moved = refl;
      rows = refl;
      args = refl;
      effects = λ effect here. In-append_left effect p.effects _ here;
      how = inl (
        consumer.id,
        delivery,
        In-append_right (Deliver consumer.id delivery) p.effects _ (inl refl),
        record { place = refl; index = refl; arrival = refl; count = refl },
      );
    })

not-ready : (cause : Reason) (place : Place) → DiedOf cause place → is_ready place ≡ false
not-ready cause place (inl is) = ap is_ready is
not-ready cause place (inr some) = ap is_ready some.1

-- effects are only added
pub turns-add : (p q : Progress) (new : Row) → Turns p q new → (effect : Effect) → In effect p.effects
    → In effect q.effects
turns-add p q new turns effect here = elim (turns.effects) [
  | inl same ↦ subst (In effect) (sym same) here
  | inr more ↦ subst (In effect) (sym more.1) (In-append_left effect p.effects _ here)
]

fares-rows : (start : QueueArgs) (y : Row) → KeepsRows (Noop 0) (Fares start y)
fares-rows start y = record { row = λ p q old new fares here moves out why turns. by p q old new fares here turns why }
  where
    by : (p q : Progress) (old new : Row) → Fares start y p → In old p.state.rows → Turns p q new
        → Because p (Noop 0) old new
        → Fares start y q
    by p q old new fares here turns (IsGot gets found made) = absurd (false≢true gets)
    by p q old new fares here turns (IsSettled consumer id at ends settles made) = absurd (false≢true ends)
    by p q old new fares here turns (IsDiscarded consumer id place at ends discards death made) =
        absurd (false≢true ends)
    by p q old new fares here turns (GoesBack consumer id key at ends back within made) = absurd (false≢true ends)
    by p q old new fares here turns (PassesLimit consumer id place at ends back passed death made) =
        absurd (false≢true ends)
    by p q old new fares here turns (IsDropped place found passed death made) =
        let at : new.place ≡ place = ap (λ (r : Row). r.place) made in
        fares-on start y old new p q fares (record {
          there = here;
          ready = (next_message-in p.state.rows old found).1;
          is = made ∙ ap (λ (at : Place). let row : Row = record old { place = at } in row) (sym at);
          moved = ap is_ready at ∙ not-ready MaxLen place death;
          rows = turns.rows;
          args = turns.args;
          effects = turns-add p q new turns;
          how = inr (
            ap (λ (a : QueueArgs). is_drop_head a.overflow) (sym fares.args)
                ∙ (and_parts (is_drop_head p.state.args.overflow) _ passed).0,
            subst (DiedOf MaxLen) (sym at) death,
          );
        })
    by p q old new fares here turns (IsDeadLettered number cause at settles given made) = absurd (false≢true settles)

fares-same : (start : QueueArgs) (y : Row) (p q : Progress) → q.state.rows ≡ p.state.rows
    → q.state.args ≡ p.state.args
    → ((effect : Effect) → In effect p.effects → In effect q.effects) → Fares start y p → Fares start y q
fares-same start y p q rows args effects fares = record {
  args = args ∙ fares.args;
  rising = subst (λ rs. Rises (indices rs)) (sym rows) fares.rising;
  row = fares.row;
  here = subst (In fares.row) (sym rows) fares.here;
  same = fares.same;
  how = fares-still start y fares.row p q effects fares.how;
}

fares-serves : (start : QueueArgs) (y : Row) → Serves (Noop 0) (Fares start y)
fares-serves start y = record {
  rows = fares-rows start y;
  offer = λ p number cause row fares here is next may few.
      fares-same start y p _ refl refl (λ effect here. In-append_left effect p.effects _ here) fares;
  drain = λ p id consumer fares found. fares-same start y p _ refl refl (λ effect here. here) fares;
}

-- a message that a command left, once all is done
pub fares_at_last : (start : QueueArgs) (y : Row) (command : Command) (a : Acted) → ((b : Acted) → drain_after command b ≡ b)
    → a.progress.state.args ≡ start → Rises (indices a.progress.state.rows) → In y a.progress.state.rows → Fares start y (follow_on command a).progress
fares_at_last start y command a none args rising here =
    undrained-keeps (Fares start y) (fares-delivers start y) (fares-serves start y) command a none
    (record { args = args; rising = rising; row = y; here = here; same = refl; how = inl refl })
