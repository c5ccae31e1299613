-- What is delivered is out, as the delivery shows it.
use Rattle.std.proofs.Common.{◌≡◌, true, false, ◌&&◌, List, [], ◌∷◌, ◌++◌, Option, Some, None, refl, sym, ap, ◌∙◌, subst, inl, inr, ◌<◌, not}
use Rattle.std.specs.List.{AllByRecursion}
use Rattle.std.proofs.lemmas.Bool.{false≢true, cond_both, and_parts, not-true, ltb-true}
use Rattle.qq_base.specs.declared.ids.Index.{Index}
use Rattle.qq_base.specs.declared.ids.ConsumerId.{ConsumerId}
use Rattle.qq_entry.specs.Command.{stamp, consumer_id}
use Rattle.qq_entry.specs.declared.answer.Delivery.{Delivery}
use Rattle.qq_entry.specs.declared.audit.Effect.{Effect}
use Rattle.qq_entry.specs.declared.audit.Effect.TheVariants.{Deliver, DeadOnce, Offer}
use Rattle.qq_entry.specs.declared.command.Command.{Command}
use Rattle.qq_entry.specs.declared.command.Command.TheVariants.{Credit}
use Rattle.qq_entry.specs.declared.command.Entry.{Entry}
use Rattle.qq_entry.specs.declared.command.Stamp.{Stamp}
use Rattle.qq_entry.specs.declared.message.Reason.TheVariants.{MaxLen}
use Rattle.qq_entry.specs.declared.queue.QueueArgs.{QueueArgs}
use Rattle.qq_model.specs.declared.place.Place.{Place}
use Rattle.qq_model.specs.declared.place.Place.TheVariants.{Out, Dead}
use Rattle.qq_model.specs.declared.place.Row.{Row}
use Rattle.qq_model.specs.declared.consumer.Consumer.{Consumer}
use Rattle.qq_model.specs.declared.session.Gate.{Gate}
use Rattle.qq_model.specs.declared.session.Gate.TheVariants.{Fresh}
use Rattle.qq_model.specs.State.{State, Sessions, empty_queue}
use Rattle.qq_model.specs.Gate.{gate, admit}
use Rattle.qq_model.specs.Choice.{next_message, next_consumer, free_credit}
use Rattle.qq_model.specs.Limits.{is_ready, is_over_limit}
use Rattle.qq_model.specs.Changes.{Progress, message_of, put_row, consumer_of, die, delivery_of}
use Rattle.qq_model.specs.Commands.{Acted, act}
use Rattle.qq_model.specs.Serving.{deliver, check_out_all, drain_by, is_credited, drain_after, drop_head_by, drop_head, keep_limits, next_dead, offer_at, offer_by, give_dead, give_all_dead, check_out, deliver_by}
use Rattle.qq_model.specs.Step.{map_progress, carry_out, go_through, step_by, step}
use Rattle.qq_model.specs.Audit.{next_index, next_step, state_after}
use Rattle.qq_base.proofs.Lists.{In, AllByRecursion-append, AllByRecursion-in, AllByRecursion-weaker}
use Rattle.qq_model.proofs.CarryOut.{check_out_all-keeps}
use Rattle.qq_model.proofs.Choices.{next_message-in}
use Rattle.qq_model.proofs.Drawn.{In-put_new}
use Rattle.qq_model.proofs.Indices.{Rises, indices, unique}
use Rattle.qq_model.proofs.InOrder.{indices-put}
use Rattle.qq_model.proofs.Loops.{while_next-keeps}
use Rattle.qq_model.proofs.Soundness.{Contains-in, SoundRows, in_contains, rows_at, rows-kept}
use Rattle.qq_model.proofs.Spared.{In-put_other}
use Rattle.qq_laws.specs.Served.{IsOutAs, LeavesOut, ServesWhoWaits}
use Rattle.qq_laws.proofs.ActiveLemmas.{NoDelivery, act-delivers_none}
use Rattle.qq_laws.proofs.KeptLemmas.{Buries, die-buries, drain-rows, give-same, keep_limits-indices}
use Rattle.std.specs.Prelude.{nat_lt, Contains}
use Rattle.qq_model.proofs.Lookups.{next_consumer-in}

-- a delivery's message is out as it shows
abbrev EffectOut : List Row → Effect → Type 0
EffectOut rows (Deliver consumer delivery) = (row : Row) × In row rows × IsOutAs consumer delivery row
EffectOut rows _ = Unit {0}

record Shown (p : Progress) : Type 0 where
  rising : Rises (indices p.state.rows)
  each : AllByRecursion (EffectOut p.state.rows) p.effects

not-ready : (consumer : ConsumerId) (delivery : Delivery) (row : Row) → IsOutAs consumer delivery row
    → is_ready row.place ≡ false
not-ready consumer delivery row out = ap is_ready out.place

-- a ready row is replaced
out-stays : (rows : List Row) (row new : Row) → Rises (indices rows) → In row rows → is_ready row.place ≡ true
    → new.index ≡ row.index → (effect : Effect) → EffectOut rows effect → EffectOut (put_row new rows) effect
out-stays rows row new rising here ready same (Deliver consumer delivery) (x, there, out) = (
  x,
  In-put_other x new rows there (λ e.
      let itself : x ≡ row = unique x row rows rising there here (e ∙ ap (λ (i : Index). i.0) same) in
      false≢true (sym (not-ready consumer delivery x out) ∙ ap (λ (r : Row). is_ready r.place) itself ∙ ready)),
  out,
)
out-stays rows row new rising here ready same _ out = out

Shown-delivers : (p : Progress) (row : Row) (consumer : Consumer) → Shown p → next_message p.state.rows ≡ Some row
    → next_consumer p.state.args.single_active p.state.rows p.state.consumers ≡ Some consumer
    → Shown (deliver row consumer p)
Shown-delivers p row consumer shown found next =
    let some = next_message-in p.state.rows row found in
    let new : Row = record row { place = Out consumer.id consumer.next_id } in
    record {
      rising = subst Rises (sym (indices-put new p.state.rows)) shown.rising;
      each =
          AllByRecursion-append (EffectOut (put_row new p.state.rows)) p.effects _
          (AllByRecursion-weaker (EffectOut p.state.rows) (EffectOut (put_row new p.state.rows))
          (out-stays p.state.rows row new shown.rising some.0 some.1 refl) p.effects shown.each) (
            (
              new,
              In-put_new new row p.state.rows some.0 refl,
              record {
                place = refl;
                index = refl;
                arrival = refl;
                count = refl;
              },
            ),
            tt,
          );
    }

Shown-dies : (p q : Progress) (row : Row) → next_message p.state.rows ≡ Some row → Buries row p q → Shown p → Shown q
Shown-dies p q row found buries shown =
    let some = next_message-in p.state.rows row found in
    let stay : AllByRecursion (EffectOut q.state.rows) p.effects =
    subst (λ (rows : List Row). AllByRecursion (EffectOut rows) p.effects) (sym buries.rows)
    (AllByRecursion-weaker (EffectOut p.state.rows) (EffectOut (put_row buries.new p.state.rows))
    (out-stays p.state.rows row buries.new shown.rising some.0 some.1 buries.index) p.effects shown.each) in
    record {
      rising = subst Rises (sym (ap indices buries.rows ∙ indices-put buries.new p.state.rows)) shown.rising;
      each = elim (buries.effects) [
        | inl same ↦ subst (AllByRecursion (EffectOut q.state.rows)) (sym same) stay
        | inr more ↦
            subst (AllByRecursion (EffectOut q.state.rows)) (sym more.2)
            (AllByRecursion-append (EffectOut q.state.rows) p.effects (DeadOnce more.0 more.1 ∷ []) stay (tt, tt))
      ];
    }

Shown-limits : (p : Progress) → Shown p → Shown (keep_limits p)
unfolding keep_limits drop_head
Shown-limits p shown =
    while_next-keeps Shown drop_head
    (λ a b shown made. cond_both (is_over_limit a.state.args a.state.rows)
    (drop_head_by (next_message a.state.rows) a) None
    (λ (o : Option Progress). o ≡ Some b → Shown b) (λ _ e. one a b (next_message a.state.rows) refl shown e)
    (λ _ e. absurd cc) made) _ p shown
  where
    one : (a b : Progress) (o : Option Row) → next_message a.state.rows ≡ o → Shown a → drop_head_by o a ≡ Some b
        → Shown b
    one a b None found shown made = absurd cc
    one a b (Some row) found shown made =
        let same : die MaxLen row a ≡ b = cc in
        subst Shown same (Shown-dies a (die MaxLen row a) row found (die-buries MaxLen row a) shown)

-- an offer is no delivery
abbrev Offered : List Row → Progress → Type 0
Offered rows p = AllByRecursion (EffectOut rows) p.effects

offered : (rows : List Row) (place : Place) (row : Row) (p q : Progress) → offer_at place row p ≡ Some q
    → Offered rows p → Offered rows q
offered rows (Dead number cause) row p q made each =
    let next : Progress = record {
      state = record (p.state) { given = number };
      effects = p.effects ++ Offer number cause (message_of p.state.rows p.state.messages row) ∷ [];
    } in
    let same : next ≡ q = cc in
    let more : Offered rows next = AllByRecursion-append (EffectOut rows) p.effects _ each (tt, tt) in
    subst (Offered rows) same more
offered rows _ row p q made each = absurd cc

Shown-given : (p : Progress) → Offered p.state.rows p → Offered p.state.rows (give_all_dead p)
unfolding give_all_dead give_dead
Shown-given p each =
    while_next-keeps (Offered p.state.rows) give_dead
    (λ a b each made. cond_both _ (offer_by (next_dead a.state.given a.state.rows) a) None
    (λ (o : Option Progress). o ≡ Some b → Offered p.state.rows b)
    (λ _ e. one a b (next_dead a.state.given a.state.rows) each e) (λ _ e. absurd cc) made) _ p each
  where
    one : (a b : Progress) (o : Option Row) → Offered p.state.rows a → offer_by o a ≡ Some b → Offered p.state.rows b
    one a b None each made = absurd cc
    one a b (Some row) each made = offered p.state.rows row.place row a b made each

drain-effects : (command : Command) (a : Acted) → (drain_after command a).progress.effects ≡ a.progress.effects
unfolding drain_after
drain-effects (Credit stamp tag count credit wanted) a =
    cond_both (wanted && is_credited a.answer)
    (drain_by (consumer_of (consumer_id stamp tag) a.progress.state.consumers) a.answer a.progress) a
    (λ (b : Acted). b.progress.effects ≡ a.progress.effects)
    (λ _. by (consumer_of (consumer_id stamp tag) a.progress.state.consumers)) (λ _. refl)
  where
    by : (o : Option Consumer) → (drain_by o a.answer a.progress).progress.effects ≡ a.progress.effects
    by None = refl
    by (Some consumer) = refl
drain-effects _ a = refl

checked-indices : (p : Progress) → indices (check_out_all p).state.rows ≡ indices p.state.rows
checked-indices p =
    check_out_all-keeps (λ q. indices q.state.rows ≡ indices p.state.rows)
    (λ q row consumer same found next. indices-put _ q.state.rows ∙ same) p refl

none-out : (rows : List Row) (effect : Effect) → NoDelivery effect → EffectOut rows effect
none-out rows (Deliver consumer delivery) none = absurd none
none-out rows _ none = tt

carried-out : (index : Index) (command : Command) (s : State) → let p = (carry_out index command s).progress in
    Rises (indices p.state.rows) → AllByRecursion (EffectOut p.state.rows) p.effects
unfolding carry_out
carried-out index command s rising =
    let acted : Acted = act index command (record { state = s; effects = [] }) in
    let checked : Progress = check_out_all acted.progress in
    let a : Acted = drain_after command (map_progress check_out_all acted) in
    let limited : Progress = keep_limits a.progress in
    let same = give-same limited in
    let rows = drain-rows command (map_progress check_out_all acted) in
    let first : Rises (indices acted.progress.state.rows) =
    subst Rises (ap indices same.rows ∙ keep_limits-indices a.progress ∙ ap indices rows
    ∙ checked-indices acted.progress) rising in
    let shown : Shown checked = check_out_all-keeps Shown Shown-delivers acted.progress (record {
      rising = first;
      each =
          AllByRecursion-weaker NoDelivery (EffectOut acted.progress.state.rows) (none-out acted.progress.state.rows)
          acted.progress.effects (act-delivers_none s index command).effects;
    }) in
    let drained : Shown a.progress = record {
      rising = subst (λ (rs : List Row). Rises (indices rs)) (sym rows) shown.rising;
      each = subst (λ (rs : List Row). AllByRecursion (EffectOut rs) a.progress.effects) (sym rows)
          (subst (AllByRecursion (EffectOut checked.state.rows))
          (sym (drain-effects command (map_progress check_out_all acted))) shown.each);
    } in
    let done = Shown-limits a.progress drained in
    subst (λ (rs : List Row). AllByRecursion (EffectOut rs) (give_all_dead limited).effects) (sym same.rows)
    (Shown-given limited done.each)

next-out : (s : State) (entry : Entry) → SoundRows s
    → AllByRecursion (EffectOut (next_step s entry).state.rows) (next_step s entry).effects
unfolding step
next-out s entry sound = by (stamp entry.command)
  where
    index : Index
    index = next_index s

    done : (x : Sessions) → let p = (carry_out index entry.command (record s { sessions = x })).progress in
        AllByRecursion (EffectOut p.state.rows) p.effects
    done x =
        carried-out index entry.command (record s { sessions = x })
        ((rows-kept s).fresh entry.command x x sound).ordered.rising

    passes : (g : Gate) (given : Stamp) → let made = go_through g index given entry.command s in
        AllByRecursion (EffectOut made.state.rows) made.effects
    passes Fresh given = done (admit s.sessions given)
    passes _ given = tt

    by : (o : Option Stamp) → let made = step_by o index entry.command s in
        AllByRecursion (EffectOut made.state.rows) made.effects
    by None = done s.sessions
    by (Some given) = passes (gate s.sessions given) given

pub leaves_out : (args : QueueArgs) (before : List Entry) (entry : Entry)
    → LeavesOut (state_after (empty_queue args) before) entry
leaves_out args before entry consumer delivery here =
    let s = state_after (empty_queue args) before in
    let made = next_step s entry in
    let out = AllByRecursion-in (EffectOut made.state.rows) (Deliver consumer delivery) made.effects
    (next-out s entry (rows_at args before)) (in_contains made.effects (Deliver consumer delivery) here) in
    (out.0, Contains-in out.0 made.state.rows out.1, out.2)

pub serves_who_waits : (p next : Progress) → ServesWhoWaits p next
unfolding check_out
serves_who_waits p next made =
    by (next_message p.state.rows)
    (next_consumer p.state.args.single_active p.state.rows p.state.consumers) refl made
  where
    by : (o : Option Row) (c : Option Consumer)
        → next_consumer p.state.args.single_active p.state.rows p.state.consumers ≡ c → deliver_by o c p ≡ Some next
        → (consumer : Consumer) × (delivery : Delivery) × Contains p.state.consumers consumer
        × (consumer.cancelled ≡ false) × (0 < free_credit p.state.rows consumer) × (delivery.id ≡ consumer.next_id)
        × (next.effects ≡ p.effects ++ Deliver consumer.id delivery ∷ [])
    by None c found made = absurd cc
    by (Some row) None found made = absurd cc
    by (Some row) (Some consumer) found made =
        let chosen = next_consumer-in p.state.args.single_active p.state.rows p.state.consumers consumer found in
        let parts = and_parts (not consumer.cancelled) (nat_lt 0 (free_credit p.state.rows consumer)) chosen.1 in
        let same : deliver row consumer p ≡ next = cc in (
          consumer,
          delivery_of p.state consumer.next_id row,
          Contains-in consumer p.state.consumers chosen.0,
          not-true consumer.cancelled parts.0,
          ltb-true 0 (free_credit p.state.rows consumer) parts.1,
          refl,
          ap (λ (q : Progress). q.effects) (sym same),
        )
