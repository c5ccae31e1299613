-- What is out was delivered.
use Rattle.std.proofs.Common.{◌≡◌, ℕ, ◌+◌, ◌<◌, ◌⊎◌, false, List, [], ◌∷◌, ◌++◌, Option, Some, None, map, refl, sym, ap, ◌∙◌, subst, inl, inr, arith}
use Rattle.std.specs.Prelude.{filter_map}
use Rattle.std.specs.List.{cons_option}
use Rattle.std.proofs.lemmas.Bool.{cases_Bool, cond-true, cond-false}
use Rattle.qq_base.specs.declared.ids.Index.{Index}
use Rattle.qq_base.specs.declared.ids.ConsumerId.{ConsumerId}
use Rattle.qq_base.specs.Ids.{same_consumer}
use Rattle.qq_entry.specs.Command.{stamp}
use Rattle.qq_entry.specs.declared.answer.Delivery.{Delivery}
use Rattle.qq_entry.specs.declared.audit.Effect.{Effect}
use Rattle.qq_entry.specs.declared.audit.Effect.TheVariants.{Deliver}
use Rattle.qq_entry.specs.declared.command.Command.{Command}
use Rattle.qq_entry.specs.declared.command.Entry.{Entry}
use Rattle.qq_entry.specs.declared.command.Stamp.{Stamp}
use Rattle.qq_model.specs.declared.place.GoneReason.TheVariants as gone
use Rattle.qq_model.specs.declared.place.Place.{Place}
use Rattle.qq_model.specs.declared.place.Place.TheVariants.{Out, Gone}
use Rattle.qq_model.specs.declared.place.Row.{Row}
use Rattle.qq_model.specs.declared.session.Gate.{Gate}
use Rattle.qq_model.specs.declared.session.Gate.TheVariants.{Fresh}
use Rattle.qq_model.specs.State.{State, Sessions}
use Rattle.qq_model.specs.Gate.{gate, admit}
use Rattle.qq_model.specs.Limits.{is_ready, is_with_consumer}
use Rattle.qq_model.specs.Changes.{Progress, delivery_of}
use Rattle.qq_model.specs.Commands.{purge_row}
use Rattle.qq_model.specs.Step.{Step, carry_out, go_through, step_by, step}
use Rattle.qq_model.specs.Audit.{next_index, next_step, delivery_to}
use Rattle.qq_base.proofs.Lists.{In, In-append_cases, In-append_left, In-append_right}
use Rattle.qq_model.proofs.ActKeeps.{KeepsArrivals}
use Rattle.qq_model.proofs.CarryOut.{carry_out-keeps}
use Rattle.qq_model.proofs.Drawn.{In-mapped, In-put_row}
use Rattle.qq_model.proofs.Ids.{ids_of}
use Rattle.qq_model.proofs.Indices.{Counts}
use Rattle.qq_model.proofs.OneConsumer.{same_consumer-refl}
use Rattle.qq_model.proofs.SingleChanges.{Acts, KeepsDeliveries, KeepsRows, Serves}
use Rattle.qq_model.proofs.Soundness.{Contains-in, in_contains}
use Rattle.qq_laws.specs.Ended.{IsOutByDelivery}
use Rattle.qq_laws.specs.Served.{IsOutAs}
use Rattle.qq_laws.proofs.Fares.{turns-add}

-- a row was out at the beginning, or an effect so far delivers it
abbrev OutBy : List Row → List Effect → Row → ConsumerId → Type 0
OutBy first effects row consumer =
    In row first ⊎ ((delivery : Delivery) × In (Deliver consumer delivery) effects × IsOutAs consumer delivery row)

abbrev AllOutBy : List Row → Progress → Type 0
AllOutBy first p =
    (row : Row) (consumer : ConsumerId) (id : ℕ) → In row p.state.rows → row.place ≡ Out consumer id
    → OutBy first p.effects row consumer

out-more : (first : List Row) (old new : List Effect) (row : Row) (consumer : ConsumerId)
    → ((effect : Effect) → In effect old → In effect new) → OutBy first old row consumer → OutBy first new row consumer
out-more first old new row consumer add (inl here) = inl here
out-more first old new row consumer add (inr some) = inr (some.0, add (Deliver consumer some.0) some.1, some.2)

not-with : (place : Place) (consumer : ConsumerId) (id : ℕ) → is_with_consumer place ≡ false → place ≡ Out consumer id
    → ⊥
not-with place consumer id none is =
    let e : false ≡ is_with_consumer (Out consumer id) = sym none ∙ ap is_with_consumer is in cc

out-rows : (first : List Row) (command : Command) → KeepsRows command (AllOutBy first)
out-rows first command = record {
  row = λ p q old new all here moves out why turns row consumer id there is.
      elim (In-put_row row new p.state.rows (subst (In row) turns.rows there)) [
        | inl same ↦ absurd (not-with new.place consumer id out (ap (λ (r : Row). r.place) (sym same) ∙ is))
        | inr before ↦
            out-more first p.effects q.effects row consumer (turns-add p q new turns)
            (all row consumer id before.0 is)
      ];
}

out-purged : (first : List Row) (p : Progress) → AllOutBy first p → (row : Row) (consumer : ConsumerId) (id : ℕ)
    → In row (map purge_row p.state.rows) → row.place ≡ Out consumer id → OutBy first p.effects row consumer
out-purged first p all row consumer id there is =
    let old = In-mapped purge_row row p.state.rows there in
    elim (cases_Bool (is_ready old.0.place)) [
      | inl ready ↦
          let e : Out consumer id ≡ Gone gone.Purged =
          sym is ∙ ap (λ (r : Row). r.place) (old.2 ∙ cond-true (is_ready old.0.place) _ old.0 ready) in
          absurd cc
      | inr other ↦
          let same : row ≡ old.0 = old.2 ∙ cond-false (is_ready old.0.place) _ old.0 other in
          all row consumer id (subst (λ (r : Row). In r p.state.rows) (sym same) old.1) is
    ]

out-acts : (first : List Row) (command : Command) → Acts command (AllOutBy first)
out-acts first command = record {
  rows = out-rows first command;
  purge = λ p all purges. out-purged first p all;
  attach = λ p term all least greater. all;
  join = λ p id mode all above own. all;
  cancel = λ p id consumer all found. all;
  finish = λ p all. all;
  credit = λ p id consumer credit all found. all;
  turn = λ p id consumer all found. all;
  leave = λ p session all is same none. all;
}

out-delivers : (first : List Row) → KeepsDeliveries (AllOutBy first)
out-delivers first p row consumer all found next one holder id there is =
    let new : Row = record row { place = Out consumer.id consumer.next_id } in
    let delivery : Delivery = delivery_of p.state consumer.next_id row in
    let made : List Effect = p.effects ++ Deliver consumer.id delivery ∷ [] in
    elim (In-put_row one new p.state.rows there) [
      | inl same ↦
          let shown : IsOutAs consumer.id delivery new =
          record { place = refl; index = refl; arrival = refl; count = refl } in
          let e : Out consumer.id consumer.next_id ≡ Out holder id = ap (λ (r : Row). r.place) (sym same) ∙ is in
          let own : consumer.id ≡ holder = cc in
          let by : OutBy first made new consumer.id = inr (
            delivery,
            In-append_right (Deliver consumer.id delivery) p.effects (Deliver consumer.id delivery ∷ []) (inl refl),
            shown,
          ) in
          subst (OutBy first made one) own (subst (λ (r : Row). OutBy first made r consumer.id) (sym same) by)
      | inr before ↦
          out-more first p.effects made one holder (λ effect here. In-append_left effect p.effects _ here)
          (all one holder id before.0 is)
    ]

out-serves : (first : List Row) (command : Command) → Serves command (AllOutBy first)
out-serves first command = record {
  rows = out-rows first command;
  offer = λ p number cause row all here found next may few one holder id there is.
      out-more first p.effects _ one holder (λ effect here. In-append_left effect p.effects _ here)
      (all one holder id there is);
  drain = λ p id consumer all found. all;
}

out-arrives : (first : List Row) (index : Index) (command : Command) → KeepsArrivals index command (AllOutBy first)
out-arrives first index command p stamp message all enqueues found row consumer id there is =
    elim (In-append_cases row p.state.rows _ there) [
      | inl old ↦ all row consumer id old is
      | inr new ↦ elim new [
        | inl same ↦ absurd (not-with _ consumer id refl (ap (λ (r : Row). r.place) (sym same) ∙ is))
        | inr no' ↦ absurd no'
      ]
    ]

-- over an entry
pub next-out_by : (s : State) (entry : Entry) (row : Row) (consumer : ConsumerId) (id : ℕ)
    → In row (next_step s entry).state.rows → row.place ≡ Out consumer id
    → In row s.rows ⊎ ((delivery : Delivery) × In (Deliver consumer delivery) (next_step s entry).effects
    × IsOutAs consumer delivery row)
unfolding step
next-out_by s entry = by (stamp entry.command)
  where
    index : Index
    index = next_index s

    All : Step → Type 0
    All made =
        (row : Row) (consumer : ConsumerId) (id : ℕ) → In row made.state.rows → row.place ≡ Out consumer id
        → OutBy s.rows made.effects row consumer

    done : (x : Sessions) → AllOutBy s.rows (carry_out index entry.command (record s { sessions = x })).progress
    done x =
        carry_out-keeps {I = AllOutBy s.rows} index entry.command (record s { sessions = x })
        (out-acts s.rows entry.command) (out-delivers s.rows) (out-serves s.rows entry.command)
        (out-arrives s.rows index entry.command) (λ row consumer id here is. inl here)

    passes : (g : Gate) (given : Stamp) → All (go_through g index given entry.command s)
    passes Fresh given = done (admit s.sessions given)
    passes _ given = λ row consumer id here is. inl here

    by : (o : Option Stamp) → All (step_by o index entry.command s)
    by None = done s.sessions
    by (Some given) = passes (gate s.sessions given) given

pub out_by_delivery : (s : State) (entry : Entry) → IsOutByDelivery s entry
out_by_delivery s entry row consumer id here is =
    let made = next_step s entry in
    elim (next-out_by s entry row consumer id (in_contains made.state.rows row here) is) [
      | inl before ↦ inl (Contains-in row s.rows before)
      | inr some ↦ inr (some.0, Contains-in (Deliver consumer some.0) made.effects some.1, some.2)
    ]

-- The ids of new deliveries --------------------------------------------------------------------------------

pub counts-above : (n m : ℕ) (ns : List ℕ) → Counts n ns → In m ns → n < m
counts-above n m [] counted here = absurd here
counts-above n m (first ∷ ns) counted (inl same) = omega (arith, same, counted.0)
counts-above n m (first ∷ ns) counted (inr later) =
    let more : n + 1 < m = counts-above (n + 1) m ns counted.1 later in omega arith

-- the id of a delivery is one of those that were given
pub delivery-id : (consumer : ConsumerId) (delivery : Delivery) (effects : List Effect)
    → In (Deliver consumer delivery) effects → In delivery.id (ids_of consumer effects)
delivery-id consumer delivery [] here = absurd here
delivery-id consumer delivery (effect ∷ effects) (inl same) =
    let is : delivery_to consumer effect ≡ Some delivery =
    ap (delivery_to consumer) (sym same)
    ∙ cond-true (same_consumer consumer consumer) (Some delivery) None (same_consumer-refl consumer) in
    subst (λ (o : Option Delivery). In delivery.id
    (map (λ (d : Delivery). d.id) (cons_option o (filter_map (delivery_to consumer) effects)))) (sym is) (inl refl)
delivery-id consumer delivery (effect ∷ effects) (inr later) =
    by (delivery_to consumer effect) (delivery-id consumer delivery effects later)
  where
    by : (o : Option Delivery) → In delivery.id (ids_of consumer effects)
        → In delivery.id (map (λ (d : Delivery). d.id) (cons_option o (filter_map (delivery_to consumer) effects)))
    by None here = here
    by (Some other) here = inr here
