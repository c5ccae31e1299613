-- A message is counted once for each place that was given, and a consumer has an id for each turn.
use Rattle.std.proofs.Common.{◌≡◌, ℕ, ◌+◌, ◌≤◌, true, List, refl, sym, ap, ◌∙◌, subst, inl, inr, arith}
use Rattle.std.specs.Prelude.{nat_eq, if◌then◌else◌}
use Rattle.std.specs.List.{AllByRecursion}
use Rattle.std.proofs.lemmas.Bool.{cond_both, false≢true}
use Rattle.qq_base.specs.declared.ids.Index.{Index}
use Rattle.qq_base.proofs.Lists.{In, AllByRecursion-in, AllByRecursion-append, AllByRecursion-map, AllByRecursion-weaker, In-append_cases}
use Rattle.qq_entry.specs.declared.command.Command.{Command}
use Rattle.qq_entry.specs.declared.command.Entry.{Entry}
use Rattle.qq_entry.specs.declared.message.Reason.{Reason}
use Rattle.qq_model.specs.declared.consumer.Consumer.{Consumer}
use Rattle.qq_model.specs.declared.place.GoneReason.TheVariants as gone
use Rattle.qq_model.specs.declared.place.Key.TheVariants.{Front, Back}
use Rattle.qq_model.specs.declared.place.Place.{Place}
use Rattle.qq_model.specs.declared.place.Place.TheVariants.{Ready, Out, Dead, Gone}
use Rattle.qq_model.specs.declared.place.Row.{Row}
use Rattle.qq_model.specs.Limits.{is_ready}
use Rattle.qq_model.specs.Audit.{next_index, state_after}
use Rattle.qq_model.specs.Changes.{Progress, put_row, is_needed}
use Rattle.qq_model.specs.Commands.{purge_row}
use Rattle.qq_model.specs.Serving.{serve}
use Rattle.qq_model.specs.State.{State}
use Rattle.qq_model.proofs.ActKeeps.{KeepsArrivals}
use Rattle.qq_model.proofs.CarryOut.{carry_out-keeps}
use Rattle.qq_model.proofs.Choices.{next_message-in}
use Rattle.qq_model.proofs.Holders.{In-filtered}
use Rattle.qq_model.proofs.Ids.{consumer-found}
use Rattle.qq_model.proofs.Lookups.{next_consumer-in}
use Rattle.qq_model.proofs.Serve.{serve-next}
use Rattle.qq_model.proofs.SingleChanges.{Acts, Because, Draws, IsDeath, KeepsDeliveries, KeepsRows, Serves, Turns}
use Rattle.qq_model.proofs.SingleChanges.Because.{IsGot, IsSettled, IsDiscarded, GoesBack, PassesLimit, IsDropped, IsDeadLettered}
use Rattle.qq_model.proofs.StepKeeps.{after-keeps}
use Rattle.qq_laws.proofs.EachConsumer.{EachOf, each-put}

-- what may be counted once more, without a place that is given
abbrev pub ahead : Place → ℕ
ahead (Ready key) = 1
ahead (Out consumer id) = 1
ahead _ = 0

-- whether a place is drawn at the front or the back
abbrev given : Place → ℕ
given (Ready key) = 1
given _ = 0

abbrev pub IsCounted : ℕ → Row → Type 0
IsCounted places row = row.count + ahead row.place ≤ places

abbrev pub HasIds : ℕ → Consumer → Type 0
HasIds turns one = one.next_id ≤ turns + 1

pub record IsDrawn (s : State) : Type 0 where
  pub rows : AllByRecursion (IsCounted (s.orders + s.returns)) s.rows
  pub ids : EachOf (HasIds s.turns) s.consumers

-- ---- rows

counted-more : (few many : ℕ) (rows : List Row) → few ≤ many → AllByRecursion (IsCounted few) rows
    → AllByRecursion (IsCounted many) rows
counted-more few many rows le each =
    AllByRecursion-weaker (IsCounted few) (IsCounted many) (λ row it. omega (arith, le, it)) rows each

counted-put : (places : ℕ) (new : Row) (rows : List Row) → IsCounted places new → AllByRecursion (IsCounted places) rows
    → AllByRecursion (IsCounted places) (put_row new rows)
counted-put places new rows it each =
    AllByRecursion-map (IsCounted places) (IsCounted places)
    (λ (row : Row). if nat_eq row.index.0 new.index.0 then new else row) rows
    (λ row was. cond_both (nat_eq row.index.0 new.index.0) new row (IsCounted places) (λ _. it) (λ _. was)) each

dead-behind : (cause : Reason) (place : Place) → IsDeath cause place → ahead place ≡ 0
dead-behind cause place (inl is) = ap ahead is
dead-behind cause place (inr is) = ap ahead is.1

-- a row that is moved is counted no more than it may be, once its place is given
moved : (p : Progress) (command : Command) (places : ℕ) (old new : Row) → IsCounted places old
    → Because p command old new → new.count + ahead new.place ≤ places + given new.place
moved p command places old new it (IsGot got found is) =
    let count : new.count ≡ old.count = ap (λ (r : Row). r.count) is in
    let behind : ahead new.place ≡ 0 = ap (λ (r : Row). ahead r.place) is in
    omega (arith, it, count, behind)
moved p command places old new it (IsSettled consumer id at ends settles is) =
    let count : new.count ≡ old.count = ap (λ (r : Row). r.count) is in
    let behind : ahead new.place ≡ 0 = ap (λ (r : Row). ahead r.place) is in
    omega (arith, it, count, behind)
moved p command places old new it (IsDiscarded consumer id place at ends discards death is) =
    let count : new.count ≡ old.count = ap (λ (r : Row). r.count) is in
    let behind : ahead new.place ≡ 0 = ap (λ (r : Row). ahead r.place) is ∙ dead-behind _ place death in
    omega (arith, it, count, behind)
moved p command places old new it (GoesBack consumer id key at ends back within is) =
    let count : new.count ≡ old.count + 1 = ap (λ (r : Row). r.count) is in
    let one : ahead new.place ≡ 1 = ap (λ (r : Row). ahead r.place) is in
    let drawn : given new.place ≡ 1 = ap (λ (r : Row). given r.place) is in
    let was : ahead old.place ≡ 1 = ap ahead at in
    omega (arith, it, count, one, drawn, was)
moved p command places old new it (PassesLimit consumer id place at ends back passed death is) =
    let count : new.count ≡ old.count + 1 = ap (λ (r : Row). r.count) is in
    let behind : ahead new.place ≡ 0 = ap (λ (r : Row). ahead r.place) is ∙ dead-behind _ place death in
    let was : ahead old.place ≡ 1 = ap ahead at in
    omega (arith, it, count, behind, was)
moved p command places old new it (IsDropped place found passed death is) =
    let count : new.count ≡ old.count = ap (λ (r : Row). r.count) is in
    let behind : ahead new.place ≡ 0 = ap (λ (r : Row). ahead r.place) is ∙ dead-behind _ place death in
    omega (arith, it, count, behind)
moved p command places old new it (IsDeadLettered number cause at settles within is) =
    let count : new.count ≡ old.count = ap (λ (r : Row). r.count) is in
    let behind : ahead new.place ≡ 0 = ap (λ (r : Row). ahead r.place) is in
    omega (arith, it, count, behind)

-- so many places more are given
places-drawn : (s t : State) (place : Place) → Draws s t place
    → s.orders + s.returns + given place ≤ t.orders + t.returns
places-drawn s t (Ready (Back n)) draws = omega (arith, draws.1, draws.2)
places-drawn s t (Ready (Front n)) draws = omega (arith, draws.1, draws.2)
places-drawn s t (Out consumer id) draws = absurd draws
places-drawn s t (Dead n reason) draws = omega (arith, draws.1, draws.2)
places-drawn s t (Gone reason) draws = omega (arith, draws.0, draws.1)

ids-more : (few many : ℕ) (consumers : List Consumer) → few ≤ many → EachOf (HasIds few) consumers
    → EachOf (HasIds many) consumers
ids-more few many consumers le each one here = let ids = each one here in omega (arith, le, ids)

drawn-row : (command : Command) (p q : Progress) (old new : Row) → IsDrawn p.state → In old p.state.rows
    → Because p command old new → Turns p q new → IsDrawn q.state
drawn-row command p q old new it here why turns =
    let before : ℕ = p.state.orders + p.state.returns in
    let after : ℕ = q.state.orders + q.state.returns in
    let more : before + given new.place ≤ after = places-drawn p.state q.state new.place turns.draws in
    let was : IsCounted before old = AllByRecursion-in (IsCounted before) old p.state.rows it.rows here in
    let now : new.count + ahead new.place ≤ before + given new.place = moved p command before old new was why in
    record {
      rows = subst (AllByRecursion (IsCounted after)) (sym turns.rows)
          (counted-put after new p.state.rows (omega (arith, now, more))
          (counted-more before after p.state.rows (omega (arith, more)) it.rows));
      ids = subst (λ (n : ℕ). EachOf (HasIds n) q.state.consumers) (sym turns.turns)
          (subst (EachOf (HasIds p.state.turns)) (sym turns.consumers) it.ids);
    }

Drawn-rows : (command : Command) → KeepsRows command (λ p. IsDrawn p.state)
Drawn-rows command = record {
  row = λ p q old new it here moves out why turns. drawn-row command p q old new it here why turns;
}

purged : (places : ℕ) (row : Row) → IsCounted places row → IsCounted places (purge_row row)
purged places row it =
    cond_both (is_ready row.place) (record row { place = Gone gone.Purged }) row (IsCounted places)
    (λ _. omega (arith, it)) (λ _. it)

-- ---- commands

Drawn-acts : (command : Command) → Acts command (λ p. IsDrawn p.state)
Drawn-acts command = record {
  rows = Drawn-rows command;
  purge = λ p it purges. record {
    rows = AllByRecursion-map (IsCounted (p.state.orders + p.state.returns))
        (IsCounted (p.state.orders + p.state.returns)) purge_row p.state.rows
        (λ row was. purged (p.state.orders + p.state.returns) row was) it.rows;
    ids = it.ids;
  };
  attach = λ p term it least greater. record { rows = it.rows; ids = it.ids };
  join = λ p id mode it above own. record {
    rows = it.rows;
    ids = λ one here. elim (In-append_cases one p.state.consumers _ here) [
      | inl old ↦ let ids = it.ids one old in omega (arith, ids)
      | inr new ↦ elim new [
        | inl same ↦
            subst (HasIds (p.state.turns + 1)) (sym same) (omega arith)
        | inr no' ↦ absurd no'
      ]
    ];
  };
  cancel = λ p id consumer it found. record {
    rows = it.rows;
    ids = each-put (HasIds p.state.turns) p.state.consumers (record consumer { cancelled = true }) it.ids
        (it.ids consumer (consumer-found id p.state.consumers consumer found));
  };
  finish = λ p it. record {
    rows = it.rows;
    ids = λ one here. it.ids one (In-filtered (is_needed p.state.rows) one p.state.consumers here);
  };
  credit = λ p id consumer credit it found. record {
    rows = it.rows;
    ids = each-put (HasIds p.state.turns) p.state.consumers _ it.ids
        (it.ids consumer (consumer-found id p.state.consumers consumer found));
  };
  turn = λ p id consumer it found. record {
    rows = it.rows;
    ids = let ids = it.ids consumer (consumer-found id p.state.consumers consumer found) in
        each-put (HasIds (p.state.turns + 1)) p.state.consumers (record consumer { turn = p.state.turns + 1 })
        (ids-more p.state.turns (p.state.turns + 1) p.state.consumers (omega arith) it.ids) (omega (arith, ids));
  };
  leave = λ p session it is same none. record {
    rows = it.rows;
    ids = λ one here. it.ids one (In-filtered _ one p.state.consumers here);
  };
}

ready-ahead : (place : Place) → is_ready place ≡ true → ahead place ≡ 1
ready-ahead (Ready key) is = refl
ready-ahead _ is = absurd (false≢true is)

Drawn-delivers : KeepsDeliveries (λ p. IsDrawn p.state)
Drawn-delivers p row consumer it found next =
    let places : ℕ = p.state.orders + p.state.returns in
    let there = next_message-in p.state.rows row found in
    let was : IsCounted places row = AllByRecursion-in (IsCounted places) row p.state.rows it.rows there.0 in
    let ready : ahead row.place ≡ 1 = ready-ahead row.place there.1 in
    let chosen = next_consumer-in p.state.args.single_active p.state.rows p.state.consumers consumer next in
    let ids : consumer.next_id ≤ p.state.turns + 1 = it.ids consumer chosen.0 in
    let more : (serve (p.state.turns + 1) consumer).next_id ≡ consumer.next_id + 1 =
    serve-next (p.state.turns + 1) consumer in
    record {
      rows = counted-put places (record row { place = Out consumer.id consumer.next_id }) p.state.rows
          (omega (arith, was, ready)) it.rows;
      ids = each-put (HasIds (p.state.turns + 1)) p.state.consumers (serve (p.state.turns + 1) consumer)
          (ids-more p.state.turns (p.state.turns + 1) p.state.consumers (omega arith) it.ids)
          (omega (arith, ids, more));
    }

Drawn-serves : (command : Command) → Serves command (λ p. IsDrawn p.state)
Drawn-serves command = record {
  rows = Drawn-rows command;
  offer = λ p number cause row it here is next may few. record { rows = it.rows; ids = it.ids };
  drain = λ p id consumer it found. record {
    rows = it.rows;
    ids = each-put (HasIds p.state.turns) p.state.consumers _ it.ids
        (it.ids consumer (consumer-found id p.state.consumers consumer found));
  };
}

Drawn-arrives : (index : Index) (command : Command) → KeepsArrivals index command (λ p. IsDrawn p.state)
Drawn-arrives index command p stamp message it is found =
    let before : ℕ = p.state.orders + p.state.returns in
    let after : ℕ = p.state.orders + 1 + p.state.returns in
    record {
      rows = AllByRecursion-append (IsCounted after) p.state.rows _
          (counted-more before after p.state.rows (omega arith) it.rows) (omega arith, tt);
      ids = it.ids;
    }

pub drawn_after : (s : State) (entries : List Entry) → IsDrawn s → IsDrawn (state_after s entries)
drawn_after s entries it =
    after-keeps IsDrawn (λ t. record {
      stale = λ x it'. record { rows = it'.rows; ids = it'.ids };
      fresh = λ command x y it'.
          let made : IsDrawn _ =
          carry_out-keeps {I = λ p. IsDrawn p.state} (next_index t) command (record t { sessions = x })
          (Drawn-acts command) Drawn-delivers (Drawn-serves command) (Drawn-arrives (next_index t) command)
          (record { rows = it'.rows; ids = it'.ids }) in
          record { rows = made.rows; ids = made.ids };
    }) s entries it
