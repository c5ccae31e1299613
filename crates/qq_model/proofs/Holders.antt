-- What is out is with a consumer that is there, and consumers have turns of their own.
use Rattle.std.proofs.Common.{◌≡◌, ℕ, ◌+◌, ◌<◌, ◌≤◌, ◌⊎◌, Bool, true, false, not, cond, ◌&&◌, List, [], ◌∷◌, Some, map, refl, sym, ap, ◌∙◌, subst, inl, inr, arith}
use Rattle.std.specs.Prelude.{nat_eq, filter}
use Rattle.std.proofs.lemmas.Bool.{false≢true, cases_Bool, cond-true, cond-false, not_from_false, and_right, ne_eqb}
use Rattle.qq_base.specs.declared.ids.Index.{Index}
use Rattle.qq_base.specs.declared.ids.ConsumerId.{ConsumerId}
use Rattle.qq_base.specs.Ids.{same_consumer}
use Rattle.qq_entry.specs.declared.command.Command.{Command}
use Rattle.qq_entry.specs.declared.command.Mode.{Mode}
use Rattle.qq_entry.specs.declared.command.Mode.TheVariants.{Prefetch, Link}
use Rattle.qq_model.specs.declared.place.GoneReason.TheVariants as gone
use Rattle.qq_model.specs.declared.place.Place.{Place}
use Rattle.qq_model.specs.declared.place.Place.TheVariants.{Out, Gone}
use Rattle.qq_model.specs.declared.place.Row.{Row}
use Rattle.qq_model.specs.declared.consumer.Consumer.{Consumer}
use Rattle.qq_model.specs.Choice.{is_out_to, out_count}
use Rattle.qq_model.specs.Limits.{is_ready, is_with_consumer}
use Rattle.qq_model.specs.Changes.{put_row, put_consumer, is_needed, consumer_of}
use Rattle.qq_model.specs.Commands.{is_of_session, purge_row}
use Rattle.qq_model.specs.Serving.{use_credit, serve}
use Rattle.qq_base.proofs.Lists.{In, In-append_cases, In-append_left, In-filter, find-in}
use Rattle.qq_model.proofs.ActKeeps.{KeepsArrivals}
use Rattle.qq_model.proofs.Drawn.{In-mapped, In-put_row}
use Rattle.qq_model.proofs.Lookups.{next_consumer-in}
use Rattle.qq_model.proofs.OneConsumer.{same_consumer-refl, same_consumer-true}
use Rattle.qq_model.proofs.OutCounts.{out-cons}
use Rattle.qq_model.proofs.SingleChanges.{Acts, KeepsDeliveries, KeepsRows, Serves}

-- a consumer of an id is there
abbrev pub Seat : ConsumerId → List Consumer → Type 0
Seat id consumers = (one : Consumer) × In one consumers × (one.id ≡ id)

pub Seat-put : (id : ConsumerId) (new : Consumer) (consumers : List Consumer) → Seat id consumers
    → Seat id (put_consumer new consumers)
Seat-put id new [] seat = absurd seat.1
Seat-put id new (first ∷ rest) (one, inl same, is) = elim (cases_Bool (same_consumer first.id new.id)) [
  | inl own ↦ (
    new,
    inl (sym (cond-true (same_consumer first.id new.id) new first own)),
    sym (same_consumer-true first.id new.id own) ∙ ap (λ (c : Consumer). c.id) (sym same) ∙ is,
  )
  | inr other ↦ (
    first,
    inl (sym (cond-false (same_consumer first.id new.id) new first other)),
    ap (λ (c : Consumer). c.id) (sym same) ∙ is,
  )
]
Seat-put id new (first ∷ rest) (one, inr later, is) =
    let more = Seat-put id new rest (one, later, is) in (more.0, inr more.1, more.2)

-- what is with a consumer is counted
pub out-some : (consumer : ConsumerId) (id : ℕ) (row : Row) (rows : List Row) → In row rows
    → row.place ≡ Out consumer id → 0 < out_count consumer rows
out-some consumer id row [] here is = absurd here
out-some consumer id row (first ∷ rows) (inl same) is =
    let out : is_out_to consumer first.place ≡ true =
    ap (λ (r : Row). is_out_to consumer r.place) (sym same) ∙ ap (is_out_to consumer) is
    ∙ same_consumer-refl consumer in
    let one : cond (is_out_to consumer first.place) 1 0 ≡ 1 = ap (λ b. let n : ℕ = cond b 1 0 in n) out in
    omega (arith, out-cons consumer first rows, one)
out-some consumer id row (first ∷ rows) (inr later) is =
    let rest = out-some consumer id row rows later is in omega (arith, out-cons consumer first rows, rest)

abbrev pub Held : List Row → List Consumer → Type 0
Held rows consumers =
    (row : Row) (consumer : ConsumerId) (id : ℕ) → In row rows → row.place ≡ Out consumer id → Seat consumer consumers

not-with : (place : Place) (consumer : ConsumerId) (id : ℕ) → is_with_consumer place ≡ false → place ≡ Out consumer id
    → ⊥
not-with place consumer id none is = false≢true (sym none ∙ ap is_with_consumer is)

Held-put : (rows : List Row) (consumers : List Consumer) (new : Row) → is_with_consumer new.place ≡ false
    → Held rows consumers → Held (put_row new rows) consumers
Held-put rows consumers new none held row consumer id here is = elim (In-put_row row new rows here) [
  | inl same ↦ absurd (not-with new.place consumer id none (ap (λ (r : Row). r.place) (sym same) ∙ is))
  | inr old ↦ held row consumer id old.0 is
]

Held-rows : (command : Command) → KeepsRows command (λ p. Held p.state.rows p.state.consumers)
Held-rows command = record {
  row = λ p q old new held here moves out why turns.
      subst (λ (rows : List Row). Held rows q.state.consumers) (sym turns.rows)
      (subst (Held (put_row new p.state.rows)) (sym turns.consumers)
      (Held-put p.state.rows p.state.consumers new out held));
}

Held-purged : (rows : List Row) (consumers : List Consumer) → Held rows consumers
    → Held (map purge_row rows) consumers
Held-purged rows consumers held row consumer id here is =
    let old = In-mapped purge_row row rows here in
    elim (cases_Bool (is_ready old.0.place)) [
      | inl ready ↦
          let e : Out consumer id ≡ Gone gone.Purged =
          sym is ∙ ap (λ (r : Row). r.place) (old.2 ∙ cond-true (is_ready old.0.place) _ old.0 ready) in
          absurd cc
      | inr other ↦
          let same : row ≡ old.0 = old.2 ∙ cond-false (is_ready old.0.place) _ old.0 other in
          held old.0 consumer id old.1 (ap (λ (r : Row). r.place) (sym same) ∙ is)
    ]

-- who holds something is needed
Held-needed : (rows : List Row) (consumers : List Consumer) → Held rows consumers
    → Held rows (filter (is_needed rows) consumers)
Held-needed rows consumers held row consumer id here is =
    let seat = held row consumer id here is in
    let some : 0 < out_count seat.0.id rows =
    subst (λ (c : ConsumerId). 0 < out_count c rows) (sym seat.2) (out-some consumer id row rows here is) in
    let needed : is_needed rows seat.0 ≡ true =
    not_from_false (seat.0.cancelled && nat_eq (out_count seat.0.id rows) 0)
    (and_right seat.0.cancelled _ (ne_eqb (out_count seat.0.id rows) 0 (λ e. omega arith))) in
    (seat.0, In-filter (is_needed rows) seat.0 consumers seat.1 needed, seat.2)

pub Held-acts : (command : Command) → Acts command (λ p. Held p.state.rows p.state.consumers)
Held-acts command = record {
  rows = Held-rows command;
  purge = λ p held purges. Held-purged p.state.rows p.state.consumers held;
  attach = λ p term held least greater. held;
  join = λ p id mode held above own row consumer number here is.
      let seat = held row consumer number here is
      in (seat.0, In-append_left seat.0 p.state.consumers _ seat.1, seat.2);
  cancel = λ p id consumer held found row holder number here is.
      Seat-put holder _ p.state.consumers (held row holder number here is);
  finish = λ p held. Held-needed p.state.rows p.state.consumers held;
  credit = λ p id consumer credit held found row holder number here is.
      Seat-put holder _ p.state.consumers (held row holder number here is);
  turn = λ p id consumer held found row holder number here is.
      Seat-put holder _ p.state.consumers (held row holder number here is);
  leave = λ p session held down same none row consumer number here is.
      let seat = held row consumer number here is in
      let some : 0 < out_count seat.0.id p.state.rows =
      subst (λ (c : ConsumerId). 0 < out_count c p.state.rows) (sym seat.2)
      (out-some consumer number row p.state.rows here is) in
      elim (cases_Bool (is_of_session session seat.0)) [
        | inl own ↦ let zero' = none seat.0 seat.1 own in absurd (omega (arith, some, zero'))
        | inr other ↦ (
          seat.0,
          In-filter (λ (one : Consumer). not (is_of_session session one)) seat.0 p.state.consumers seat.1
              (not_from_false (is_of_session session seat.0) other),
          seat.2,
        )
      ];
}

pub Held-delivers : KeepsDeliveries (λ p. Held p.state.rows p.state.consumers)
Held-delivers p row consumer held found next one holder id here is =
    let there = (next_consumer-in p.state.args.single_active p.state.rows p.state.consumers consumer next).0 in
    elim (In-put_row one (record row { place = Out consumer.id consumer.next_id }) p.state.rows here) [
      | inl same ↦
          let e : Out consumer.id consumer.next_id ≡ Out holder id = ap (λ (r : Row). r.place) (sym same) ∙ is in
          let own : consumer.id ≡ holder = cc in
          Seat-put holder _ p.state.consumers (consumer, there, own)
      | inr old ↦ Seat-put holder _ p.state.consumers (held one holder id old.0 is)
    ]

pub Held-serves : (command : Command) → Serves command (λ p. Held p.state.rows p.state.consumers)
Held-serves command = record {
  rows = Held-rows command;
  offer = λ p number cause row held here is next may few. held;
  drain = λ p id consumer held found row holder number here is.
      Seat-put holder _ p.state.consumers (held row holder number here is);
}

pub Held-arrives : (index : Index) (command : Command)
    → KeepsArrivals index command (λ p. Held p.state.rows p.state.consumers)
Held-arrives index command p stamp message held is found row holder id here out =
    elim (In-append_cases row p.state.rows _ here) [
      | inl old ↦ held row holder id old out
      | inr new ↦ elim new [
        | inl same ↦ absurd (not-with _ holder id refl (ap (λ (r : Row). r.place) (sym same) ∙ out))
        | inr no' ↦ absurd no'
      ]
    ]

-- Turns ----------------------------------------------------------------------------------------------

pub record InTurn (last : ℕ) (consumers : List Consumer) : Type 0 where
  pub own : (a b : Consumer) → In a consumers → In b consumers → a.turn ≡ b.turn → a.id ≡ b.id
  pub drawn : (one : Consumer) → In one consumers → one.turn ≤ last

-- consumers of which each was there, or has the next turn, or the turn of one that was there
InTurn-more : (last last' : ℕ) (old consumers : List Consumer) (new : Consumer) → InTurn last old → last ≤ last'
    → ((new.turn ≡ last + 1) × (new.turn ≤ last')) ⊎ ((one : Consumer) × In one old × (new.turn ≡ one.turn)
    × (new.id ≡ one.id))
    → ((x : Consumer) → In x consumers → (x ≡ new) ⊎ In x old) → InTurn last' consumers
InTurn-more last last' old consumers new was rises how from = record { own = own; drawn = drawn }
  where
    apart : (a b : Consumer) → a ≡ new → In b old → a.turn ≡ b.turn → a.id ≡ b.id
    apart a b same here turn = elim how [
      | inl fresh ↦
          let below = was.drawn b here in
          let its : a.turn ≡ last + 1 = ap (λ (c : Consumer). c.turn) same ∙ fresh.0 in
          absurd (omega (arith, below, its, turn))
      | inr one ↦
          ap (λ (c : Consumer). c.id) same ∙ one.3
          ∙ was.own one.0 b one.1 here (sym one.2 ∙ ap (λ (c : Consumer). c.turn) (sym same) ∙ turn)
    ]

    own : (a b : Consumer) → In a consumers → In b consumers → a.turn ≡ b.turn → a.id ≡ b.id
    own a b ina inb turn = elim (from a ina) [
      | inl newa ↦ elim (from b inb) [
        | inl newb ↦ ap (λ (c : Consumer). c.id) (newa ∙ sym newb)
        | inr oldb ↦ apart a b newa oldb turn
      ]
      | inr olda ↦ elim (from b inb) [
        | inl newb ↦ sym (apart b a newb olda (sym turn))
        | inr oldb ↦ was.own a b olda oldb turn
      ]
    ]

    drawn : (one : Consumer) → In one consumers → one.turn ≤ last'
    drawn one here = elim (from one here) [
      | inr old ↦ let le = was.drawn one old in omega arith
      | inl same ↦ elim how [
        | inl fresh ↦ let its : one.turn ≡ new.turn =
            ap (λ (c : Consumer). c.turn) same in omega (arith, fresh.1, its)
        | inr before ↦
            let le = was.drawn before.0 before.1 in
            let its : one.turn ≡ before.0.turn = ap (λ (c : Consumer). c.turn) same ∙ before.2 in
            omega (arith, le, its)
      ]
    ]

pub In-put_consumer : (x new : Consumer) (consumers : List Consumer) → In x (put_consumer new consumers)
    → (x ≡ new) ⊎ In x consumers
In-put_consumer x new [] here = absurd here
In-put_consumer x new (one ∷ rest) (inl same) = elim (cases_Bool (same_consumer one.id new.id)) [
  | inl is ↦ inl (same ∙ cond-true (same_consumer one.id new.id) new one is)
  | inr other ↦ inr (inl (same ∙ cond-false (same_consumer one.id new.id) new one other))
]
In-put_consumer x new (one ∷ rest) (inr later) = elim (In-put_consumer x new rest later) [
  | inl same ↦ inl same
  | inr old ↦ inr (inr old)
]

pub In-filtered : {A : Type 0} (keeps : A → Bool) (x : A) (xs : List A) → In x (filter keeps xs) → In x xs
In-filtered keeps x [] here = here
In-filtered {A = A} keeps x (y ∷ ys) here = by (cases_Bool (keeps y)) (λ there. In-filtered keeps x ys there)
  where
    by : (keeps y ≡ true) ⊎ (keeps y ≡ false) → (In x (filter keeps ys) → In x ys) → In x (y ∷ ys)
    by (inl is) rest = elim (subst (In x) (cond-true (keeps y) (y ∷ filter keeps ys) (filter keeps ys) is) here) [
      | inl same ↦ inl same
      | inr later ↦ inr (rest later)
    ]
    by (inr other) rest =
        inr (rest (subst (In x) (cond-false (keeps y) (y ∷ filter keeps ys) (filter keeps ys) other) here))

-- a consumer changes, but for its turn
InTurn-same : (last : ℕ) (consumers : List Consumer) (id : ConsumerId) (consumer new : Consumer)
    → InTurn last consumers
    → consumer_of id consumers ≡ Some consumer → new.turn ≡ consumer.turn → new.id ≡ consumer.id
    → InTurn last (put_consumer new consumers)
InTurn-same last consumers id consumer new was found turn same =
    InTurn-more last last consumers (put_consumer new consumers) new was (omega arith)
    (inr (consumer, (find-in (λ (one : Consumer). same_consumer one.id id) consumers consumer found).0, turn, same))
    (λ x here. In-put_consumer x new consumers here)

InTurn-next : (last : ℕ) (consumers : List Consumer) (new : Consumer) → InTurn last consumers → new.turn ≡ last + 1
    → InTurn (last + 1) (put_consumer new consumers)
InTurn-next last consumers new was turn =
    InTurn-more last (last + 1) consumers (put_consumer new consumers) new was (omega arith)
    (inl (turn, omega (arith, turn))) (λ x here. In-put_consumer x new consumers here)

InTurn-filter : (last : ℕ) (consumers : List Consumer) (keeps : Consumer → Bool) → InTurn last consumers
    → InTurn last (filter keeps consumers)
InTurn-filter last consumers keeps was = record {
  own = λ a b ina inb. was.own a b (In-filtered keeps a consumers ina) (In-filtered keeps b consumers inb);
  drawn = λ one here. was.drawn one (In-filtered keeps one consumers here);
}

InTurn-rows : (command : Command) → KeepsRows command (λ p. InTurn p.state.turns p.state.consumers)
InTurn-rows command = record {
  row = λ p q old new was here moves out why turns.
      subst (λ (n : ℕ). InTurn n q.state.consumers) (sym turns.turns)
      (subst (InTurn p.state.turns) (sym turns.consumers) was);
}

pub InTurn-acts : (command : Command) → Acts command (λ p. InTurn p.state.turns p.state.consumers)
InTurn-acts command = record {
  rows = InTurn-rows command;
  purge = λ p was purges. was;
  attach = λ p term was least greater. was;
  join = λ p id mode was above own.
      InTurn-more p.state.turns (p.state.turns + 1) p.state.consumers _ _ was (omega arith) (inl (refl, omega arith))
      (λ x here. elim (In-append_cases x p.state.consumers _ here) [
        | inl old ↦ inr old
        | inr new ↦ elim new [ inl same ↦ inl same | inr no' ↦ absurd no' ]
      ]);
  cancel = λ p id consumer was found. InTurn-same p.state.turns p.state.consumers id consumer _ was found refl refl;
  finish = λ p was. InTurn-filter p.state.turns p.state.consumers (is_needed p.state.rows) was;
  credit = λ p id consumer credit was found.
      InTurn-same p.state.turns p.state.consumers id consumer _ was found refl refl;
  turn = λ p id consumer was found. InTurn-next p.state.turns p.state.consumers _ was refl;
  leave = λ p session was is same none. InTurn-filter p.state.turns p.state.consumers _ was;
}

use_credit-turn : (mode : Mode) (consumer : Consumer) → (use_credit mode consumer).turn ≡ consumer.turn
use_credit-turn (Prefetch prefetch) consumer = refl
use_credit-turn Link consumer = refl

pub InTurn-delivers : KeepsDeliveries (λ p. InTurn p.state.turns p.state.consumers)
InTurn-delivers p row consumer was found next =
    InTurn-next p.state.turns p.state.consumers (serve (p.state.turns + 1) consumer) was
    (use_credit-turn consumer.mode (record consumer { next_id = consumer.next_id + 1; turn = p.state.turns + 1 }))

pub InTurn-serves : (command : Command) → Serves command (λ p. InTurn p.state.turns p.state.consumers)
InTurn-serves command = record {
  rows = InTurn-rows command;
  offer = λ p number cause row was here is next may few. was;
  drain = λ p id consumer was found. InTurn-same p.state.turns p.state.consumers id consumer _ was found refl refl;
}
