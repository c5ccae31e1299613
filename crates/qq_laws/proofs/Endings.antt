-- What the end of a delivery makes of its message, before anything follows on the command.
use Rattle.std.proofs.Common.{◌≡◌, ℕ, ◌+◌, ◌≤◌, ◌⊎◌, true, false, List, [], ◌∷◌, ◌++◌, Option, Some, None, fold, refl, sym, ap, ◌∙◌, subst, inl, inr, arith, if◌then◌else◌}
use Rattle.std.proofs.lemmas.Bool.{false≢true, cases_eq, cond_both, and_from, eq-eqb}
use Rattle.std.proofs.lemmas.List.Sums.{fold-append}
use Rattle.qq_base.specs.declared.ids.Index.{Index}
use Rattle.qq_base.specs.declared.ids.SessionId.{SessionId}
use Rattle.qq_base.specs.declared.ids.ConsumerId.{ConsumerId}
use Rattle.qq_base.specs.Ids.{same_consumer}
use Rattle.qq_entry.specs.Command.{consumer_id}
use Rattle.qq_entry.specs.declared.command.Stamp.{Stamp}
use Rattle.qq_entry.specs.declared.message.Reason.{Reason}
use Rattle.qq_entry.specs.declared.message.Reason.TheVariants.{Rejected, DeliveryLimit}
use Rattle.qq_entry.specs.declared.queue.QueueArgs.{QueueArgs}
use Rattle.qq_entry.specs.declared.queue.Strategy.{Strategy}
use Rattle.qq_entry.specs.declared.queue.Strategy.TheVariants.{Absent, AtMostOnce, AtLeastOnce}
use Rattle.qq_model.specs.declared.consumer.Consumer.{Consumer}
use Rattle.qq_model.specs.declared.consumer.Outcome.{Outcome}
use Rattle.qq_model.specs.declared.consumer.Outcome.TheVariants.{Settled, Returned, Discarded}
use Rattle.qq_model.specs.declared.place.Key.TheVariants.{Front, Back}
use Rattle.qq_model.specs.declared.place.GoneReason.TheVariants as gone
use Rattle.qq_model.specs.declared.place.Place.{Place}
use Rattle.qq_model.specs.declared.place.Place.TheVariants.{Ready, Out, Dead, Gone}
use Rattle.qq_model.specs.declared.place.Row.{Row}
use Rattle.qq_model.specs.State.{State}
use Rattle.qq_model.specs.Limits.{is_with_consumer, has_passed}
use Rattle.qq_model.specs.Changes.{Progress, put_row, consumer_of, die, die_by, go_back, return_row, drop_finished, take_turn, begin_to_wait, credit_of}
use Rattle.qq_model.specs.Commands.{Acted, act, is_delivery, delivered_row, end_delivery, end_delivery_by, end_deliveries, leave_or_wait, finish_by, finish, first_delivery, return_by, return_first, return_all, is_of_session, return_session}
use Rattle.qq_base.proofs.Lists.{In, fold-keeps, list_any-from_in}
use Rattle.qq_model.proofs.Choices.{first_delivery-in}
use Rattle.qq_model.proofs.Drawn.{In-put_new, In-put_row}
use Rattle.qq_model.proofs.Holders.{Seat}
use Rattle.qq_model.proofs.Indices.{Rises, indices, unique}
use Rattle.qq_model.proofs.InOrder.{indices-put}
use Rattle.qq_model.proofs.Lists.{find-none}
use Rattle.qq_model.proofs.Lookups.{delivered_row-in, out-place}
use Rattle.qq_model.proofs.Loops.{while_next-keeps}
use Rattle.qq_model.proofs.OneConsumer.{same_consumer-refl}
use Rattle.qq_model.proofs.Spared.{In-put_other}
use Rattle.qq_laws.specs.Ended.{disposition, DiedOf, GoesBehind}

-- One row is another ---------------------------------------------------------------------------------------

-- a row is replaced by one that isn't with a consumer; consumers and arguments stay
pub record Puts (row new : Row) (p q : Progress) : Type 0 where
  pub index : new.index ≡ row.index
  pub out : is_with_consumer new.place ≡ false
  pub rows : q.state.rows ≡ put_row new p.state.rows
  pub consumers : q.state.consumers ≡ p.state.consumers
  pub args : q.state.args ≡ p.state.args
  pub returns : p.state.returns ≤ q.state.returns
  pub orders : p.state.orders ≤ q.state.orders

-- a row that dies
pub record Buried (cause : Reason) (row : Row) (p q : Progress) : Type 0 where
  pub place : Place
  pub death : DiedOf cause place
  pub puts : Puts row (record row { place = place }) p q

pub die-puts : (cause : Reason) (row : Row) (p : Progress) → Buried cause row p (die cause row p)
unfolding die
die-puts cause row p = by p.state.args.strategy
  where
    by : (strategy : Strategy) → Buried cause row p (die_by strategy cause row p)
    by Absent = record {
      place = Gone (gone.Died cause);
      death = inl refl;
      puts = record {
        index = refl;
        out = refl;
        rows = refl;
        consumers = refl;
        args = refl;
        returns = omega arith;
        orders = omega arith;
      };
    }
    by AtMostOnce = record {
      place = Gone (gone.Died cause);
      death = inl refl;
      puts = record {
        index = refl;
        out = refl;
        rows = refl;
        consumers = refl;
        args = refl;
        returns = omega arith;
        orders = omega arith;
      };
    }
    by AtLeastOnce = record {
      place = Dead (p.state.deads + 1) cause;
      death = inr (p.state.deads + 1, refl);
      puts = record {
        index = refl;
        out = refl;
        rows = refl;
        consumers = refl;
        args = refl;
        returns = omega arith;
        orders = omega arith;
      };
    }

-- a row that goes back
record Backed (limit : Option ℕ) (row : Row) (p q : Progress) : Type 0 where
  place : Place
  ready : is_with_consumer place ≡ false
  behind : GoesBehind limit p.state.returns p.state.orders place
  puts : Puts row (record row { place = place }) p q

go_back-puts : (limit : Option ℕ) (row : Row) (p : Progress) → Backed limit row p (go_back limit row p)
go_back-puts None row p = record {
  place = Ready (Back (p.state.orders + 1));
  ready = refl;
  behind = (p.state.orders + 1, refl, omega arith);
  puts = record {
    index = refl;
    out = refl;
    rows = refl;
    consumers = refl;
    args = refl;
    returns = omega arith;
    orders = omega arith;
  };
}
go_back-puts (Some limit) row p = record {
  place = Ready (Front (p.state.returns + 1));
  ready = refl;
  behind = (p.state.returns + 1, refl, omega arith);
  puts = record {
    index = refl;
    out = refl;
    rows = refl;
    consumers = refl;
    args = refl;
    returns = omega arith;
    orders = omega arith;
  };
}

-- a message that is returned at a state dies where that passed the limit, and else goes behind
abbrev pub Returns : State → ℕ → Place → Type 0
Returns s count place =
    ((has_passed s.args.delivery_limit count ≡ true) × DiedOf DeliveryLimit place)
    ⊎ ((has_passed s.args.delivery_limit count ≡ false)
    × GoesBehind s.args.delivery_limit s.returns s.orders place)

-- what the end of its delivery makes of a row at a state
abbrev pub Turned : Outcome → State → Row → Row → Type 0
Turned Settled s row new = new ≡ record row { place = Gone gone.Settled }
Turned Returned s row new =
    (place : Place) × (new ≡ record row { count = row.count + 1; place = place }) × Returns s (row.count + 1) place
Turned Discarded s row new = (place : Place) × (new ≡ record row { place = place }) × DiedOf Rejected place

-- a state since another: its arguments are the same, and no counter of places fell
pub record IsSince (s t : State) : Type 0 where
  pub args : t.args ≡ s.args
  pub returns : s.returns ≤ t.returns
  pub orders : s.orders ≤ t.orders

behind-since : (limit : Option ℕ) (s t : State) → IsSince s t → (place : Place)
    → GoesBehind limit t.returns t.orders place → GoesBehind limit s.returns s.orders place
behind-since None s t since place behind = (behind.0, behind.1, omega (arith, behind.2, since.orders))
behind-since (Some limit) s t since place behind = (behind.0, behind.1, omega (arith, behind.2, since.returns))

turned-since : (outcome : Outcome) (s t : State) (row new : Row) → IsSince s t → Turned outcome t row new
    → Turned outcome s row new
turned-since Settled s t row new since turned = turned
turned-since Returned s t row new since (place, is, inl passed) =
    let over : has_passed s.args.delivery_limit (row.count + 1) ≡ true =
    ap (λ (a : QueueArgs). has_passed a.delivery_limit (row.count + 1)) (sym since.args) ∙ passed.0 in
    (place, is, inl (over, passed.1))
turned-since Returned s t row new since (place, is, inr within) =
    let below : has_passed s.args.delivery_limit (row.count + 1) ≡ false =
    ap (λ (a : QueueArgs). has_passed a.delivery_limit (row.count + 1)) (sym since.args) ∙ within.0 in
    let behind : GoesBehind s.args.delivery_limit s.returns s.orders place =
    subst (λ (a : QueueArgs). GoesBehind a.delivery_limit s.returns s.orders place) since.args
    (behind-since t.args.delivery_limit s t since place within.1) in
    (place, is, inr (below, behind))
turned-since Discarded s t row new since turned = turned

pub record Ending (outcome : Outcome) (row : Row) (p q : Progress) : Type 0 where
  pub new : Row
  pub turned : Turned outcome p.state row new
  pub puts : Puts row new p q

end_delivery-puts : (outcome : Outcome) (row : Row) (p : Progress) → Ending outcome row p (end_delivery outcome row p)
unfolding return_row
end_delivery-puts Settled row p = record {
  new = record row { place = Gone gone.Settled };
  turned = refl;
  puts = record {
    index = refl;
    out = refl;
    rows = refl;
    consumers = refl;
    args = refl;
    returns = omega arith;
    orders = omega arith;
  };
}
end_delivery-puts Returned row p =
    let more : Row = record row { count = row.count + 1 } in
    let limit : Option ℕ = p.state.args.delivery_limit in
    cond_both (has_passed limit more.count) (die DeliveryLimit more p) (go_back limit more p) (Ending Returned row p)
    (λ passed.
    let died = die-puts DeliveryLimit more p in
    record {
      new = record more { place = died.place };
      turned = (died.place, refl, inl (passed, died.death));
      puts = record {
        index = refl;
        out = died.puts.out;
        rows = died.puts.rows;
        consumers = died.puts.consumers;
        args = died.puts.args;
        returns = died.puts.returns;
        orders = died.puts.orders;
      };
    })
    (λ within.
    let went = go_back-puts limit more p in
    record {
      new = record more { place = went.place };
      turned = (went.place, refl, inr (within, went.behind));
      puts = record {
        index = refl;
        out = went.ready;
        rows = went.puts.rows;
        consumers = went.puts.consumers;
        args = went.puts.args;
        returns = went.puts.returns;
        orders = went.puts.orders;
      };
    })
end_delivery-puts Discarded row p =
    let died = die-puts Rejected row p in
    record {
      new = record row { place = died.place };
      turned = (died.place, refl, died.death);
      puts = died.puts;
    }

-- One message ----------------------------------------------------------------------------------------------

-- a message whose delivery has ended
pub record Left (outcome : Outcome) (s : State) (x : Row) (rows : List Row) : Type 0 where
  pub new : Row
  pub here : In new rows
  pub out : is_with_consumer new.place ≡ false
  pub turned : Turned outcome s x new

-- of rows in order a message is as it was, or its delivery has ended
pub record Goes (outcome : Outcome) (s : State) (x : Row) (p : Progress) : Type 0 where
  pub rising : Rises (indices p.state.rows)
  pub since : IsSince s p.state
  pub how : In x p.state.rows ⊎ Left outcome s x p.state.rows

goes-on : (outcome : Outcome) (s : State) (x row : Row) (p q : Progress) → Goes outcome s x p
    → In row p.state.rows → is_with_consumer row.place ≡ true → Ending outcome row p q → Goes outcome s x q
goes-on outcome s x row p q goes there is ending = record {
  rising = subst Rises (sym (ap indices puts.rows ∙ indices-put new p.state.rows)) goes.rising;
  since = record {
    args = puts.args ∙ goes.since.args;
    returns = omega (arith, goes.since.returns, puts.returns);
    orders = omega (arith, goes.since.orders, puts.orders);
  };
  how = elim (goes.how) [
    | inl here ↦ elim (cases_eq x.index.0 new.index.0) [
      | inl same ↦
          let itself : x ≡ row =
          unique x row p.state.rows goes.rising here there (same ∙ ap (λ (i : Index). i.0) puts.index) in
          inr (record {
            new = new;
            here = subst (In new) (sym puts.rows) (In-put_new new row p.state.rows there (ap (λ (i : Index). i.0)
                puts.index));
            out = puts.out;
            turned = subst (λ (r : Row). Turned outcome s r new) (sym itself)
                (turned-since outcome s p.state row new goes.since ending.turned);
          })
      | inr differ ↦ inl (subst (In x) (sym puts.rows) (In-put_other x new p.state.rows here differ))
    ]
    | inr left ↦ inr (record {
      new = left.new;
      here = subst (In left.new) (sym puts.rows)
          (In-put_other left.new new p.state.rows left.here
          (λ e. let itself : left.new ≡ row =
          unique left.new row p.state.rows goes.rising left.here there (e ∙ ap (λ (i : Index). i.0) puts.index) in
          false≢true (sym left.out ∙ ap (λ (r : Row). is_with_consumer r.place) itself ∙ is)));
      out = left.out;
      turned = left.turned;
    })
  ];
}
  where
    new : Row
    new = ending.new

    puts : Puts row new p q
    puts = ending.puts

-- One id ---------------------------------------------------------------------------------------------------

-- no row is out with a consumer under an id
abbrev pub NoneOut : ConsumerId → ℕ → List Row → Type 0
NoneOut consumer id rows = (row : Row) → In row rows → row.place ≡ Out consumer id → ⊥

-- one row at most is
abbrev pub OneOut : ConsumerId → ℕ → List Row → Type 0
OneOut consumer id rows =
    (a b : Row) → In a rows → In b rows → a.place ≡ Out consumer id → b.place ≡ Out consumer id
    → a.index.0 ≡ b.index.0

put-in : (consumer : ConsumerId) (id : ℕ) (row new x : Row) (p q : Progress) → Puts row new p q
    → In x q.state.rows → x.place ≡ Out consumer id → In x p.state.rows × (x.index.0 ≡ new.index.0 → ⊥)
put-in consumer id row new x p q puts here is =
    elim (In-put_row x new p.state.rows (subst (In x) puts.rows here)) [
      | inl same ↦
          absurd (false≢true
          (sym puts.out ∙ ap (λ (r : Row). is_with_consumer r.place) (sym same) ∙ ap is_with_consumer is))
      | inr old ↦ old
    ]

none-stays : (consumer : ConsumerId) (id : ℕ) (row new : Row) (p q : Progress) → Puts row new p q
    → NoneOut consumer id p.state.rows → NoneOut consumer id q.state.rows
none-stays consumer id row new p q puts none x here is = none x (put-in consumer id row new x p q puts here is).0 is

one-stays : (consumer : ConsumerId) (id : ℕ) (row new : Row) (p q : Progress) → Puts row new p q
    → OneOut consumer id p.state.rows → OneOut consumer id q.state.rows
one-stays consumer id row new p q puts one a b ina inb isa isb =
    one a b (put-in consumer id row new a p q puts ina isa).0 (put-in consumer id row new b p q puts inb isb).0 isa isb

none-left : (consumer : ConsumerId) (id : ℕ) (row new : Row) (p q : Progress) → Puts row new p q
    → In row p.state.rows → row.place ≡ Out consumer id → OneOut consumer id p.state.rows
    → NoneOut consumer id q.state.rows
none-left consumer id row new p q puts there at one x here is =
    let old = put-in consumer id row new x p q puts here is in
    old.1 (one x row old.0 there is at ∙ sym (ap (λ (i : Index). i.0) puts.index))

pub delivered_row-none : (consumer : ConsumerId) (id : ℕ) (rows : List Row) → NoneOut consumer id rows
    → delivered_row consumer id rows ≡ None
delivered_row-none consumer id rows none = by (delivered_row consumer id rows) refl
  where
    by : (o : Option Row) → delivered_row consumer id rows ≡ o → o ≡ None
    by None found = refl
    by (Some row) found =
        let some = delivered_row-in consumer id rows row found in absurd (none row some.0 some.1)

none-delivered : (consumer : ConsumerId) (id : ℕ) (rows : List Row) → delivered_row consumer id rows ≡ None
    → NoneOut consumer id rows
none-delivered consumer id rows none row here is =
    false≢true (sym (find-none (λ (one : Row). is_delivery consumer id one.place) rows none)
    ∙ list_any-from_in (λ (one : Row). is_delivery consumer id one.place) row rows here
    (ap (is_delivery consumer id) is ∙ and_from _ _ (same_consumer-refl consumer) (eq-eqb id id refl)))

-- Settle, Return, Discard ----------------------------------------------------------------------------------

-- what one id of a command does: nothing, since nothing is out under it, or it ends a delivery
one-id : (I : Progress → Type 0) (outcome : Outcome) (consumer : ConsumerId) (id : ℕ) (p : Progress)
    → (NoneOut consumer id p.state.rows → I p)
    → ((row : Row) (q : Progress) → In row p.state.rows → row.place ≡ Out consumer id → Ending outcome row p q → I q)
    → I (end_delivery_by outcome (delivered_row consumer id p.state.rows) p)
one-id I outcome consumer id p nothing ends = by (delivered_row consumer id p.state.rows) refl
  where
    by : (o : Option Row) → delivered_row consumer id p.state.rows ≡ o → I (end_delivery_by outcome o p)
    by None found = nothing (none-delivered consumer id p.state.rows found)
    by (Some row) found =
        let some = delivered_row-in consumer id p.state.rows row found in
        ends row (end_delivery outcome row p) some.0 some.1 (end_delivery-puts outcome row p)

-- what each id keeps, the command keeps
pub end_deliveries-keep : (I : Progress → Type 0) (outcome : Outcome) (consumer : ConsumerId) (ids : List ℕ)
    → ((p q : Progress) (id : ℕ) (row : Row) → I p → In row p.state.rows → row.place ≡ Out consumer id
    → Ending outcome row p q → I q) → (p : Progress) → I p → I (end_deliveries outcome consumer ids p)
end_deliveries-keep I outcome consumer ids keeps p holds =
    fold-keeps I
    (λ (now : Progress) (id : ℕ). end_delivery_by outcome (delivered_row consumer id now.state.rows) now)
    (λ now id holds. one-id I outcome consumer id now (λ _. holds)
    (λ row q here is ending. keeps now q id row holds here is ending)) ids p holds

-- once its ids have ended, nothing is out under one of them
all-ended : (outcome : Outcome) (consumer : ConsumerId) (ids : List ℕ) (id : ℕ) (p : Progress) → In id ids
    → OneOut consumer id p.state.rows → NoneOut consumer id (end_deliveries outcome consumer ids p).state.rows
all-ended outcome consumer [] id p within one = absurd within
all-ended outcome consumer (first ∷ ids) id p (inl same) one =
    let now : Progress = end_delivery_by outcome (delivered_row consumer first p.state.rows) p in
    let none : NoneOut consumer first now.state.rows =
    one-id (λ q. NoneOut consumer first q.state.rows) outcome consumer first p (λ none. none)
    (λ row q here is ending. none-left consumer first row ending.new p q ending.puts here is
    (subst (λ (n : ℕ). OneOut consumer n p.state.rows) same one)) in
    end_deliveries-keep (λ q. NoneOut consumer id q.state.rows) outcome consumer ids
    (λ a b other row none here is ending. none-stays consumer id row ending.new a b ending.puts none) now
    (subst (λ (n : ℕ). NoneOut consumer n now.state.rows) (sym same) none)
all-ended outcome consumer (first ∷ ids) id p (inr later) one =
    all-ended outcome consumer ids id (end_delivery_by outcome (delivered_row consumer first p.state.rows) p) later
    (one-id (λ q. OneOut consumer id q.state.rows) outcome consumer first p (λ _. one)
    (λ row q here is ending. one-stays consumer id row ending.new p q ending.puts one))

-- the row of the message afterwards
pub record Done (outcome : Outcome) (consumer : ConsumerId) (id : ℕ) (s : State) (x : Row) (rows : List Row)
    : Type 0 where
  pub rising : Rises (indices rows)
  pub none : NoneOut consumer id rows
  pub left : Left outcome s x rows

end_deliveries-done : (outcome : Outcome) (consumer : ConsumerId) (ids : List ℕ) (id : ℕ) (s : State) (x : Row)
    (p : Progress) → IsSince s p.state → In id ids → In x p.state.rows → x.place ≡ Out consumer id → Rises (indices p.state.rows)
    → OneOut consumer id p.state.rows
    → Done outcome consumer id s x (end_deliveries outcome consumer ids p).state.rows
end_deliveries-done outcome consumer ids id s x p since within here is rising one =
    let none = all-ended outcome consumer ids id p within one in
    let goes = end_deliveries-keep (Goes outcome s x) outcome consumer ids
    (λ a b other row goes there at ending.
    goes-on outcome s x row a b goes there (ap is_with_consumer at) ending) p
    (record { rising = rising; since = since; how = inl here }) in
    record {
      rising = goes.rising;
      none = none;
      left = elim (goes.how) [ inl still ↦ absurd (none x still is) | inr left ↦ left ];
    }

-- no row changes where a consumer begins to wait
wait-rows : (before : ℕ) (id : ConsumerId) (s : State) → (begin_to_wait before id s).rows ≡ s.rows
wait-rows before id s =
    cond_both _ (take_turn (consumer_of id s.consumers) s) s (λ (t : State). t.rows ≡ s.rows)
    (λ _. by (consumer_of id s.consumers)) (λ _. refl)
  where
    by : (o : Option Consumer) → (take_turn o s).rows ≡ s.rows
    by None = refl
    by (Some consumer) = refl

seat-found : (id : ConsumerId) (consumers : List Consumer) → Seat id consumers → consumer_of id consumers ≡ None → ⊥
seat-found id consumers seat none =
    false≢true (sym (find-none (λ (one : Consumer). same_consumer one.id id) consumers none)
    ∙ list_any-from_in (λ (one : Consumer). same_consumer one.id id) seat.0 consumers seat.1
    (ap (λ (i : ConsumerId). same_consumer i id) seat.2 ∙ same_consumer-refl id))

finish-done : (outcome : Outcome) (consumer : ConsumerId) (ids : List ℕ) (id : ℕ) (s : State) (x : Row) (p : Progress)
    → IsSince s p.state → In id ids → In x p.state.rows → x.place ≡ Out consumer id → Rises (indices p.state.rows)
    → OneOut consumer id p.state.rows → Seat consumer p.state.consumers
    → Done outcome consumer id s x (finish outcome consumer ids p).progress.state.rows
unfolding finish
finish-done outcome consumer ids id s x p since within here is rising one seat =
    by (consumer_of consumer p.state.consumers) refl
  where
    by : (o : Option Consumer) → consumer_of consumer p.state.consumers ≡ o
        → Done outcome consumer id s x (finish_by o outcome consumer ids p).progress.state.rows
    by None found = absurd (seat-found consumer p.state.consumers seat found)
    by (Some some) found =
        let rest : Progress = end_deliveries outcome consumer ids p in
        subst (Done outcome consumer id s x)
        (sym (wait-rows (credit_of consumer p.state.rows p.state.consumers) consumer (drop_finished rest.state)))
        (end_deliveries-done outcome consumer ids id s x p since within here is rising one)

pub act-finishes : (index : Index) (outcome : Outcome) (given : Stamp) (tag : ℕ) (ids : List ℕ) (p : Progress)
    → act index (disposition outcome given tag ids) p ≡ finish outcome (consumer_id given tag) ids p
unfolding act
act-finishes index Settled given tag ids p = refl
act-finishes index Returned given tag ids p = refl
act-finishes index Discarded given tag ids p = refl

pub act-done : (index : Index) (outcome : Outcome) (given : Stamp) (tag : ℕ) (ids : List ℕ) (id : ℕ) (s : State)
    (x : Row) (p : Progress) → IsSince s p.state → In id ids → In x p.state.rows
    → x.place ≡ Out (consumer_id given tag) id
    → Rises (indices p.state.rows) → OneOut (consumer_id given tag) id p.state.rows
    → Seat (consumer_id given tag) p.state.consumers
    → Done outcome (consumer_id given tag) id s x
    (act index (disposition outcome given tag ids) p).progress.state.rows
act-done index outcome given tag ids id s x p since within here is rising one seat =
    subst (λ (a : Acted). Done outcome (consumer_id given tag) id s x a.progress.state.rows)
    (sym (act-finishes index outcome given tag ids p))
    (finish-done outcome (consumer_id given tag) ids id s x p since within here is rising one seat)

-- an id that isn't out is passed over
end_deliveries-pass : (outcome : Outcome) (consumer : ConsumerId) (before after : List ℕ) (id : ℕ) (p : Progress)
    → NoneOut consumer id p.state.rows
    → end_deliveries outcome consumer (before ++ id ∷ after) p ≡ end_deliveries outcome consumer (before ++ after) p
end_deliveries-pass outcome consumer before after id p none =
    let next : Progress → ℕ → Progress =
    λ (now : Progress) (n : ℕ). end_delivery_by outcome (delivered_row consumer n now.state.rows) now in
    let now : Progress = end_deliveries outcome consumer before p in
    let still : NoneOut consumer id now.state.rows =
    end_deliveries-keep (λ q. NoneOut consumer id q.state.rows) outcome consumer before
    (λ a b other row none here is ending. none-stays consumer id row ending.new a b ending.puts none) p none in
    fold-append next p before (id ∷ after)
    ∙ ap (λ (o : Option Row). fold next (end_delivery_by outcome o now) after)
    (delivered_row-none consumer id now.state.rows still)
    ∙ sym (fold-append next p before after)

finish-pass : (outcome : Outcome) (consumer : ConsumerId) (before after : List ℕ) (id : ℕ) (p : Progress)
    → NoneOut consumer id p.state.rows
    → finish outcome consumer (before ++ id ∷ after) p ≡ finish outcome consumer (before ++ after) p
unfolding finish
finish-pass outcome consumer before after id p none = by (consumer_of consumer p.state.consumers)
  where
    by : (o : Option Consumer) → finish_by o outcome consumer (before ++ id ∷ after) p
        ≡ finish_by o outcome consumer (before ++ after) p
    by None = refl
    by (Some found) =
        ap (λ (q : Progress). let made : Acted = record {
          progress = leave_or_wait consumer (credit_of consumer p.state.rows p.state.consumers) q;
          answer = (finish_by (Some found) outcome consumer before p).answer;
        } in made) (end_deliveries-pass outcome consumer before after id p none)

pub act-passes : (index : Index) (outcome : Outcome) (given : Stamp) (tag : ℕ) (before after : List ℕ) (id : ℕ)
    (p : Progress) → NoneOut (consumer_id given tag) id p.state.rows
    → act index (disposition outcome given tag (before ++ id ∷ after)) p
    ≡ act index (disposition outcome given tag (before ++ after)) p
act-passes index outcome given tag before after id p none =
    act-finishes index outcome given tag (before ++ id ∷ after) p
    ∙ finish-pass outcome (consumer_id given tag) before after id p none
    ∙ sym (act-finishes index outcome given tag (before ++ after) p)

-- Down -----------------------------------------------------------------------------------------------------

return_all-goes : (s : State) (x : Row) (consumer : Consumer) (p : Progress) → Goes Returned s x p
    → Goes Returned s x (return_all consumer p)
unfolding return_all
return_all-goes s x consumer p goes =
    while_next-keeps (Goes Returned s x) (return_first consumer.id)
    (λ now next goes made. one now next (first_delivery consumer.id now.state.rows) refl goes made) _ p goes
  where
    one : (now next : Progress) (o : Option Row) → first_delivery consumer.id now.state.rows ≡ o
        → Goes Returned s x now → return_by o now ≡ Some next → Goes Returned s x next
    one now next None found goes made = absurd cc
    one now next (Some row) found goes made =
        let some = first_delivery-in consumer.id now.state.rows row found in
        let at = out-place consumer.id row.place some.1 in
        let same : end_delivery Returned row now ≡ next = cc in
        subst (Goes Returned s x) same
        (goes-on Returned s x row now (end_delivery Returned row now) goes some.0 (ap is_with_consumer at.1)
        (end_delivery-puts Returned row now))

pub return_session-goes : (s : State) (x : Row) (session : SessionId) (consumers : List Consumer)
    (p : Progress) → Goes Returned s x p → Goes Returned s x (return_session session consumers p)
return_session-goes s x session consumers p goes =
    fold-keeps (Goes Returned s x)
    (λ (now : Progress) (consumer : Consumer). if is_of_session session consumer then return_all consumer now
    else now)
    (λ now consumer goes. cond_both (is_of_session session consumer) (return_all consumer now) now
    (Goes Returned s x) (λ _. return_all-goes s x consumer now goes) (λ _. goes)) consumers p goes
