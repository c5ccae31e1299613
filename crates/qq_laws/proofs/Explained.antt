-- What a command itself does to each message, and what the deliveries do.
use Rattle.std.proofs.Common.{◌≡◌, ℕ, ◌+◌, ◌<◌, ◌≤◌, ◌⊎◌, true, false, List, [], ◌∷◌, Option, Some, None, map, refl, sym, ap, ◌∙◌, subst, inl, inr, arith, if◌then◌else◌}
use Rattle.std.specs.Prelude.{nat_eq}
use Rattle.std.specs.List.{AllZip}
use Rattle.std.proofs.lemmas.Bool.{false≢true, cases_Bool, cond-true, cond-false, eqb-true}
use Rattle.qq_base.specs.declared.ids.Index.{Index}
use Rattle.qq_base.specs.declared.ids.ConsumerId.{ConsumerId}
use Rattle.qq_entry.specs.declared.message.Reason.{Reason}
use Rattle.qq_entry.specs.declared.message.Reason.TheVariants.{Rejected, DeliveryLimit}
use Rattle.qq_entry.specs.declared.command.Command.{Command}
use Rattle.qq_entry.specs.declared.command.Command.TheVariants.{DeadSettle}
use Rattle.qq_entry.specs.declared.queue.QueueArgs.{QueueArgs}
use Rattle.qq_entry.specs.declared.queue.Strategy.{Strategy}
use Rattle.qq_entry.specs.declared.queue.Strategy.TheVariants.{Absent, AtMostOnce, AtLeastOnce}
use Rattle.qq_model.specs.declared.place.GoneReason.TheVariants as gone
use Rattle.qq_model.specs.declared.place.Place.TheVariants.{Out, Gone}
use Rattle.qq_model.specs.declared.place.Row.{Row}
use Rattle.qq_model.specs.declared.consumer.Consumer.{Consumer}
use Rattle.qq_model.specs.State.{State, Sessions}
use Rattle.qq_model.specs.Limits.{is_ready, is_dead, is_with_consumer, has_passed}
use Rattle.qq_model.specs.Changes.{Progress, put_row}
use Rattle.qq_model.specs.Commands.{purge_row, act}
use Rattle.qq_model.specs.Serving.{check_out_all}
use Rattle.qq_model.specs.Reasons.{is_enqueue, is_get, is_discard, is_purge, is_dead_settle, may_go_back, settles_dead}
use Rattle.qq_base.proofs.Lists.{In}
use Rattle.qq_model.proofs.CarryOut.{check_out_all-keeps}
use Rattle.qq_model.proofs.Choices.{next_message-in}
use Rattle.qq_model.proofs.Indices.{Rises, indices, unique}
use Rattle.qq_model.proofs.InOrder.{indices-put, indices-purged}
use Rattle.qq_model.proofs.Lists.{AllZip-map_second}
use Rattle.std.specs.Prelude.{IfSome}
use Rattle.qq_laws.specs.Turns.{IsFirstMessage}
use Rattle.qq_laws.specs.Explains.{death_place, IsDeath, last_key, returned_key, DisposesOf, ActsOn, IsServed}
use Rattle.qq_laws.specs.Explains.DisposesOf.{IsSettled, IsDiscarded, GoesBack, PassesLimit, IsDeadLettered}
use Rattle.qq_laws.specs.Explains.ActsOn.{Stays, IsGot, IsPurged, IsEnded}
use Rattle.qq_laws.proofs.MessageChanges.{Ended, KeepsMessages, act-messages}
use Rattle.qq_laws.proofs.Turns.{first_is_next}

-- Lists of rows, place by place ------------------------------------------------------------------------

-- each row is changed by itself
pub zip-mapped : (R : Row → Row → Type 0) (f : Row → Row) (rows : List Row) → ((x : Row) → In x rows → R x (f x))
    → AllZip R rows (map f rows)
zip-mapped R f [] each = tt
zip-mapped R f (row ∷ rows) each = (each row (inl refl), zip-mapped R f rows (λ x later. each x (inr later)))

pub zip-itself : (R : Row → Row → Type 0) (rows : List Row) → ((x : Row) → R x x) → AllZip R rows rows
zip-itself R [] same = tt
zip-itself R (row ∷ rows) same = (same row, zip-itself R rows same)

-- of rising rows one becomes another
pub zip-put : (R : Row → Row → Type 0) (first rows : List Row) (old new : Row) → AllZip R first rows
    → Rises (indices rows) → In old rows → new.index ≡ old.index → ((x : Row) → R x old → R x new)
    → AllZip R first (put_row new rows)
zip-put R first rows old new zipped rising here index change =
    AllZip-map_second R (λ (row : Row). if nat_eq row.index.0 new.index.0 then new else row) first rows zipped
    (λ x y iny r. by x y iny r (cases_Bool (nat_eq y.index.0 new.index.0)))
  where
    by : (x y : Row) → In y rows → R x y → (nat_eq y.index.0 new.index.0 ≡ true)
        ⊎ (nat_eq y.index.0 new.index.0 ≡ false) → R x (if nat_eq y.index.0 new.index.0 then new else y)
    by x y iny r (inl is) =
        let same : y ≡ old = unique y old rows rising iny here (eqb-true _ _ is ∙ ap (λ (i : Index). i.0) index) in
        subst (R x) (sym (cond-true _ new y is)) (change x (subst (R x) same r))
    by x y iny r (inr is) = subst (R x) (sym (cond-false _ new y is)) r

-- What has ended ---------------------------------------------------------------------------------------

pub death-ready : (strategy : Strategy) (n : ℕ) (cause : Reason)
    → is_ready (death_place strategy n cause) ≡ false
death-ready Absent n cause = refl
death-ready AtMostOnce n cause = refl
death-ready AtLeastOnce n cause = refl

death-out : (strategy : Strategy) (n : ℕ) (cause : Reason)
    → is_with_consumer (death_place strategy n cause) ≡ false
death-out Absent n cause = refl
death-out AtMostOnce n cause = refl
death-out AtLeastOnce n cause = refl

pub ends-index : {s : State} {command : Command} {old new : Row} → DisposesOf s command old new → new.index ≡ old.index
ends-index (IsSettled consumer id is settles ends made) = ap (λ (r : Row). r.index) made
ends-index (IsDiscarded consumer id place is discards ends death made) = ap (λ (r : Row). r.index) made
ends-index (GoesBack consumer id key is back ends within at made) = ap (λ (r : Row). r.index) made
ends-index (PassesLimit consumer id place is back ends passed death made) = ap (λ (r : Row). r.index) made
ends-index (IsDeadLettered number cause is settles given made) = ap (λ (r : Row). r.index) made

pub ends-out : {s : State} {command : Command} {old new : Row} → DisposesOf s command old new
    → is_with_consumer new.place ≡ false
ends-out (IsSettled consumer id is settles ends made) = ap (λ (r : Row). is_with_consumer r.place) made
ends-out {s = s} (IsDiscarded consumer id place is discards ends death made) =
    ap (λ (r : Row). is_with_consumer r.place) made ∙ ap is_with_consumer death.1
    ∙ death-out s.args.strategy death.0 _
ends-out (GoesBack consumer id key is back ends within at made) = ap (λ (r : Row). is_with_consumer r.place) made
ends-out {s = s} (PassesLimit consumer id place is back ends passed death made) =
    ap (λ (r : Row). is_with_consumer r.place) made ∙ ap is_with_consumer death.1
    ∙ death-out s.args.strategy death.0 _
ends-out (IsDeadLettered number cause is settles given made) = ap (λ (r : Row). is_with_consumer r.place) made

dead_settle-alone : (command : Command) (attached number : ℕ) → settles_dead command attached number ≡ true
    → (is_dead_settle command ≡ true) × (is_discard command ≡ false) × (may_go_back command ≡ false)
dead_settle-alone (DeadSettle term done) attached number settles = (refl, refl, refl)
dead_settle-alone _ attached number settles = absurd (false≢true settles)

-- what a command has moved isn't with a consumer, and a dead letter that it has moved is dead no more
moved-out : {s : State} {command : Command} {x old : Row} → ActsOn s command x old
    → (old ≡ x) ⊎ (is_with_consumer old.place ≡ false)
moved-out (Stays same) = inl same
moved-out (IsGot gets first made) = inr (ap (λ (r : Row). is_with_consumer r.place) made)
moved-out (IsPurged purges ready made) = inr (ap (λ (r : Row). is_with_consumer r.place) made)
moved-out (IsEnded ends) = inr (ends-out ends)

moved-dead : {s : State} {command : Command} {x old : Row} → is_discard command ≡ false → may_go_back command ≡ false
    → ActsOn s command x old → (old ≡ x) ⊎ (is_dead old.place ≡ false)
moved-dead quiet stays (Stays same) = inl same
moved-dead quiet stays (IsGot gets first made) = inr (ap (λ (r : Row). is_dead r.place) made)
moved-dead quiet stays (IsPurged purges ready made) = inr (ap (λ (r : Row). is_dead r.place) made)
moved-dead quiet stays (IsEnded (IsSettled consumer id is settles ends made)) =
    inr (ap (λ (r : Row). is_dead r.place) made)
moved-dead quiet stays (IsEnded (IsDiscarded consumer id place is discards ends death made)) =
    absurd (false≢true (sym quiet ∙ discards))
moved-dead quiet stays (IsEnded (GoesBack consumer id key is back ends within at made)) =
    inr (ap (λ (r : Row). is_dead r.place) made)
moved-dead quiet stays (IsEnded (PassesLimit consumer id place is back ends passed death made)) =
    absurd (false≢true (sym stays ∙ back))
moved-dead quiet stays (IsEnded (IsDeadLettered number cause is settles given made)) =
    inr (ap (λ (r : Row). is_dead r.place) made)

-- what ends wasn't moved before by the same command
unmoved : {s t : State} {command : Command} {x old new : Row} → ActsOn s command x old → DisposesOf t command old new
    → old ≡ x
unmoved {t = t} {command = command} {x = x} {old = old} {new = new} acted ends = by ends
  where
    out : (consumer : ConsumerId) (id : ℕ) → old.place ≡ Out consumer id → old ≡ x
    out consumer id is = elim (moved-out acted) [
      | inl same ↦ same
      | inr other ↦ absurd (false≢true (sym other ∙ ap is_with_consumer is))
    ]

    by : DisposesOf t command old new → old ≡ x
    by (IsSettled consumer id is settles ends made) = out consumer id is
    by (IsDiscarded consumer id place is discards ends death made) = out consumer id is
    by (GoesBack consumer id key is back ends within at made) = out consumer id is
    by (PassesLimit consumer id place is back ends passed death made) = out consumer id is
    by (IsDeadLettered number cause is settles given made) =
        let alone = dead_settle-alone command t.attached number settles in
        elim (moved-dead alone.1 alone.2 acted) [
          | inl same ↦ same
          | inr other ↦ absurd (false≢true (sym other ∙ ap is_dead is))
        ]

last-rises : (limit : Option ℕ) (s t : State) → s.orders ≤ t.orders → s.returns ≤ t.returns
    → last_key limit s ≤ last_key limit t
last-rises None s t orders returns = orders
last-rises (Some most) s t orders returns = returns

-- the reason held at an earlier state too, with the same arguments, and the same worker for a dead letter
pub ends-of : {s t : State} {command : Command} {old new : Row} → t.args ≡ s.args → s.orders ≤ t.orders
    → s.returns ≤ t.returns
    → (is_dead_settle command ≡ true → (t.attached ≡ s.attached) × (t.given ≡ s.given)) → DisposesOf t command old new
    → DisposesOf s command old new
ends-of args orders returns worker (IsSettled consumer id is settles ends made) =
    IsSettled consumer id is settles ends made
ends-of args orders returns worker (IsDiscarded consumer id place is discards ends death made) =
    IsDiscarded consumer id place is discards ends
    (subst (λ (a : QueueArgs). IsDeath a Rejected place) args death) made
ends-of {s = s} {t = t} {old = old} args orders returns worker (GoesBack consumer id key is back ends within at made) =
    let rises = last-rises t.args.delivery_limit s t orders returns in
    let above : last_key t.args.delivery_limit s < at.0 = omega (arith, rises, at.1) in
    GoesBack consumer id key is back ends
    (subst (λ (a : QueueArgs). has_passed a.delivery_limit (old.count + 1) ≡ false) args within) (
      at.0,
      subst (λ (a : QueueArgs). last_key a.delivery_limit s < at.0) args above,
      subst (λ (a : QueueArgs).
          key ≡ returned_key a.delivery_limit at.0) args at.2,
    ) made
ends-of {old = old} args orders returns worker (PassesLimit consumer id place is back ends passed death made) =
    PassesLimit consumer id place is back ends
    (subst (λ (a : QueueArgs). has_passed a.delivery_limit (old.count + 1) ≡ true) args passed)
    (subst (λ (a : QueueArgs). IsDeath a DeliveryLimit place) args death) made
ends-of {s = s} {t = t} {command = command} args orders returns worker
    (IsDeadLettered number cause is settles given made) =
    let same = worker (dead_settle-alone command t.attached number settles).0 in
    IsDeadLettered number cause is (subst (λ n. settles_dead command n number ≡ true) same.0 settles)
    (subst (λ n. number ≤ n) same.1 given) made

-- What a command itself does ---------------------------------------------------------------------------

-- what was done so far to the messages of s
pub record Account (s : State) (command : Command) (p : Progress) : Type 0 where
  pub rising : Rises (indices p.state.rows)
  pub args : p.state.args ≡ s.args
  pub orders : s.orders ≤ p.state.orders
  pub returns : s.returns ≤ p.state.returns
  pub worker : is_dead_settle command ≡ true → (p.state.attached ≡ s.attached) × (p.state.given ≡ s.given)
  pub rows : AllZip (ActsOn s command) s.rows p.state.rows

Account-ends : (s : State) (command : Command) (p q : Progress) (old : Row) → Account s command p
    → Ended command p q old → Account s command q
Account-ends s command p q old account ended =
    let index = ends-index ended.why in record {
      rising = subst Rises (sym (ap indices ended.rows ∙ indices-put ended.new p.state.rows)) account.rising;
      args = ended.args ∙ account.args;
      orders = omega (arith, ended.orders, account.orders);
      returns = omega (arith, ended.returns, account.returns);
      worker = λ is. (ended.attached ∙ (account.worker is).0, ended.given ∙ (account.worker is).1);
      rows =
          subst (AllZip (ActsOn s command) s.rows) (sym ended.rows)
          (zip-put (ActsOn s command) s.rows p.state.rows old ended.new account.rows account.rising ended.here index
          (λ x acted. let same : old ≡ x = unmoved acted ended.why in
          IsEnded (subst (λ (r : Row). DisposesOf s command r ended.new) same
          (ends-of account.args account.orders account.returns account.worker ended.why))));
    }

Account-keeps : (s : State) (command : Command) (x : Sessions) → Rises (indices s.rows)
    → KeepsMessages command (record { state = record s { sessions = x }; effects = [] }) (Account s command)
Account-keeps s command x rising = record {
  ends = Account-ends s command;
  same = λ p q account same. record {
    rising = subst (λ (rows : List Row). Rises (indices rows)) (sym same.rows) account.rising;
    args = same.args ∙ account.args;
    orders = omega (arith, same.orders, account.orders);
    returns = omega (arith, same.returns, account.returns);
    worker = λ is. (same.attached ∙ (account.worker is).0, same.given ∙ (account.worker is).1);
    rows = subst (AllZip (ActsOn s command) s.rows) (sym same.rows) account.rows;
  };
  takes = λ row gets found account.
      let new : Row = record row { place = Gone gone.Got } in
      let here = (next_message-in s.rows row found).0 in
      let first : IsFirstMessage s.rows row =
      subst (λ o. IfSome o (IsFirstMessage s.rows)) found (first_is_next s.rows) in
      record {
        rising = subst Rises (sym (indices-put new s.rows)) rising;
        args = refl;
        orders = omega arith;
        returns = omega arith;
        worker = λ is. (refl, refl);
        rows = zip-mapped (ActsOn s command) (λ (one : Row). if nat_eq one.index.0 new.index.0 then new else one) s.rows
            (λ one there. taken one there row new here gets first refl (cases_Bool (nat_eq one.index.0 new.index.0)));
      };
  purges = λ purges account. record {
    rising = subst Rises (sym (indices-purged s.rows)) rising;
    args = refl;
    orders = omega arith;
    returns = omega arith;
    worker = λ is. (refl, refl);
    rows = zip-mapped (ActsOn s command) purge_row s.rows (λ one there. purged one purges (cases_Bool (is_ready one.place)));
  };
  attaches = λ term is greater account. record {
    rising = rising;
    args = refl;
    orders = omega arith;
    returns = omega arith;
    worker = λ settles. absurd (false≢true (ap is_dead_settle (sym is) ∙ settles));
    rows = zip-itself (ActsOn s command) s.rows (λ one. Stays refl);
  };
}
  where
    taken : (one : Row) → In one s.rows → (row new : Row) → In row s.rows → is_get command ≡ true
        → IsFirstMessage s.rows row → new ≡ record row { place = Gone gone.Got }
        → (nat_eq one.index.0 new.index.0 ≡ true) ⊎ (nat_eq one.index.0 new.index.0 ≡ false)
        → ActsOn s command one (if nat_eq one.index.0 new.index.0 then new else one)
    taken one there row new here gets first made (inl is) =
        let same : one ≡ row =
        unique one row s.rows rising there here (eqb-true _ _ is ∙ ap (λ (r : Row). r.index.0) made) in
        subst (ActsOn s command one) (sym (cond-true _ new one is))
        (subst (λ (r : Row). ActsOn s command r new) (sym same) (IsGot gets first made))
    taken one there row new here gets first made (inr other) =
        subst (ActsOn s command one) (sym (cond-false _ new one other)) (Stays refl)

    purged : (one : Row) → is_purge command ≡ true → (is_ready one.place ≡ true) ⊎ (is_ready one.place ≡ false)
        → ActsOn s command one (purge_row one)
    purged one purges (inl ready) =
        subst (ActsOn s command one) (sym (cond-true _ (record one { place = Gone gone.Purged }) one ready))
        (IsPurged purges ready refl)
    purged one purges (inr other) =
        subst (ActsOn s command one) (sym (cond-false _ (record one { place = Gone gone.Purged }) one other))
        (Stays refl)

pub act-account : (s : State) (x : Sessions) (index : Index) (command : Command) → is_enqueue command ≡ false
    → Rises (indices s.rows)
    → Account s command (act index command (record { state = record s { sessions = x }; effects = [] })).progress
act-account s x index command none rising =
    act-messages {J = Account s command} index command
    (record { state = record s { sessions = x }; effects = [] }) none (Account-keeps s command x rising) (record {
      rising = rising;
      args = refl;
      orders = omega arith;
      returns = omega arith;
      worker = λ is. (refl, refl);
      rows = zip-itself (ActsOn s command) s.rows (λ one. Stays refl);
    })

-- What is delivered ------------------------------------------------------------------------------------

record Served (first : List Row) (p : Progress) : Type 0 where
  rising : Rises (indices p.state.rows)
  rows : AllZip IsServed first p.state.rows

pub checked-served : (p : Progress) → Rises (indices p.state.rows)
    → AllZip IsServed p.state.rows (check_out_all p).state.rows
checked-served p rising =
    (check_out_all-keeps (Served p.state.rows) (λ now row consumer served found next.
    let new : Row = record row { place = Out consumer.id consumer.next_id } in
    let some = next_message-in now.state.rows row found in
    record {
      rising = subst Rises (sym (indices-put new now.state.rows)) served.rising;
      rows =
          zip-put IsServed p.state.rows now.state.rows row new served.rows served.rising some.0 refl
          (λ x was. by x row consumer some.1 was);
    }) p (record { rising = rising; rows = zip-itself IsServed p.state.rows (λ one. inl refl) })).rows
  where
    by : (x row : Row) (consumer : Consumer) → is_ready row.place ≡ true → IsServed x row
        → IsServed x (record row { place = Out consumer.id consumer.next_id })
    by x row consumer ready (inl same) = inr (
      consumer.id,
      consumer.next_id,
      ap (λ (r : Row). is_ready r.place) (sym same) ∙ ready,
      ap (λ (r : Row). let new : Row = record r { place = Out consumer.id consumer.next_id } in new) same,
    )
    by x row consumer ready (inr was) =
        absurd (false≢true (ap (λ (r : Row). is_ready r.place) (sym was.3) ∙ ready))
