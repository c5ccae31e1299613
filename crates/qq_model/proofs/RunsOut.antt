-- No loop of a step is cut short: where it ends there is no next step.
use Rattle.std.proofs.Common.{◌≡◌, ℕ, ◌+◌, ◌<◌, Bool, true, false, ◌&&◌, Option, Some, None, List, [], ◌∷◌, ◌++◌, count_by, nat_lt, refl, sym, ap, ◌∙◌, subst, arith, if◌then◌else◌}
use Rattle.std.specs.Option.{is_some}
use Rattle.std.proofs.lemmas.Bool.{eq-eqb, ltb-true, lt-ltb, le-ltb}
use Rattle.qq_base.specs.declared.ids.ConsumerId.{ConsumerId}
use Rattle.qq_entry.specs.declared.message.Reason.{Reason}
use Rattle.qq_entry.specs.declared.message.Reason.TheVariants.{MaxLen, DeliveryLimit}
use Rattle.qq_entry.specs.declared.audit.Effect.TheVariants.{Offer}
use Rattle.qq_entry.specs.declared.queue.Strategy.{Strategy}
use Rattle.qq_entry.specs.declared.queue.Strategy.TheVariants.{Absent, AtMostOnce, AtLeastOnce}
use Rattle.qq_model.specs.declared.TheConstants.{MOST_GIVEN}
use Rattle.qq_model.specs.declared.place.Place.{Place}
use Rattle.qq_model.specs.declared.place.Place.TheVariants.{Ready, Out, Dead, Gone}
use Rattle.qq_model.specs.declared.place.GoneReason.TheVariants.{Died}
use Rattle.qq_model.specs.declared.place.Key.TheVariants.{Front, Back}
use Rattle.qq_model.specs.declared.place.Row.{Row}
use Rattle.qq_model.specs.declared.consumer.Consumer.{Consumer}
use Rattle.qq_model.specs.Choice.{next_message, next_consumer, is_out_to, out_count}
use Rattle.qq_model.specs.Limits.{is_ready, is_dead, ready_count, dead_count, is_over_limit, has_passed}
use Rattle.qq_model.specs.Changes.{Progress, put_row, message_of, die_by, die, go_back, return_row}
use Rattle.qq_model.specs.Commands.{first_delivery, return_by, return_first, return_all}
use Rattle.qq_model.specs.Serving.{deliver, deliver_by, check_out, check_out_all, drop_head_by, drop_head, keep_limits, dead_number, next_dead, given_count, offer_at, offer_by, give_dead, give_all_dead}
use Rattle.qq_model.proofs.Choices.{is_some-if, next_message-in, first_delivery-in, next_dead-in}
use Rattle.qq_model.proofs.Loops.{while_next-runs_out}
use Rattle.qq_model.proofs.Counting.{put_row-less, count_by-fewer, count_by-less}

-- Ready messages -------------------------------------------------------------------------------------

-- the next message is ready no more
next_message-falls : (rows : List Row) (row new : Row) → next_message rows ≡ Some row → new.index.0 ≡ row.index.0
    → is_ready new.place ≡ false → ready_count (put_row new rows) < ready_count rows
next_message-falls rows row new e same out =
    let found = next_message-in rows row e in
    put_row-less (λ (one : Row). is_ready one.place) row new out
    (eq-eqb row.index.0 new.index.0 (sym same)) rows found.0 found.1

-- the ready messages are fewer
abbrev Fewer : Progress → Progress → Type 0
Fewer p after = ready_count after.state.rows < ready_count p.state.rows

deliver_by-falls : (o : Option Row) (c : Option Consumer) (p after : Progress)
    → next_message p.state.rows ≡ o → deliver_by o c p ≡ Some after → Fewer p after
deliver_by-falls None c p after e made = cc
deliver_by-falls (Some row) None p after e made = cc
deliver_by-falls (Some row) (Some consumer) p after e made =
    let same : deliver row consumer p ≡ after = cc in
    let new : Row = record row { place = Out consumer.id consumer.next_id } in
    subst (Fewer p) same (next_message-falls p.state.rows row new e refl refl)

check_out-falls : (p after : Progress) → check_out p ≡ Some after → Fewer p after
unfolding check_out
check_out-falls p after made =
    deliver_by-falls (next_message p.state.rows)
    (next_consumer p.state.args.single_active p.state.rows p.state.consumers) p after refl made

pub check_out_all-runs_out : (p : Progress) → check_out (check_out_all p) ≡ None
unfolding check_out_all
check_out_all-runs_out p =
    while_next-runs_out (λ (now : Progress). ready_count now.state.rows) check_out check_out-falls
    (ready_count p.state.rows) p (omega arith)

-- Limits ---------------------------------------------------------------------------------------------

die_by-falls : (strategy : Strategy) (reason : Reason) (row : Row) (p : Progress)
    → next_message p.state.rows ≡ Some row → Fewer p (die_by strategy reason row p)
die_by-falls Absent reason row p e =
    next_message-falls p.state.rows row (record row { place = Gone (Died reason) }) e refl refl
die_by-falls AtMostOnce reason row p e =
    next_message-falls p.state.rows row (record row { place = Gone (Died reason) }) e refl refl
die_by-falls AtLeastOnce reason row p e =
    next_message-falls p.state.rows row (record row { place = Dead (p.state.deads + 1) reason }) e refl refl

drop_head_by-falls : (o : Option Row) (p after : Progress)
    → next_message p.state.rows ≡ o → drop_head_by o p ≡ Some after → Fewer p after
unfolding die
drop_head_by-falls None p after e made = cc
drop_head_by-falls (Some row) p after e made =
    let same : die MaxLen row p ≡ after = cc in
    subst (Fewer p) same (die_by-falls p.state.args.strategy MaxLen row p e)

drop_head-falls : (p after : Progress) → drop_head p ≡ Some after → Fewer p after
unfolding drop_head
drop_head-falls p after made = by (is_over_limit p.state.args p.state.rows) made
  where
    by : (over : Bool) → (if over then drop_head_by (next_message p.state.rows) p else None) ≡ Some after
        → Fewer p after
    by true made = drop_head_by-falls (next_message p.state.rows) p after refl made
    by false made = cc

pub keep_limits-runs_out : (p : Progress) → drop_head (keep_limits p) ≡ None
unfolding keep_limits
keep_limits-runs_out p =
    while_next-runs_out (λ (now : Progress). ready_count now.state.rows) drop_head drop_head-falls
    (ready_count p.state.rows) p (omega arith)

-- Returns at the end of a session --------------------------------------------------------------------

first_delivery-falls : (consumer : ConsumerId) (rows : List Row) (row new : Row)
    → first_delivery consumer rows ≡ Some row → new.index.0 ≡ row.index.0 → is_out_to consumer new.place ≡ false
    → out_count consumer (put_row new rows) < out_count consumer rows
first_delivery-falls consumer rows row new e same out =
    let found = first_delivery-in consumer rows row e in
    put_row-less (λ (one : Row). is_out_to consumer one.place) row new out
    (eq-eqb row.index.0 new.index.0 (sym same)) rows found.0 found.1

-- a consumer's deliveries are fewer
abbrev FewerOut : ConsumerId → Progress → Progress → Type 0
FewerOut consumer p after = out_count consumer after.state.rows < out_count consumer p.state.rows

die_by-out : (consumer : ConsumerId) (strategy : Strategy) (reason : Reason) (row more : Row) (p : Progress)
    → first_delivery consumer p.state.rows ≡ Some row → more.index.0 ≡ row.index.0
    → FewerOut consumer p (die_by strategy reason more p)
die_by-out consumer Absent reason row more p e same =
    first_delivery-falls consumer p.state.rows row (record more { place = Gone (Died reason) }) e same refl
die_by-out consumer AtMostOnce reason row more p e same =
    first_delivery-falls consumer p.state.rows row (record more { place = Gone (Died reason) }) e same refl
die_by-out consumer AtLeastOnce reason row more p e same =
    first_delivery-falls consumer p.state.rows row (record more { place = Dead (p.state.deads + 1) reason }) e same
    refl

go_back-out : (consumer : ConsumerId) (limit : Option ℕ) (row more : Row) (p : Progress)
    → first_delivery consumer p.state.rows ≡ Some row → more.index.0 ≡ row.index.0
    → FewerOut consumer p (go_back limit more p)
go_back-out consumer None row more p e same =
    let new : Row = record more { place = Ready (Back (p.state.orders + 1)) } in
    first_delivery-falls consumer p.state.rows row new e same refl
go_back-out consumer (Some limit) row more p e same =
    let new : Row = record more { place = Ready (Front (p.state.returns + 1)) } in
    first_delivery-falls consumer p.state.rows row new e same refl

return_row-out : (consumer : ConsumerId) (row : Row) (p : Progress)
    → first_delivery consumer p.state.rows ≡ Some row → FewerOut consumer p (return_row row p)
unfolding return_row die
return_row-out consumer row p e = by (has_passed p.state.args.delivery_limit (row.count + 1))
  where
    more : Row
    more = record row { count = row.count + 1 }

    by : (too_often : Bool)
        → FewerOut consumer p
        (if too_often then die DeliveryLimit more p else go_back p.state.args.delivery_limit more p)
    by true = die_by-out consumer p.state.args.strategy DeliveryLimit row more p e refl
    by false = go_back-out consumer p.state.args.delivery_limit row more p e refl

return_by-falls : (consumer : ConsumerId) (o : Option Row) (p after : Progress)
    → first_delivery consumer p.state.rows ≡ o → return_by o p ≡ Some after → FewerOut consumer p after
return_by-falls consumer None p after e made = cc
return_by-falls consumer (Some row) p after e made =
    let same : return_row row p ≡ after = cc in
    subst (FewerOut consumer p) same (return_row-out consumer row p e)

pub return_all-runs_out : (consumer : Consumer) (p : Progress) → return_first consumer.id (return_all consumer p) ≡
    None
unfolding return_all
return_all-runs_out consumer p =
    while_next-runs_out (λ (now : Progress). out_count consumer.id now.state.rows) (return_first consumer.id)
    (λ now after made. return_by-falls consumer.id (first_delivery consumer.id now.state.rows) now after refl made)
    (out_count consumer.id p.state.rows) p (omega arith)

-- Dead messages --------------------------------------------------------------------------------------

-- whether a place is dead, with a number above this one
abbrev is_above : ℕ → Place → Bool
is_above given place = is_some (dead_number given place)

above-dead : (given : ℕ) (place : Place) → is_above given place ≡ true → is_dead place ≡ true
above-dead given (Dead number reason) h = refl
above-dead given _ h = h

above-lower : (given more : ℕ) → given < more → (place : Place) → is_above more place ≡ true
    → is_above given place ≡ true
above-lower given more lt (Ready key) h = h
above-lower given more lt (Out consumer id) h = h
above-lower given more lt (Dead number reason) h =
    let above : more < number = ltb-true more number (sym (is_some-if (nat_lt more number) number) ∙ h) in
    is_some-if (nat_lt given number) number ∙ lt-ltb given number (omega arith)
above-lower given more lt (Gone reason) h = h

-- how many dead messages the worker wasn't given
abbrev above_count : Progress → ℕ
above_count p = count_by (λ (row : Row). is_above p.state.given row.place) p.state.rows

-- fewer dead messages are left to give
abbrev FewerAbove : Progress → Progress → Type 0
FewerAbove p after = above_count after < above_count p

abbrev offer : ℕ → Reason → Row → Progress → Progress
offer number reason row p =
    record {
      state = record (p.state) { given = number };
      effects = p.effects ++ Offer number reason (message_of p.state.rows p.state.messages row) ∷ [];
    }

offer-falls : (number : ℕ) (reason : Reason) (row : Row) (p : Progress) → row.place ≡ Dead number reason
    → next_dead p.state.given p.state.rows ≡ Some row → FewerAbove p (offer number reason row p)
offer-falls number reason row p at e =
    let given : ℕ = p.state.given in
    let found = next_dead-in given p.state.rows row e in
    let more : given < number =
    ltb-true given number (sym (is_some-if (nat_lt given number) number) ∙ sym (ap (is_above given) at) ∙ found.1) in
    let out : is_above number row.place ≡ false =
    ap (is_above number) at ∙ is_some-if (nat_lt number number) number ∙ le-ltb number number (omega arith) in
    count_by-less (λ (one : Row). is_above given one.place) (λ (one : Row). is_above number one.place)
    (λ one. above-lower given number more one.place) row p.state.rows found.0 found.1 out

offer_at-falls : (place : Place) (row : Row) (p after : Progress) → row.place ≡ place
    → next_dead p.state.given p.state.rows ≡ Some row → offer_at place row p ≡ Some after → FewerAbove p after
offer_at-falls (Ready key) row p after at e made = cc
offer_at-falls (Out consumer id) row p after at e made = cc
offer_at-falls (Dead number reason) row p after at e made =
    let same : offer number reason row p ≡ after = cc in
    subst (FewerAbove p) same (offer-falls number reason row p at e)
offer_at-falls (Gone reason) row p after at e made = cc

offer_by-falls : (o : Option Row) (p after : Progress)
    → next_dead p.state.given p.state.rows ≡ o → offer_by o p ≡ Some after → FewerAbove p after
offer_by-falls None p after e made = cc
offer_by-falls (Some row) p after e made = offer_at-falls row.place row p after refl e made

give_dead-falls : (p after : Progress) → give_dead p ≡ Some after → FewerAbove p after
unfolding give_dead
give_dead-falls p after made =
    by (nat_lt 0 p.state.attached && nat_lt (given_count p.state.given p.state.rows) MOST_GIVEN) made
  where
    dead : Option Row
    dead = next_dead p.state.given p.state.rows

    by : (may : Bool) → (if may then offer_by dead p else None) ≡ Some after → FewerAbove p after
    by true made = offer_by-falls dead p after refl made
    by false made = cc

pub give_all_dead-runs_out : (p : Progress) → give_dead (give_all_dead p) ≡ None
unfolding give_all_dead
give_all_dead-runs_out p =
    while_next-runs_out above_count give_dead give_dead-falls (dead_count p.state.rows) p
    (count_by-fewer (λ (row : Row). is_dead row.place) (λ (row : Row). is_above p.state.given row.place)
    (λ row. above-dead p.state.given row.place) p.state.rows)
