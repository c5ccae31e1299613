-- An entry counts each message that it returns once, and no other.
use Rattle.std.proofs.Common.{◌≡◌, ℕ, zero, suc, ◌+◌, ◌⊎◌, Bool, true, false, ◌&&◌, List, [], ◌∷◌, ◌++◌, Option, Some, None, refl, sym, ap, ◌∙◌, subst, inl, inr, arith, if◌then◌else◌}
use Rattle.std.specs.Prelude.{slice_get}
use Rattle.std.proofs.lemmas.Bool.{false≢true, cases_Bool, cond-true, and_parts, and_from}
use Rattle.std.proofs.lemmas.Option.{none-some}
use Rattle.qq_base.specs.declared.ids.ConsumerId.{ConsumerId}
use Rattle.qq_base.specs.Ids.{same_consumer}
use Rattle.qq_entry.specs.declared.answer.Answer.{Answer}
use Rattle.qq_entry.specs.declared.command.Command.{Command}
use Rattle.qq_entry.specs.declared.command.Command.TheVariants.{Settle, Discard}
use Rattle.qq_entry.specs.declared.command.Entry.{Entry}
use Rattle.qq_entry.specs.declared.message.Message.{Message}
use Rattle.qq_entry.specs.declared.queue.QueueArgs.{QueueArgs}
use Rattle.qq_model.specs.declared.place.Place.{Place}
use Rattle.qq_model.specs.declared.place.Place.TheVariants.{Ready, Out, Dead, Gone}
use Rattle.qq_model.specs.declared.place.Row.{Row}
use Rattle.qq_model.specs.declared.consumer.Consumer.{Consumer}
use Rattle.qq_model.specs.State.{State, empty_queue}
use Rattle.qq_model.specs.Gate.{IsNumbered}
use Rattle.qq_model.specs.Limits.{is_ready}
use Rattle.qq_model.specs.Commands.{delivery_id}
use Rattle.qq_model.specs.Reasons.{is_settle, is_discard, may_go_back, ends_delivery}
use Rattle.qq_model.specs.Step.{carry_out}
use Rattle.qq_model.specs.Audit.{next_index, next_step, state_after}
use Rattle.qq_base.proofs.Lists.{In}
use Rattle.qq_model.proofs.Lists.{AllZip-second, slice_get-append}
use Rattle.qq_model.proofs.OneConsumer.{same_consumer-refl}
use Rattle.qq_model.proofs.Soundness.{Contains-in, is_sound, rows_at}
use Rattle.qq_laws.specs.Rows.{new_rows}
use Rattle.qq_laws.specs.Explains.{ActsOn, IsServed, IsLimited}
use Rattle.qq_laws.specs.Explains.DisposesOf.{IsSettled, IsDiscarded, GoesBack, PassesLimit, IsDeadLettered}
use Rattle.qq_laws.specs.Explains.ActsOn.{Stays, IsGot, IsPurged, IsEnded}
use Rattle.qq_laws.specs.Counts.{gives_back, is_returned, IsWithNumbered, CountsReturns}
use Rattle.qq_laws.specs.Published.{new_message}
use Rattle.qq_laws.proofs.Carried.{acted_with, served_with, carried, is_carried, is_stale}
use Rattle.qq_laws.proofs.ClearedLemmas.{IsOutAlone, cleared}

-- Lists ------------------------------------------------------------------------------------------------

pub get-in : {A : Type 0} (xs : List A) (k : ℕ) (x : A) → slice_get xs k ≡ Some x → In x xs
get-in [] k x found = absurd cc
get-in (y ∷ xs) zero x found = inl cc
get-in (y ∷ xs) (suc k) x found = inr (get-in xs k x found)

pub get-left : {A : Type 0} (xs ys : List A) (k : ℕ) (x : A) → slice_get xs k ≡ Some x → slice_get (xs ++ ys) k ≡ Some x
get-left [] ys k x found = absurd cc
get-left (y ∷ xs) ys zero x found = found
get-left (y ∷ xs) ys (suc k) x found = get-left xs ys k x found

pub get-right : {A : Type 0} (xs ys : List A) (k : ℕ) (x : A) → slice_get xs k ≡ None → slice_get (xs ++ ys) k ≡ Some x
    → In x ys
get-right xs ys k x none found = elim (slice_get-append xs ys k x found) [
  | inl here ↦ absurd (none-some x (sym none ∙ here))
  | inr new ↦ new
]

-- Counts -----------------------------------------------------------------------------------------------

pub settles-alone : (command : Command) → is_settle command ≡ true → may_go_back command ≡ false
settles-alone (Settle given tag ids) is = refl
settles-alone _ is = absurd (false≢true is)

pub discards-alone : (command : Command) → is_discard command ≡ true → may_go_back command ≡ false
discards-alone (Discard given tag ids) is = refl
discards-alone _ is = absurd (false≢true is)

pub ready-stays : (command : Command) (place : Place) → is_ready place ≡ true → gives_back command place ≡ false
ready-stays command (Ready key) ready = refl
ready-stays command _ ready = absurd (false≢true ready)

-- one more, where a test passes
abbrev counted : Bool → ℕ
counted b = if b then 1 else 0

no-more : (n m : ℕ) (b : Bool) → m ≡ n → b ≡ false → m ≡ n + counted b
no-more n m b same none = same ∙ let zero' : n ≡ n + 0 = omega arith in zero' ∙ ap (λ c. n + counted c) (sym none)

one-more : (n m : ℕ) (b : Bool) → m ≡ n + 1 → b ≡ true → m ≡ n + counted b
one-more n m b same some = same ∙ ap (λ c. n + counted c) (sym some)

-- what a command counts
acted-count : {s : State} {command : Command} (old new : Row)
    → (new ≡ old → gives_back command old.place ≡ false) → ActsOn s command old new
    → new.count ≡ old.count + counted (gives_back command old.place)
acted-count {command = command} old new stays (Stays same) =
    no-more old.count new.count _ (ap (λ (r : Row). r.count) same) (stays same)
acted-count {command = command} old new stays (IsGot gets first made) =
    no-more old.count new.count _ (ap (λ (r : Row). r.count) made) (ready-stays command old.place first.ready)
acted-count {command = command} old new stays (IsPurged purges ready made) =
    no-more old.count new.count _ (ap (λ (r : Row). r.count) made) (ready-stays command old.place ready)
acted-count {command = command} old new stays (IsEnded (IsSettled consumer id is settles ends made)) =
    no-more old.count new.count _ (ap (λ (r : Row). r.count) made)
    (ap (gives_back command) is ∙ ap (λ b. b && ends_delivery command consumer id) (settles-alone command settles))
acted-count {command = command} old new stays (IsEnded (IsDiscarded consumer id place is discards ends death made)) =
    no-more old.count new.count _ (ap (λ (r : Row). r.count) made)
    (ap (gives_back command) is ∙ ap (λ b. b && ends_delivery command consumer id) (discards-alone command discards))
acted-count {command = command} old new stays (IsEnded (GoesBack consumer id key is back ends within at made)) =
    one-more old.count new.count _ (ap (λ (r : Row). r.count) made)
    (ap (gives_back command) is ∙ and_from _ _ back ends)
acted-count {command = command} old new stays (IsEnded (PassesLimit consumer id place is back ends passed death made)) =
    one-more old.count new.count _ (ap (λ (r : Row). r.count) made)
    (ap (gives_back command) is ∙ and_from _ _ back ends)
acted-count {command = command} old new stays (IsEnded (IsDeadLettered number cause is settles given made)) =
    no-more old.count new.count _ (ap (λ (r : Row). r.count) made) (ap (gives_back command) is)

served-count : (old new : Row) → IsServed old new → new.count ≡ old.count
served-count old new (inl same) = ap (λ (r : Row). r.count) same
served-count old new (inr out) = ap (λ (r : Row). r.count) out.3

limited-count : (args : QueueArgs) (rows : List Row) (old new : Row) → IsLimited args rows old new
    → new.count ≡ old.count
limited-count args rows old new (inl stays) = ap (λ (r : Row). r.count) stays.0
limited-count args rows old new (inr died) = ap (λ (r : Row). r.count) died.4

-- of a consumer with numbers each delivery is on one message
pub out-alone : (args : QueueArgs) (before : List Entry) (row : Row) (consumer : ConsumerId) (id : ℕ)
    → let s = state_after (empty_queue args) before in In row s.rows → row.place ≡ Out consumer id
    → IsNumbered consumer.session → IsOutAlone consumer id s.rows
out-alone args before row consumer id here is numbered =
    let s = state_after (empty_queue args) before in
    let seat = (rows_at args before).held row consumer id here is in
    let one : Consumer = seat.0 in
    let drawn = (is_sound args before).consumers.deliveries one (Contains-in one s.consumers seat.1)
    (subst (λ (c : ConsumerId). IsNumbered c.session) (sym seat.2) numbered) in
    let own : same_consumer consumer one.id ≡ true = ap (same_consumer consumer) seat.2 ∙ same_consumer-refl consumer in
    let at : (r : Row) → r.place ≡ Out consumer id → delivery_id one.id r.place ≡ Some id = λ r isr.
    ap (delivery_id one.id) isr ∙ cond-true (same_consumer consumer one.id) (Some id) None own in
    λ a b ina inb isa isb.
    drawn.once a b id (Contains-in a s.rows ina) (Contains-in b s.rows inb) (at a isa) (at b isb)

-- a message that stays isn't one that a command gives back
pub stays-out : (args : QueueArgs) (before : List Entry) (entry : Entry)
    → let s = state_after (empty_queue args) before in (fresh : (next_step s entry).fresh ≡ true)
    → (row : Row) → In row s.rows → IsWithNumbered row.place
    → In row (acted_with s (is_carried s entry fresh).sessions (next_index s) entry.command).progress.state.rows
    → gives_back entry.command row.place ≡ false
stays-out args before entry fresh row here numbered there =
    by row.place refl (cases_Bool (gives_back entry.command row.place))
  where
    s : State
    s = state_after (empty_queue args) before

    by : (place : Place) → row.place ≡ place
        → (gives_back entry.command row.place ≡ true) ⊎ (gives_back entry.command row.place ≡ false)
        → gives_back entry.command row.place ≡ false
    by place is (inr stays) = stays
    by (Ready key) is (inl gives) = ap (gives_back entry.command) is
    by (Out consumer id) is (inl gives) =
        let parts = and_parts (may_go_back entry.command) (ends_delivery entry.command consumer id)
        (sym (ap (gives_back entry.command) is) ∙ gives) in
        let held = (rows_at args before).held in
        absurd (cleared s (is_carried s entry fresh).sessions (next_index s) entry.command consumer id held
        (held row consumer id here is) (out-alone args before row consumer id here is (numbered consumer id is)) parts.1
        row there is)
    by (Dead number cause) is (inl gives) = ap (gives_back entry.command) is
    by (Gone cause) is (inl gives) = ap (gives_back entry.command) is

-- a message as an entry that is carried out leaves it, and as it was
record Before (s : State) (entry : Entry) (k : ℕ) (new : Row) (acted : List Row) : Type 0 where
  old : Row
  mid : Row
  at : slice_get (s.rows ++ new_rows s (next_index s)
      (new_message true (next_step s entry).answer entry.command)) k ≡ Some old
  there : In mid acted
  acts : ActsOn s entry.command old mid
  count : new.count ≡ mid.count

before-at : (args : QueueArgs) (before : List Entry) (entry : Entry)
    → let s = state_after (empty_queue args) before in (fresh : (next_step s entry).fresh ≡ true)
    → (k : ℕ) (new : Row) → slice_get (next_step s entry).state.rows k ≡ Some new
    → Before s entry k new
    (acted_with s (is_carried s entry fresh).sessions (next_index s) entry.command).progress.state.rows
before-at args before entry fresh k new found =
    let s = state_after (empty_queue args) before in
    let is = is_carried s entry fresh in
    let phases = carried s is.sessions entry.command (rows_at args before) in
    let a = carry_out (next_index s) entry.command (record s { sessions = is.sessions }) in
    let found' : slice_get a.progress.state.rows k ≡ Some new =
    ap (λ (rows : List Row). slice_get rows k) (sym is.rows) ∙ found in
    let acted = (acted_with s is.sessions (next_index s) entry.command).progress.state.rows in
    let served = (served_with s is.sessions (next_index s) entry.command).state.rows in
    let third = AllZip-second (IsLimited s.args served) served a.progress.state.rows k new phases.limits found' in
    let second = AllZip-second IsServed acted served k third.0 phases.serves third.1 in
    let all = s.rows ++ new_rows s (next_index s) (new_message true a.answer entry.command) in
    let first = AllZip-second (ActsOn s entry.command) all acted k second.0 phases.acts second.1 in
    record {
      old = first.0;
      mid = second.0;
      at =
          subst (λ (said : Answer). slice_get (s.rows ++ new_rows s (next_index s)
          (new_message true said entry.command)) k ≡ Some first.0) (sym is.answer) first.1;
      there = get-in acted k second.0 second.1;
      acts = first.2;
      count =
          limited-count s.args served third.0 new third.2 ∙ served-count second.0 third.0 second.2;
    }

pub counts_returns : (args : QueueArgs) (before : List Entry) (entry : Entry)
    → CountsReturns (state_after (empty_queue args) before) entry
counts_returns args before entry = record { counted = known; fresh = brought }
  where
    s : State
    s = state_after (empty_queue args) before

    known : (k : ℕ) (old new : Row) → slice_get s.rows k ≡ Some old
        → slice_get (next_step s entry).state.rows k ≡ Some new → IsWithNumbered old.place
        → new.count ≡ old.count + counted (is_returned s entry old)
    known k old new was found numbered = elim (cases_Bool (next_step s entry).fresh) [
      | inl fresh ↦
          let b = before-at args before entry fresh k new found in
          let some : Some old ≡ Some b.old = sym (get-left s.rows _ k old was) ∙ b.at in
          let same : b.old ≡ old = cc in
          let here : In old s.rows = get-in s.rows k old was in
          let acted = (acted_with s (is_carried s entry fresh).sessions (next_index s) entry.command).progress.state.rows
          in
          let mid : b.mid.count ≡ old.count + counted (gives_back entry.command old.place) =
          acted-count old b.mid
          (λ stays. stays-out args before entry fresh old here numbered
          (subst (λ (r : Row). In r acted) stays b.there))
          (subst (λ (r : Row). ActsOn s entry.command r b.mid) same b.acts) in
          b.count ∙ mid
          ∙ ap (λ c. old.count + counted (c && gives_back entry.command old.place)) (sym fresh)
      | inr stale ↦
          let rows = (is_stale s entry stale).rows in
          let some : Some old ≡ Some new = sym was ∙ ap (λ (r : List Row). slice_get r k) (sym rows) ∙ found in
          let same : new ≡ old = cc in
          no-more old.count new.count (is_returned s entry old) (ap (λ (r : Row). r.count) same)
          (ap (λ b. b && gives_back entry.command old.place) stale)
    ]

    arrived : (o : Option Message) (row : Row) → In row (new_rows s (next_index s) o)
        → (row.count ≡ 0) × (is_ready row.place ≡ true)
    arrived None row here = absurd here
    arrived (Some message) row (inl same) =
        (ap (λ (r : Row). r.count) same, ap (λ (r : Row). is_ready r.place) same)
    arrived (Some message) row (inr later) = absurd later

    brought : (k : ℕ) (new : Row) → slice_get s.rows k ≡ None
        → slice_get (next_step s entry).state.rows k ≡ Some new → new.count ≡ 0
    brought k new none found = elim (cases_Bool (next_step s entry).fresh) [
      | inl fresh ↦
          let b = before-at args before entry fresh k new found in
          let its = arrived _ b.old (get-right s.rows _ k b.old none b.at) in
          let stays = ready-stays entry.command b.old.place its.1 in
          let mid = acted-count b.old b.mid (λ same. stays) b.acts in
          let zero' : counted (gives_back entry.command b.old.place) ≡ 0 = ap counted stays in
          omega (arith, b.count, mid, its.0, zero')
      | inr stale ↦
          let rows = (is_stale s entry stale).rows in
          absurd (none-some new (sym none ∙ ap (λ (r : List Row). slice_get r k) (sym rows) ∙ found))
    ]
