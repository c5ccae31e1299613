-- Dead letters that are sent at most once: one for each message that has died, and none else.
use Rattle.std.proofs.Common.{◌≡◌, ℕ, ◌+◌, ◌<◌, ◌≤◌, true, false, cond, List, [], ◌∷◌, ◌++◌, Option, Some, None, map, length, refl, sym, ap, ◌∙◌, subst, inl, inr, arith, length-append}
use Rattle.std.specs.Prelude.{nat_eq, unwrap_or}
use Rattle.std.specs.List.{AllByRecursion}
use Rattle.std.proofs.lemmas.Bool.{false≢true, cases_Bool, cond-true, cond-false, eq-eqb, ne_eqb}
use Rattle.std.proofs.lemmas.List.Sums.{sum_by-append, sum_by-cons}
use Rattle.qq_base.specs.declared.ids.Index.{Index}
use Rattle.qq_entry.specs.declared.audit.Effect.{Effect}
use Rattle.qq_entry.specs.declared.audit.Effect.TheVariants.{Deliver, Offer}
use Rattle.qq_entry.specs.declared.command.Command.{Command}
use Rattle.qq_entry.specs.declared.command.Entry.{Entry}
use Rattle.qq_entry.specs.declared.message.Message.{Message}
use Rattle.qq_entry.specs.declared.queue.QueueArgs.{QueueArgs}
use Rattle.qq_entry.specs.declared.queue.Strategy.{Strategy}
use Rattle.qq_entry.specs.declared.queue.Strategy.TheVariants.{Absent, AtMostOnce, AtLeastOnce}
use Rattle.qq_model.specs.declared.place.GoneReason.TheVariants as gone
use Rattle.qq_model.specs.declared.place.Place.{Place}
use Rattle.qq_model.specs.declared.place.Place.TheVariants.{Ready, Out, Dead, Gone}
use Rattle.qq_model.specs.declared.place.Row.{Row}
use Rattle.qq_model.specs.State.{State, Sessions, empty_queue}
use Rattle.qq_model.specs.Limits.{is_ready}
use Rattle.qq_model.specs.Changes.{Progress, put_row, message_of, delivery_of}
use Rattle.qq_model.specs.Commands.{purge_row, set_state, append_message}
use Rattle.qq_model.specs.Step.{carry_out}
use Rattle.qq_model.specs.Audit.{next_index, next_step, effects_of, state_after}
use Rattle.qq_base.proofs.Lists.{In, AllByRecursion-in, AllByRecursion-weaker, In-map}
use Rattle.qq_model.proofs.Choices.{next_message-in}
use Rattle.qq_model.proofs.Indices.{Rises, indices, rises-push}
use Rattle.qq_model.specs.declared.place.Key.TheVariants.{Back}
use Rattle.qq_model.proofs.InOrder.{indices-put, indices-purged, put-length}
use Rattle.qq_model.proofs.Soundness.{SoundRows, rows_at, rows-kept}
use Rattle.qq_model.proofs.StepKeeps.{next-keeps}
use Rattle.std.proofs.lemmas.List.{length-map, map-append}
use Rattle.qq_laws.specs.DeadLetters.{is_at_most_once, Picks, is_picked, died_count, is_letter, letter_count, any_letter, SendsDeadOnce}
use Rattle.qq_laws.specs.Explains.{DisposesOf}
use Rattle.qq_laws.specs.Explains.DisposesOf.{IsSettled, IsDiscarded, GoesBack, PassesLimit, IsDeadLettered}
use Rattle.qq_laws.proofs.Carried.{is_carried, is_stale}
use Rattle.qq_laws.proofs.MessageChanges.{KeepsMessages, Replaced, SameMessages, letters}
use Rattle.qq_laws.proofs.Explained.{ends-index}
use Rattle.qq_laws.proofs.Following.{KeepsFollowing, carry_out-messages, start_with}
use Rattle.qq_laws.proofs.RowLemmas.{beside, beside-cons}

-- Counting those that have died ------------------------------------------------------------------------

pub put-none : (new : Row) (rows : List Row) → AllByRecursion (λ n. new.index.0 < n) (indices rows)
    → put_row new rows ≡ rows
put-none new [] above = refl
put-none new (row ∷ rows) above =
    let less : new.index.0 < row.index.0 = above.0 in
    let other : nat_eq row.index.0 new.index.0 ≡ false = ne_eqb row.index.0 new.index.0 (λ e. omega arith) in
    ap (λ (r : Row). r ∷ put_row new rows) (cond-false (nat_eq row.index.0 new.index.0) new row other)
    ∙ ap (λ (rs : List Row). row ∷ rs) (put-none new rows above.1)

-- one more, where the message is picked
abbrev picked_one : Picks → Place → Message → ℕ
picked_one picks place message = cond (is_picked picks place message) 1 0

-- of rising rows one that hasn't died becomes another
died-put : (picks : Picks) (new old : Row) (d : Message) (rows : List Row) (messages : List Message)
    → Rises (indices rows) → length rows ≡ length messages → In old rows → new.index ≡ old.index
    → ((m : Message) → is_picked picks old.place m ≡ false)
    → died_count picks (put_row new rows) messages ≡ died_count picks rows messages
    + picked_one picks new.place
    (unwrap_or (beside (λ (other : Row). nat_eq other.index.0 new.index.0) rows messages) d)
died-put picks new old d [] messages rising long here index alive = absurd here
died-put picks new old d (row ∷ rows) [] rising long here index alive = absurd (omega arith)
died-put picks new old d (row ∷ rows) (message ∷ messages) rising long (inl same) index alive =
    let at : row.index.0 ≡ new.index.0 =
    ap (λ (r : Row). r.index.0) (sym same) ∙ sym (ap (λ (i : Index). i.0) index) in
    let is : nat_eq row.index.0 new.index.0 ≡ true = eq-eqb row.index.0 new.index.0 at in
    let above : AllByRecursion (λ n. new.index.0 < n) (indices rows) =
    AllByRecursion-weaker (λ n. row.index.0 < n) (λ n. new.index.0 < n) (λ n lt. omega arith) (indices rows) rising.0
    in
    let all : put_row new (row ∷ rows) ≡ new ∷ rows =
    ap (λ (r : Row). r ∷ put_row new rows) (cond-true (nat_eq row.index.0 new.index.0) new row is)
    ∙ ap (λ (rs : List Row). new ∷ rs) (put-none new rows above) in
    let none : picked_one picks row.place message ≡ 0 =
    ap (λ b. let n : ℕ = cond b 1 0 in n) (ap (λ (r : Row). is_picked picks r.place message) (sym same)
    ∙ alive message) in
    let its : beside (λ (other : Row). nat_eq other.index.0 new.index.0) (row ∷ rows) (message ∷ messages)
    ≡ Some message =
    beside-cons (λ (other : Row). nat_eq other.index.0 new.index.0) row rows message messages
    ∙ cond-true (nat_eq row.index.0 new.index.0) (Some message) _ is in
    let one : picked_one picks new.place
    (unwrap_or (beside (λ (other : Row). nat_eq other.index.0 new.index.0) (row ∷ rows) (message ∷ messages)) d)
    ≡ picked_one picks new.place message =
    ap (λ (o : Option Message). picked_one picks new.place (unwrap_or o d)) its in
    omega (arith, ap (λ (rs : List Row). died_count picks rs (message ∷ messages)) all, none, one)
died-put picks new old d (row ∷ rows) (message ∷ messages) rising long (inr later) index alive =
    let rest = died-put picks new old d rows messages rising.1 (omega arith) later index alive in
    let above : row.index.0 < old.index.0 =
    AllByRecursion-in (λ m. row.index.0 < m) old.index.0 (indices rows) rising.0
    (In-map (λ (one : Row). one.index.0) old rows later) in
    let at : new.index.0 ≡ old.index.0 = ap (λ (i : Index). i.0) index in
    let other : nat_eq row.index.0 new.index.0 ≡ false = ne_eqb row.index.0 new.index.0 (λ e. omega arith) in
    let all : put_row new (row ∷ rows) ≡ row ∷ put_row new rows =
    ap (λ (r : Row). r ∷ put_row new rows) (cond-false (nat_eq row.index.0 new.index.0) new row other) in
    let its : beside (λ (one : Row). nat_eq one.index.0 new.index.0) (row ∷ rows) (message ∷ messages)
    ≡ beside (λ (one : Row). nat_eq one.index.0 new.index.0) rows messages =
    beside-cons (λ (one : Row). nat_eq one.index.0 new.index.0) row rows message messages
    ∙ cond-false (nat_eq row.index.0 new.index.0) (Some message) _ other in
    let one : picked_one picks new.place
    (unwrap_or (beside (λ (one : Row). nat_eq one.index.0 new.index.0) (row ∷ rows) (message ∷ messages)) d)
    ≡ picked_one picks new.place
    (unwrap_or (beside (λ (one : Row). nat_eq one.index.0 new.index.0) rows messages) d) =
    ap (λ (o : Option Message). picked_one picks new.place (unwrap_or o d)) its in
    omega (arith, ap (λ (rs : List Row). died_count picks rs (message ∷ messages)) all, rest, one)

died-push : (picks : Picks) (rows : List Row) (messages : List Message) (row : Row) (message : Message)
    → length rows ≡ length messages → is_picked picks row.place message ≡ false
    → died_count picks (rows ++ row ∷ []) (messages ++ message ∷ []) ≡ died_count picks rows messages
died-push picks [] [] row message long alive =
    let none : picked_one picks row.place message ≡ 0 = ap (λ b. let n : ℕ = cond b 1 0 in n) alive in omega arith
died-push picks [] (m ∷ messages) row message long alive = absurd (omega arith)
died-push picks (r ∷ rows) [] row message long alive = absurd (omega arith)
died-push picks (r ∷ rows) (m ∷ messages) row message long alive =
    ap (λ n. picked_one picks r.place m + n) (died-push picks rows messages row message (omega arith) alive)

ready-alive : (picks : Picks) (place : Place) (m : Message) → is_ready place ≡ true → is_picked picks place m ≡ false
ready-alive picks (Ready key) m ready = refl
ready-alive picks _ m ready = absurd (false≢true ready)

died-purged : (picks : Picks) (rows : List Row) (messages : List Message)
    → died_count picks (map purge_row rows) messages ≡ died_count picks rows messages
died-purged picks [] messages = refl
died-purged picks (row ∷ rows) [] = refl
died-purged picks (row ∷ rows) (message ∷ messages) =
    let same : is_picked picks (purge_row row).place message ≡ is_picked picks row.place message =
    elim (cases_Bool (is_ready row.place)) [
      | inl ready ↦
          ap (λ (r : Row). is_picked picks r.place message)
          (cond-true (is_ready row.place) (record row { place = Gone gone.Purged }) row ready)
          ∙ sym (ready-alive picks row.place message ready)
      | inr other ↦
          ap (λ (r : Row). is_picked picks r.place message)
          (cond-false (is_ready row.place) (record row { place = Gone gone.Purged }) row other)
    ] in
    let one : cond (is_picked picks (purge_row row).place message) 1 0 ≡ picked_one picks row.place message =
    ap (λ b. let n : ℕ = cond b 1 0 in n) same in
    omega (arith, one, died-purged picks rows messages)

-- Counting letters -------------------------------------------------------------------------------------

letter-append : (picks : Picks) (xs ys : List Effect)
    → letter_count picks (xs ++ ys) ≡ letter_count picks xs + letter_count picks ys
letter-append picks xs ys = sum_by-append (λ (e : Effect). cond (is_letter picks e) 1 0) xs ys

letter-other : (picks : Picks) (xs : List Effect) (e : Effect) → is_letter picks e ≡ false
    → letter_count picks (xs ++ e ∷ []) ≡ letter_count picks xs
letter-other picks xs e other =
    let one : cond (is_letter picks e) 1 0 ≡ 0 = ap (λ b. let n : ℕ = cond b 1 0 in n) other in
    omega (
      arith,
      letter-append picks xs (e ∷ []),
      sum_by-cons (λ (f : Effect). cond (is_letter picks f) 1 0) e [],
      one,
    )

-- the letters of a queue that dead-letters at most once
letters-once : (picks : Picks) (place : Place) (m : Message)
    → letter_count picks (letters place AtMostOnce m) ≡ picked_one picks place m
letters-once picks (Gone (gone.Died cause)) m = omega arith
letters-once picks (Gone _) m = refl
letters-once picks _ m = refl

-- and of another
letters-none : (strategy : Strategy) (place : Place) (m : Message) → is_at_most_once strategy ≡ false
    → letter_count any_letter (letters place strategy m) ≡ 0
letters-none strategy (Ready key) m other = refl
letters-none strategy (Out consumer id) m other = refl
letters-none strategy (Dead n cause) m other = refl
letters-none Absent (Gone (gone.Died cause)) m other = refl
letters-none AtMostOnce (Gone (gone.Died cause)) m other = absurd (false≢true (sym other))
letters-none AtLeastOnce (Gone (gone.Died cause)) m other = refl
letters-none strategy (Gone _) m other = refl

once-is : (strategy : Strategy) → is_at_most_once strategy ≡ true → strategy ≡ AtMostOnce
once-is AtMostOnce is = refl
once-is _ is = absurd (false≢true is)

-- At most once -----------------------------------------------------------------------------------------

record Lettered (picks : Picks) (before : ℕ) (p : Progress) : Type 0 where
  once : p.state.args.strategy ≡ AtMostOnce
  rising : Rises (indices p.state.rows)
  long : length p.state.rows ≡ length p.state.messages
  count : died_count picks p.state.rows p.state.messages ≡ before + letter_count picks p.effects

ends-alive : {s : State} {command : Command} {old new : Row} (picks : Picks) → DisposesOf s command old new → (m : Message)
    → is_picked picks old.place m ≡ false
ends-alive picks (IsSettled consumer id is settles ends made) m = ap (λ place. is_picked picks place m) is
ends-alive picks (IsDiscarded consumer id place is discards ends death made) m =
    ap (λ place. is_picked picks place m) is
ends-alive picks (GoesBack consumer id key is back ends within at made) m = ap (λ place. is_picked picks place m) is
ends-alive picks (PassesLimit consumer id place is back ends passed death made) m =
    ap (λ place. is_picked picks place m) is
ends-alive picks (IsDeadLettered number cause is settles given made) m = ap (λ place. is_picked picks place m) is

lettered-replaced : {Why : Row → Type 0} (picks : Picks) (before : ℕ) (p q : Progress) (old : Row)
    → Lettered picks before p → (r : Replaced Why p q old) → r.new.index ≡ old.index
    → ((m : Message) → is_picked picks old.place m ≡ false) → Lettered picks before q
lettered-replaced picks before p q old it r index alive =
    let message : Message = message_of p.state.rows p.state.messages r.new in
    let put = died-put picks r.new old (record { size = r.new.size; content = None }) p.state.rows p.state.messages
    it.rising it.long r.here index alive in
    let more : letter_count picks q.effects ≡ letter_count picks p.effects + picked_one picks r.new.place message =
    ap (letter_count picks) r.effects ∙ letter-append picks p.effects _
    ∙ ap (λ n. letter_count picks p.effects + n)
    (ap (λ s. letter_count picks (letters r.new.place s message)) it.once ∙ letters-once picks r.new.place message) in
    let now : died_count picks q.state.rows q.state.messages
    ≡ died_count picks (put_row r.new p.state.rows) p.state.messages =
    ap (λ (rs : List Row). died_count picks rs q.state.messages) r.rows
    ∙ ap (died_count picks (put_row r.new p.state.rows)) r.messages in
    record {
      once = ap (λ (a : QueueArgs). a.strategy) r.args ∙ it.once;
      rising = subst Rises (sym (ap indices r.rows ∙ indices-put r.new p.state.rows)) it.rising;
      long =
          ap (λ (rs : List Row). length rs) r.rows ∙ put-length r.new p.state.rows ∙ it.long
          ∙ sym (ap (λ (ms : List Message). length ms) r.messages);
      count = omega (arith, now, put, more, it.count);
    }

lettered-same : (picks : Picks) (before : ℕ) (p q : Progress) → Lettered picks before p → SameMessages p q
    → Lettered picks before q
lettered-same picks before p q it same = record {
  once = ap (λ (a : QueueArgs). a.strategy) same.args ∙ it.once;
  rising = subst (λ (rows : List Row). Rises (indices rows)) (sym same.rows) it.rising;
  long =
      ap (λ (rs : List Row). length rs) same.rows ∙ it.long ∙ sym (ap (λ (ms : List Message). length ms) same.messages);
  count =
      ap (λ (rs : List Row). died_count picks rs q.state.messages) same.rows
      ∙ ap (died_count picks p.state.rows) same.messages ∙ it.count
      ∙ ap (λ (es : List Effect). before + letter_count picks es) (sym same.effects);
}

-- a ready message is put where nothing has died
lettered-put : (picks : Picks) (before : ℕ) (p : Progress) (t : State) (effects : List Effect) (row : Row)
    (place : Place) → Lettered picks before p → In row p.state.rows → is_ready row.place ≡ true
    → ((m : Message) → is_picked picks place m ≡ false) → t.args ≡ p.state.args
    → t.rows ≡ put_row (record row { place = place }) p.state.rows → t.messages ≡ p.state.messages
    → letter_count picks effects ≡ letter_count picks p.effects
    → Lettered picks before (record { state = t; effects = effects })
lettered-put picks before p t effects row place it here ready alive args rows messages letters' =
    let new : Row = record row { place = place } in
    let message : Message = message_of p.state.rows p.state.messages new in
    let put = died-put picks new row (record { size = new.size; content = None }) p.state.rows p.state.messages
    it.rising it.long here refl (λ m. ready-alive picks row.place m ready) in
    let none : picked_one picks place message ≡ 0 = ap (λ b. let n : ℕ = cond b 1 0 in n) (alive message) in
    let now : died_count picks t.rows t.messages ≡ died_count picks (put_row new p.state.rows) p.state.messages =
    ap (λ (rs : List Row). died_count picks rs t.messages) rows
    ∙ ap (died_count picks (put_row new p.state.rows)) messages in
    record {
      once = ap (λ (a : QueueArgs). a.strategy) args ∙ it.once;
      rising = subst Rises (sym (ap indices rows ∙ indices-put new p.state.rows)) it.rising;
      long =
          ap (λ (rs : List Row). length rs) rows ∙ put-length new p.state.rows ∙ it.long
          ∙ sym (ap (λ (ms : List Message). length ms) messages);
      count = omega (arith, now, put, none, letters', it.count);
    }

Lettered-acts : (picks : Picks) (before : ℕ) (command : Command) (s : Progress)
    → KeepsMessages command s (Lettered picks before)
Lettered-acts picks before command s = record {
  ends = λ p q old it ended.
      lettered-replaced picks before p q old it ended (ends-index ended.why) (ends-alive picks ended.why);
  same = lettered-same picks before;
  takes = λ row gets found it.
      let some = next_message-in s.state.rows row found in
      lettered-put picks before s _ s.effects row (Gone gone.Got) it some.0 some.1 (λ m. refl) refl refl refl refl;
  purges = λ purges it. record {
    once = it.once;
    rising = subst Rises (sym (indices-purged s.state.rows)) it.rising;
    long = length-map s.state.rows purge_row ∙ it.long;
    count = died-purged picks s.state.rows s.state.messages ∙ it.count;
  };
  attaches = λ term is greater it. record { once = it.once; rising = it.rising; long = it.long; count = it.count };
}

Lettered-follows : (picks : Picks) (before : ℕ) → KeepsFollowing (Lettered picks before)
Lettered-follows picks before = record {
  serves = record {
    delivers = λ p row consumer it found next.
        let some = next_message-in p.state.rows row found in
        lettered-put picks before p _ _ row (Out consumer.id consumer.next_id) it some.0 some.1 (λ m. refl) refl refl refl
        (letter-other picks p.effects (Deliver consumer.id (delivery_of p.state consumer.next_id row)) refl);
    same = lettered-same picks before;
    drops = λ p q row it found r.
        let some = next_message-in p.state.rows row found in
        lettered-replaced picks before p q row it r (ap (λ (n : Row). n.index) r.why.2)
        (λ m. ready-alive picks row.place m some.1);
  };
  offers = λ p number cause row it here is found. record {
    once = it.once;
    rising = it.rising;
    long = it.long;
    count =
        it.count ∙ ap (λ n. before + n) (sym (letter-other picks p.effects
        (Offer number cause (message_of p.state.rows p.state.messages row)) refl));
  };
}

-- a message arrives with an index above all
lettered-arrives : (picks : Picks) (before : ℕ) (index : Index) (p : Progress) (message : Message)
    → AllByRecursion (λ n. n < index.0) (indices p.state.rows) → Lettered picks before p
    → Lettered picks before (set_state (append_message p.state index message) p)
lettered-arrives picks before index p message below it =
    let row : Row = record {
      index = index;
      arrival = p.state.arrivals + 1;
      count = 0;
      size = message.size;
      place = Ready (Back (p.state.orders + 1));
    } in
    record {
      once = it.once;
      rising =
          subst Rises (sym (map-append (λ (one : Row). one.index.0) p.state.rows (row ∷ [])))
          (rises-push (indices p.state.rows) index.0 it.rising below);
      long =
          length-append p.state.rows (row ∷ []) ∙ ap (λ n. n + 1) it.long
          ∙ sym (length-append p.state.messages (message ∷ []));
      count = died-push picks p.state.rows p.state.messages row message it.long refl ∙ it.count;
    }

below-next : (s : State) → SoundRows s → AllByRecursion (λ n. n < (next_index s).0) (indices s.rows)
below-next s sound =
    AllByRecursion-weaker (λ n. n ≤ s.applied) (λ n. n < s.applied + 1) (λ n le. omega arith) (indices s.rows)
    sound.ordered.below

lettered-carried : (picks : Picks) (s : State) (x : Sessions) (command : Command) → SoundRows s
    → s.args.strategy ≡ AtMostOnce
    → Lettered picks (died_count picks s.rows s.messages)
    (carry_out (next_index s) command (record s { sessions = x })).progress
lettered-carried picks s x command sound once =
    let before : ℕ = died_count picks s.rows s.messages in
    carry_out-messages {J = Lettered picks before} (next_index s) command s x
    (Lettered-acts picks before command (start_with s x))
    (λ message it. lettered-arrives picks before (next_index s) (start_with s x) message (below-next s sound) it)
    (Lettered-follows picks before) (record {
      once = once;
      rising = sound.ordered.rising;
      long = sound.ordered.arrivals ∙ sym sound.ordered.messages;
      count = omega arith;
    })

-- what one entry sends
record Sent (picks : Picks) (s : State) (entry : Entry) : Type 0 where
  once : (next_step s entry).state.args.strategy ≡ AtMostOnce
  count : let made = next_step s entry in
      died_count picks made.state.rows made.state.messages
      ≡ died_count picks s.rows s.messages + letter_count picks made.effects

next-sent : (picks : Picks) (s : State) (entry : Entry) → SoundRows s → s.args.strategy ≡ AtMostOnce
    → Sent picks s entry
next-sent picks s entry sound once = elim (cases_Bool (next_step s entry).fresh) [
  | inl fresh ↦
      let is = is_carried s entry fresh in
      let a = carry_out (next_index s) entry.command (record s { sessions = is.sessions }) in
      let it = lettered-carried picks s is.sessions entry.command sound once in
      record {
        once = ap (λ (g : QueueArgs). g.strategy) is.args ∙ it.once;
        count =
            ap (λ (rs : List Row). died_count picks rs (next_step s entry).state.messages) is.rows
            ∙ ap (died_count picks a.progress.state.rows) is.messages ∙ it.count
            ∙ ap (λ (es : List Effect). died_count picks s.rows s.messages + letter_count picks es) (sym is.effects);
      }
  | inr stale ↦
      let is = is_stale s entry stale in
      record {
        once = ap (λ (g : QueueArgs). g.strategy) is.args ∙ once;
        count =
            ap (λ (rs : List Row). died_count picks rs (next_step s entry).state.messages) is.rows
            ∙ ap (died_count picks s.rows) is.messages
            ∙ (let same : died_count picks s.rows s.messages ≡ died_count picks s.rows s.messages + 0 = omega arith in
            same) ∙ ap (λ (es : List Effect). died_count picks s.rows s.messages + letter_count picks es)
            (sym is.effects);
      }
]

sent-after : (picks : Picks) (s : State) (entries : List Entry) → SoundRows s → s.args.strategy ≡ AtMostOnce
    → let t = state_after s entries in
    died_count picks t.rows t.messages
    ≡ died_count picks s.rows s.messages + letter_count picks (effects_of s entries)
sent-after picks s [] sound once = omega arith
sent-after picks s (entry ∷ entries) sound once =
    let made = next_step s entry in
    let sent = next-sent picks s entry sound once in
    let rest =
    sent-after picks made.state entries (next-keeps SoundRows SoundRows s entry (rows-kept s) sound) sent.once in
    omega (arith, rest, sent.count, letter-append picks made.effects (effects_of made.state entries))

-- None ------------------------------------------------------------------------------------------------

record Letterless (p : Progress) : Type 0 where
  other : is_at_most_once p.state.args.strategy ≡ false
  none : letter_count any_letter p.effects ≡ 0

letterless-same : (p q : Progress) → Letterless p → SameMessages p q → Letterless q
letterless-same p q it same = record {
  other = ap (λ (a : QueueArgs). is_at_most_once a.strategy) same.args ∙ it.other;
  none = ap (letter_count any_letter) same.effects ∙ it.none;
}

letterless-replaced : {Why : Row → Type 0} (p q : Progress) (old : Row) → Letterless p → Replaced Why p q old
    → Letterless q
letterless-replaced p q old it r = record {
  other = ap (λ (a : QueueArgs). is_at_most_once a.strategy) r.args ∙ it.other;
  none =
      ap (letter_count any_letter) r.effects ∙ letter-append any_letter p.effects _
      ∙ ap (λ n. n + letter_count any_letter (letters r.new.place p.state.args.strategy
      (message_of p.state.rows p.state.messages r.new))) it.none
      ∙ ap (λ n. 0 + n) (letters-none p.state.args.strategy r.new.place
      (message_of p.state.rows p.state.messages r.new) it.other);
}

letterless-carried : (s : State) (x : Sessions) (command : Command) → is_at_most_once s.args.strategy ≡ false
    → Letterless (carry_out (next_index s) command (record s { sessions = x })).progress
letterless-carried s x command other =
    carry_out-messages {J = Letterless} (next_index s) command s x (record {
      ends = λ p q old it ended. letterless-replaced p q old it ended;
      same = letterless-same;
      takes = λ row gets found it. record { other = it.other; none = it.none };
      purges = λ purges it. record { other = it.other; none = it.none };
      attaches = λ term is greater it. record { other = it.other; none = it.none };
    }) (λ message it. record { other = it.other; none = it.none }) (record {
      serves = record {
        delivers = λ p row consumer it found next. record {
          other = it.other;
          none = letter-other any_letter p.effects _ refl ∙ it.none;
        };
        same = letterless-same;
        drops = λ p q row it found r. letterless-replaced p q row it r;
      };
      offers = λ p number cause row it here is found. record {
        other = it.other;
        none = letter-other any_letter p.effects _ refl ∙ it.none;
      };
    }) (record { other = other; none = refl })

none-after : (s : State) (entries : List Entry) → is_at_most_once s.args.strategy ≡ false
    → letter_count any_letter (effects_of s entries) ≡ 0
none-after s [] other = refl
none-after s (entry ∷ entries) other = elim (cases_Bool (next_step s entry).fresh) [
  | inl fresh ↦
      let is = is_carried s entry fresh in
      let it = letterless-carried s is.sessions entry.command other in
      let none : letter_count any_letter (next_step s entry).effects ≡ 0 =
      ap (letter_count any_letter) is.effects ∙ it.none in
      let rest = none-after (next_step s entry).state entries
      (ap (λ (g : QueueArgs). is_at_most_once g.strategy) is.args ∙ it.other) in
      omega (
        arith,
        letter-append any_letter (next_step s entry).effects (effects_of (next_step s entry).state entries),
        none,
        rest,
      )
  | inr stale ↦
      let is = is_stale s entry stale in
      let none : letter_count any_letter (next_step s entry).effects ≡ 0 = ap (letter_count any_letter) is.effects in
      let rest = none-after (next_step s entry).state entries
      (ap (λ (g : QueueArgs). is_at_most_once g.strategy) is.args ∙ other) in
      omega (
        arith,
        letter-append any_letter (next_step s entry).effects (effects_of (next_step s entry).state entries),
        none,
        rest,
      )
]

pub sends_dead_once : (args : QueueArgs) (entries : List Entry) → SendsDeadOnce args entries
sends_dead_once args entries = record {
  each = λ once picks. sym (sent-after picks (empty_queue args) entries (rows_at args [])
      (once-is args.strategy once) ∙ (let plus : 0 + letter_count picks (effects_of (empty_queue args) entries)
      ≡ letter_count picks (effects_of (empty_queue args) entries) = omega arith in plus));
  none = λ other. none-after (empty_queue args) entries other;
}
