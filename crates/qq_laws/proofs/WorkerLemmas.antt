-- Which worker is attached, and what a settlement answers.
use Rattle.std.proofs.Common.{◌≡◌, ℕ, ◌+◌, ◌<◌, Bool, true, false, ◌&&◌, cond, List, [], ◌∷◌, Option, Some, None, refl, sym, ap, ◌∙◌, subst, inl, inr, arith}
use Rattle.std.specs.Prelude.{nat_eq, nat_lt, count_by}
use Rattle.std.specs.List.{AllByRecursion}
use Rattle.std.proofs.lemmas.Bool.{false≢true, cases_Bool, cond-true, cond-false, and_from, eq-eqb, lt-ltb, ne_eqb}
use Rattle.std.proofs.lemmas.List.Sums.{sum_by-cons}
use Rattle.qq_base.specs.declared.ids.Index.{Index}
use Rattle.qq_base.specs.declared.ids.Term.{Term}
use Rattle.qq_entry.specs.declared.answer.Answer.TheVariants as answer
use Rattle.qq_entry.specs.Command.{stamp}
use Rattle.qq_entry.specs.declared.command.Command.{Command}
use Rattle.qq_entry.specs.declared.command.Command.TheVariants.{DeadAttach, DeadSettle}
use Rattle.qq_entry.specs.declared.command.DeadDone.{DeadDone}
use Rattle.qq_entry.specs.declared.command.Entry.{Entry}
use Rattle.qq_entry.specs.declared.message.Reason.TheVariants as reason
use Rattle.qq_entry.specs.declared.queue.QueueArgs.{QueueArgs}
use Rattle.qq_entry.specs.declared.queue.Strategy.{Strategy}
use Rattle.qq_entry.specs.declared.queue.Strategy.TheVariants.{Absent, AtMostOnce, AtLeastOnce}
use Rattle.qq_model.specs.declared.place.Place.{Place}
use Rattle.qq_model.specs.declared.place.Place.TheVariants.{Ready, Out}
use Rattle.qq_model.specs.declared.place.Row.{Row}
use Rattle.qq_model.specs.State.{State, Sessions, empty_queue}
use Rattle.qq_model.specs.Limits.{is_ready}
use Rattle.qq_model.specs.Changes.{Progress, put_row}
use Rattle.qq_model.specs.Commands.{Acted, reply, set_state, is_at_least_once, dead_attach, given_row, Settling, settle_dead_by, settle_dead, dead_settle, act}
use Rattle.qq_model.specs.Serving.{drain_after}
use Rattle.qq_model.specs.Step.{carry_out}
use Rattle.qq_model.specs.Audit.{next_index, next_step, state_after}
use Rattle.qq_base.proofs.Lists.{In, AllByRecursion-in, AllByRecursion-weaker, In-map}
use Rattle.qq_model.proofs.CarryOut.{follow_on}
use Rattle.qq_model.proofs.Choices.{next_message-in}
use Rattle.qq_model.proofs.Indices.{Rises, indices}
use Rattle.qq_model.proofs.InOrder.{indices-put}
use Rattle.qq_model.proofs.Loops.{fold-keeps_in}
use Rattle.qq_model.proofs.Lookups.{dead_row-in}
use Rattle.qq_model.proofs.Soundness.{rows_at}
use Rattle.qq_laws.specs.DeadLetters.{CountsSettlements, WorkersTakeOver, is_dead_attach, is_lettered, lettered_count}
use Rattle.qq_laws.specs.Explains.{IsDeath, death_place}
use Rattle.qq_laws.proofs.Carried.{is_carried, is_stale}
use Rattle.qq_laws.proofs.DeadLemmas.{lettered, settles-fresh}
use Rattle.qq_laws.proofs.LetterLemmas.{put-none}
use Rattle.qq_laws.proofs.MessageChanges.{given-row}
use Rattle.qq_laws.proofs.Following.{KeepsFollowing, carry_out-messages, follow_on-messages, start_with}

-- The worker -------------------------------------------------------------------------------------------

abbrev HasWorker : ℕ → Progress → Type 0
HasWorker attached p = p.state.attached ≡ attached

worker-serves : (attached : ℕ) → KeepsFollowing (HasWorker attached)
worker-serves attached = record {
  serves = record {
    delivers = λ p row consumer it found next. it;
    same = λ p q it same. same.attached ∙ it;
    drops = λ p q row it found r. r.attached ∙ it;
  };
  offers = λ p number cause row it here is found. it;
}

-- a command that attaches no worker
worker-stays : (s : State) (x : Sessions) (index : Index) (command : Command) → is_dead_attach command ≡ false
    → (carry_out index command (record s { sessions = x })).progress.state.attached ≡ s.attached
worker-stays s x index command other =
    carry_out-messages {J = HasWorker s.attached} index command s x (record {
      ends = λ p q old it ended. ended.attached ∙ it;
      same = λ p q it same. same.attached ∙ it;
      takes = λ row gets found it. it;
      purges = λ purges it. it;
      attaches = λ term is greater it. absurd (false≢true (sym other ∙ ap is_dead_attach is));
    }) (λ message it. it) (worker-serves s.attached) refl

attach-carried : (index : Index) (term : Term) (s : State)
    → carry_out index (DeadAttach term) s
    ≡ follow_on (DeadAttach term) (dead_attach term (record { state = s; effects = [] }))
unfolding carry_out act
attach-carried index term s = refl

attach-answer : (term : Term) (a : Acted) → (follow_on (DeadAttach term) a).answer ≡ a.answer
unfolding drain_after
attach-answer term a = refl

attach-taken : (term : Term) (p : Progress)
    → (is_at_least_once p.state.args.strategy && nat_lt p.state.attached term.0) ≡ true
    → dead_attach term p
    ≡ reply answer.Attached (set_state (record (p.state) { attached = term.0; given = 0 }) p)
unfolding dead_attach
attach-taken term p may = cond-true _ _ (reply answer.Stale p) may

attach-stale : (term : Term) (p : Progress)
    → (is_at_least_once p.state.args.strategy && nat_lt p.state.attached term.0) ≡ false
    → dead_attach term p ≡ reply answer.Stale p
unfolding dead_attach
attach-stale term p none = cond-false _ _ (reply answer.Stale p) none

-- what an entry leaves whose command, which has no stamp, is this
made-unstamped : (s : State) (entry : Entry) (command : Command) → entry.command ≡ command → stamp command ≡ None
    → (x : Sessions) × (let a = carry_out (next_index s) command (record s { sessions = x }) in
    let made = next_step s entry in
    (made.answer ≡ a.answer) × (made.state.attached ≡ a.progress.state.attached)
    × (made.state.rows ≡ a.progress.state.rows))
made-unstamped s entry command is unstamped =
    let fresh = settles-fresh s entry (ap stamp is ∙ unstamped) in
    let it = is_carried s entry fresh in (
      it.sessions,
      (
        it.answer ∙ ap (λ c. (carry_out (next_index s) c (record s { sessions = it.sessions })).answer) is,
        it.attached
            ∙ ap (λ c. (carry_out (next_index s) c (record s { sessions = it.sessions })).progress.state.attached) is,
        it.rows
            ∙ ap (λ c. (carry_out (next_index s) c (record s { sessions = it.sessions })).progress.state.rows) is,
      ),
    )

pub workers_take_over : (s : State) (entry : Entry) → WorkersTakeOver s entry
workers_take_over s entry = record {
  others = λ other. elim (cases_Bool (next_step s entry).fresh) [
    | inl fresh ↦
        let it = is_carried s entry fresh in
        it.attached ∙ worker-stays s it.sessions (next_index s) entry.command other
    | inr stale ↦ (is_stale s entry stale).attached
  ];
  taken = λ term is least less.
      let made = made-unstamped s entry (DeadAttach term) is refl in
      let start : Progress = start_with s made.0 in
      let a : Acted = dead_attach term start in
      let taken = attach-taken term start (and_from _ _ least (lt-ltb s.attached term.0 less)) in
      let carried = attach-carried (next_index s) term (record s { sessions = made.0 }) in (
        made.1.1 ∙ ap (λ (b : Acted). b.progress.state.attached) carried
            ∙ follow_on-messages {J = HasWorker term.0} (worker-serves term.0) (DeadAttach term) a
            (ap (λ (b : Acted). b.progress.state.attached) taken),
        made.1.0 ∙ ap (λ (b : Acted). b.answer) carried ∙ attach-answer term a
            ∙ ap (λ (b : Acted). b.answer) taken,
      );
  stale = λ term is none.
      let made = made-unstamped s entry (DeadAttach term) is refl in
      let start : Progress = start_with s made.0 in
      let a : Acted = dead_attach term start in
      let stale = attach-stale term start none in
      let carried = attach-carried (next_index s) term (record s { sessions = made.0 }) in (
        made.1.1 ∙ ap (λ (b : Acted). b.progress.state.attached) carried
            ∙ follow_on-messages {J = HasWorker s.attached} (worker-serves s.attached) (DeadAttach term) a
            (ap (λ (b : Acted). b.progress.state.attached) stale),
        made.1.0 ∙ ap (λ (b : Acted). b.answer) carried ∙ attach-answer term a
            ∙ ap (λ (b : Acted). b.answer) stale,
      );
}

-- Settlements ------------------------------------------------------------------------------------------

-- of rising rows one that wasn't counted becomes another
count-put : (w : Place → Bool) (new old : Row) (rows : List Row) → Rises (indices rows) → In old rows
    → new.index ≡ old.index → w old.place ≡ false
    → count_by (λ (r : Row). w r.place) (put_row new rows)
    ≡ count_by (λ (r : Row). w r.place) rows + cond (w new.place) 1 0
count-put w new old [] rising here index none = absurd here
count-put w new old (row ∷ rows) rising (inl same) index none =
    let at : row.index.0 ≡ new.index.0 =
    ap (λ (r : Row). r.index.0) (sym same) ∙ sym (ap (λ (i : Index). i.0) index) in
    let is : nat_eq row.index.0 new.index.0 ≡ true = eq-eqb row.index.0 new.index.0 at in
    let above : AllByRecursion (λ n. new.index.0 < n) (indices rows) =
    AllByRecursion-weaker (λ n. row.index.0 < n) (λ n. new.index.0 < n) (λ n lt. omega arith) (indices rows) rising.0
    in
    let all : put_row new (row ∷ rows) ≡ new ∷ rows =
    ap (λ (r : Row). r ∷ put_row new rows) (cond-true (nat_eq row.index.0 new.index.0) new row is)
    ∙ ap (λ (rs : List Row). new ∷ rs) (put-none new rows above) in
    let zero' : cond (w row.place) 1 0 ≡ 0 =
    ap (λ b. let n : ℕ = cond b 1 0 in n) (ap (λ (r : Row). w r.place) (sym same) ∙ none) in
    omega (
      arith,
      ap (count_by (λ (r : Row). w r.place)) all,
      zero',
      sum_by-cons (λ (r : Row). cond (w r.place) 1 0) new rows,
      sum_by-cons (λ (r : Row). cond (w r.place) 1 0) row rows,
    )
count-put w new old (row ∷ rows) rising (inr later) index none =
    let rest = count-put w new old rows rising.1 later index none in
    let above : row.index.0 < old.index.0 =
    AllByRecursion-in (λ m. row.index.0 < m) old.index.0 (indices rows) rising.0
    (In-map (λ (one : Row). one.index.0) old rows later) in
    let at : new.index.0 ≡ old.index.0 = ap (λ (i : Index). i.0) index in
    let other : nat_eq row.index.0 new.index.0 ≡ false = ne_eqb row.index.0 new.index.0 (λ e. omega arith) in
    let all : put_row new (row ∷ rows) ≡ row ∷ put_row new rows =
    ap (λ (r : Row). r ∷ put_row new rows) (cond-false (nat_eq row.index.0 new.index.0) new row other) in
    omega (
      arith,
      ap (count_by (λ (r : Row). w r.place)) all,
      rest,
      sum_by-cons (λ (r : Row). cond (w r.place) 1 0) row (put_row new rows),
      sum_by-cons (λ (r : Row). cond (w r.place) 1 0) row rows,
    )

-- so many are gone as dead letters
record Counts (n : ℕ) (p : Progress) : Type 0 where
  rising : Rises (indices p.state.rows)
  count : lettered_count p.state.rows ≡ n

counts-put : (n m : ℕ) (p q : Progress) (old new : Row) → Counts n p → In old p.state.rows
    → new.index ≡ old.index → is_lettered old.place ≡ false → n + cond (is_lettered new.place) 1 0 ≡ m
    → q.state.rows ≡ put_row new p.state.rows → Counts m q
counts-put n m p q old new it here index none more rows =
    let put = count-put is_lettered new old p.state.rows it.rising here index none in record {
      rising = subst Rises (sym (ap indices rows ∙ indices-put new p.state.rows)) it.rising;
      count = omega (arith, ap lettered_count rows, put, it.count, more);
    }

ready-unlettered : (place : Place) → is_ready place ≡ true → is_lettered place ≡ false
ready-unlettered (Ready key) ready = refl
ready-unlettered _ ready = absurd (false≢true ready)

death-unlettered : (args : QueueArgs) (place : Place) → IsDeath args reason.MaxLen place
    → is_lettered place ≡ false
death-unlettered args place death = ap is_lettered death.1 ∙ by args.strategy death.0
  where
    by : (strategy : Strategy) (n : ℕ) → is_lettered (death_place strategy n reason.MaxLen) ≡ false
    by Absent n = refl
    by AtMostOnce n = refl
    by AtLeastOnce n = refl

none-more : (n : ℕ) (place : Place) → is_lettered place ≡ false → n + cond (is_lettered place) 1 0 ≡ n
none-more n place none =
    let zero' : cond (is_lettered place) 1 0 ≡ 0 = ap (λ b. let m : ℕ = cond b 1 0 in m) none in omega (arith, zero')

Counts-follows : (n : ℕ) → KeepsFollowing (Counts n)
Counts-follows n = record {
  serves = record {
    delivers = λ p row consumer it found next.
        let some = next_message-in p.state.rows row found in
        counts-put n n p _ row (record row { place = Out consumer.id consumer.next_id }) it some.0 refl
        (ready-unlettered row.place some.1) (none-more n (Out consumer.id consumer.next_id) refl) refl;
    same = λ p q it same. record {
      rising = subst (λ (rows : List Row). Rises (indices rows)) (sym same.rows) it.rising;
      count = ap lettered_count same.rows ∙ it.count;
    };
    drops = λ p q row it found r.
        let some = next_message-in p.state.rows row found in
        let dead : is_lettered r.new.place ≡ false =
        ap (λ (x : Row). is_lettered x.place) r.why.2 ∙ death-unlettered p.state.args r.why.0 r.why.1 in
        counts-put n n p q row r.new it some.0 (ap (λ (x : Row). x.index) r.why.2)
        (ready-unlettered row.place some.1) (none-more n r.new.place dead) r.rows;
  };
  offers = λ p number cause row it here is found. record { rising = it.rising; count = it.count };
}

-- what a settlement counts as it goes on
counted-by : (before : ℕ) (o : Option Row) (number : ℕ) (now : Settling) → given_row number now.progress.state ≡ o
    → Counts (before + now.count) now.progress
    → let after = settle_dead_by o now in Counts (before + after.count) after.progress
counted-by before None number now found it = it
counted-by before (Some row) number now found it =
    let up_to = given-row number now.progress.state row found in
    let some = dead_row-in number now.progress.state.rows row up_to.1 in
    counts-put (before + now.count) (before + (now.count + 1)) now.progress (settle_dead_by (Some row) now).progress row
    (lettered row) it some.0 refl (ap is_lettered some.1.1) (omega arith) refl

counted-all : (done : List DeadDone) (p : Progress) → Rises (indices p.state.rows)
    → let settling = settle_dead done p in
    Counts (lettered_count p.state.rows + settling.count) settling.progress
counted-all done p rising =
    let before : ℕ = lettered_count p.state.rows in
    fold-keeps_in (λ (now : Settling). Counts (before + now.count) now.progress)
    (λ (now : Settling) (one : DeadDone). settle_dead_by (given_row one.number now.progress.state) now) done
    (λ now one within it. counted-by before (given_row one.number now.progress.state) one.number now refl it)
    (record { progress = p; count = 0 }) (record { rising = rising; count = omega arith })

settle-carried : (index : Index) (term : Term) (done : List DeadDone) (s : State)
    → carry_out index (DeadSettle term done) s
    ≡ follow_on (DeadSettle term done) (dead_settle term done (record { state = s; effects = [] }))
unfolding carry_out act
settle-carried index term done s = refl

settle-answer : (term : Term) (done : List DeadDone) (a : Acted)
    → (follow_on (DeadSettle term done) a).answer ≡ a.answer
unfolding drain_after
settle-answer term done a = refl

settle-taken : (term : Term) (done : List DeadDone) (p : Progress)
    → (is_at_least_once p.state.args.strategy && nat_eq term.0 p.state.attached) ≡ true
    → dead_settle term done p
    ≡ reply (answer.DeadSettled (settle_dead done p).count) (settle_dead done p).progress
unfolding dead_settle
settle-taken term done p may = cond-true _ _ (reply answer.Stale p) may

settle-stale : (term : Term) (done : List DeadDone) (p : Progress)
    → (is_at_least_once p.state.args.strategy && nat_eq term.0 p.state.attached) ≡ false
    → dead_settle term done p ≡ reply answer.Stale p
unfolding dead_settle
settle-stale term done p none = cond-false _ _ (reply answer.Stale p) none

pub counts_settlements : (args : QueueArgs) (before : List Entry) (entry : Entry)
    → CountsSettlements (state_after (empty_queue args) before) entry
counts_settlements args before entry =
    let s = state_after (empty_queue args) before in
    record {
      settled = λ term done is least same.
          let made = made-unstamped s entry (DeadSettle term done) is refl in
          let start : Progress = start_with s made.0 in
          let a : Acted = dead_settle term done start in
          let n : ℕ = (settle_dead done start).count in
          let taken = settle-taken term done start (and_from _ _ least (eq-eqb term.0 s.attached same)) in
          let carried = settle-carried (next_index s) term done (record s { sessions = made.0 }) in
          let counts : Counts (lettered_count s.rows + n) a.progress =
          subst (λ (b : Acted). Counts (lettered_count s.rows + n) b.progress) (sym taken)
          (counted-all done start (rows_at args before).ordered.rising) in
          let last = follow_on-messages {J = Counts (lettered_count s.rows + n)}
          (Counts-follows (lettered_count s.rows + n)) (DeadSettle term done) a counts in (
            n,
            made.1.0 ∙ ap (λ (b : Acted). b.answer) carried ∙ settle-answer term done a
                ∙ ap (λ (b : Acted). b.answer) taken,
            ap lettered_count (made.1.2 ∙ ap (λ (b : Acted). b.progress.state.rows) carried) ∙ last.count,
          );
      stale = λ term done is none.
          let made = made-unstamped s entry (DeadSettle term done) is refl in
          let start : Progress = start_with s made.0 in
          let a : Acted = dead_settle term done start in
          let carried = settle-carried (next_index s) term done (record s { sessions = made.0 }) in
          made.1.0 ∙ ap (λ (b : Acted). b.answer) carried ∙ settle-answer term done a
          ∙ ap (λ (b : Acted). b.answer) (settle-stale term done start none);
    }
