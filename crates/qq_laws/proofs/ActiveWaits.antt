-- The active consumer of a queue with a single one doesn't wait in vain.
use Rattle.std.proofs.Common.{◌≡◌, ℕ, ◌+◌, ◌⊎◌, Bool, true, false, not, ◌&&◌, cond, List, [], ◌∷◌, Option, Some, None, refl, sym, ap, ◌∙◌, subst, inl, inr, arith}
use Rattle.std.specs.Prelude.{find, nat_lt}
use Rattle.std.specs.Option.{is_some, option_and_then}
use Rattle.std.proofs.lemmas.Bool.{false≢true, false_from_ne_true, cases_Bool, cond-true, cond-false, cond_both, and_parts, and_from, le-ltb}
use Rattle.qq_base.specs.declared.ids.Index.{Index}
use Rattle.qq_base.specs.declared.ids.ConsumerId.{ConsumerId}
use Rattle.qq_base.specs.Ids.{same_consumer}
use Rattle.qq_entry.specs.Command.{consumer_id}
use Rattle.qq_entry.specs.declared.command.Command.{Command}
use Rattle.qq_entry.specs.declared.command.Command.TheVariants.{Credit}
use Rattle.qq_entry.specs.declared.command.Entry.{Entry}
use Rattle.qq_entry.specs.declared.command.Stamp.{Stamp}
use Rattle.qq_entry.specs.declared.command.Mode.{Mode}
use Rattle.qq_entry.specs.declared.command.Mode.TheVariants.{Prefetch, Link}
use Rattle.qq_entry.specs.declared.message.Reason.TheVariants.{MaxLen}
use Rattle.qq_entry.specs.declared.queue.QueueArgs.{QueueArgs}
use Rattle.qq_model.specs.declared.place.Place.{Place}
use Rattle.qq_model.specs.declared.place.Place.TheVariants.{Ready}
use Rattle.qq_model.specs.declared.place.Row.{Row}
use Rattle.qq_model.specs.declared.consumer.Consumer.{Consumer}
use Rattle.qq_model.specs.State.{State, empty_queue}
use Rattle.qq_model.specs.Choice.{key_less, ready_key, next_message, is_out_to, out_count, free_credit, credit_left, may_be_served, servable_consumer, active_consumer, longest_waiting, next_consumer}
use Rattle.qq_model.specs.Limits.{is_ready, is_over_limit}
use Rattle.qq_model.specs.Changes.{Progress, put_consumer, consumer_of, die}
use Rattle.qq_model.specs.Commands.{Acted, act}
use Rattle.qq_model.specs.Serving.{deliver_by, check_out, check_out_all, drain_by, is_credited, drain_after, drop_head_by, drop_head, keep_limits, give_all_dead}
use Rattle.qq_model.specs.Step.{map_progress, carry_out}
use Rattle.qq_model.specs.Audit.{next_index, state_after}
use Rattle.qq_base.proofs.Lists.{In, AllByRecursion-in, find-in}
use Rattle.qq_model.proofs.CarryOut.{check_out_all-keeps}
use Rattle.qq_model.proofs.Choices.{is_some-if, next_message-in, place_key-ready}
use Rattle.qq_model.proofs.Drawn.{In-put_row}
use Rattle.qq_model.proofs.Indices.{Rises, indices, unique}
use Rattle.qq_model.proofs.InOrder.{indices-put}
use Rattle.qq_model.proofs.Least.{key_less-order, least_by-none}
use Rattle.qq_model.proofs.Loops.{while_next-keeps}
use Rattle.qq_model.proofs.OneConsumer.{same_consumer-true, same_consumer-refl}
use Rattle.qq_model.proofs.OutCounts.{not_out}
use Rattle.qq_model.proofs.RunsOut.{check_out_all-runs_out}
use Rattle.qq_model.proofs.Serve.{serve-id, serve-cancelled}
use Rattle.qq_model.proofs.Soundness.{in_contains, rows_at, SoundRows, rows-kept}
use Rattle.qq_model.proofs.StepKeeps.{after-keeps}
use Rattle.qq_laws.specs.Waiting.{ActiveDoesNotWait}
use Rattle.qq_laws.proofs.ActiveLemmas.{act-delivers_none}
use Rattle.qq_laws.proofs.CreditLemmas.{Gives, act-credit, credit-each, credit-gives}
use Rattle.qq_laws.proofs.EachConsumer.{EachOf, each-delivers}
use Rattle.qq_laws.proofs.KeptLemmas.{Buries, carried-args, die-buries, give-same, keep_limits-indices, out-kept}

-- the first consumer that isn't cancelled
abbrev first_going : List Consumer → Option Consumer
first_going consumers = find (λ (one : Consumer). not one.cancelled) consumers

-- where a message is ready, it may not be served
abbrev Settled : List Row → List Consumer → Type 0
Settled rows consumers =
    (row : Row) (one : Consumer) → In row rows → is_ready row.place ≡ true → first_going consumers ≡ Some one
    → may_be_served rows one ≡ false

-- Checkouts ------------------------------------------------------------------------------------------------

not-servable : (rows : List Row) (consumers : List Consumer) (one : Consumer) → first_going consumers ≡ Some one
    → active_consumer rows consumers ≡ None → may_be_served rows one ≡ false
not-servable rows consumers one found none =
    sym (is_some-if (may_be_served rows one) one)
    ∙ ap (λ (o : Option Consumer). is_some o)
    (ap (λ (o : Option Consumer). option_and_then (servable_consumer rows) o) (sym found) ∙ none)

checked-settled : (p : Progress) → p.state.args.single_active ≡ true → check_out p ≡ None
    → Settled p.state.rows p.state.consumers
unfolding check_out
checked-settled p single ends row one here ready first =
    by (next_message p.state.rows) refl (next_consumer p.state.args.single_active p.state.rows p.state.consumers)
    refl ends
  where
    by : (o : Option Row) → next_message p.state.rows ≡ o → (c : Option Consumer)
        → next_consumer p.state.args.single_active p.state.rows p.state.consumers ≡ c → deliver_by o c p ≡ None
        → may_be_served p.state.rows one ≡ false
    by None found c next ends =
        let keyless : ready_key row ≡ None =
        AllByRecursion-in (λ (other : Row). ready_key other ≡ None) row p.state.rows
        (least_by-none key_less ready_key key_less-order p.state.rows found) here in
        absurd (false≢true (ap is_some (sym keyless) ∙ place_key-ready row.place ∙ ready))
    by (Some next) found None none ends =
        not-servable p.state.rows p.state.consumers one first
        (sym (cond-true p.state.args.single_active (active_consumer p.state.rows p.state.consumers)
        (longest_waiting p.state.rows p.state.consumers) single) ∙ none)
    by (Some next) found (Some chosen) served ends = absurd cc

-- Drain ----------------------------------------------------------------------------------------------------

abbrev AreGoing : ConsumerId → List Consumer → Type 0
AreGoing id consumers = EachOf (λ one. one.id ≡ id → one.cancelled ≡ false) consumers

-- where the consumer of an id is replaced, and none of the id is cancelled, the first that isn't cancelled stays in its place
first-put : (id : ConsumerId) (found new : Consumer) (consumers : List Consumer) → consumer_of id consumers ≡ Some found
    → new.id ≡ id → new.cancelled ≡ false → AreGoing id consumers → (one : Consumer)
    → first_going (put_consumer new consumers) ≡ Some one
    → (first_going consumers ≡ Some one) ⊎ ((one ≡ new) × (first_going consumers ≡ Some found))
first-put id found new [] is same going all one first = absurd cc
first-put id found new (head ∷ rest) is same going all one first =
    by (cases_Bool (same_consumer head.id new.id)) (cases_Bool head.cancelled)
    (λ is' first'. first-put id found new rest is' same going (λ other later. all other (inr later)) one first')
  where
    put : Consumer
    put = cond (same_consumer head.id new.id) new head

    others : List Consumer
    others = put_consumer new rest

    itself : same_consumer head.id new.id ≡ true → head.id ≡ id
    itself own = same_consumer-true head.id new.id own ∙ same

    by : (same_consumer head.id new.id ≡ true) ⊎ (same_consumer head.id new.id ≡ false)
        → (head.cancelled ≡ true) ⊎ (head.cancelled ≡ false)
        → (consumer_of id rest ≡ Some found → first_going others ≡ Some one
        → (first_going rest ≡ Some one) ⊎ ((one ≡ new) × (first_going rest ≡ Some found)))
        → (first_going (head ∷ rest) ≡ Some one) ⊎ ((one ≡ new) × (first_going (head ∷ rest) ≡ Some found))
    by (inl own) flag later =
        let mine' : head.id ≡ id = itself own in
        let goes : head.cancelled ≡ false = all head (inl refl) mine' in
        let here : Some head ≡ Some found =
        sym (cond-true (same_consumer head.id id) (Some head) (consumer_of id rest)
        (ap (λ (i : ConsumerId). same_consumer i id) mine' ∙ same_consumer-refl id)) ∙ is in
        let now : Some new ≡ Some one =
        sym (ap (λ (c : Consumer). first_going (c ∷ others)) (cond-true (same_consumer head.id new.id) new head own)
        ∙ cond-true (not new.cancelled) (Some new) (first_going others) (ap not going)) ∙ first in
        inr (cc, cond-true (not head.cancelled) (Some head) (first_going rest) (ap not goes) ∙ here)
    by (inr other) (inl over) later =
        let elsewhere : same_consumer head.id id ≡ false =
        ap (λ (i : ConsumerId). same_consumer head.id i) (sym same) ∙ other in
        let is' : consumer_of id rest ≡ Some found =
        sym (cond-false (same_consumer head.id id) (Some head) (consumer_of id rest) elsewhere) ∙ is in
        let first' : first_going others ≡ Some one =
        sym (ap (λ (c : Consumer). first_going (c ∷ others)) (cond-false (same_consumer head.id new.id) new head other)
        ∙ cond-false (not head.cancelled) (Some head) (first_going others) (ap not over)) ∙ first in
        let passed : first_going (head ∷ rest) ≡ first_going rest =
        cond-false (not head.cancelled) (Some head) (first_going rest) (ap not over) in
        elim (later is' first') [
          | inl same' ↦ inl (passed ∙ same')
          | inr both ↦ inr (both.0, passed ∙ both.1)
        ]
    by (inr other) (inr goes) later =
        let now : Some head ≡ Some one =
        sym (ap (λ (c : Consumer). first_going (c ∷ others)) (cond-false (same_consumer head.id new.id) new head other)
        ∙ cond-true (not head.cancelled) (Some head) (first_going others) (ap not goes)) ∙ first in
        inl (cond-true (not head.cancelled) (Some head) (first_going rest) (ap not goes) ∙ now)

-- no credit is left after a drain
drained-less : (mode : Mode) (credit out : ℕ) → nat_lt 0 (credit_left mode 0 out) ≡ true
    → nat_lt 0 (credit_left mode credit out) ≡ true
drained-less (Prefetch prefetch) credit out may = may
drained-less Link credit out may = absurd (false≢true (sym (le-ltb 0 0 (omega arith)) ∙ may))

settled-drained : (rows : List Row) (consumers : List Consumer) (id : ConsumerId) (found : Consumer)
    → consumer_of id consumers ≡ Some found → AreGoing id consumers → Settled rows consumers
    → Settled rows (put_consumer (record found { credit = 0; count = found.count + found.credit }) consumers)
settled-drained rows consumers id found is all settled row one here ready first =
    let new : Consumer = record found { credit = 0; count = found.count + found.credit } in
    let there = find-in (λ (c : Consumer). same_consumer c.id id) consumers found is in
    let mine' : found.id ≡ id = same_consumer-true found.id id there.1 in
    elim (first-put id found new consumers is mine' (all found there.0 mine') all one first) [
      | inl old ↦ settled row one here ready old
      | inr both ↦ ap (may_be_served rows) both.0 ∙ false_from_ne_true (may_be_served rows new) (λ may.
          let parts = and_parts (not found.cancelled) (nat_lt 0 (free_credit rows new)) may in
          false≢true (sym (settled row found here ready both.1) ∙ and_from (not found.cancelled) _ parts.0
          (drained-less found.mode found.credit (out_count found.id rows) parts.1)))
    ]

-- the consumer of a credit that isn't refused isn't cancelled
credited-going : (index : Index) (given : Stamp) (tag count credit : ℕ) (wanted : Bool) (p : Progress)
    → let a = act index (Credit given tag count credit wanted) p in
    is_credited a.answer ≡ true → AreGoing (consumer_id given tag) (check_out_all a.progress).state.consumers
credited-going index given tag count credit wanted p credited =
    let id : ConsumerId = consumer_id given tag in
    let a : Acted = act index (Credit given tag count credit wanted) p in
    let is = act-credit index given tag count credit wanted p in
    let gives : Gives id (count + credit) p a =
    subst (Gives id (count + credit) p) (sym is)
    (credit-gives id (count + credit) p (ap (λ (b : Acted). is_credited b.answer) (sym is) ∙ credited)) in
    check_out_all-keeps (λ q. AreGoing id q.state.consumers)
    (each-delivers (λ one. one.id ≡ id → one.cancelled ≡ false) (λ rows turn one goes may same.
    serve-cancelled turn one ∙ goes (sym (serve-id turn one) ∙ same))) a.progress
    (credit-each (λ one. one.cancelled ≡ false) id (count + credit) p a gives (λ one turn goes same. goes same)
    gives.going)

abbrev SettledIn : Progress → Type 0
SettledIn p = Settled p.state.rows p.state.consumers

drain-settled : (index : Index) (command : Command) (p : Progress)
    → let a = map_progress check_out_all (act index command p) in
    SettledIn a.progress → SettledIn (drain_after command a).progress
unfolding drain_after
drain-settled index (Credit given tag count credit wanted) p settled =
    cond_both (wanted && is_credited a.answer)
    (drain_by (consumer_of id a.progress.state.consumers) a.answer a.progress) a
    (λ (b : Acted). SettledIn b.progress)
    (λ drains. by (and_parts wanted (is_credited a.answer) drains).1 (consumer_of id a.progress.state.consumers) refl)
    (λ _. settled)
  where
    id : ConsumerId
    id = consumer_id given tag

    a : Acted
    a = map_progress check_out_all (act index (Credit given tag count credit wanted) p)

    by : is_credited a.answer ≡ true → (o : Option Consumer) → consumer_of id a.progress.state.consumers ≡ o
        → SettledIn (drain_by o a.answer a.progress).progress
    by credited None found = settled
    by credited (Some consumer) found =
        settled-drained a.progress.state.rows a.progress.state.consumers id consumer found
        (credited-going index given tag count credit wanted p credited) settled
drain-settled index _ p settled = settled

-- Limits ---------------------------------------------------------------------------------------------------

-- fewer messages are ready, and all else that counts is as it was
record Thins (base q : Progress) : Type 0 where
  rising : Rises (indices q.state.rows)
  consumers : q.state.consumers ≡ base.state.consumers
  out : (id : ConsumerId) → out_count id q.state.rows ≡ out_count id base.state.rows
  ready : (row : Row) → In row q.state.rows → is_ready row.place ≡ true → In row base.state.rows

ready-in : (id : ConsumerId) (place : Place) → is_ready place ≡ true → is_out_to id place ≡ false
ready-in id (Ready key) ready = refl
ready-in id _ ready = absurd (false≢true ready)

thins-on : (base p q : Progress) (row : Row) → next_message p.state.rows ≡ Some row → Buries row p q → Thins base p
    → Thins base q
thins-on base p q row found buries thins =
    let some = next_message-in p.state.rows row found in
    record {
      rising =
          subst Rises (sym (ap indices buries.rows ∙ indices-put buries.new p.state.rows)) thins.rising;
      consumers = buries.consumers ∙ thins.consumers;
      out = λ id. ap (out_count id) buries.rows ∙ out-kept id buries.new p.state.rows
          (λ other within e. let itself : other ≡ row =
          unique other row p.state.rows thins.rising within some.0 (e ∙ ap (λ (i : Index). i.0) buries.index) in
          ready-in id other.place (ap (λ (r : Row). is_ready r.place) itself ∙ some.1))
          (not_out id buries.new.place buries.out) ∙ thins.out id;
      ready = λ one here ready.
          elim (In-put_row one buries.new p.state.rows (subst (In one) buries.rows here)) [
            | inl same ↦
                absurd (false≢true (sym buries.ready ∙ ap (λ (r : Row). is_ready r.place) (sym same) ∙ ready))
            | inr old ↦ thins.ready one old.0 ready
          ];
    }

limits-thin : (p : Progress) → Rises (indices p.state.rows) → Thins p (keep_limits p)
unfolding keep_limits drop_head
limits-thin p rising =
    while_next-keeps (Thins p) drop_head
    (λ a b thins made. cond_both (is_over_limit a.state.args a.state.rows)
    (drop_head_by (next_message a.state.rows) a) None (λ (o : Option Progress). o ≡ Some b → Thins p b)
    (λ _ e. one a b (next_message a.state.rows) refl thins e) (λ _ e. absurd cc) made) _ p
    (record { rising = rising; consumers = refl; out = λ id. refl; ready = λ row here ready. here })
  where
    one : (a b : Progress) (o : Option Row) → next_message a.state.rows ≡ o → Thins p a → drop_head_by o a ≡ Some b
        → Thins p b
    one a b None found thins made = absurd cc
    one a b (Some row) found thins made =
        let same : die MaxLen row a ≡ b = cc in
        subst (Thins p) same (thins-on p a (die MaxLen row a) row found (die-buries MaxLen row a) thins)

limits-settled : (p : Progress) → Rises (indices p.state.rows) → SettledIn p → SettledIn (keep_limits p)
limits-settled p rising settled row one here ready first =
    let thins : Thins p (keep_limits p) = limits-thin p rising in
    ap (λ n. not one.cancelled && nat_lt 0 (credit_left one.mode one.credit n)) (thins.out one.id)
    ∙ settled row one (thins.ready row here ready) ready (ap first_going (sym thins.consumers) ∙ first)

-- Over entries ---------------------------------------------------------------------------------------------

carried-settled : (index : Index) (command : Command) (s : State) → s.args.single_active ≡ true
    → let t = (carry_out index command s).progress.state in Rises (indices t.rows) → Settled t.rows t.consumers
unfolding carry_out
carried-settled index command s single rising =
    let start : Progress = record { state = s; effects = [] } in
    let acted : Acted = act index command start in
    let checked : Progress = check_out_all acted.progress in
    let a : Acted = drain_after command (map_progress check_out_all acted) in
    let same = give-same (keep_limits a.progress) in
    let args : checked.state.args ≡ s.args =
    check_out_all-keeps (λ p. p.state.args ≡ s.args) (λ p row consumer is found next. is) acted.progress
    (act-delivers_none s index command).args in
    let settled = drain-settled index command start
    (checked-settled checked (ap (λ (x : QueueArgs). x.single_active) args ∙ single)
    (check_out_all-runs_out acted.progress)) in
    let rising' : Rises (indices a.progress.state.rows) =
    subst Rises (ap indices same.rows ∙ keep_limits-indices a.progress) rising in
    let limited = limits-settled a.progress rising' settled in
    subst (λ (rows : List Row). Settled rows (give_all_dead (keep_limits a.progress)).state.consumers) (sym same.rows)
    (subst (Settled (keep_limits a.progress).state.rows) (sym same.consumers) limited)

record Waitless (s : State) : Type 0 where
  sound : SoundRows s
  settled : s.args.single_active ≡ true → Settled s.rows s.consumers

pub active_does_not_wait : (args : QueueArgs) (entries : List Entry)
    → ActiveDoesNotWait (state_after (empty_queue args) entries)
active_does_not_wait args entries single row consumer here ready first =
    let s = state_after (empty_queue args) entries in
    let waitless : Waitless s = after-keeps Waitless (λ t. record {
      stale = λ x it. record { sound = (rows-kept t).stale x it.sound; settled = it.settled };
      fresh = λ command x y it.
          let sound = (rows-kept t).fresh command x y it.sound in
          let t' : State = record t { sessions = x } in
          record {
            sound = sound;
            settled = λ single'.
                carried-settled (next_index t) command t'
                (ap (λ (a : QueueArgs). a.single_active) (sym (carried-args (next_index t) command t')) ∙ single')
                sound.ordered.rising;
          };
    }) (empty_queue args) entries
    (record { sound = rows_at args []; settled = λ single row consumer here ready first. absurd here }) in
    waitless.settled single row consumer (in_contains s.rows row here) ready first
