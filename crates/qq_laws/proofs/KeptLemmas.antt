-- A queue keeps its limits, and nobody waits in vain.
use Rattle.std.proofs.Common.{◌≡◌, ℕ, ◌+◌, ◌⊎◌, Bool, true, false, not, ◌&&◌, ◌||◌, cond, List, [], ◌∷◌, Option, Some, None, refl, sym, ap, ◌∙◌, subst, inl, inr, arith, if◌then◌else◌, ◌++◌}
use Rattle.std.specs.Prelude.{nat_eq, nat_lt, nat_le}
use Rattle.std.specs.Option.{is_some}
use Rattle.std.specs.List.{AllByRecursion}
use Rattle.std.proofs.lemmas.Bool.{false≢true, cases_Bool, cond-true, cond-false, cond_both, and_parts, and_from, eqb-true, or_parts, le-ltb}
use Rattle.std.proofs.lemmas.List.Sums.{sum_by-cons}
use Rattle.qq_base.specs.declared.ids.Index.{Index}
use Rattle.qq_base.specs.declared.ids.ConsumerId.{ConsumerId}
use Rattle.qq_entry.specs.Command.{stamp}
use Rattle.qq_entry.specs.declared.command.Command.{Command}
use Rattle.qq_entry.specs.declared.command.Command.TheVariants.{Enqueue, Credit}
use Rattle.qq_entry.specs.declared.command.Entry.{Entry}
use Rattle.qq_entry.specs.declared.command.Mode.{Mode}
use Rattle.qq_entry.specs.declared.command.Mode.TheVariants.{Prefetch, Link}
use Rattle.qq_entry.specs.declared.command.Stamp.{Stamp}
use Rattle.qq_entry.specs.declared.message.Message.{Message}
use Rattle.qq_entry.specs.declared.message.Reason.{Reason}
use Rattle.qq_entry.specs.declared.queue.QueueArgs.{QueueArgs}
use Rattle.qq_entry.specs.declared.queue.Strategy.{Strategy}
use Rattle.qq_entry.specs.declared.queue.Strategy.TheVariants.{Absent, AtMostOnce, AtLeastOnce}
use Rattle.qq_model.specs.declared.place.GoneReason.TheVariants as gone
use Rattle.qq_model.specs.declared.place.Place.{Place}
use Rattle.qq_model.specs.declared.place.Place.TheVariants.{Ready, Dead, Gone}
use Rattle.qq_model.specs.declared.place.Row.{Row}
use Rattle.qq_model.specs.declared.consumer.Consumer.{Consumer}
use Rattle.qq_model.specs.State.{State, empty_queue}
use Rattle.qq_model.specs.Choice.{key_less, ready_key, next_message, is_out_to, out_count, free_credit, credit_left, may_be_served, waiting_turn, longest_waiting, next_consumer, active_consumer}
use Rattle.qq_model.specs.Limits.{is_ready, is_with_consumer, ready_count, ready_bytes, is_over_limit, is_drop_head, has_passed, publish_limit, is_reject_publish, has_reached, live_count}
use Rattle.qq_model.specs.Changes.{Progress, put_row, put_consumer, consumer_of, die, die_by}
use Rattle.qq_model.specs.Commands.{Acted, act, enqueue_by, enqueue}
use Rattle.qq_model.specs.Serving.{deliver_by, check_out, check_out_all, drain_by, is_credited, drain_after, drop_head_by, drop_head, keep_limits, next_dead, offer_at, offer_by, give_dead, give_all_dead}
use Rattle.qq_entry.specs.Command.{consumer_id}
use Rattle.qq_entry.specs.declared.message.Reason.TheVariants.{MaxLen}
use Rattle.qq_model.specs.Step.{map_progress, carry_out, Step}
use Rattle.qq_model.specs.Audit.{next_index, state_after}
use Rattle.qq_base.proofs.Lists.{In, find-in}
use Rattle.qq_base.specs.Ids.{same_consumer}
use Rattle.qq_model.proofs.Choices.{is_some-if, next_message-in, place_key-ready}
use Rattle.qq_model.proofs.Drawn.{In-put_row}
use Rattle.qq_model.proofs.Holders.{In-put_consumer}
use Rattle.qq_model.proofs.Indices.{Rises, indices, unique}
use Rattle.qq_model.proofs.InOrder.{indices-put}
use Rattle.qq_model.proofs.Least.{key_less-order, least_by-none, nat_lt-order}
use Rattle.qq_base.proofs.Lists.{AllByRecursion-in}
use Rattle.qq_model.proofs.Loops.{while_next-keeps}
use Rattle.qq_model.proofs.OutCounts.{out-cons, not_out}
use Rattle.qq_model.proofs.RunsOut.{check_out_all-runs_out, keep_limits-runs_out}
use Rattle.qq_model.proofs.Soundness.{in_contains, rows_at, SoundRows, rows-kept}
use Rattle.qq_model.proofs.StepKeeps.{after-keeps}
use Rattle.qq_laws.specs.Kept.{IsWithinLimits, NobodyWaits, RejectsAtLimit}
use Rattle.qq_laws.proofs.TakenLemmas.{none-ready, let_in, made-carried}
use Rattle.qq_laws.specs.Published.{is_confirmed}
use Rattle.qq_entry.specs.declared.message.Origin.{Origin}
use Rattle.qq_entry.specs.declared.answer.Full.TheVariants.{Length, ByteLength, Live}
use Rattle.qq_model.proofs.ActKeeps.{act-keeps}
use Rattle.qq_model.proofs.CarryOut.{carry_out-keeps, check_out_all-keeps}
use Rattle.qq_model.proofs.SingleChanges.{Acts, KeepsRows}
use Rattle.qq_entry.specs.declared.audit.Effect.TheVariants.{DeadOnce}

-- Dead giving changes neither rows nor consumers -------------------------------------------------------

pub record Same (p q : Progress) : Type 0 where
  pub rows : q.state.rows ≡ p.state.rows
  pub consumers : q.state.consumers ≡ p.state.consumers
  pub args : q.state.args ≡ p.state.args

offer-same : (place : Place) (row : Row) (p q : Progress) → offer_at place row p ≡ Some q → Same p q
offer-same (Dead number cause) row p q made =
    let same = some-same made in
    record {
      rows = ap (λ (r : Progress). r.state.rows) (sym same);
      consumers = ap (λ (r : Progress). r.state.consumers) (sym same);
      args = ap (λ (r : Progress). r.state.args) (sym same);
    }
  where
    some-same : {a b : Progress} → Some a ≡ Some b → a ≡ b
    some-same e = cc
offer-same _ row p q made = absurd cc

offer_by-same : (o : Option Row) (p q : Progress) → offer_by o p ≡ Some q → Same p q
offer_by-same None p q made = absurd cc
offer_by-same (Some row) p q made = offer-same row.place row p q made

pub give-same : (p : Progress) → Same p (give_all_dead p)
unfolding give_all_dead give_dead
give-same p =
    while_next-keeps (Same p) give_dead
    (λ a b same made. onward a b same (cond_both _ (offer_by (next_dead a.state.given a.state.rows) a) None
    (λ (o : Option Progress). o ≡ Some b → Same a b) (λ _ e. offer_by-same _ a b e) (λ _ e. absurd cc) made)) _ p
    (record { rows = refl; consumers = refl; args = refl })
  where
    onward : (a b : Progress) → Same p a → Same a b → Same p b
    onward a b first second = record {
      rows = second.rows ∙ first.rows;
      consumers = second.consumers ∙ first.consumers;
      args = second.args ∙ first.args;
    }

-- Limits -----------------------------------------------------------------------------------------------

none-bytes : (rows : List Row) → next_message rows ≡ None → ready_bytes rows ≡ 0
none-bytes rows none = keyless rows (least_by-none key_less ready_key key_less-order rows none)
  where
    keyless : (rows : List Row) → AllByRecursion (λ (row : Row). ready_key row ≡ None) rows → ready_bytes rows ≡ 0
    keyless [] each = refl
    keyless (row ∷ rows) each =
        let here : is_ready row.place ≡ false = sym (place_key-ready row.place) ∙ ap is_some each.0 in
        let nothing : (if is_ready row.place then row.size else 0) ≡ 0 = cond-false (is_ready row.place) row.size 0
        here in
        omega (
          arith,
          sum_by-cons (λ (one : Row). if is_ready one.place then one.size else 0) row rows,
          nothing,
          keyless rows each.1,
        )

passed-none : (limit : Option ℕ) → has_passed limit 0 ≡ false
passed-none None = refl
passed-none (Some n) = le-ltb n 0 (omega arith)

-- where nothing is ready, no limit is passed
none-over : (args : QueueArgs) (rows : List Row) → next_message rows ≡ None → is_over_limit args rows ≡ false
none-over args rows none =
    ap (λ n. is_drop_head args.overflow &&
    (has_passed args.max_length n || has_passed args.max_bytes (ready_bytes rows)))
    (none-ready rows none)
    ∙ ap (λ n. is_drop_head args.overflow && (has_passed args.max_length 0 || has_passed args.max_bytes n))
    (none-bytes rows none)
    ∙ ap (λ b. is_drop_head args.overflow && (b || has_passed args.max_bytes 0)) (passed-none args.max_length)
    ∙ ap (λ b. is_drop_head args.overflow && b) (passed-none args.max_bytes) ∙ neither (is_drop_head args.overflow)
  where
    neither : (b : Bool) → (b && false) ≡ false
    neither true = refl
    neither false = refl

pub limits-within : (p : Progress)
    → is_over_limit (keep_limits p).state.args (keep_limits p).state.rows ≡ false
unfolding drop_head
limits-within p =
    let q : Progress = keep_limits p in
    by q (cases_Bool (is_over_limit q.state.args q.state.rows)) (next_message q.state.rows) refl
    (keep_limits-runs_out p)
  where
    by : (q : Progress) → (is_over_limit q.state.args q.state.rows ≡ true)
        ⊎ (is_over_limit q.state.args q.state.rows ≡ false) → (o : Option Row) → next_message q.state.rows ≡ o
        → drop_head q ≡ None → is_over_limit q.state.args q.state.rows ≡ false
    by q (inr within) o found ends = within
    by q (inl over) None found ends = none-over q.state.args q.state.rows found
    by q (inl over) (Some row) found ends =
        let e : Some (die MaxLen row q) ≡ None =
        ap (λ o. drop_head_by o q) (sym found)
        ∙ sym (cond-true (is_over_limit q.state.args q.state.rows) (drop_head_by (next_message q.state.rows) q) None
        over)
        ∙ ends in
        absurd cc

abbrev NotOver : State → Type 0
NotOver s = is_over_limit s.args s.rows ≡ false

carried-within : (index : Index) (command : Command) (s : State) → NotOver (carry_out index command s).progress.state
unfolding carry_out
carried-within index command s =
    let p : Progress =
    (drain_after command (map_progress check_out_all (act index command (record {
      state = s;
      effects = [];
    })))).progress in
    let same = give-same (keep_limits p) in
    ap (λ args. is_over_limit args (give_all_dead (keep_limits p)).state.rows) same.args
    ∙ ap (is_over_limit (keep_limits p).state.args) same.rows ∙ limits-within p

pub within_limits : (args : QueueArgs) (entries : List Entry)
    → IsWithinLimits (state_after (empty_queue args) entries)
within_limits args entries drops =
    let s = state_after (empty_queue args) entries in
    let not_over : NotOver s = after-keeps NotOver (λ t. record {
      stale = λ x holds. holds;
      fresh = λ command x y holds. carried-within (next_index t) command (record t { sessions = x });
    }) (empty_queue args) entries (none-over args [] refl) in
    let either = (has_passed s.args.max_length (ready_count s.rows) || has_passed s.args.max_bytes
    (ready_bytes s.rows)) in
    let none : either ≡ false = ap (λ b. b && either) (sym drops) ∙ not_over in
    or_parts (has_passed s.args.max_length (ready_count s.rows)) (has_passed s.args.max_bytes (ready_bytes s.rows))
    none

-- Nobody waits ----------------------------------------------------------------------------------------------

-- where a message is ready, no consumer may be served
abbrev Quiet : List Row → List Consumer → Type 0
Quiet rows consumers =
    (row : Row) (consumer : Consumer) → In row rows → is_ready row.place ≡ true → In consumer consumers
    → may_be_served rows consumer ≡ false

false-if : (b : Bool) → (b ≡ true → ⊥) → b ≡ false
false-if true never = absurd (never refl)
false-if false never = refl

none-waits : (rows : List Row) (consumers : List Consumer) → longest_waiting rows consumers ≡ None
    → (consumer : Consumer) → In consumer consumers → may_be_served rows consumer ≡ false
none-waits rows consumers none consumer here =
    sym (is_some-if (may_be_served rows consumer) consumer.turn)
    ∙ ap is_some (AllByRecursion-in (λ (one : Consumer). waiting_turn rows one ≡ None) consumer consumers
    (least_by-none nat_lt (waiting_turn rows) nat_lt-order consumers none) here)

checked-quiet : (p : Progress) → p.state.args.single_active ≡ false → check_out p ≡ None
    → Quiet p.state.rows p.state.consumers
unfolding check_out
checked-quiet p single ends row consumer here ready there =
    by (next_message p.state.rows) refl (next_consumer p.state.args.single_active p.state.rows p.state.consumers)
    refl ends
  where
    by : (o : Option Row) → next_message p.state.rows ≡ o → (c : Option Consumer)
        → next_consumer p.state.args.single_active p.state.rows p.state.consumers ≡ c → deliver_by o c p ≡ None
        → may_be_served p.state.rows consumer ≡ false
    by None found c next ends =
        let keyless : ready_key row ≡ None =
        AllByRecursion-in (λ (one : Row). ready_key one ≡ None) row p.state.rows
        (least_by-none key_less ready_key key_less-order p.state.rows found) here in
        absurd (false≢true (ap is_some (sym keyless) ∙ place_key-ready row.place ∙ ready))
    by (Some first) found None next ends =
        let longest : longest_waiting p.state.rows p.state.consumers ≡ None =
        sym (cond-false p.state.args.single_active (active_consumer p.state.rows p.state.consumers)
        (longest_waiting p.state.rows p.state.consumers) single) ∙ next in
        none-waits p.state.rows p.state.consumers longest consumer there
    by (Some first) found (Some one) next ends = absurd cc

-- no credit is left after a drain
drained-less : (mode : Mode) (credit out : ℕ) → nat_lt 0 (credit_left mode 0 out) ≡ true
    → nat_lt 0 (credit_left mode credit out) ≡ true
drained-less (Prefetch prefetch) credit out may = may
drained-less Link credit out may = absurd (false≢true (sym (le-ltb 0 0 (omega arith)) ∙ may))

quiet-drained : (rows : List Row) (consumers : List Consumer) (id : ConsumerId) (consumer : Consumer)
    → consumer_of id consumers ≡ Some consumer → Quiet rows consumers
    → Quiet rows (put_consumer (record consumer { credit = 0; count = consumer.count + consumer.credit }) consumers)
quiet-drained rows consumers id consumer found quiet row one here ready there =
    let new : Consumer = record consumer { credit = 0; count = consumer.count + consumer.credit } in
    elim (In-put_consumer one new consumers there) [
      | inr old ↦ quiet row one here ready old
      | inl same ↦ ap (may_be_served rows) same ∙ false-if (may_be_served rows new) (λ may.
          let parts = and_parts (not consumer.cancelled) (nat_lt 0 (free_credit rows new)) may in
          let first = (find-in (λ (c : Consumer). same_consumer c.id id) consumers consumer found).0 in
          false≢true (sym (quiet row consumer here ready first) ∙ and_from (not consumer.cancelled) _ parts.0
          (drained-less consumer.mode consumer.credit (out_count consumer.id rows) parts.1)))
    ]

drain-quiet : (command : Command) (a : Acted) → Quiet a.progress.state.rows a.progress.state.consumers
    → let p = (drain_after command a).progress in Quiet p.state.rows p.state.consumers
unfolding drain_after
drain-quiet (Credit stamp tag count credit wanted) a quiet =
    cond_both (wanted && is_credited a.answer)
    (drain_by (consumer_of (consumer_id stamp tag) a.progress.state.consumers) a.answer a.progress) a
    (λ (b : Acted). Quiet b.progress.state.rows b.progress.state.consumers)
    (λ _. by (consumer_of (consumer_id stamp tag) a.progress.state.consumers) refl) (λ _. quiet)
  where
    by : (o : Option Consumer) → consumer_of (consumer_id stamp tag) a.progress.state.consumers ≡ o
        → let p = (drain_by o a.answer a.progress).progress in Quiet p.state.rows p.state.consumers
    by None found = quiet
    by (Some consumer) found =
        quiet-drained a.progress.state.rows a.progress.state.consumers (consumer_id stamp tag) consumer found quiet
drain-quiet _ a quiet = quiet

-- what a message that dies leaves
pub record Buries (row : Row) (p q : Progress) : Type 0 where
  pub new : Row
  pub index : new.index ≡ row.index
  pub ready : is_ready new.place ≡ false
  pub out : is_with_consumer new.place ≡ false
  pub rows : q.state.rows ≡ put_row new p.state.rows
  pub consumers : q.state.consumers ≡ p.state.consumers
  pub effects : (q.effects ≡ p.effects)
      ⊎ ((cause : Reason) × (message : Message) × (q.effects ≡ p.effects ++ DeadOnce cause message ∷ []))

pub die-buries : (cause : Reason) (row : Row) (p : Progress) → Buries row p (die cause row p)
unfolding die
die-buries cause row p = by p.state.args.strategy
  where
    by : (strategy : Strategy) → Buries row p (die_by strategy cause row p)
    by Absent = record {
      new = record row { place = Gone (gone.Died cause) };
      index = refl;
      ready = refl;
      out = refl;
      rows = refl;
      consumers = refl;
      effects = inl refl;
    }
    by AtMostOnce = record {
      new = record row { place = Gone (gone.Died cause) };
      index = refl;
      ready = refl;
      out = refl;
      rows = refl;
      consumers = refl;
      effects = inr (cause, _, refl);
    }
    by AtLeastOnce = record {
      new = record row { place = Dead (p.state.deads + 1) cause };
      index = refl;
      ready = refl;
      out = refl;
      rows = refl;
      consumers = refl;
      effects = inl refl;
    }

-- what is out stays so, where another row is put
pub out-kept : (id : ConsumerId) (new : Row) (rows : List Row)
    → ((row : Row) → In row rows → row.index.0 ≡ new.index.0 → is_out_to id row.place ≡ false)
    → is_out_to id new.place ≡ false → out_count id (put_row new rows) ≡ out_count id rows
out-kept id new [] apart out = refl
out-kept id new (row ∷ rows) apart out =
    let rest = out-kept id new rows (λ one later. apart one (inr later)) out in
    let first : Row = if nat_eq row.index.0 new.index.0 then new else row in
    let same : is_out_to id first.place ≡ is_out_to id row.place =
    elim (cases_Bool (nat_eq row.index.0 new.index.0)) [
      | inl is ↦
          ap (λ (r : Row). is_out_to id r.place) (cond-true (nat_eq row.index.0 new.index.0) new row is) ∙ out
          ∙ sym (apart row (inl refl) (eqb-true row.index.0 new.index.0 is))
      | inr other ↦
          ap (λ (r : Row). is_out_to id r.place) (cond-false (nat_eq row.index.0 new.index.0) new row other)
    ] in
    let one : cond (is_out_to id first.place) 1 0 ≡ cond (is_out_to id row.place) 1 0 =
    ap (λ b. let n : ℕ = cond b 1 0 in n) same in
    omega (arith, out-cons id first (put_row new rows), out-cons id row rows, one, rest)

-- rows in order, and nobody waits
record Calm (rows : List Row) (consumers : List Consumer) : Type 0 where
  rising : Rises (indices rows)
  quiet : Quiet rows consumers

ready-out : (id : ConsumerId) (place : Place) → is_ready place ≡ true → is_out_to id place ≡ false
ready-out id (Ready key) ready = refl
ready-out id _ ready = absurd (false≢true ready)

calm-dropped : (p q : Progress) (row : Row) → next_message p.state.rows ≡ Some row → Buries row p q
    → Calm p.state.rows p.state.consumers → Calm q.state.rows q.state.consumers
calm-dropped p q row found buries calm =
    subst (λ (rows : List Row). Calm rows q.state.consumers) (sym buries.rows)
    (subst (Calm (put_row buries.new p.state.rows)) (sym buries.consumers) (record {
      rising = subst Rises (sym (indices-put buries.new p.state.rows)) calm.rising;
      quiet = quiet;
    }))
  where
    quiet : Quiet (put_row buries.new p.state.rows) p.state.consumers
    quiet one consumer here ready there =
        let some = next_message-in p.state.rows row found in
        let same : out_count consumer.id (put_row buries.new p.state.rows) ≡ out_count consumer.id p.state.rows =
        out-kept consumer.id buries.new p.state.rows
        (λ other within e. let itself : other ≡ row =
        unique other row p.state.rows calm.rising within some.0 (e ∙ ap (λ (i : Index). i.0) buries.index) in
        ready-out consumer.id other.place (ap (λ (r : Row). is_ready r.place) itself ∙ some.1))
        (not_out consumer.id buries.new.place buries.out) in
        let alike : may_be_served (put_row buries.new p.state.rows) consumer ≡ may_be_served p.state.rows consumer =
        ap (λ n. not consumer.cancelled && nat_lt 0 (credit_left consumer.mode consumer.credit n)) same in
        elim (In-put_row one buries.new p.state.rows here) [
          | inl new ↦
              absurd (false≢true (sym buries.ready ∙ ap (λ (r : Row). is_ready r.place) (sym new) ∙ ready))
          | inr old ↦ alike ∙ calm.quiet one consumer old.0 ready there
        ]

keep_limits-calm : (p : Progress) → Calm p.state.rows p.state.consumers
    → Calm (keep_limits p).state.rows (keep_limits p).state.consumers
unfolding keep_limits drop_head
keep_limits-calm p calm =
    while_next-keeps (λ (q : Progress). Calm q.state.rows q.state.consumers) drop_head
    (λ a b calm made. cond_both (is_over_limit a.state.args a.state.rows)
    (drop_head_by (next_message a.state.rows) a) None
    (λ (o : Option Progress). o ≡ Some b → Calm b.state.rows b.state.consumers)
    (λ _ e. one a b (next_message a.state.rows) refl calm e) (λ _ e. absurd cc) made) _ p calm
  where
    one : (a b : Progress) (o : Option Row) → next_message a.state.rows ≡ o → Calm a.state.rows a.state.consumers
        → drop_head_by o a ≡ Some b → Calm b.state.rows b.state.consumers
    one a b None found calm made = absurd cc
    one a b (Some row) found calm made =
        let same : die MaxLen row a ≡ b = cc in
        subst (λ (q : Progress). Calm q.state.rows q.state.consumers) same
        (calm-dropped a (die MaxLen row a) row found (die-buries MaxLen row a) calm)

-- a drop leaves each row its index
pub keep_limits-indices : (p : Progress) → indices (keep_limits p).state.rows ≡ indices p.state.rows
unfolding keep_limits drop_head
keep_limits-indices p =
    while_next-keeps (λ (q : Progress). indices q.state.rows ≡ indices p.state.rows) drop_head
    (λ a b same made. cond_both (is_over_limit a.state.args a.state.rows)
    (drop_head_by (next_message a.state.rows) a) None
    (λ (o : Option Progress). o ≡ Some b → indices b.state.rows ≡ indices p.state.rows)
    (λ _ e. one a b (next_message a.state.rows) same e) (λ _ e. absurd cc) made) _ p refl
  where
    one : (a b : Progress) (o : Option Row) → indices a.state.rows ≡ indices p.state.rows → drop_head_by o a ≡ Some b
        → indices b.state.rows ≡ indices p.state.rows
    one a b None same made = absurd cc
    one a b (Some row) same made =
        let is : die MaxLen row a ≡ b = cc in
        let buries = die-buries MaxLen row a in
        ap (λ (q : Progress). indices q.state.rows) (sym is) ∙ ap indices buries.rows
        ∙ indices-put buries.new a.state.rows ∙ same

pub drain-rows : (command : Command) (a : Acted) → (drain_after command a).progress.state.rows ≡ a.progress.state.rows
unfolding drain_after
drain-rows (Credit stamp tag count credit wanted) a =
    cond_both (wanted && is_credited a.answer)
    (drain_by (consumer_of (consumer_id stamp tag) a.progress.state.consumers) a.answer a.progress) a
    (λ (b : Acted). b.progress.state.rows ≡ a.progress.state.rows)
    (λ _. by (consumer_of (consumer_id stamp tag) a.progress.state.consumers)) (λ _. refl)
  where
    by : (o : Option Consumer) → (drain_by o a.answer a.progress).progress.state.rows ≡ a.progress.state.rows
    by None = refl
    by (Some consumer) = refl
drain-rows _ a = refl

carried-quiet : (index : Index) (command : Command) (s : State)
    → let t = (carry_out index command s).progress.state in
    (checked : (check_out_all
    (act index command (record { state = s; effects = [] })).progress).state.args.single_active
    ≡ false) → Rises (indices t.rows) → Quiet t.rows t.consumers
unfolding carry_out
carried-quiet index command s single rising =
    let acted : Acted = act index command (record { state = s; effects = [] }) in
    let checked : Progress = check_out_all acted.progress in
    let a : Acted = drain_after command (map_progress check_out_all acted) in
    let same = give-same (keep_limits a.progress) in
    let quiet = drain-quiet command (map_progress check_out_all acted)
    (checked-quiet checked single (check_out_all-runs_out acted.progress)) in
    let rising' : Rises (indices a.progress.state.rows) =
    subst Rises (ap indices same.rows ∙ keep_limits-indices a.progress) rising in
    let calm = keep_limits-calm a.progress (record { rising = rising'; quiet = quiet }) in
    subst (λ (rows : List Row). Quiet rows (give_all_dead (keep_limits a.progress)).state.consumers) (sym same.rows)
    (subst (Quiet (keep_limits a.progress).state.rows) (sym same.consumers) calm.quiet)

-- The arguments stay -------------------------------------------------------------------------------------------

Args-rows : (args : QueueArgs) (command : Command) → KeepsRows command (λ p. p.state.args ≡ args)
Args-rows args command = record { row = λ p q old new same here moves out why turns. turns.args ∙ same }

Args-acts : (args : QueueArgs) (command : Command) → Acts command (λ p. p.state.args ≡ args)
Args-acts args command = record {
  rows = Args-rows args command;
  purge = λ p same purges. same;
  attach = λ p term same least greater. same;
  join = λ p id mode same above own. same;
  cancel = λ p id consumer same found. same;
  finish = λ p same. same;
  credit = λ p id consumer credit same found. same;
  turn = λ p id consumer same found. same;
  leave = λ p session same is also none. same;
}

pub checked-args : (index : Index) (command : Command) (s : State)
    → (check_out_all (act index command (record { state = s; effects = [] })).progress).state.args ≡ s.args
checked-args index command s =
    check_out_all-keeps (λ p. p.state.args ≡ s.args) (λ p row consumer same found next. same)
    (act index command (record { state = s; effects = [] })).progress
    (act-keeps {I = λ p. p.state.args ≡ s.args} index command (Args-acts s.args command)
    (λ p stamp message same is found. same) (record { state = s; effects = [] }) refl)

pub carried-args : (index : Index) (command : Command) (s : State)
    → (carry_out index command s).progress.state.args ≡ s.args
carried-args index command s =
    carry_out-keeps {I = λ p. p.state.args ≡ s.args} index command s (Args-acts s.args command)
    (λ p row consumer same found next. same) (record {
      rows = Args-rows s.args command;
      offer = λ p number cause row same here is found may few. same;
      drain = λ p id consumer same found. same;
    }) (λ p stamp message same is found. same) refl

record Waitless (s : State) : Type 0 where
  sound : SoundRows s
  quiet : s.args.single_active ≡ false → Quiet s.rows s.consumers

pub nobody_waits : (args : QueueArgs) (entries : List Entry) → NobodyWaits (state_after (empty_queue args) entries)
nobody_waits args entries single row consumer here ready there =
    let s = state_after (empty_queue args) entries in
    let waitless : Waitless s = after-keeps Waitless (λ t. record {
      stale = λ x it. record { sound = (rows-kept t).stale x it.sound; quiet = it.quiet };
      fresh = λ command x y it.
          let sound = (rows-kept t).fresh command x y it.sound in
          record {
            sound = sound;
            quiet = λ single.
                let t' : State = record t { sessions = x } in
                let index : Index = next_index t in
                carried-quiet index command t'
                (ap (λ (a : QueueArgs). a.single_active)
                (checked-args index command t' ∙ sym (carried-args index command t')) ∙ single)
                sound.ordered.rising;
          };
    }) (empty_queue args) entries
    (record { sound = rows_at args []; quiet = λ single row consumer here ready there. absurd here }) in
    waitless.quiet single row consumer (in_contains s.rows row here) ready (in_contains s.consumers consumer there)

-- Publishes ------------------------------------------------------------------------------------------------------

pub enqueue-answer : (given : Stamp) (origin : Option Origin) (message : Message) (index : Index) (s : State)
    → (carry_out index (Enqueue given origin message) s).answer
    ≡ (enqueue_by (publish_limit s.args s.rows) index message (record { state = s; effects = [] })).answer
unfolding carry_out act enqueue drain_after
enqueue-answer given origin message index s = refl

confirmed-by : (reject length bytes live : Bool) (index : Index) (message : Message) (p : Progress)
    → is_confirmed (enqueue_by
    (if reject && length then Some Length else if reject && bytes then Some ByteLength else if live then Some Live
    else None)
    index message p).answer ≡ not (reject && (length || bytes) || live)
confirmed-by true true bytes live index message p = refl
confirmed-by true false true live index message p = refl
confirmed-by true false false true index message p = refl
confirmed-by true false false false index message p = refl
confirmed-by false length bytes true index message p = refl
confirmed-by false length bytes false index message p = refl

pub rejects_at_limit : (s : State) (entry : Entry) → RejectsAtLimit s entry
rejects_at_limit s entry given origin message is fresh =
    let made = made-carried s entry given (Enqueue given origin message) is refl fresh in
    ap (λ (m : Step). is_confirmed m.answer) made
    ∙ ap is_confirmed (enqueue-answer given origin message (next_index s) (let_in s given))
    ∙ confirmed-by (is_reject_publish s.args.overflow) (has_reached s.args.max_length (ready_count s.rows))
    (has_reached s.args.max_bytes (ready_bytes s.rows)) (nat_le s.args.live (live_count s.rows)) (next_index s)
    message
    (record { state = let_in s given; effects = [] })
