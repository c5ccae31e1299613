-- Over all entries the count of a message is how often it was returned.
use Rattle.std.proofs.Common.{◌≡◌, ℕ, zero, suc, ◌+◌, ◌-◌, ◌<◌, Bool, false, List, [], ◌∷◌, ◌++◌, Option, Some, None, length, refl, sym, ap, ◌∙◌, subst, inl, inr, arith, if◌then◌else◌}
use Rattle.std.specs.Prelude.{slice_get, slice_index_or, Contains, filter}
use Rattle.std.specs.Option.{option_map_or}
use Rattle.std.specs.List.{AllZip}
use Rattle.std.proofs.lemmas.Option.{none-some}
use Rattle.qq_base.specs.declared.ids.Index.{Index}
use Rattle.qq_base.specs.declared.ids.ConsumerId.{ConsumerId}
use Rattle.qq_base.specs.Ids.{same_consumer}
use Rattle.qq_entry.specs.Command.{stamp}
use Rattle.qq_entry.specs.declared.answer.Full.{Full}
use Rattle.qq_entry.specs.declared.command.Command.{Command}
use Rattle.qq_entry.specs.declared.command.Command.TheVariants.{Enqueue}
use Rattle.qq_entry.specs.declared.command.Entry.{Entry}
use Rattle.qq_entry.specs.declared.command.Stamp.{Stamp}
use Rattle.qq_entry.specs.declared.queue.QueueArgs.{QueueArgs}
use Rattle.qq_model.specs.declared.place.Row.{Row}
use Rattle.qq_model.specs.declared.consumer.Consumer.{Consumer}
use Rattle.qq_model.specs.declared.session.Gate.{Gate}
use Rattle.qq_model.specs.declared.session.Gate.TheVariants.{Fresh}
use Rattle.qq_model.specs.State.{State, empty_queue}
use Rattle.qq_model.specs.Gate.{IsNumbered, gate, admit}
use Rattle.qq_model.specs.Limits.{publish_limit}
use Rattle.qq_model.specs.Changes.{Progress, consumer_of, put_consumer, is_needed}
use Rattle.qq_model.specs.Commands.{act, enqueue_by, enqueue}
use Rattle.qq_model.specs.Serving.{serve}
use Rattle.qq_model.specs.Reasons.{Follows, is_enqueue}
use Rattle.qq_model.specs.Step.{carry_out, go_through, step_by, step}
use Rattle.qq_model.specs.Audit.{next_index, next_step, state_after}
use Rattle.qq_base.proofs.Lists.{In, In-append_cases, find-in}
use Rattle.qq_model.proofs.CarryOut.{carry_out-keeps, follow_on, follow_on-keeps}
use Rattle.qq_model.proofs.Holders.{In-filtered, In-put_consumer}
use Rattle.qq_model.proofs.Lookups.{next_consumer-in}
use Rattle.qq_model.proofs.Serve.{serve-id}
use Rattle.qq_model.proofs.SingleChanges.{Acts, KeepsDeliveries, KeepsRows, Serves}
use Rattle.qq_model.proofs.Soundness.{Contains-in, rows_at}
use Rattle.qq_laws.specs.Counts.{HasCountedReturns, IsWithNumbered, ShowsReturns, is_returned, times_returned}
use Rattle.qq_laws.proofs.CountLemmas.{counts_returns, get-in, get-left}
use Rattle.qq_laws.proofs.Runs.{after-append, in_order, sound_at}
use Rattle.qq_laws.proofs.ServedLemmas.{leaves_out}
use Rattle.qq_laws.proofs.Steps.{next_stepped}

-- Whose consumers there are ----------------------------------------------------------------------------

abbrev AllNumbered : List Consumer → Type 0
AllNumbered consumers = (one : Consumer) → In one consumers → IsNumbered one.id.session

numbered-put : (id : ConsumerId) (consumers : List Consumer) (consumer new : Consumer) → AllNumbered consumers
    → consumer_of id consumers ≡ Some consumer → new.id ≡ consumer.id → AllNumbered (put_consumer new consumers)
numbered-put id consumers consumer new all found same one here = elim (In-put_consumer one new consumers here) [
  | inl is ↦
      subst (λ (c : ConsumerId). IsNumbered c.session) (sym (ap (λ (c : Consumer). c.id) is ∙ same))
      (all consumer (find-in (λ (c : Consumer). same_consumer c.id id) consumers consumer found).0)
  | inr old ↦ all one old
]

numbered-filter : (keeps : Consumer → Bool) (consumers : List Consumer) → AllNumbered consumers
    → AllNumbered (filter keeps consumers)
numbered-filter keeps consumers all one here = all one (In-filtered keeps one consumers here)

Numbered-rows : (command : Command) → KeepsRows command (λ p. AllNumbered p.state.consumers)
Numbered-rows command =
    record { row = λ p q old new all here moves out why turns. subst AllNumbered (sym turns.consumers) all }

-- a command of a session with numbers
Numbered-acts : (command : Command) → ((given : Stamp) → stamp command ≡ Some given → IsNumbered given.session)
    → Acts command (λ p. AllNumbered p.state.consumers)
Numbered-acts command numbered = record {
  rows = Numbered-rows command;
  purge = λ p all purges. all;
  attach = λ p term all least greater. all;
  join = λ p id mode all above own one here. elim (In-append_cases one p.state.consumers _ here) [
    | inl old ↦ all one old
    | inr new ↦ elim new [
      | inl same ↦
          subst IsNumbered (sym (ap (λ (c : Consumer). c.id.session) same ∙ own.2)) (numbered own.0 own.1)
      | inr later ↦ absurd later
    ]
  ];
  cancel = λ p id consumer all found. numbered-put id p.state.consumers consumer _ all found refl;
  finish = λ p all. numbered-filter (is_needed p.state.rows) p.state.consumers all;
  credit = λ p id consumer credit all found. numbered-put id p.state.consumers consumer _ all found refl;
  turn = λ p id consumer all found. numbered-put id p.state.consumers consumer _ all found refl;
  leave = λ p session all is same none. numbered-filter _ p.state.consumers all;
}

Numbered-delivers : KeepsDeliveries (λ p. AllNumbered p.state.consumers)
Numbered-delivers p row consumer all found next one here =
    elim (In-put_consumer one (serve (p.state.turns + 1) consumer) p.state.consumers here) [
      | inl is ↦
          subst (λ (c : ConsumerId). IsNumbered c.session)
          (sym (ap (λ (c : Consumer). c.id) is ∙ serve-id (p.state.turns + 1) consumer))
          (all consumer
          (next_consumer-in p.state.args.single_active p.state.rows p.state.consumers consumer next).0)
      | inr old ↦ all one old
    ]

Numbered-serves : (command : Command) → Serves command (λ p. AllNumbered p.state.consumers)
Numbered-serves command = record {
  rows = Numbered-rows command;
  offer = λ p number cause row all here is next may few. all;
  drain = λ p id consumer all found. numbered-put id p.state.consumers consumer _ all found refl;
}

-- a command that isn't a publish is of a session with numbers
abbrev IsOfNumbered : Command → Type 0
IsOfNumbered command =
    (given : Stamp) → stamp command ≡ Some given → is_enqueue command ≡ false → IsNumbered given.session

other-numbered : (index : Index) (command : Command) (s : State) → is_enqueue command ≡ false
    → IsOfNumbered command → AllNumbered s.consumers
    → AllNumbered (carry_out index command s).progress.state.consumers
other-numbered index command s none numbered all =
    carry_out-keeps {I = λ p. AllNumbered p.state.consumers} index command s
    (Numbered-acts command (λ given is. numbered given is none)) Numbered-delivers (Numbered-serves command)
    (λ p given message it is found. it) all

carried-numbered : (index : Index) (command : Command) (s : State) → IsOfNumbered command → AllNumbered s.consumers
    → AllNumbered (carry_out index command s).progress.state.consumers
unfolding carry_out act enqueue
carried-numbered index (Enqueue given origin message) s numbered all = by (publish_limit s.args s.rows)
  where
    start : Progress
    start = record { state = s; effects = [] }

    by : (o : Option Full) → AllNumbered
        (follow_on (Enqueue given origin message) (enqueue_by o index message start)).progress.state.consumers
    by None =
        follow_on-keeps {I = λ p. AllNumbered p.state.consumers} (Enqueue given origin message) Numbered-delivers
        (Numbered-serves (Enqueue given origin message)) (enqueue_by None index message start) all
    by (Some full) =
        follow_on-keeps {I = λ p. AllNumbered p.state.consumers} (Enqueue given origin message) Numbered-delivers
        (Numbered-serves (Enqueue given origin message)) (enqueue_by (Some full) index message start) all
carried-numbered index command s numbered all = other-numbered index command s refl numbered all

next-numbered : (s : State) (entry : Entry) → IsOfNumbered entry.command → AllNumbered s.consumers
    → AllNumbered (next_step s entry).state.consumers
unfolding step
next-numbered s entry numbered all = by (stamp entry.command)
  where
    passes : (g : Gate) (given : Stamp)
        → AllNumbered (go_through g (next_index s) given entry.command s).state.consumers
    passes Fresh given =
        carried-numbered (next_index s) entry.command (record s { sessions = admit s.sessions given }) numbered all
    passes _ given = all

    by : (o : Option Stamp) → AllNumbered (step_by o (next_index s) entry.command s).state.consumers
    by None = carried-numbered (next_index s) entry.command (record s { sessions = s.sessions }) numbered all
    by (Some given) = passes (gate s.sessions given) given

-- Counts over entries ----------------------------------------------------------------------------------

-- the count of the message at a place among all
abbrev count_at : ℕ → List Row → ℕ
count_at k rows = option_map_or (λ (row : Row). row.count) (slice_get rows k) 0

zip-at : {A B : Type 0} (R : A → B → Type 0) (xs : List A) (ys : List B) (k : ℕ) (x : A) → AllZip R xs ys
    → slice_get xs k ≡ Some x → (y : B) × (slice_get ys k ≡ Some y)
zip-at R [] ys k x zipped found = absurd cc
zip-at R (a ∷ xs) [] k x zipped found = absurd zipped
zip-at R (a ∷ xs) (b ∷ ys) zero x zipped found = (b, refl)
zip-at R (a ∷ xs) (b ∷ ys) (suc k) x zipped found = zip-at R xs ys k x zipped.1 found

-- how much an entry adds to the count at a place
abbrev adds : ℕ → State → Entry → ℕ
adds k s entry = if option_map_or (is_returned s entry) (slice_get s.rows k) false then 1 else 0

numbered-places : (args : QueueArgs) (before : List Entry) (k : ℕ) (row : Row)
    → let s = state_after (empty_queue args) before in AllNumbered s.consumers → In row s.rows
    → IsWithNumbered row.place
numbered-places args before k row all here consumer id is =
    let seat = (rows_at args before).held row consumer id here is in
    subst (λ (c : ConsumerId). IsNumbered c.session) seat.2 (all seat.0 seat.1)

next-count : (args : QueueArgs) (before : List Entry) (entry : Entry) (k : ℕ)
    → let s = state_after (empty_queue args) before in AllNumbered s.consumers
    → count_at k (next_step s entry).state.rows ≡ count_at k s.rows + adds k s entry
next-count args before entry k all = by (slice_get s.rows k) refl (slice_get made k) refl
  where
    s : State
    s = state_after (empty_queue args) before

    made : List Row
    made = (next_step s entry).state.rows

    counts : (old : Row) → slice_get s.rows k ≡ Some old → (new : Row) × (slice_get made k ≡ Some new)
    counts old was =
        zip-at (Follows s.args entry.command) _ made k old (next_stepped s entry (sound_at args before)).rows.rows
        (get-left s.rows _ k old was)

    by : (o : Option Row) → slice_get s.rows k ≡ o → (m : Option Row) → slice_get made k ≡ m
        → count_at k made ≡ count_at k s.rows + adds k s entry
    by None was None now =
        let first : count_at k s.rows ≡ 0 = ap (λ (q : Option Row). option_map_or (λ (r : Row). r.count) q 0) was in
        let last : count_at k made ≡ 0 = ap (λ (q : Option Row). option_map_or (λ (r : Row). r.count) q 0) now in
        let none : adds k s entry ≡ 0 =
        ap (λ (q : Option Row). let n : ℕ = if option_map_or (is_returned s entry) q false then 1 else 0 in n) was in
        omega (arith, first, last, none)
    by None was (Some new) now =
        let first : count_at k s.rows ≡ 0 = ap (λ (q : Option Row). option_map_or (λ (r : Row). r.count) q 0) was in
        let last : count_at k made ≡ new.count =
        ap (λ (q : Option Row). option_map_or (λ (r : Row). r.count) q 0) now in
        let none : adds k s entry ≡ 0 =
        ap (λ (q : Option Row). let n : ℕ = if option_map_or (is_returned s entry) q false then 1 else 0 in n) was in
        omega (arith, first, last, none, (counts_returns args before entry).fresh k new was now)
    by (Some old) was None now =
        let some = counts old was in absurd (none-some some.0 (sym now ∙ some.1))
    by (Some old) was (Some new) now =
        let first : count_at k s.rows ≡ old.count =
        ap (λ (q : Option Row). option_map_or (λ (r : Row). r.count) q 0) was in
        let last : count_at k made ≡ new.count =
        ap (λ (q : Option Row). option_map_or (λ (r : Row). r.count) q 0) now in
        let more : adds k s entry ≡ (if is_returned s entry old then 1 else 0) =
        ap (λ (q : Option Row). let n : ℕ = if option_map_or (is_returned s entry) q false then 1 else 0 in n) was in
        let counted = (counts_returns args before entry).counted k old new was now
        (numbered-places args before k old all (get-in s.rows k old was)) in
        omega (arith, first, last, more, counted)

counts-after : (args : QueueArgs) (before entries : List Entry) (k : ℕ)
    → let s = state_after (empty_queue args) before in AllNumbered s.consumers
    → ((entry : Entry) → In entry entries → IsOfNumbered entry.command)
    → count_at k (state_after s entries).rows ≡ count_at k s.rows + times_returned k s entries
counts-after args before [] k all numbered = omega arith
counts-after args before (entry ∷ entries) k all numbered =
    let s = state_after (empty_queue args) before in
    let t = (next_step s entry).state in
    let same : state_after (empty_queue args) (before ++ entry ∷ []) ≡ t =
    after-append (empty_queue args) before (entry ∷ []) in
    let all' : AllNumbered t.consumers = next-numbered s entry (numbered entry (inl refl)) all in
    let rest : count_at k (state_after t entries).rows ≡ count_at k t.rows + times_returned k t entries =
    subst (λ (u : State). count_at k (state_after u entries).rows ≡ count_at k u.rows + times_returned k u entries)
    same
    (counts-after args (before ++ entry ∷ []) entries k
    (subst (λ (u : State). AllNumbered u.consumers) (sym same) all') (λ one later. numbered one (inr later))) in
    omega (arith, rest, next-count args before entry k all)

pub has_counted_returns : (args : QueueArgs) (entries : List Entry) → HasCountedReturns args entries
has_counted_returns args entries k row numbered found =
    let s = state_after (empty_queue args) entries in
    let all = counts-after args [] entries k (λ one here. absurd here)
    (λ entry here given is none. numbered entry given (Contains-in entry entries here) is none) in
    let mine : count_at k s.rows ≡ row.count =
    ap (λ (q : Option Row). option_map_or (λ (r : Row). r.count) q 0) found in
    omega (arith, all, mine)

get-at : {A : Type 0} (xs : List A) (k : ℕ) (x : A) → k < length xs → slice_index_or xs k x ≡ x
    → slice_get xs k ≡ Some x
get-at [] k x within is = absurd (omega arith)
get-at {A = A} (y ∷ xs) zero x within is = ap (λ (z : A). Some z) is
get-at (y ∷ xs) (suc k) x within is = get-at xs k x (omega arith) is

pub shows_returns : (args : QueueArgs) (before : List Entry) (entry : Entry) → ShowsReturns args before entry
shows_returns args before entry consumer delivery numbered here =
    let s = state_after (empty_queue args) before in
    let made = next_step s entry in
    let t = state_after (empty_queue args) (before ++ entry ∷ []) in
    let same : t ≡ made.state = after-append (empty_queue args) before (entry ∷ []) in
    let out = leaves_out args before entry consumer delivery here in
    let row : Row = out.0 in
    let there : Contains t.rows row = subst (λ (u : State). Contains u.rows row) (sym same) out.1 in
    let k : ℕ = there.0 in
    let counted : row.arrival ≡ k + 1 =
    ap (λ (r : Row). r.arrival) (sym there.2) ∙ (in_order args (before ++ entry ∷ [])).counted k row there.1 in
    let place : delivery.arrival - 1 ≡ k = omega (arith, counted, out.2.arrival) in
    let all : row.count ≡ times_returned k (empty_queue args) (before ++ entry ∷ []) =
    has_counted_returns args (before ++ entry ∷ []) k row numbered (get-at t.rows k row there.1 there.2) in
    sym out.2.count ∙ all ∙ ap (λ n. times_returned n (empty_queue args) (before ++ entry ∷ [])) (sym place)
