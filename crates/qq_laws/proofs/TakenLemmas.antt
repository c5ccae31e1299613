-- What takes a message out of the queue, and what doesn't.
use Rattle.std.proofs.Common.{◌≡◌, ℕ, ◌⊎◌, true, false, cond, List, [], ◌∷◌, Option, Some, None, map, refl, sym, ap, ◌∙◌, subst, inl, inr, arith}
use Rattle.std.specs.List.{AllByRecursion}
use Rattle.std.specs.Option.{is_some}
use Rattle.std.proofs.lemmas.Bool.{cond-true, cond-false}
use Rattle.std.proofs.lemmas.List.Sums.{sum_by-cons}
use Rattle.qq_base.specs.declared.ids.Index.{Index}
use Rattle.qq_entry.specs.declared.queue.QueueArgs.{QueueArgs}
use Rattle.qq_entry.specs.declared.answer.Answer.TheVariants as answer
use Rattle.qq_entry.specs.declared.command.Command.{Command}
use Rattle.qq_entry.specs.declared.command.Command.TheVariants.{Get, Purge}
use Rattle.qq_entry.specs.declared.command.Entry.{Entry}
use Rattle.qq_entry.specs.declared.command.Stamp.{Stamp}
use Rattle.qq_entry.specs.Command.{stamp}
use Rattle.qq_model.specs.declared.place.GoneReason.TheVariants as gone
use Rattle.qq_model.specs.declared.place.Place.TheVariants.{Gone}
use Rattle.qq_model.specs.declared.place.Row.{Row}
use Rattle.qq_model.specs.declared.session.Gate.{Gate}
use Rattle.qq_model.specs.declared.session.Gate.TheVariants.{Fresh}
use Rattle.qq_model.specs.State.{State, Sessions, empty_queue}
use Rattle.qq_model.specs.Gate.{gate, admit}
use Rattle.qq_model.specs.Limits.{is_ready, ready_count}
use Rattle.qq_model.specs.Choice.{key_less, ready_key, next_message}
use Rattle.qq_model.specs.Changes.{Progress, delivery_of, put_row}
use Rattle.qq_model.specs.Commands.{Acted, act, get, get_by, purge, purge_row, refuse}
use Rattle.qq_entry.specs.declared.answer.Cause.TheVariants.{SingleActive}
use Rattle.qq_model.specs.Step.{Step, carry_out, go_through, step_by, step, pass_gate}
use Rattle.qq_model.specs.Audit.{next_index, next_step, state_after}
use Rattle.qq_base.proofs.Lists.{In, In-map}
use Rattle.qq_model.proofs.CarryOut.{follow_on, follow_on-keeps}
use Rattle.qq_model.proofs.Choices.{next_message-in, place_key-ready}
use Rattle.qq_model.proofs.InOrder.{Ordered, indices-put, indices-purged, Ordered-same, put-length}
use Rattle.qq_model.proofs.Least.{key_less-order, least_by-none}
use Rattle.qq_model.proofs.Soundness.{Contains-in, in_contains, rows_at}
use Rattle.qq_model.proofs.Spared.{Has, Has-delivers, Has-serves, IsSpared, carry_out-spares, gone-spared, out-spared}
use Rattle.qq_laws.specs.Taken.{PurgesReady, StaysOut, TakesFirst}
use Rattle.qq_laws.specs.Turns.{IsFirstMessage}
use Rattle.qq_laws.proofs.OnceLemmas.{fresh-gate}
use Rattle.qq_laws.proofs.Turns.{first_is_next}
use Rattle.qq_model.proofs.Drawn.{In-put_new}
use Rattle.qq_model.specs.declared.place.GoneReason.{GoneReason}
use Rattle.qq_model.specs.Serving.{drain_after}
use Rattle.std.specs.Prelude.{Contains, IfSome}
use Rattle.std.proofs.lemmas.List.{length-map}

ordered-with : (s : State) (x : Sessions) → Ordered s.applied s → Ordered s.applied (record s { sessions = x })
ordered-with s x it =
    record { rising = it.rising; below = it.below; arrivals = it.arrivals; messages = it.messages }

next-spares : (s : State) (entry : Entry) (row : Row) → IsSpared entry.command row → Ordered s.applied s
    → In row s.rows
    → In row (next_step s entry).state.rows
unfolding step
next-spares s entry row spared ordered there = by (stamp entry.command)
  where
    done : (x : Sessions)
        → In row (carry_out (next_index s) entry.command (record s { sessions = x })).progress.state.rows
    done x =
        carry_out-spares (record s { sessions = x }) (next_index s) entry.command row s.applied (omega arith) spared
        (ordered-with s x ordered) there

    passes : (g : Gate) (given : Stamp) → In row (go_through g (next_index s) given entry.command s).state.rows
    passes Fresh given = done (admit s.sessions given)
    passes _ given = there

    by : (o : Option Stamp) → In row (step_by o (next_index s) entry.command s).state.rows
    by None = done s.sessions
    by (Some given) = passes (gate s.sessions given) given

pub stays_out : (args : QueueArgs) (before : List Entry) (entry : Entry)
    → StaysOut (state_after (empty_queue args) before) entry
stays_out args before entry row consumer id here is goes =
    let s = state_after (empty_queue args) before in
    Contains-in row (next_step s entry).state.rows
    (next-spares s entry row (out-spared entry.command row consumer id is goes) (rows_at args before).ordered
    (in_contains s.rows row here))

-- What a command does by itself, and what follows on it ---------------------------------------------------

-- a command with a stamp that is carried out
fresh-made : (s : State) (entry : Entry) (given : Stamp) → stamp entry.command ≡ Some given
    → (next_step s entry).fresh ≡ true
    → next_step s entry
    ≡ pass_gate (next_index s) given
    (carry_out (next_index s) entry.command (record s { sessions = admit s.sessions given }))
unfolding step
fresh-made s entry given is fresh =
    let passed = fresh-gate s entry given is fresh in
    ap (λ o. step_by o (next_index s) entry.command s) is
    ∙ ap (λ g. go_through g (next_index s) given entry.command s) passed

-- a message that a command made gone is so after all that follows
gone-after : (command : Command) (a : Acted) (x : Row) (cause : GoneReason) (last : ℕ) → x.place ≡ Gone cause
    → Ordered last a.progress.state → In x a.progress.state.rows → In x (follow_on command a).progress.state.rows
gone-after command a x cause last is ordered here =
    let spared = gone-spared command x cause is in
    (follow_on-keeps {I = Has x last} command (Has-delivers x last spared.ready) (Has-serves command x last spared) a
    (ordered, here)).1

get-carried : (s : State) (index : Index) (given : Stamp) (o : Option Row) → next_message s.rows ≡ o
    → s.args.single_active ≡ false
    → carry_out index (Get given) s ≡ follow_on (Get given) (get_by o (record { state = s; effects = [] }))
unfolding carry_out act get
get-carried s index given o found single =
    let start : Progress = record { state = s; effects = [] } in
    ap (follow_on (Get given))
    (cond-false s.args.single_active (refuse SingleActive start) (get_by (next_message s.rows) start) single
    ∙ ap (λ (m : Option Row). get_by m start) found)

get-answer : (given : Stamp) (a : Acted) → (follow_on (Get given) a).answer ≡ a.answer
unfolding drain_after
get-answer given a = refl

pub none-ready : (rows : List Row) → next_message rows ≡ None → ready_count rows ≡ 0
none-ready rows none = keyless rows (least_by-none key_less ready_key key_less-order rows none)
  where
    keyless : (rows : List Row) → AllByRecursion (λ (row : Row). ready_key row ≡ None) rows → ready_count rows ≡ 0
    keyless [] each = refl
    keyless (row ∷ rows) each =
        let here : is_ready row.place ≡ false = sym (place_key-ready row.place) ∙ ap is_some each.0 in
        let nothing : cond (is_ready row.place) 1 0 ≡ 0 = ap (λ b. let n : ℕ = cond b 1 0 in n) here in
        omega (
          arith,
          sum_by-cons (λ (one : Row). cond (is_ready one.place) 1 0) row rows,
          nothing,
          keyless rows each.1,
        )

-- a state with its sessions as a command of this stamp was let in
abbrev pub let_in : State → Stamp → State
let_in s given = record s { sessions = admit s.sessions given }

pub made-carried : (s : State) (entry : Entry) (given : Stamp) (command : Command) → entry.command ≡ command
    → stamp command ≡ Some given → (next_step s entry).fresh ≡ true
    → next_step s entry ≡ pass_gate (next_index s) given (carry_out (next_index s) command (let_in s given))
made-carried s entry given command is stamped fresh =
    fresh-made s entry given (ap stamp is ∙ stamped) fresh
    ∙ ap (λ (c : Command). pass_gate (next_index s) given (carry_out (next_index s) c (let_in s given))) is

pub takes_first : (args : QueueArgs) (before : List Entry) (entry : Entry)
    → TakesFirst (state_after (empty_queue args) before) entry
takes_first args before entry given is fresh single = by (next_message s.rows) refl
  where
    s : State
    s = state_after (empty_queue args) before

    index : Index
    index = next_index s

    start : Progress
    start = record { state = let_in s given; effects = [] }

    made : (o : Option Row) → next_message s.rows ≡ o
        → next_step s entry ≡ pass_gate index given (follow_on (Get given) (get_by o start))
    made o found =
        made-carried s entry given (Get given) is refl fresh
        ∙ ap (pass_gate index given) (get-carried (let_in s given) index given o found single)

    by : (o : Option Row) → next_message s.rows ≡ o
        → (((next_step s entry).answer ≡ answer.Empty) × (ready_count s.rows ≡ 0))
        ⊎ ((row : Row) × Contains s.rows row × IsFirstMessage s.rows row
        × ((next_step s entry).answer ≡ answer.Got (delivery_of s 0 row))
        × Contains (next_step s entry).state.rows (record row { place = Gone gone.Got }))
    by None found = inl (
      ap (λ (m : Step). m.answer) (made None found) ∙ get-answer given (get_by None start),
      none-ready s.rows found,
    )
    by (Some row) found =
        let taken : Row = record row { place = Gone gone.Got } in
        let here = (next_message-in s.rows row found).0 in
        let ordered = (rows_at args before).ordered in
        let a : Acted = get_by (Some row) start in
        let now : Ordered s.applied a.progress.state =
        Ordered-same s.applied s a.progress.state ordered (indices-put taken s.rows) (put-length taken s.rows) refl
        refl in
        let put : In taken (put_row taken s.rows) = In-put_new taken row s.rows here refl in
        let after : In taken (follow_on (Get given) a).progress.state.rows =
        gone-after (Get given) a taken gone.Got s.applied refl now put in
        inr (
          row,
          Contains-in row s.rows here,
          subst (λ o. IfSome o (IsFirstMessage s.rows)) found (first_is_next s.rows),
          ap (λ (m : Step). m.answer) (made (Some row) found) ∙ get-answer given a,
          Contains-in taken (next_step s entry).state.rows
              (subst (λ (m : Step). In taken m.state.rows) (sym (made (Some row) found)) after),
        )

purge-carried : (s : State) (index : Index) (given : Stamp)
    → carry_out index (Purge given) s ≡ follow_on (Purge given) (purge (record { state = s; effects = [] }))
unfolding carry_out act
purge-carried s index given = refl

purge-answer : (given : Stamp) (p : Progress)
    → (follow_on (Purge given) (purge p)).answer ≡ answer.Purged (ready_count p.state.rows)
unfolding drain_after purge
purge-answer given p = refl

purge-rows : (p : Progress) → (purge p).progress.state ≡ record (p.state) { rows = map purge_row p.state.rows }
unfolding purge
purge-rows p = refl

pub purges_ready : (args : QueueArgs) (before : List Entry) (entry : Entry)
    → PurgesReady (state_after (empty_queue args) before) entry
purges_ready args before entry given is fresh = (
  ap (λ (m : Step). m.answer) made ∙ purge-answer given start,
  λ row here ready. Contains-in _ (next_step s entry).state.rows (after row (in_contains s.rows row here) ready),
)
  where
    s : State
    s = state_after (empty_queue args) before

    index : Index
    index = next_index s

    start : Progress
    start = record { state = let_in s given; effects = [] }

    made : next_step s entry ≡ pass_gate index given (follow_on (Purge given) (purge start))
    made =
        made-carried s entry given (Purge given) is refl fresh
        ∙ ap (pass_gate index given) (purge-carried (let_in s given) index given)

    after : (row : Row) → In row s.rows → is_ready row.place ≡ true
        → In (record row { place = Gone gone.Purged }) (next_step s entry).state.rows
    after row here ready =
        let taken : Row = record row { place = Gone gone.Purged } in
        let purged : State = record (let_in s given) { rows = map purge_row s.rows } in
        let a : Acted = purge start in
        let there : In taken (map purge_row s.rows) =
        subst (λ (r : Row). In r (map purge_row s.rows)) (cond-true (is_ready row.place) taken row ready)
        (In-map purge_row row s.rows here) in
        let ordered : Ordered s.applied purged =
        Ordered-same s.applied s purged (rows_at args before).ordered (indices-purged s.rows)
        (length-map s.rows purge_row) refl refl in
        let done : In taken (follow_on (Purge given) a).progress.state.rows =
        gone-after (Purge given) a taken gone.Purged s.applied refl
        (subst (Ordered s.applied) (sym (purge-rows start)) ordered)
        (subst (λ (t : State). In taken t.rows) (sym (purge-rows start)) there) in
        subst (λ (m : Step). In taken m.state.rows) (sym made) done
