-- A step is the same without what is gone, and so are all that follow on it.
use Rattle.std.proofs.Common.{◌≡◌, ℕ, ◌+◌, ◌<◌, ◌≤◌, Bool, true, List, [], ◌∷◌, ◌++◌, Option, Some, None, map, refl, sym, ap, ◌∙◌, subst, inl, inr, arith}
use Rattle.std.specs.Prelude.{filter}
use Rattle.std.specs.List.{AllByRecursion}
use Rattle.std.proofs.lemmas.Bool.{cases_Bool, cond-true, cond-false, cond_both}
use Rattle.std.proofs.lemmas.List.{length-map}
use Rattle.qq_base.specs.declared.ids.Index.{Index}
use Rattle.qq_entry.specs.declared.queue.QueueArgs.{QueueArgs}
use Rattle.qq_entry.specs.declared.message.Message.{Message}
use Rattle.qq_entry.specs.declared.command.Stamp.{Stamp}
use Rattle.qq_entry.specs.declared.command.Command.{Command}
use Rattle.qq_entry.specs.declared.command.Entry.{Entry}
use Rattle.qq_entry.specs.declared.answer.Answer.{Answer}
use Rattle.qq_entry.specs.declared.answer.Answer.TheVariants as answer
use Rattle.qq_entry.specs.declared.audit.AuditRow.{AuditRow}
use Rattle.qq_entry.specs.declared.audit.Effect.{Effect}
use Rattle.qq_entry.specs.Command.{stamp}
use Rattle.qq_model.specs.declared.place.Row.{Row}
use Rattle.qq_model.specs.declared.session.Gate.{Gate}
use Rattle.qq_model.specs.declared.session.Gate.TheVariants.{Fresh, Again, Gap, Forgotten, Ended, WindowFull, SessionsFull}
use Rattle.qq_model.specs.Limits.{is_live}
use Rattle.qq_model.specs.State.{State, Sessions, empty_queue}
use Rattle.qq_model.specs.Gate.{gate, admit, keep_answer}
use Rattle.qq_model.specs.Changes.{Progress}
use Rattle.qq_model.specs.Commands.{Acted, act}
use Rattle.qq_model.specs.Serving.{check_out_all, keep_limits, give_all_dead}
use Rattle.qq_model.specs.Step.{Step, carry_out, apply, reject, go_through, step_by, step}
use Rattle.qq_model.specs.Audit.{next_index, next_step, row_of, audit_of, state_after, effects_of}
use Rattle.qq_model.proofs.Indices.{Rises, indices}
use Rattle.qq_model.proofs.Soundness.{rows_at}
use Rattle.qq_parts.specs.Reduced.{Item, item_row, item_message, items, is_live_item, live_items, reduced, StepsAlike, GoesOnAlike}
use Rattle.qq_parts.proofs.Live.{Fits, Alike}
use Rattle.qq_parts.proofs.Puts.{alike-later}
use Rattle.qq_parts.proofs.Same.{with_rows, Twins, SameActed}
use Rattle.qq_parts.proofs.Acts.{act-same}
use Rattle.qq_parts.proofs.Follows.{then_acted, check_out_all-same, drain_after-same, keep_limits-same, give_all_dead-same}

-- The queue without what is gone ----------------------------------------------------------------------

reduced-items : (xs : List Item) → items (map item_row xs) (map item_message xs) ≡ xs
reduced-items [] = refl
reduced-items (x ∷ xs) = ap (λ (ys : List Item). x ∷ ys) (reduced-items xs)

pub filter-twice : {A : Type 0} (passes : A → Bool) (xs : List A) → filter passes (filter passes xs) ≡ filter passes xs
filter-twice passes [] = refl
filter-twice {A = A} passes (x ∷ xs) =
    let rest = filter-twice passes xs in
    elim (cases_Bool (passes x)) [
      | inl is ↦
          ap (filter passes) (cond-true (passes x) (x ∷ filter passes xs) (filter passes xs) is)
          ∙ cond-true (passes x) (x ∷ filter passes (filter passes xs)) (filter passes (filter passes xs)) is
          ∙ ap (λ (ys : List A). x ∷ ys) rest
          ∙ sym (cond-true (passes x) (x ∷ filter passes xs) (filter passes xs) is)
      | inr none ↦
          ap (filter passes) (cond-false (passes x) (x ∷ filter passes xs) (filter passes xs) none) ∙ rest
          ∙ sym (cond-false (passes x) (x ∷ filter passes xs) (filter passes xs) none)
    ]

all-live : (P : ℕ → Type 0) (rows : List Row) (messages : List Message) → AllByRecursion P (indices rows)
    → AllByRecursion P (indices (map item_row (live_items rows messages)))
all-live P [] messages each = tt
all-live P (row ∷ rows) [] each = tt
all-live P (row ∷ rows) (message ∷ messages) each =
    let rest = all-live P rows messages each.1 in
    let first : Item = record { row = row; message = message } in
    cond_both (is_live row.place) (first ∷ live_items rows messages) (live_items rows messages)
    (λ (xs : List Item). AllByRecursion P (indices (map item_row xs))) (λ _. (each.0, rest)) (λ _. rest)

rises-live : (rows : List Row) (messages : List Message) → Rises (indices rows)
    → Rises (indices (map item_row (live_items rows messages)))
rises-live [] messages rising = tt
rises-live (row ∷ rows) [] rising = tt
rises-live (row ∷ rows) (message ∷ messages) rising =
    let rest = rises-live rows messages rising.1 in
    let above = all-live (λ m. row.index.0 < m) rows messages rising.0 in
    let first : Item = record { row = row; message = message } in
    cond_both (is_live row.place) (first ∷ live_items rows messages) (live_items rows messages)
    (λ (xs : List Item). Rises (indices (map item_row xs))) (λ _. (above, rest)) (λ _. rest)

reduced-twins : (last : ℕ) (s : State) → Fits last s.rows s.messages → Twins last s (reduced s)
reduced-twins last s fits =
    let live : List Item = live_items s.rows s.messages in
    record {
      rows = map item_row live;
      messages = map item_message live;
      is = refl;
      alike = record {
        live =
            sym (ap (filter is_live_item) (reduced-items live) ∙ filter-twice is_live_item (items s.rows s.messages));
        first = fits;
        second = record {
          rising = rises-live s.rows s.messages fits.rising;
          below = all-live (λ n. n ≤ last) s.rows s.messages fits.below;
          long = length-map live item_row ∙ sym (length-map live item_message);
        };
      };
    }

twins-reduced : {last : ℕ} (s t : State) → Twins last s t → reduced s ≡ reduced t
twins-reduced s t twins =
    ap (λ (live : List Item).
    record s { rows = map item_row live; messages = map item_message live }) twins.alike.live
    ∙ ap reduced (sym twins.is)

-- One command -----------------------------------------------------------------------------------------

carry_out-same : {last : ℕ} (index : Index) (command : Command) → last < index.0 → (s : State) (rows : List Row)
    (messages : List Message) → Alike last s.rows s.messages rows messages
    → SameActed index.0 (carry_out index command s) (carry_out index command (with_rows rows messages s))
unfolding carry_out
carry_out-same index command above s rows messages alike =
    let p : Progress = record { state = s; effects = [] } in
    let q : Progress = record { state = with_rows rows messages s; effects = [] } in
    let carried = act-same index command above p rows messages alike in
    let delivered = then_acted check_out_all check_out_all-same (act index command p) (act index command q) carried in
    let drained = drain_after-same command _ _ delivered in
    let limited = then_acted keep_limits keep_limits-same _ _ drained in
    then_acted give_all_dead give_all_dead-same _ _ limited

-- One step --------------------------------------------------------------------------------------------

pub record SameStep (last : ℕ) (a b : Step) : Type 0 where
  pub state : Twins last a.state b.state
  pub fresh : a.fresh ≡ b.fresh
  pub answer : a.answer ≡ b.answer
  pub effects : a.effects ≡ b.effects

apply-same : {last : ℕ} (index : Index) (sessions : Answer → Sessions → Sessions) (fresh : Bool) (a b : Acted)
    → SameActed last a b
    → SameStep last (apply index (sessions a.answer a.progress.state.sessions) fresh a)
    (apply index (sessions b.answer b.progress.state.sessions) fresh b)
apply-same index sessions fresh a b same = record {
  state = record {
    rows = same.progress.rows;
    messages = same.progress.messages;
    is =
        ap (λ (p : Progress).
        record (p.state) { applied = index.0; sessions = sessions b.answer p.state.sessions }) same.progress.is
        ∙ ap (λ said.
        record (a.progress.state) {
          applied = index.0;
          sessions = sessions said a.progress.state.sessions;
          rows = same.progress.rows;
          messages = same.progress.messages;
        }) (sym same.answer);
    alike = same.progress.alike;
  };
  fresh = refl;
  answer = same.answer;
  effects = sym (ap (λ (p : Progress). p.effects) same.progress.is);
}

reject-same : {last : ℕ} (index : Index) (given : Stamp) (said : Answer) (s : State) (rows : List Row)
    (messages : List Message) → Alike last s.rows s.messages rows messages
    → SameStep last (reject index given said s) (reject index given said (with_rows rows messages s))
reject-same index given said s rows messages alike = record {
  state = record { rows = rows; messages = messages; is = refl; alike = alike };
  fresh = refl;
  answer = refl;
  effects = refl;
}

go_through-same : {last : ℕ} (passed : Gate) (index : Index) (given : Stamp) (command : Command) → last < index.0
    → (s : State) (rows : List Row) (messages : List Message) → Alike last s.rows s.messages rows messages
    → SameStep index.0 (go_through passed index given command s)
    (go_through passed index given command (with_rows rows messages s))
go_through-same Fresh index given command above s rows messages alike =
    let admitted : State → State = λ t. record t { sessions = admit s.sessions given } in
    apply-same index (keep_answer given) true (carry_out index command (admitted s))
    (carry_out index command (admitted (with_rows rows messages s)))
    (carry_out-same index command above (admitted s) rows messages alike)
go_through-same (Again before) index given command above s rows messages alike =
    reject-same index given before s rows messages
    (alike-later index.0 s.rows s.messages rows messages (omega arith) alike)
go_through-same (Gap next) index given command above s rows messages alike =
    reject-same index given (answer.Gap next) s rows messages
    (alike-later index.0 s.rows s.messages rows messages (omega arith) alike)
go_through-same Forgotten index given command above s rows messages alike =
    reject-same index given answer.Forgotten s rows messages
    (alike-later index.0 s.rows s.messages rows messages (omega arith) alike)
go_through-same Ended index given command above s rows messages alike =
    reject-same index given answer.Ended s rows messages
    (alike-later index.0 s.rows s.messages rows messages (omega arith) alike)
go_through-same WindowFull index given command above s rows messages alike =
    reject-same index given answer.WindowFull s rows messages
    (alike-later index.0 s.rows s.messages rows messages (omega arith) alike)
go_through-same SessionsFull index given command above s rows messages alike =
    reject-same index given answer.SessionsFull s rows messages
    (alike-later index.0 s.rows s.messages rows messages (omega arith) alike)

step_by-same : {last : ℕ} (o : Option Stamp) (index : Index) (command : Command) → last < index.0 → (s : State)
    (rows : List Row) (messages : List Message) → Alike last s.rows s.messages rows messages
    → SameStep index.0 (step_by o index command s) (step_by o index command (with_rows rows messages s))
step_by-same None index command above s rows messages alike =
    apply-same index (λ said sessions. sessions) true (carry_out index command s)
    (carry_out index command (with_rows rows messages s))
    (carry_out-same index command above s rows messages alike)
step_by-same (Some given) index command above s rows messages alike =
    go_through-same (gate s.sessions given) index given command above s rows messages alike

step-over : (s : State) (entry : Entry) (rows : List Row) (messages : List Message)
    → Alike s.applied s.rows s.messages rows messages
    → SameStep (s.applied + 1) (next_step s entry) (next_step (with_rows rows messages s) entry)
unfolding step
step-over s entry rows messages alike =
    step_by-same (stamp entry.command) (next_index s) entry.command (omega arith) s rows messages alike

pub step-same : (s t : State) (entry : Entry) → Twins s.applied s t
    → SameStep (s.applied + 1) (next_step s entry) (next_step t entry)
step-same s t entry twins =
    subst (λ (u : State). SameStep (s.applied + 1) (next_step s entry) (next_step u entry)) (sym twins.is)
    (step-over s entry twins.rows twins.messages twins.alike)

-- What follows ----------------------------------------------------------------------------------------

-- a step's state is that of its index
step_by-applied : (o : Option Stamp) (index : Index) (command : Command) (s : State)
    → (step_by o index command s).state.applied ≡ index.0
step_by-applied None index command s = refl
step_by-applied (Some given) index command s = by (gate s.sessions given)
  where
    by : (passed : Gate) → (go_through passed index given command s).state.applied ≡ index.0
    by Fresh = refl
    by (Again before) = refl
    by (Gap next) = refl
    by Forgotten = refl
    by Ended = refl
    by WindowFull = refl
    by SessionsFull = refl

next-applied : (s : State) (entry : Entry) → (next_step s entry).state.applied ≡ s.applied + 1
unfolding step
next-applied s entry = step_by-applied (stamp entry.command) (next_index s) entry.command s

twins-applied : {last : ℕ} (s t : State) → Twins last s t → t.applied ≡ s.applied
twins-applied s t twins = ap (λ (u : State). u.applied) twins.is

row-same : (s t : State) (entry : Entry) → Twins s.applied s t
    → row_of (next_index s) entry (next_step s entry) ≡ row_of (next_index t) entry (next_step t entry)
row-same s t entry twins =
    let same = step-same s t entry twins in
    let row : ℕ → Bool → Answer → AuditRow = λ applied fresh said.
    record { index = record { 0 = applied + 1 }; entry = entry; fresh = fresh; answer = said } in
    ap (λ n. row n (next_step s entry).fresh (next_step s entry).answer) (sym (twins-applied s t twins))
    ∙ ap (λ b. row t.applied b (next_step s entry).answer) same.fresh
    ∙ ap (row t.applied (next_step t entry).fresh) same.answer

audit-same : (entries : List Entry) (s t : State) → Twins s.applied s t → audit_of s entries ≡ audit_of t entries
audit-same [] s t twins = refl
audit-same (entry ∷ entries) s t twins =
    let made : State = (next_step s entry).state in
    let next = step-same s t entry twins in
    let now : Twins made.applied made (next_step t entry).state =
    subst (λ n. Twins n made (next_step t entry).state) (sym (next-applied s entry)) next.state in
    ap (λ (row : AuditRow). row ∷ audit_of made entries) (row-same s t entry twins)
    ∙ ap (λ (rows : List AuditRow). row_of (next_index t) entry (next_step t entry) ∷ rows)
    (audit-same entries made (next_step t entry).state now)

effects-same : (entries : List Entry) (s t : State) → Twins s.applied s t → effects_of s entries ≡ effects_of t entries
effects-same [] s t twins = refl
effects-same (entry ∷ entries) s t twins =
    let made : State = (next_step s entry).state in
    let next = step-same s t entry twins in
    let now : Twins made.applied made (next_step t entry).state =
    subst (λ n. Twins n made (next_step t entry).state) (sym (next-applied s entry)) next.state in
    ap (λ (effects : List Effect). effects ++ effects_of made entries) next.effects
    ∙ ap (λ (effects : List Effect). (next_step t entry).effects ++ effects)
    (effects-same entries made (next_step t entry).state now)

-- The law ---------------------------------------------------------------------------------------------

after-twins : (args : QueueArgs) (entries : List Entry)
    → Twins (state_after (empty_queue args) entries).applied (state_after (empty_queue args) entries)
    (reduced (state_after (empty_queue args) entries))
after-twins args entries =
    let s : State = state_after (empty_queue args) entries in
    let ordered = (rows_at args entries).ordered in
    reduced-twins s.applied s
    (record { rising = ordered.rising; below = ordered.below; long = ordered.arrivals ∙ sym ordered.messages })

pub steps_alike : (args : QueueArgs) (entries : List Entry) → StepsAlike (state_after (empty_queue args) entries)
steps_alike args entries entry =
    let s : State = state_after (empty_queue args) entries in
    let same = step-same s (reduced s) entry (after-twins args entries) in
    record {
      fresh = same.fresh;
      answer = same.answer;
      effects = same.effects;
      state = twins-reduced (next_step s entry).state (next_step (reduced s) entry).state same.state;
    }

pub goes_on_alike : (args : QueueArgs) (entries later : List Entry)
    → GoesOnAlike (state_after (empty_queue args) entries) later
goes_on_alike args entries later =
    let s : State = state_after (empty_queue args) entries in
    let twins = after-twins args entries in
    record {
      audit = audit-same later s (reduced s) twins;
      effects = effects-same later s (reduced s) twins;
    }
