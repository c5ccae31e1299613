-- What an entry does to the rows of a queue.
use Rattle.std.proofs.Common.{◌≡◌, ◌+◌, ◌<◌, ◌≤◌, true, false, ◌&&◌, List, [], ◌∷◌, ◌++◌, Option, Some, None, length, refl, sym, ap, ◌∙◌, subst, arith, length-append}
use Rattle.std.specs.List.{AllZip, AllByRecursion}
use Rattle.std.proofs.lemmas.Bool.{false≢true, cond_both}
use Rattle.std.proofs.lemmas.List.{map-append, append-nil, length-map}
use Rattle.qq_base.specs.declared.ids.Index.{Index}
use Rattle.qq_entry.specs.declared.message.Message.{Message}
use Rattle.qq_entry.specs.declared.command.Stamp.{Stamp}
use Rattle.qq_entry.specs.declared.command.Command.{Command}
use Rattle.qq_entry.specs.declared.command.Command.TheVariants.{Enqueue}
use Rattle.qq_entry.specs.declared.command.Entry.{Entry}
use Rattle.qq_entry.specs.declared.answer.Answer.{Answer}
use Rattle.qq_entry.specs.declared.answer.Full.{Full}
use Rattle.qq_model.specs.declared.place.Row.{Row}
use Rattle.qq_model.specs.declared.session.Gate.{Gate}
use Rattle.qq_model.specs.declared.session.Gate.TheVariants.{Fresh}
use Rattle.qq_model.specs.State.{State, Sessions}
use Rattle.qq_model.specs.Limits.{publish_limit}
use Rattle.qq_model.specs.Changes.{Progress}
use Rattle.qq_model.specs.Gate.{gate}
use Rattle.qq_model.specs.Commands.{Acted, set_state, append_message, enqueue_by, enqueue, act}
use Rattle.qq_model.specs.Serving.{drain_after}
use Rattle.qq_entry.specs.Command.{stamp}
use Rattle.qq_model.specs.Step.{Step, carry_out, go_through, step_by, step}
use Rattle.qq_model.specs.Audit.{next_index, next_step}
use Rattle.qq_base.proofs.Lists.{AllByRecursion-weaker, AllByRecursion-append}
use Rattle.qq_model.specs.Reasons.{Follows, is_enqueue}
use Rattle.qq_laws.specs.Published.{Publish, kept_publishes, message_in, is_confirmed, new_message, EffectShows}
use Rattle.qq_laws.specs.Rows.{new_row, new_rows, new_messages, StepsRows}
use Rattle.qq_model.proofs.CarryOut.{carry_out-keeps, follow_on, follow_on-keeps}
use Rattle.qq_laws.proofs.RowLemmas.{same_indices, zip-index, zip-same}
use Rattle.qq_laws.proofs.Since.{Orderly, Since, Since-acts, Since-delivers, Since-orderly, Since-publishes, Since-serves, Since-start, publishes_of}
use Rattle.qq_model.proofs.Indices.{Counts, Rises, arrivals_of, indices, rises-push, counts-push}

-- an orderly queue, none of whose messages is of a later entry
pub record Sound (s : State) : Type 0 where
  pub orderly : Orderly s
  pub below : AllByRecursion (λ n. n ≤ s.applied) (indices s.rows)

-- the state with a message that arrived, if one did
abbrev pub base : State → Index → Option Message → State
base s index None = s
base s index (Some message) = append_message s index message

pub append_message-orderly : (s : State) (index : Index) (message : Message) → Orderly s
    → AllByRecursion (λ n. n < index.0) (indices s.rows) → Orderly (append_message s index message)
append_message-orderly s index message orderly below =
    let row : Row = new_row s index message in
    let last : 0 + length (arrivals_of s.rows) + 1 ≡ s.arrivals + 1 =
    omega (arith, length-map s.rows (λ (one : Row). one.arrival), orderly.arrivals) in
    record {
      rising =
          subst Rises (sym (map-append (λ (one : Row). one.index.0) s.rows (row ∷ [])))
          (rises-push (indices s.rows) index.0 orderly.rising below);
      counted = subst (Counts 0) (sym (map-append (λ (one : Row). one.arrival) s.rows (row ∷ [])))
          (subst (λ n. Counts 0 (arrivals_of s.rows ++ n ∷ [])) last
          (counts-push 0 (arrivals_of s.rows) orderly.counted));
      arrivals = length-append s.rows (row ∷ []) ∙ ap (λ n. n + 1) orderly.arrivals;
      messages = length-append s.messages (message ∷ []) ∙ ap (λ n. n + 1) orderly.messages;
    }

pub base-orderly : (s : State) (index : Index) (o : Option Message) → Orderly s
    → AllByRecursion (λ n. n < index.0) (indices s.rows) → Orderly (base s index o)
base-orderly s index None orderly below = orderly
base-orderly s index (Some message) orderly below = append_message-orderly s index message orderly below

-- a command that brings no message
others-since : (s : State) (index : Index) (command : Command) → is_enqueue command ≡ false → message_in command ≡
    None
    → Orderly s
    → Since (base s index (new_message true (carry_out index command s).answer command)) command
    (carry_out index command s).progress
others-since s index command not_enqueue none orderly =
    let a = carry_out index command s in
    let nothing : new_message true a.answer command ≡ None =
    cond_both (true && is_confirmed a.answer) (message_in command) None (λ (o : Option Message). o ≡ None) (λ _. none)
    (λ _. refl) in
    subst (λ (o : Option Message). Since (base s index o) command a.progress) (sym nothing)
    (carry_out-keeps index command s (Since-acts s command orderly) (Since-delivers s command orderly)
    (Since-serves s command orderly) (λ p stamp message holds is found. absurd (false≢true (sym not_enqueue ∙ is)))
    (Since-start s command (record {
      state = s;
      effects = [];
    }) refl refl refl refl refl))

-- a command that is carried out
pub carry_out-since : (s : State) (index : Index) (command : Command) → Orderly s
    → AllByRecursion (λ n. n < index.0) (indices s.rows)
    → Since (base s index (new_message true (carry_out index command s).answer command)) command
    (carry_out index command s).progress
unfolding carry_out act drain_after enqueue
carry_out-since s index (Enqueue stamp origin message) orderly below = by (publish_limit s.args s.rows)
  where
    start : Progress
    start = record { state = s; effects = [] }

    by : (o : Option Full) → let a = follow_on (Enqueue stamp origin message) (enqueue_by o index message start) in
        Since (base s index (new_message true a.answer (Enqueue stamp origin message))) (Enqueue stamp origin message)
        a.progress
    by None =
        let b : State = append_message s index message in
        follow_on-keeps (Enqueue stamp origin message)
        (Since-delivers b (Enqueue stamp origin message) (append_message-orderly s index message orderly below))
        (Since-serves b (Enqueue stamp origin message) (append_message-orderly s index message orderly below))
        (enqueue_by None index message start)
        (Since-start b (Enqueue stamp origin message) (set_state b start) refl refl refl refl refl)
    by (Some full) =
        follow_on-keeps (Enqueue stamp origin message) (Since-delivers s (Enqueue stamp origin message) orderly)
        (Since-serves s (Enqueue stamp origin message) orderly) (enqueue_by (Some full) index message start)
        (Since-start s (Enqueue stamp origin message) start refl refl refl refl refl)
carry_out-since s index command orderly below = others-since s index command refl refl orderly

-- a publish of a message, if there is one
abbrev pub new_publishes : Index → Option Message → List Publish
new_publishes index None = []
new_publishes index (Some message) = record { index = index; message = message } ∷ []

kept_publishes-push : (rows : List Row) (messages : List Message) (row : Row) (message : Message)
    → length rows ≡ length messages
    → kept_publishes (rows ++ row ∷ []) (messages ++ message ∷ []) ≡ kept_publishes rows messages
    ++ record { index = row.index; message = message } ∷ []
kept_publishes-push [] [] row message same = refl
kept_publishes-push [] (m ∷ ms) row message same = absurd (omega arith)
kept_publishes-push (r ∷ rs) [] row message same = absurd (omega arith)
kept_publishes-push (r ∷ rs) (m ∷ ms) row message same =
    ap (λ (all : List Publish). record { index = r.index; message = m } ∷ all)
    (kept_publishes-push rs ms row message (omega arith))

pub base-publishes : (s : State) (index : Index) (o : Option Message) → Orderly s
    → publishes_of (base s index o) ≡ publishes_of s ++ new_publishes index o
base-publishes s index None orderly = sym (append-nil (publishes_of s))
base-publishes s index (Some message) orderly =
    kept_publishes-push s.rows s.messages (new_row s index message) message (orderly.arrivals ∙ sym orderly.messages)

base-rows : (s : State) (index : Index) (o : Option Message) → (base s index o).rows ≡ s.rows ++ new_rows s index o
base-rows s index None = sym (append-nil s.rows)
base-rows s index (Some message) = refl

base-messages : (s : State) (index : Index) (o : Option Message)
    → (base s index o).messages ≡ s.messages ++ new_messages o
base-messages s index None = sym (append-nil s.messages)
base-messages s index (Some message) = refl

base-args : (s : State) (index : Index) (o : Option Message) → (base s index o).args ≡ s.args
base-args s index None = refl
base-args s index (Some message) = refl

base-below : (s : State) (index : Index) (o : Option Message) → AllByRecursion (λ n. n ≤ index.0) (indices s.rows)
    → AllByRecursion (λ n. n ≤ index.0) (indices (base s index o).rows)
base-below s index None below = below
base-below s index (Some message) below =
    let row : Row = new_row s index message in
    let itself : index.0 ≤ index.0 = omega arith in
    subst (AllByRecursion (λ n. n ≤ index.0)) (sym (map-append (λ (one : Row). one.index.0) s.rows (row ∷ [])))
    (AllByRecursion-append (λ n. n ≤ index.0) (indices s.rows) (index.0 ∷ []) below (itself, tt))

-- what the step of the next entry leaves
pub record Stepped (s : State) (entry : Entry) (made : Step) : Type 0 where
  pub rows : StepsRows s entry made
  pub sound : Sound made.state
  pub kept : publishes_of made.state ≡ publishes_of s
      ++ new_publishes (next_index s) (new_message made.fresh made.answer entry.command)
  pub shown : AllByRecursion (EffectShows (publishes_of made.state)) made.effects

fresh_stepped : (s : State) (x y : Sessions) (entry : Entry) → Sound s → let a =
    carry_out (next_index s) entry.command (record s { sessions = x }) in
    Stepped s entry
    (record {
      state = record (a.progress.state) { applied = (next_index s).0; sessions = y };
      fresh = true;
      answer = a.answer;
      effects = a.progress.effects;
    })
fresh_stepped s x y entry sound =
    let index : Index = next_index s in
    let command : Command = entry.command in
    let s' : State = record s { sessions = x } in
    let orderly' : Orderly
    s' =
    record {
      rising = sound.orderly.rising;
      counted = sound.orderly.counted;
      arrivals = sound.orderly.arrivals;
      messages = sound.orderly.messages;
    } in
    let below : AllByRecursion (λ n. n < index.0) (indices s.rows) =
    AllByRecursion-weaker (λ n. n ≤ s.applied) (λ n. n < index.0) (λ n le. omega arith) (indices s.rows) sound.below
    in
    let a : Acted = carry_out index command s' in
    let o : Option Message = new_message true a.answer command in
    let b : State = base s' index o in
    let since' : Since b command a.progress = carry_out-since s' index command orderly' below in
    let based : Orderly b = base-orderly s' index o orderly' below in
    let now : Orderly a.progress.state = Since-orderly b command a.progress based since' in
    let kept' : publishes_of a.progress.state ≡ publishes_of b = Since-publishes b command a.progress since' in
    let at_most : AllByRecursion (λ n. n ≤ index.0) (indices s.rows) =
    AllByRecursion-weaker (λ n. n ≤ s.applied) (λ n. n ≤ index.0) (λ n le. omega arith) (indices s.rows) sound.below
    in
    record {
      rows = record {
        args = since'.args ∙ base-args s' index o;
        rows =
            subst (λ (rows : List Row). AllZip (Follows s.args command) rows a.progress.state.rows)
            (base-rows s' index o)
            (subst (λ args. AllZip (Follows args command) b.rows a.progress.state.rows) (base-args s' index o)
            since'.rows);
        messages = since'.messages ∙ base-messages s' index o;
      };
      sound = record {
        orderly =
            record { rising = now.rising; counted = now.counted; arrivals = now.arrivals; messages = now.messages };
        below =
            subst (AllByRecursion (λ n. n ≤ index.0))
            (sym (same_indices b.rows a.progress.state.rows
            (zip-index b.args command b.rows a.progress.state.rows since'.rows))) (base-below s' index o at_most);
      };
      kept = kept' ∙ base-publishes s' index o orderly';
      shown =
          subst (λ (all : List Publish). AllByRecursion (EffectShows all) a.progress.effects) (sym kept')
          since'.shown;
    }

stale_stepped : (s : State) (y : Sessions) (answer : Answer) (entry : Entry) → Sound s
    → Stepped s entry
    (record {
      state = record s { applied = (next_index s).0; sessions = y };
      fresh = false;
      answer = answer;
      effects = [];
    })
stale_stepped s y answer entry sound = record {
  rows = record {
    args = refl;
    rows =
        subst (λ (rows : List Row). AllZip (Follows s.args entry.command) rows s.rows) (sym (append-nil s.rows))
        (zip-same s.args entry.command s.rows);
    messages = sym (append-nil s.messages);
  };
  sound = record {
    orderly =
        record {
          rising = sound.orderly.rising;
          counted = sound.orderly.counted;
          arrivals = sound.orderly.arrivals;
          messages = sound.orderly.messages;
        };
    below =
        AllByRecursion-weaker (λ n. n ≤ s.applied) (λ n. n ≤ (next_index s).0) (λ n le. omega arith) (indices s.rows)
        sound.below;
  };
  kept = sym (append-nil (publishes_of s));
  shown = tt;
}

-- each entry, whatever the gate says
pub next_stepped : (s : State) (entry : Entry) → Sound s → Stepped s entry (next_step s entry)
unfolding step
next_stepped s entry sound = by (stamp entry.command)
  where
    passes : (g : Gate) (stamp : Stamp) → Stepped s entry (go_through g (next_index s) stamp entry.command s)
    passes Fresh stamp = fresh_stepped s _ _ entry sound
    passes _ stamp = stale_stepped s _ _ entry sound

    by : (o : Option Stamp) → Stepped s entry (step_by o (next_index s) entry.command s)
    by None = fresh_stepped s _ _ entry sound
    by (Some stamp) = passes (gate s.sessions stamp) stamp
