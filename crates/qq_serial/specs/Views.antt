-- A queue in memory as a state of the definition.
use Rattle.std.specs.Prelude.{◌≡◌, ℕ, Option, Some, None, Bool, take, vec_len, if◌then◌else◌}
use Rattle.qq_base.specs.declared.ids.SessionId.{SessionId}
use Rattle.qq_entry.specs.declared.answer.Answer.{Answer}
use Rattle.qq_model.specs.declared.consumer.Consumer.{Consumer}
use Rattle.qq_model.specs.State.{State}
use Rattle.qq_model.specs.Changes.{Progress}
use Rattle.qq_model.specs.Commands.{Acted, Settling, reply, is_of_session, return_all}
use Rattle.qq_model.specs.Step.{Step}
use Rattle.qq_serial.specs.declared.queue.Store.{Store}
use Rattle.qq_serial.specs.declared.queue.Queue.{Queue}
use Rattle.qq_serial.specs.declared.queue.Draft.{Draft}
use Rattle.qq_serial.specs.declared.queue.Made.{Made}

-- a queue over what is never copied
abbrev pub state_of : Store → Queue → State
state_of store q =
    record {
      args = store.args;
      applied = q.applied;
      arrivals = q.arrivals;
      orders = q.orders;
      returns = q.returns;
      deads = q.deads;
      turns = q.turns;
      given = q.given;
      attached = q.attached;
      rows = q.rows.items;
      messages = store.messages.items;
      consumers = q.consumers.items;
      sessions = q.sessions.known;
    }

-- a step under way
abbrev pub progress_of : Store → Draft → Progress
progress_of store draft = record { state = state_of store draft.queue; effects = draft.effects.items }

-- a step that was made
abbrev pub step_of : Store → Draft → Made → Step
step_of store draft made =
    record {
      state = state_of store draft.queue;
      fresh = made.fresh;
      answer = made.answer;
      effects = draft.effects.items;
    }

-- a store gets messages behind those that it has, and nothing else
abbrev pub OnlyAddsMessages : Store → Store → Type 0
OnlyAddsMessages old new = record {
  args : new.args ≡ old.args;
  prefix : take (vec_len old.messages) new.messages.items ≡ old.messages.items;
}

-- a queue becomes what this says, whatever it holds that is never copied
abbrev pub Becomes : (State → State) → Queue → Queue → Type 0
Becomes change old new = (store : Store) → change (state_of store old) ≡ state_of store new

-- a step under way goes on as this says
abbrev pub Changes : (Progress → Progress) → Store → Draft → Draft → Type 0
Changes change store old new = change (progress_of store old) ≡ progress_of store new

-- a step under way goes on as this says, with its answer
abbrev pub Replies : (Progress → Acted) → Store → Draft → Draft → Answer → Type 0
Replies act store old new answer = act (progress_of store old) ≡ reply answer (progress_of store new)

-- the same of one that may add a message
abbrev pub Acts : (Progress → Acted) → Store → Draft → Store → Draft → Answer → Type 0
Acts act store old store_after new answer = act (progress_of store old) ≡ reply answer (progress_of store_after new)

-- a step under way settles dead letters as this says, from one count to the next
abbrev pub Settles : (Settling → Settling) → Store → Draft → ℕ → Draft → ℕ → Type 0
Settles settle store old before new count =
    settle (record { progress = progress_of store old; count = before }) ≡
    record { progress = progress_of store new; count = count }

-- a step under way goes on to what this says is next, if there is a next
abbrev pub GoesOn : (Progress → Option Progress) → Store → Draft → Draft → Bool → Type 0
GoesOn next store old new did = next (progress_of store old) ≡ (if did then Some (progress_of store new) else None)

-- a command is carried out as this says
abbrev pub CarriesOut : (State → Acted) → Store → Queue → Store → Draft → Answer → Type 0
CarriesOut act store queue store_after new answer =
    act (state_of store queue) ≡ reply answer (progress_of store_after new)

-- a step is the one that this says, of a queue
abbrev pub Makes : (State → Step) → Store → Queue → Store → Draft → Made → Type 0
Makes step store queue store_after new made = step (state_of store queue) ≡ step_of store_after new made

-- a consumer's deliveries go back if it is one of a session
abbrev pub return_if : SessionId → Consumer → Progress → Progress
return_if session consumer p = if is_of_session session consumer then return_all consumer p else p
