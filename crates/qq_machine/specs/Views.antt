-- A queue in memory as the parts of a queue.
use Rattle.std.specs.Prelude.{◌≡◌, ℕ, true, List, [], map, fold, Option, Some, None, Bool, IfSome, if◌then◌else◌}
use Rattle.qq_entry.specs.Command.{consumer_id}
use Rattle.qq_entry.specs.declared.command.Command.{Command}
use Rattle.qq_entry.specs.declared.command.Command.TheVariants.{Credit}
use Rattle.qq_entry.specs.declared.command.Mode.TheVariants.{Link}
use Rattle.qq_model.specs.Serving.{is_credited}
use Rattle.qq_entry.specs.declared.queue.QueueArgs.{QueueArgs}
use Rattle.qq_entry.specs.declared.answer.Answer.{Answer}
use Rattle.qq_entry.specs.declared.message.Reason.TheVariants.{DeliveryLimit}
use Rattle.qq_model.specs.declared.consumer.Outcome.{Outcome}
use Rattle.qq_model.specs.declared.place.Place.{Place}
use Rattle.qq_model.specs.declared.place.Place.TheVariants.{Ready, Dead}
use Rattle.qq_model.specs.declared.place.Key.{Key}
use Rattle.qq_model.specs.State.{State, Sessions}
use Rattle.qq_entry.specs.declared.command.Stamp.{Stamp}
use Rattle.qq_ready.specs.Queue.{Queue as Keyed}
use Rattle.qq_dead.specs.Letters.{Letters}
use Rattle.qq_machine.specs.declared.pending.Pending.{Pending}
use Rattle.qq_machine.specs.declared.pending.Pending.TheVariants.{Nothing}
use Rattle.qq_machine.specs.Gated.{passed_by}
use Rattle.qq_entry.specs.declared.message.ReadyRow.{ReadyRow}
use Rattle.qq_parts.specs.Reduced.{Item}
use Rattle.qq_parts.specs.Parts.{Served, Parts}
use Rattle.qq_parts.specs.Turns.{may_serve}
use Rattle.qq_parts.specs.Follows.{next_one, parts_deliver}
use Rattle.qq_parts.specs.Commands.{one_of}
use Rattle.qq_base.specs.declared.ids.ConsumerId.{ConsumerId}
use Rattle.qq_parts.specs.Changes.{take_first, put_back}
use Rattle.qq_parts.specs.Work.{Work, Answered, with_parts}
use Rattle.qq_parts.specs.Ends.{parts_die, parts_return, parts_end}
use Rattle.qq_rules.specs.Decisions.{dies}
use Rattle.qq_parts.specs.Step.{PartsStep}
use Rattle.qq_ready.specs.declared.row.KeyedRow.{KeyedRow}
use Rattle.qq_dead.specs.declared.row.DeadRow.{DeadRow}
use Rattle.qq_consumer.specs.declared.rising.Numbered.{Numbered}
use Rattle.qq_consumer.specs.Roster.{Roster, item_at}
use Rattle.qq_machine.specs.declared.queue.Queue.{Queue}
use Rattle.qq_machine.specs.declared.queue.Draft.{Draft}
use Rattle.qq_machine.specs.declared.queue.Made.{Made}

-- a ready message, and a dead one
abbrev pub keyed_item : KeyedRow → Item
keyed_item one = item_at (Ready one.key) one.row

abbrev pub dead_item : DeadRow → Item
dead_item one = item_at (Dead one.number one.reason) one.row

-- the state of a queue but for its messages and consumers
abbrev pub rest_of : QueueArgs → Queue → State
rest_of args q =
    record {
      args = args;
      applied = q.applied;
      arrivals = q.arrivals;
      orders = q.ready.store.queue.orders;
      returns = q.ready.store.queue.returns;
      deads = q.dead.store.letters.deads;
      turns = q.consumers.roster.turns;
      given = q.dead.store.letters.given;
      attached = q.dead.store.letters.attached;
      rows = [];
      messages = [];
      consumers = [];
      sessions = q.sessions.known;
    }

abbrev pub parts_of : QueueArgs → Queue → Parts
parts_of args q =
    record {
      rest = rest_of args q;
      fronts = map keyed_item q.ready.store.queue.fronts;
      backs = map keyed_item q.ready.store.queue.backs;
      served = q.consumers.roster.served;
      dead = map dead_item q.dead.store.letters.rows;
    }

-- What is kept for an undo ------------------------------------------------------------------------------

-- the contents of a queue, in memory
pub record Content : Type 0 where
  pub applied : ℕ
  pub arrivals : ℕ
  pub sessions : Sessions
  pub ready : Keyed
  pub roster : Roster
  pub letters : Letters

abbrev pub content_of : Queue → Content
content_of q =
    record {
      applied = q.applied;
      arrivals = q.arrivals;
      sessions = q.sessions.known;
      ready = q.ready.store.queue;
      roster = q.consumers.roster;
      letters = q.dead.store.letters;
    }

-- the parts of a queue with these contents
abbrev pub parts_in : QueueArgs → Content → Parts
parts_in args k =
    record {
      rest =
          record {
            args = args;
            applied = k.applied;
            arrivals = k.arrivals;
            orders = k.ready.orders;
            returns = k.ready.returns;
            deads = k.letters.deads;
            turns = k.roster.turns;
            given = k.letters.given;
            attached = k.letters.attached;
            rows = [];
            messages = [];
            consumers = [];
            sessions = k.sessions;
          };
      fronts = map keyed_item k.ready.fronts;
      backs = map keyed_item k.ready.backs;
      served = k.roster.served;
      dead = map dead_item k.letters.rows;
    }

-- what they were at the last commit
abbrev pub base_of : Queue → Content
base_of q =
    record {
      applied = q.saved.applied;
      arrivals = q.saved.arrivals;
      sessions = q.sessions.base;
      ready = q.ready.store.base;
      roster = q.consumers.base;
      letters = q.dead.store.base;
    }

-- these, and what there is to do to the sessions
pub record Kept : Type 0 where
  pub base : Content
  pub pending : Pending

abbrev pub kept_of : Queue → Kept
kept_of q = record { base = base_of q; pending = q.sessions.pending }

abbrev pub KeepsBase : Queue → Queue → Type 0
KeepsBase old new = kept_of new ≡ kept_of old

-- these, and the stamp of the command under way
pub record Stamped : Type 0 where
  pub base : Content
  pub passed : Option Stamp

abbrev pub stamped_of : Queue → Stamped
stamped_of q = record { base = base_of q; passed = passed_by q.sessions.pending }

abbrev pub KeepsStamp : Queue → Queue → Type 0
KeepsStamp old new = stamped_of new ≡ stamped_of old

-- nothing was changed since the last commit
pub record IsCommitted (q : Queue) : Type 0 where
  pub content : content_of q ≡ base_of q
  pub pending : q.sessions.pending ≡ Nothing

-- Steps under way --------------------------------------------------------------------------------------

-- a step under way
abbrev pub work_of : QueueArgs → Draft → Work
work_of args draft = record { parts = parts_of args draft.queue; effects = draft.effects.items }

-- a step that was made
abbrev pub step_of : QueueArgs → Draft → Made → PartsStep
step_of args draft made =
    record {
      parts = parts_of args draft.queue;
      fresh = made.fresh;
      answer = made.answer;
      effects = draft.effects.items;
    }

-- the parts of a queue become what this says, whatever its arguments
abbrev pub Becomes : (Parts → Parts) → Queue → Queue → Type 0
Becomes change old new = (args : QueueArgs) → change (parts_of args old) ≡ parts_of args new

-- a step under way goes on as this says
abbrev pub Changes : (Work → Work) → QueueArgs → Draft → Draft → Type 0
Changes change args old new = change (work_of args old) ≡ work_of args new

-- a step under way goes on as this says, with its answer
abbrev pub Replies : (Work → Answered) → QueueArgs → Draft → Draft → Answer → Type 0
Replies act args old new answer = act (work_of args old) ≡ record { work = work_of args new; answer = answer }

-- a step under way goes on to what this says is next, if there is a next
abbrev pub GoesOn : (Work → Option Work) → QueueArgs → Draft → Draft → Bool → Type 0
GoesOn next args old new did = next (work_of args old) ≡ (if did then Some (work_of args new) else None)

-- a message was the first of those that are ready, and the queue is left without it
abbrev pub IsFirst : ReadyRow → Queue → Queue → Type 0
IsFirst row old new =
    (key : Key) × ((args : QueueArgs) → take_first (parts_of args old)
    ≡ Some (record { item = item_at (Ready key) row; left = parts_of args new }))

-- a message that was counted once more goes back, or dies
abbrev pub return_counted : Item → Work → Work
return_counted x t =
    if dies t.parts.rest.args x.row.count then parts_die DeliveryLimit x t
    else with_parts (put_back t.parts.rest.args.delivery_limit x t.parts) t

-- messages in memory end, one after the other
abbrev pub end_rows : Outcome → Place → List ReadyRow → Work → Work
end_rows outcome place rows t = fold (λ (now : Work) (row : ReadyRow). parts_end outcome (item_at place row) now) t rows

abbrev pub end_taken : Outcome → Place → Option (List ReadyRow) → Work → Work
end_taken outcome place None t = t
end_taken outcome place (Some rows) t = end_rows outcome place rows t

-- The next consumer ------------------------------------------------------------------------------------

-- a consumer is the next one, by its id, and may be served
pub record IsNextOne (single : Bool) (served : List Served) (id : ConsumerId) : Type 0 where
  pub one : Served
  pub next : next_one single served ≡ Some one
  pub own : one.consumer.id ≡ id
  pub found : one_of id served ≡ Some one
  pub may : may_serve one ≡ true

abbrev pub IsNextIn : Bool → List Served → Option ConsumerId → Type 0
IsNextIn single served None = next_one single served ≡ None
IsNextIn single served (Some id) = IsNextOne single served id

-- the consumer of an id gets a message that was taken out
abbrev pub Delivers : ConsumerId → Item → Draft → Draft → Type 0
Delivers id x old new =
    (args : QueueArgs) (one : Served) → one_of id old.queue.consumers.roster.served ≡ Some one
    → parts_deliver (record { item = x; left = parts_of args old.queue }) one (work_of args old) ≡ work_of args new

-- Drains ------------------------------------------------------------------------------------------------

-- the consumer of an id, if it is there, is in link mode
abbrev pub IsLinkAt : ConsumerId → List Served → Type 0
IsLinkAt id served = IfSome (one_of id served) (λ one. one.consumer.mode ≡ Link)

-- so is that of a Credit which was carried out
abbrev pub HasLinkFor : Command → Answer → List Served → Type 0
HasLinkFor (Credit stamp tag count credit drain) answer served =
    is_credited answer ≡ true → IsLinkAt (consumer_id stamp tag) served
HasLinkFor _ answer served = Unit {0}

-- Whole steps ------------------------------------------------------------------------------------------

-- a command is carried out as this says, from no effects on
abbrev pub CarriesOut : (Parts → Answered) → QueueArgs → Draft → Draft → Answer → Type 0
CarriesOut act args old new answer =
    act (parts_of args old.queue) ≡ record { work = work_of args new; answer = answer }

-- a step is the one that this says, of a queue
abbrev pub Makes : (Parts → PartsStep) → QueueArgs → Draft → Draft → Made → Type 0
Makes step args old new made = step (parts_of args old.queue) ≡ step_of args new made

-- messages in memory go back, one after the other
abbrev pub return_rows : Place → List (Numbered ReadyRow) → Work → Work
return_rows place rows t =
    fold (λ (now : Work) (one : Numbered ReadyRow). parts_return (item_at place one.item) now) t rows
