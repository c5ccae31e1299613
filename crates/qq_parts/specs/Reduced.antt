-- A queue without the messages that are gone, and what is the same of it.
use Rattle.std.specs.Prelude.{◌≡◌, List, [], ◌∷◌, Bool, filter, map}
use Rattle.qq_entry.specs.declared.message.Message.{Message}
use Rattle.qq_entry.specs.declared.command.Entry.{Entry}
use Rattle.qq_model.specs.declared.place.Row.{Row}
use Rattle.qq_model.specs.Limits.{is_live}
use Rattle.qq_model.specs.State.{State}
use Rattle.qq_model.specs.Step.{Step}
use Rattle.qq_model.specs.Audit.{next_step, audit_of, effects_of}

-- a row, and the message beside it
pub record Item : Type 0 where
  pub row : Row
  pub message : Message

abbrev pub item_row : Item → Row
item_row item = item.row

abbrev pub item_message : Item → Message
item_message item = item.message

-- each row with its message
abbrev pub items : List Row → List Message → List Item
items [] messages = []
items (row ∷ rows) [] = []
items (row ∷ rows) (message ∷ messages) = record { row = row; message = message } ∷ items rows messages

abbrev pub is_live_item : Item → Bool
is_live_item item = is_live item.row.place

-- those that aren't gone
abbrev pub live_items : List Row → List Message → List Item
live_items rows messages = filter is_live_item (items rows messages)

-- the same queue without the messages that are gone, and their rows
abbrev pub reduced : State → State
reduced s =
    record s {
      rows = map item_row (live_items s.rows s.messages);
      messages = map item_message (live_items s.rows s.messages);
    }

-- two steps with the same outcome, that leave the same queue but for what is gone
pub record SameButGone (a b : Step) : Type 0 where
  pub fresh : a.fresh ≡ b.fresh
  pub answer : a.answer ≡ b.answer
  pub effects : a.effects ≡ b.effects
  pub state : reduced a.state ≡ reduced b.state

-- a step of the queue without what is gone is the same
abbrev pub StepsAlike : State → Type 0
StepsAlike s = (entry : Entry) → SameButGone (next_step s entry) (next_step (reduced s) entry)

-- and so are all later ones: the same answers, and the same effects
pub record GoesOnAlike (s : State) (entries : List Entry) : Type 0 where
  pub audit : audit_of s entries ≡ audit_of (reduced s) entries
  pub effects : effects_of s entries ≡ effects_of (reduced s) entries
