-- A queue in parts: separate lists of its live messages, which are all that a machine keeps of them.
use Rattle.std.specs.Prelude.{◌≡◌, ℕ, ◌-◌, ◌<◌, ◌≤◌, false, List, [], ◌∷◌, ◌++◌, map, length}
use Rattle.std.specs.List.{AllByRecursion}
use Rattle.qq_base.specs.Ids.{same_consumer}
use Rattle.qq_entry.specs.declared.message.Message.{Message}
use Rattle.qq_entry.specs.declared.message.Reason.{Reason}
use Rattle.qq_model.specs.declared.place.Key.TheVariants.{Front, Back}
use Rattle.qq_model.specs.declared.place.Place.{Place}
use Rattle.qq_model.specs.declared.place.Place.TheVariants.{Ready, Out, Dead, Gone}
use Rattle.qq_model.specs.declared.place.Row.{Row}
use Rattle.qq_model.specs.declared.consumer.Consumer.{Consumer}
use Rattle.qq_model.specs.State.{State}
use Rattle.qq_parts.specs.Reduced.{Item, live_items}
use Rattle.qq_parts.specs.Perm.{Perm}

-- a consumer, and what is out with it by rising id
pub record Served : Type 0 where
  pub consumer : Consumer
  pub out : List Item

abbrev pub consumer_at : Served → Consumer
consumer_at one = one.consumer

-- The ready messages at the front and behind them, each the next first; the consumers in the order of joining, each
-- with what is out with it; and the dead by rising number. Of the rest of the state its rows, messages and consumers
-- aren't read.
pub record Parts : Type 0 where
  pub rest : State
  pub fronts : List Item
  pub backs : List Item
  pub served : List Served
  pub dead : List Item

-- the out lists, end to end
abbrev pub outs : List Served → List Item
outs [] = []
outs (one ∷ ones) = one.out ++ outs ones

-- all live messages
abbrev pub items_of : Parts → List Item
items_of m = (m.fronts ++ m.backs) ++ (outs m.served ++ m.dead)

-- rows in the order of their entries
abbrev pub AreRising : List Row → Type 0
AreRising [] = Unit {0}
AreRising (row ∷ rows) = AllByRecursion (λ (other : Row). row.index.0 < other.index.0) rows × AreRising rows

-- the state of the parts, but for rows and messages
abbrev pub frame : Parts → State
frame m = record (m.rest) { rows = []; messages = []; consumers = map consumer_at m.served }

abbrev pub with_rows : List Row → List Message → State → State
with_rows rows messages s = record s { rows = rows; messages = messages }

-- A state of the definition is the parts', but for what is gone and for the order of the others.
pub record Stands (m : Parts) (s : State) : Type 0 where
  pub rest : s ≡ with_rows s.rows s.messages (frame m)
  pub perm : Perm (live_items s.rows s.messages) (items_of m)
  pub rising : AreRising s.rows
  pub long : length s.rows ≡ length s.messages

-- the same of the parts and one message more, which was taken out of them
pub record StandsWith (x : Item) (m : Parts) (s : State) : Type 0 where
  pub rest : s ≡ with_rows s.rows s.messages (frame m)
  pub perm : Perm (live_items s.rows s.messages) (x ∷ items_of m)
  pub rising : AreRising s.rows
  pub long : length s.rows ≡ length s.messages

-- What holds of the parts -----------------------------------------------------------------------------

-- the number of a place in its list
abbrev pub place_number : Place → ℕ
place_number (Ready (Front n)) = n
place_number (Ready (Back n)) = n
place_number (Out consumer id) = id
place_number (Dead n reason) = n
place_number (Gone reason) = 0

abbrev pub item_number : Item → ℕ
item_number item = place_number item.row.place

-- each number is below those behind it
abbrev pub NumbersRise : List Item → Type 0
NumbersRise [] = Unit {0}
NumbersRise (x ∷ xs) = AllByRecursion (λ (y : Item). item_number x < item_number y) xs × NumbersRise xs

-- at a place of one kind, with a number that was drawn
pub record IsPlaced (at : ℕ → Place) (last : ℕ) (x : Item) : Type 0 where
  pub place : x.row.place ≡ at (item_number x)
  pub drawn : item_number x ≤ last

pub record ArePlaced (at : ℕ → Place) (last : ℕ) (xs : List Item) : Type 0 where
  pub rising : NumbersRise xs
  pub each : AllByRecursion (IsPlaced at last) xs

-- a dead message has the reason for which it died
pub record IsDead (last : ℕ) (x : Item) : Type 0 where
  pub reason : Reason
  pub place : x.row.place ≡ Dead (item_number x) reason
  pub drawn : item_number x ≤ last

pub record AreDead (last : ℕ) (xs : List Item) : Type 0 where
  pub rising : NumbersRise xs
  pub each : AllByRecursion (IsDead last) xs

-- what is out with a consumer has ids that it was given
abbrev pub HasOut : Served → Type 0
HasOut one = ArePlaced (Out one.consumer.id) (one.consumer.next_id - 1) one.out × (0 < one.consumer.next_id)

-- two consumers have two ids, both ways round
abbrev pub AreTwo : Served → Served → Type 0
AreTwo a b =
    (same_consumer a.consumer.id b.consumer.id ≡ false) × (same_consumer b.consumer.id a.consumer.id ≡ false)

abbrev pub AreApart : List Served → Type 0
AreApart [] = Unit {0}
AreApart (one ∷ ones) = AllByRecursion (AreTwo one) ones × AreApart ones

pub record IsWhole (m : Parts) : Type 0 where
  pub fronts : ArePlaced (λ n. Ready (Front n)) m.rest.returns m.fronts
  pub backs : ArePlaced (λ n. Ready (Back n)) m.rest.orders m.backs
  pub served : AllByRecursion HasOut m.served
  pub apart : AreApart m.served
  pub dead : AreDead m.rest.deads m.dead
