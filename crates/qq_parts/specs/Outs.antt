-- Deliveries in the parts of a queue: one is made, one ends, and consumers join.
use Rattle.std.specs.Prelude.{◌≡◌, ℕ, ◌+◌, List, [], ◌∷◌, ◌++◌, Option, Some, None, false, nat_eq, map, if◌then◌else◌}
use Rattle.std.specs.Option.{option_map}
use Rattle.std.specs.List.{AllByRecursion}
use Rattle.qq_base.specs.declared.ids.ConsumerId.{ConsumerId}
use Rattle.qq_base.specs.Ids.{same_consumer}
use Rattle.qq_entry.specs.declared.command.Mode.{Mode}
use Rattle.qq_entry.specs.declared.answer.Delivery.{Delivery}
use Rattle.qq_entry.specs.declared.audit.Effect.{Effect}
use Rattle.qq_entry.specs.declared.audit.Effect.TheVariants.{Deliver}
use Rattle.qq_model.specs.declared.place.Place.TheVariants.{Out}
use Rattle.qq_model.specs.declared.place.Row.{Row}
use Rattle.qq_model.specs.declared.consumer.Consumer.{Consumer}
use Rattle.qq_model.specs.State.{State}
use Rattle.qq_model.specs.Gate.{take_tag}
use Rattle.qq_model.specs.Commands.{new_consumer, join, delivered_row, purge_row}
use Rattle.qq_model.specs.Serving.{serve, deliver}
use Rattle.qq_parts.specs.Reduced.{Item}
use Rattle.qq_parts.specs.Parts.{Served, Parts, item_number}
use Rattle.qq_parts.specs.Changes.{Taken, moved, Holds, HoldsAfter, IsTaken}

-- A delivery ends -------------------------------------------------------------------------------------

-- an item of a list, and the others
pub record Cut : Type 0 where
  pub item : Item
  pub rest : List Item

abbrev pub behind_item : Item → Cut → Cut
behind_item x cut = record { item = cut.item; rest = x ∷ cut.rest }

-- the item of a number is taken out
abbrev pub cut_id : ℕ → List Item → Option Cut
cut_id id [] = None
cut_id id (x ∷ xs) =
    if nat_eq (item_number x) id then Some (record { item = x; rest = xs }) else option_map (behind_item x) (cut_id id xs)

-- an item, and the consumers without it
pub record CutOut : Type 0 where
  pub item : Item
  pub served : List Served

abbrev pub out_of : Served → List Served → Cut → CutOut
out_of one ones cut = record { item = cut.item; served = record { consumer = one.consumer; out = cut.rest } ∷ ones }

abbrev pub behind_one : Served → CutOut → CutOut
behind_one one cut = record { item = cut.item; served = one ∷ cut.served }

-- the delivery of an id to a consumer is taken out
abbrev pub cut_out : ConsumerId → ℕ → List Served → Option CutOut
cut_out consumer id [] = None
cut_out consumer id (one ∷ ones) =
    if same_consumer one.consumer.id consumer then option_map (out_of one ones) (cut_id id one.out)
    else option_map (behind_one one) (cut_out consumer id ones)

abbrev pub taken_of : Parts → CutOut → Taken
taken_of m cut = record { item = cut.item; left = record m { served = cut.served } }

abbrev pub take_out : ConsumerId → ℕ → Parts → Option Taken
take_out consumer id m = option_map (taken_of m) (cut_out consumer id m.served)

abbrev pub taken_row : Taken → Row
taken_row taken = taken.item.row

-- the delivery of an id is that of the definition, and once it is taken out, one more than what is left
pub record MayEnd (consumer : ConsumerId) (id : ℕ) (m : Parts) (s : State) : Type 0 where
  pub found : delivered_row consumer id s.rows ≡ option_map taken_row (take_out consumer id m)
  pub taken : (taken : Taken) → take_out consumer id m ≡ Some taken → IsTaken taken m s

-- A delivery is made ----------------------------------------------------------------------------------

abbrev pub serve_one : ℕ → Item → Served → Served
serve_one turn x one =
    record {
      consumer = serve turn one.consumer;
      out = one.out ++ moved (Out one.consumer.id one.consumer.next_id) x ∷ [];
    }

-- a message goes to the consumer of an id
abbrev pub hand_to : ℕ → Item → ConsumerId → List Served → List Served
hand_to turn x consumer [] = []
hand_to turn x consumer (one ∷ ones) =
    if same_consumer one.consumer.id consumer then serve_one turn x one ∷ ones
    else one ∷ hand_to turn x consumer ones

abbrev pub hand_over : Item → Consumer → Parts → Parts
hand_over x consumer m =
    record m {
      rest = record (m.rest) { turns = m.rest.turns + 1 };
      served = hand_to (m.rest.turns + 1) x consumer.id m.served;
    }

abbrev pub delivery_to : Consumer → Item → Delivery
delivery_to consumer x =
    record {
      index = x.row.index;
      arrival = x.row.arrival;
      id = consumer.next_id;
      count = x.row.count;
      message = x.message;
    }

-- the parts with a delivery stand for the definition's state with it
abbrev pub MayDeliver : Item → Consumer → Parts → State → Type 0
MayDeliver x consumer m s =
    (effects : List Effect)
    → HoldsAfter (hand_over x consumer m) (Deliver consumer.id (delivery_to consumer x) ∷ [])
    (record { state = s; effects = effects }) (deliver x.row consumer (record { state = s; effects = effects }))

-- A consumer joins ------------------------------------------------------------------------------------

abbrev pub joined : ConsumerId → Mode → Parts → Parts
joined id mode m =
    record m {
      rest =
          record (m.rest) { turns = m.rest.turns + 1; sessions = take_tag id.session id.tag m.rest.sessions };
      served = m.served ++ record { consumer = new_consumer id mode (m.rest.turns + 1); out = [] } ∷ [];
    }

-- nobody has this id, both ways round
abbrev pub IsFree : ConsumerId → Parts → Type 0
IsFree id m =
    AllByRecursion
    (λ (one : Served). (same_consumer one.consumer.id id ≡ false) × (same_consumer id one.consumer.id ≡ false)) m.served

abbrev pub MayJoin : Parts → State → Type 0
MayJoin m s = (id : ConsumerId) (mode : Mode) → IsFree id m → Holds (joined id mode m) (join id mode s)

-- Purge -----------------------------------------------------------------------------------------------

abbrev pub purged : Parts → Parts
purged m = record m { fronts = []; backs = [] }

abbrev pub MayPurge : Parts → State → Type 0
MayPurge m s = Holds (purged m) (record s { rows = map purge_row s.rows })
