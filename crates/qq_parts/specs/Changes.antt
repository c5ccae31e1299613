-- What commands make of the parts of a queue.
use Rattle.std.specs.Prelude.{◌≡◌, ℕ, ◌+◌, ◌<◌, List, [], ◌∷◌, ◌++◌, Option, Some, None, Bool, if◌then◌else◌}
use Rattle.std.specs.List.{AllByRecursion}
use Rattle.qq_base.specs.declared.ids.Index.{Index}
use Rattle.qq_entry.specs.declared.message.Message.{Message}
use Rattle.qq_entry.specs.declared.message.Reason.{Reason}
use Rattle.qq_entry.specs.declared.message.Reason.TheVariants.{DeliveryLimit}
use Rattle.qq_entry.specs.declared.audit.Effect.{Effect}
use Rattle.qq_entry.specs.declared.audit.Effect.TheVariants.{DeadOnce}
use Rattle.qq_entry.specs.declared.queue.Strategy.{Strategy}
use Rattle.qq_entry.specs.declared.queue.Strategy.TheVariants.{AtMostOnce, AtLeastOnce}
use Rattle.qq_model.specs.declared.place.GoneReason.{GoneReason}
use Rattle.qq_model.specs.declared.place.Key.TheVariants.{Front, Back}
use Rattle.qq_model.specs.declared.place.Place.{Place}
use Rattle.qq_model.specs.declared.place.Place.TheVariants.{Ready, Dead, Gone}
use Rattle.qq_model.specs.declared.place.Row.{Row}
use Rattle.qq_model.specs.State.{State}
use Rattle.qq_model.specs.Limits.{has_passed}
use Rattle.qq_model.specs.Changes.{Progress, die, return_row}
use Rattle.qq_model.specs.Commands.{append_message, move_row}
use Rattle.qq_parts.specs.Reduced.{Item}
use Rattle.qq_parts.specs.Parts.{Parts, Stands, StandsWith, IsWhole}

-- a message that was taken out, and what is left
pub record Taken : Type 0 where
  pub item : Item
  pub left : Parts

abbrev pub take_by : List Item → List Item → Parts → Option Taken
take_by [] [] m = None
take_by [] (x ∷ backs) m = Some (record { item = x; left = record m { fronts = []; backs = backs } })
take_by (x ∷ fronts) backs m = Some (record { item = x; left = record m { fronts = fronts; backs = backs } })

-- the first of the ready messages is taken out
abbrev pub take_first : Parts → Option Taken
take_first m = take_by m.fronts m.backs m

-- a message at another place
abbrev pub moved : Place → Item → Item
moved place x = record { row = record (x.row) { place = place }; message = x.message }

-- a message goes to the back, to the front behind those returned before, or among the dead
abbrev pub push_back : Item → Parts → Parts
push_back x m =
    record m {
      rest = record (m.rest) { orders = m.rest.orders + 1 };
      backs = m.backs ++ moved (Ready (Back (m.rest.orders + 1))) x ∷ [];
    }

abbrev pub push_front : Item → Parts → Parts
push_front x m =
    record m {
      rest = record (m.rest) { returns = m.rest.returns + 1 };
      fronts = m.fronts ++ moved (Ready (Front (m.rest.returns + 1))) x ∷ [];
    }

abbrev pub push_dead : Reason → Item → Parts → Parts
push_dead reason x m =
    record m {
      rest = record (m.rest) { deads = m.rest.deads + 1 };
      dead = m.dead ++ moved (Dead (m.rest.deads + 1) reason) x ∷ [];
    }

-- a new message
abbrev pub arrive : Index → Message → Parts → Parts
arrive index message m =
    record m {
      rest = record (m.rest) { arrivals = m.rest.arrivals + 1; orders = m.rest.orders + 1 };
      backs =
          m.backs
          ++ record {
            row =
                record {
                  index = index;
                  arrival = m.rest.arrivals + 1;
                  count = 0;
                  size = message.size;
                  place = Ready (Back (m.rest.orders + 1));
                };
            message = message;
          }
          ∷ [];
    }

-- a message that dies stays where the queue dead-letters at least once
abbrev pub bury : Strategy → Reason → Item → Parts → Parts
bury AtLeastOnce reason x m = push_dead reason x m
bury _ reason x m = m

-- and leaves as a dead letter where it does so at most once
abbrev pub dead_letter : Strategy → Reason → Item → List Effect
dead_letter AtMostOnce reason x = DeadOnce reason x.message ∷ []
dead_letter _ reason x = []

abbrev pub put_back : Option ℕ → Item → Parts → Parts
put_back None x m = push_back x m
put_back (Some limit) x m = push_front x m

-- a message, counted once more
abbrev pub recounted : Item → Item
recounted x = record { row = record (x.row) { count = x.row.count + 1 }; message = x.message }

-- whether the delivery limit lets a message go back once more
abbrev pub is_spent : Parts → Item → Bool
is_spent m x = has_passed m.rest.args.delivery_limit (x.row.count + 1)

abbrev pub give_back : Item → Parts → Parts
give_back x m =
    if is_spent m x then bury m.rest.args.strategy DeliveryLimit (recounted x) m
    else put_back m.rest.args.delivery_limit (recounted x) m

abbrev pub back_letter : Item → Parts → List Effect
back_letter x m = if is_spent m x then dead_letter m.rest.args.strategy DeliveryLimit (recounted x) else []

-- the parts stand for a state, and are whole
pub record Holds (m : Parts) (s : State) : Type 0 where
  pub stands : Stands m s
  pub whole : IsWhole m

-- and so does a step under way, with these effects more
pub record HoldsAfter (m : Parts) (more : List Effect) (before after : Progress) : Type 0 where
  pub stands : Stands m after.state
  pub whole : IsWhole m
  pub effects : after.effects ≡ before.effects ++ more

-- Where a state stands for parts and one message more, that message may be gone, die, or go back.
pub record MayLeave (x : Item) (m : Parts) (s : State) : Type 0 where
  pub goes : (reason : GoneReason) → Holds m (move_row x.row (Gone reason) s)
  pub dies : (reason : Reason) (effects : List Effect)
      → HoldsAfter (bury m.rest.args.strategy reason x m) (dead_letter m.rest.args.strategy reason x)
      (record { state = s; effects = effects }) (die reason x.row (record { state = s; effects = effects }))
  pub returns : (effects : List Effect)
      → HoldsAfter (give_back x m) (back_letter x m) (record { state = s; effects = effects })
      (return_row x.row (record { state = s; effects = effects }))

-- a message of an entry behind all others arrives
abbrev pub MayArrive : Parts → State → Type 0
MayArrive m s =
    (index : Index) (message : Message) → AllByRecursion (λ (row : Row). row.index.0 < index.0) s.rows
    → Holds (arrive index message m) (append_message s index message)

-- the first ready message, taken out, is one more than what is left
pub record IsTaken (taken : Taken) (m : Parts) (s : State) : Type 0 where
  pub stands : StandsWith taken.item taken.left s
  pub whole : IsWhole taken.left
