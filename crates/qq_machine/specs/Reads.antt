-- What is read of a queue.
use Rattle.std.specs.Prelude.{ℕ, Bool, not, nat_le, List, [], ◌∷◌, map, filter, Option, Some, None, if◌then◌else◌}
use Rattle.qq_entry.specs.declared.answer.Delivery.{Delivery}
use Rattle.qq_entry.specs.declared.message.ReadyRow.{ReadyRow}
use Rattle.qq_parts.specs.Reduced.{Item}
use Rattle.qq_parts.specs.Parts.{Served, item_number}
use Rattle.qq_consumer.specs.declared.rising.Numbered.{Numbered}

-- a consumer that wasn't cancelled
abbrev pub is_current : Served → Bool
is_current one = not one.consumer.cancelled

-- a message that is out, as it was delivered
abbrev pub delivery_of : Item → Delivery
delivery_of x =
    record {
      index = x.row.index;
      arrival = x.row.arrival;
      id = item_number x;
      count = x.row.count;
      message = x.message;
    }

abbrev pub is_from : ℕ → Item → Bool
is_from from x = nat_le from (item_number x)

-- what is out with a consumer, from an id on
abbrev pub fetched : ℕ → Option Served → List Delivery
fetched from None = []
fetched from (Some one) = map delivery_of (filter (is_from from) one.out)

-- the same of rows in memory
abbrev pub delivery_at : Numbered ReadyRow → Delivery
delivery_at one =
    record {
      index = one.item.index;
      arrival = one.item.arrival;
      id = one.number;
      count = one.item.count;
      message = one.item.message;
    }

abbrev pub fetched_rows : ℕ → List (Numbered ReadyRow) → List Delivery
fetched_rows from [] = []
fetched_rows from (one ∷ rest) =
    if nat_le from one.number then delivery_at one ∷ fetched_rows from rest else fetched_rows from rest
