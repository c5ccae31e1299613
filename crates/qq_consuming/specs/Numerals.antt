-- Short runs of one consumer, for laws that say in numerals what others say by name.
use Rattle.std.specs.Prelude.{ℕ, List, None}
use Rattle.qq_base.specs.Ids.{client}
use Rattle.qq_base.specs.declared.ids.ConsumerId.{ConsumerId}
use Rattle.qq_entry.specs.declared.answer.Delivery.{Delivery}
use Rattle.qq_consuming.specs.Consuming.{Received, ids_of, new_consumer}
use Rattle.qq_consuming.specs.Arrivals.{Deed, Arrives, after_deeds, handed}

-- the consumer of tag 1 of client 1
abbrev pub consumer : ConsumerId
consumer = record { session = client 1; tag = 1 }

-- the delivery of an id arrives
abbrev pub arrives : ℕ → Deed
arrives id =
    let d : Delivery = record {
      index = record { 0 = id };
      arrival = id;
      id = id;
      count = 0;
      message = record { size = 0; content = None };
    } in Arrives d

abbrev pub after : List Deed → Received
after deeds = after_deeds deeds (new_consumer consumer)

-- the ids that are handed out, in order
abbrev pub ids_handed : List Deed → List ℕ
ids_handed deeds = ids_of (handed (new_consumer consumer) deeds)
