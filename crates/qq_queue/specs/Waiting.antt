-- What waits for a taker's verdict.
use Rattle.std.specs.Prelude.{List, [], ◌∷◌, Bool, false, not}
use Rattle.qq_base.specs.declared.ids.ConsumerId.{ConsumerId}
use Rattle.qq_entry.specs.declared.answer.Delivery.{Delivery}
use Rattle.qq_taker.specs.declared.handed.Handed.{Handed}
use Rattle.qq_taker.specs.declared.seats.Seat.{Seat}
use Rattle.qq_cluster_model.specs.Taking.{has_taker}

abbrev pub handed_to : ConsumerId → Delivery → Handed
handed_to consumer delivery = record { consumer = consumer; delivery = delivery }

-- the first one's consumer has no taker
abbrev pub is_plain : List Seat → List Handed → Bool
is_plain seats [] = false
is_plain seats (h ∷ more) = not (has_taker seats h)
