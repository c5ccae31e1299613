-- What comes to a consumer, and what is handed out, over any list of arrivals and asks. A delivery that is lost is an
-- arrival that never comes.
use Rattle.std.specs.Prelude.{List, [], ◌∷◌, ◌++◌, Option, Some, None}
use Rattle.qq_entry.specs.declared.answer.Delivery.{Delivery}
use Rattle.qq_consuming.specs.Consuming.{Received, arrive, hand_out, next_delivery}

pub data Deed : Type 0 where
  -- a delivery arrives, by itself or fetched
  Arrives : (delivery : Delivery) → Deed
  -- the next delivery is asked for
  Asks : Deed

abbrev pub after_deed : Deed → Received → Received
after_deed (Arrives delivery) r = arrive delivery r
after_deed Asks r = hand_out r

abbrev pub after_deeds : List Deed → Received → Received
after_deeds [] r = r
after_deeds (deed ∷ deeds) r = after_deeds deeds (after_deed deed r)

-- ---- what arrives

abbrev pub arrived_by : Deed → List Delivery
arrived_by (Arrives delivery) = delivery ∷ []
arrived_by Asks = []

abbrev pub arrivals : List Deed → List Delivery
arrivals [] = []
arrivals (deed ∷ deeds) = arrived_by deed ++ arrivals deeds

-- ---- what is handed out

abbrev pub given : Option Delivery → List Delivery
given None = []
given (Some delivery) = delivery ∷ []

abbrev pub handed_by : Deed → Received → List Delivery
handed_by (Arrives delivery) r = []
handed_by Asks r = given (next_delivery r)

-- all that is handed out, in order
abbrev pub handed : Received → List Deed → List Delivery
handed r [] = []
handed r (deed ∷ deeds) = handed_by deed r ++ handed (after_deed deed r) deeds
