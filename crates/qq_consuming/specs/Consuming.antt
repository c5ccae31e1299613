-- A consumer at its client: which deliveries have arrived, and which were handed out. Deliveries may be lost on their
-- way, come more than once, and come in any order; the ids count from 1 (AMQP 0-9-1, delivery tags).
use Rattle.std.specs.Prelude.{◌≡◌, ℕ, ◌+◌, ◌<◌, true, false, List, [], ◌∷◌, Bool, not, ◌&&◌, ◌||◌, Option, Some, None, find, map, nat_eq, nat_lt, if◌then◌else◌}
use Rattle.std.specs.List.{list_any}
use Rattle.qq_base.specs.declared.ids.ConsumerId.{ConsumerId}
use Rattle.qq_entry.specs.declared.answer.Delivery.{Delivery}
use Rattle.qq_consuming.specs.declared.consuming.ClaimFault.{ClaimFault}
use Rattle.qq_consuming.specs.declared.consuming.ClaimFault.TheVariants.{NotTaken}

pub record Received : Type 0 where
  pub consumer : ConsumerId
  -- the id of the delivery that is handed out next
  pub next : ℕ
  -- what has arrived and wasn't handed out, in the order of ids
  pub waiting : List Delivery

-- nothing has arrived
abbrev pub new_consumer : ConsumerId → Received
new_consumer consumer = record { consumer = consumer; next = 1; waiting = [] }

-- ---- what arrives

abbrev pub ids_of : List Delivery → List ℕ
ids_of deliveries = map (λ (one : Delivery). one.id) deliveries

-- a delivery of this id was handed out, or waits
abbrev pub has_arrived : ℕ → Received → Bool
has_arrived id r = nat_lt id r.next || list_any (nat_eq id) (ids_of r.waiting)

-- a delivery in its place among others
abbrev pub insert_delivery : Delivery → List Delivery → List Delivery
insert_delivery d [] = d ∷ []
insert_delivery d (one ∷ more) = if nat_lt d.id one.id then d ∷ one ∷ more else one ∷ insert_delivery d more

-- a delivery waits from its first arrival on
abbrev pub arrive : Delivery → Received → Received
arrive d r = if has_arrived d.id r then r else record r { waiting = insert_delivery d r.waiting }

-- ---- what is handed out

abbrev pub next_by : ℕ → List Delivery → Option Delivery
next_by next [] = None
next_by next (one ∷ more) = if nat_eq next one.id then Some one else None

-- the next delivery, None where it hasn't arrived
abbrev pub next_delivery : Received → Option Delivery
next_delivery r = next_by r.next r.waiting

abbrev pub without_first : List Delivery → List Delivery
without_first [] = []
without_first (one ∷ more) = more

abbrev pub hand_out_by : Option Delivery → Received → Received
hand_out_by None r = r
hand_out_by (Some d) r = record r { next = r.next + 1; waiting = without_first r.waiting }

abbrev pub hand_out : Received → Received
hand_out r = hand_out_by (next_delivery r) r

-- ---- what is missing

-- the first id, from this one on, that isn't one of these rising ones
abbrev pub first_missing : ℕ → List ℕ → ℕ
first_missing id [] = id
first_missing id (one ∷ more) = if nat_eq id one then first_missing (id + 1) more else id

abbrev pub missing : Received → ℕ
missing r = first_missing r.next (ids_of r.waiting)

-- the least id that hasn't arrived
pub record IsLeastMissing (id : ℕ) (r : Received) : Type 0 where
  pub missing : has_arrived id r ≡ false
  pub least : (other : ℕ) → other < id → has_arrived other r ≡ true

-- ---- what is claimed

abbrev pub was_handed_out : ℕ → Received → Bool
was_handed_out id r = nat_lt 0 id && nat_lt id r.next

-- the first id that wasn't handed out
abbrev pub not_taken : List ℕ → Received → Option ℕ
not_taken ids r = find (λ (id : ℕ). not (was_handed_out id r)) ids

-- a claim is refused for the first id that wasn't handed out
abbrev pub HasClaimCause : ClaimFault → List ℕ → Received → Type 0
HasClaimCause (NotTaken id) ids r = not_taken ids r ≡ Some id
