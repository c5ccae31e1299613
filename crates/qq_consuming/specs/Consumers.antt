-- The consumers of a queue's clients. A delivery that comes to one is handed out as soon as all before it were, and what
-- came before its turn follows it.
use Rattle.std.specs.Prelude.{ℕ, List, [], ◌∷◌, ◌++◌, Bool, Option, Some, None, find, is_some, length, replicate, unwrap_or, if◌then◌else◌}
use Rattle.std.specs.Option.{option_map_or}
use Rattle.qq_base.specs.Ids.{same_consumer}
use Rattle.qq_base.specs.declared.ids.ConsumerId.{ConsumerId}
use Rattle.qq_base.specs.declared.ids.SessionId.{SessionId}
use Rattle.qq_entry.specs.declared.answer.Delivery.{Delivery}
use Rattle.qq_entry.specs.declared.command.Unstamped.{Unstamped}
use Rattle.qq_entry.specs.declared.command.Unstamped.TheVariants.{Subscribe, Settle, Return, Discard}
use Rattle.qq_consuming.specs.Consuming.{Received, arrive, new_consumer, not_taken}
use Rattle.qq_consuming.specs.Arrivals.{Deed, Arrives, Asks, after_deeds, handed}

-- ---- one consumer

-- A delivery comes, and the client takes what is there. It asks as often as deliveries wait, so until the next one isn't
-- there.
abbrev pub coming : Delivery → Received → List Deed
coming delivery r = Arrives delivery ∷ replicate (length (arrive delivery r).waiting) Asks

abbrev pub come_by : Delivery → Received → Received
come_by delivery r = after_deeds (coming delivery r) r

-- what it takes
abbrev pub taken_by : Delivery → Received → List Delivery
taken_by delivery r = handed r (coming delivery r)

-- ---- those of a queue, in the order in which their clients subscribed them

abbrev pub is_at : ConsumerId → Received → Bool
is_at id r = same_consumer r.consumer id

-- the consumer of an id, None where no client knows it
abbrev pub received : ConsumerId → List Received → Option Received
received id all = find (is_at id) all

-- to one that no client knows nothing has come
abbrev pub consumer_at : ConsumerId → List Received → Received
consumer_at id all = unwrap_or (received id all) (new_consumer id)

abbrev pub change_at : ConsumerId → (Received → Received) → List Received → List Received
change_at id change [] = []
change_at id change (r ∷ more) = if is_at id r then change r ∷ more else r ∷ change_at id change more

-- a client knows a consumer from its first subscription on
abbrev pub know : ConsumerId → List Received → List Received
know id all = if is_some (received id all) then all else all ++ new_consumer id ∷ []

abbrev pub know_by : SessionId → Unstamped → List Received → List Received
know_by session (Subscribe tag mode) all = know (record { session = session; tag = tag }) all
know_by session _ all = all

-- a delivery comes to its consumer; one for a consumer that no client knows is passed over
abbrev pub come : ConsumerId → Delivery → List Received → List Received
come id delivery all = change_at id (come_by delivery) all

abbrev pub taken : ConsumerId → Delivery → List Received → List Delivery
taken id delivery all = option_map_or (taken_by delivery) (received id all) []

-- ---- claims

-- the deliveries that a command ends: the consumer's tag, and their ids
abbrev pub claimed : Unstamped → Option (ℕ × List ℕ)
claimed (Settle tag ids) = Some (tag, ids)
claimed (Return tag ids) = Some (tag, ids)
claimed (Discard tag ids) = Some (tag, ids)
claimed _ = None

-- the first id that wasn't handed out; of a consumer that no client knows that is the first one
abbrev pub not_taken_by : SessionId → Option (ℕ × List ℕ) → List Received → Option ℕ
not_taken_by session None all = None
not_taken_by session (Some claim) all =
    not_taken claim.1 (consumer_at (record { session = session; tag = claim.0 }) all)

-- the first delivery that a session's command ends and that wasn't handed out
abbrev pub not_taken_of : SessionId → Unstamped → List Received → Option ℕ
not_taken_of session body all = not_taken_by session (claimed body) all
