-- What comes to the consumers of a queue's clients. A delivery may be lost on its way, as one to a muted session is;
-- what is out with a consumer comes to it again by a fetch.
use Rattle.std.specs.Prelude.{ℕ, List, [], ◌∷◌, ◌++◌, Bool, Option, Some, None, filter, flat_map, map, take, if◌then◌else◌}
use Rattle.qq_base.specs.Ids.{client, same_session}
use Rattle.qq_consuming.specs.Consumers.{come, know_by, taken}
use Rattle.qq_consuming.specs.Consuming.{Received, missing}
use Rattle.qq_consuming.specs.Fetched.{out_from}
use Rattle.qq_entry.specs.declared.answer.Delivery.{Delivery}
use Rattle.qq_entry.specs.declared.audit.Effect.{Effect}
use Rattle.qq_entry.specs.declared.audit.Effect.TheVariants.{Deliver}
use Rattle.qq_entry.specs.declared.command.Unstamped.{Unstamped}
use Rattle.qq_entry.specs.declared.queue.QueueArgs.{QueueArgs}
use Rattle.qq_model.specs.Audit.{state_after}
use Rattle.qq_model.specs.State.{State, empty_queue}
use Rattle.qq_raft_model.specs.State.{Server}
use Rattle.qq_session.specs.Clients.{Clients, may_hand}
use Rattle.qq_taker.specs.declared.handed.Handed.{Handed}
use Rattle.qq_session.specs.Shown.{is_delivered_to}

-- ---- what comes, and what is handed out

-- an effect delivers, unless what comes to the session is lost; a dead letter comes to no consumer
abbrev pub comes : Clients → Effect → List Received → List Received
comes clients (Deliver id delivery) all =
    if is_delivered_to clients id.session then come id delivery all else all
comes clients _ all = all

-- the deliveries that are handed out then
abbrev pub hands : Clients → Effect → List Received → List Handed
hands clients (Deliver id delivery) all =
    if is_delivered_to clients id.session
    then map (λ (d : Delivery). let h : Handed = record { consumer = id; delivery = d } in h) (taken id delivery all)
    else []
hands clients _ all = []

-- effects one after the other
abbrev pub come_all : Clients → List Effect → List Received → List Received
come_all clients [] all = all
come_all clients (effect ∷ effects) all = come_all clients effects (comes clients effect all)

abbrev pub hand_all : Clients → List Effect → List Received → List Handed
hand_all clients [] all = []
hand_all clients (effect ∷ effects) all =
    hands clients effect all ++ hand_all clients effects (comes clients effect all)

-- ---- which consumers a client knows

-- those of its subscriptions that got a number, whatever became of them
abbrev pub learn : Clients → ℕ → Unstamped → List Received → List Received
learn clients session body all =
    if may_hand (clients session).numbers then know_by (client session) body all else all

-- ---- what is fetched

-- a queue as a server has applied its entries
abbrev pub applied_by : QueueArgs → Server → State
applied_by args s = state_after (empty_queue args) (take s.commit s.log)

-- what is out with a consumer by a server, from the first id on that hasn't arrived
abbrev pub fetch_by : QueueArgs → Server → Received → List Effect
fetch_by args s r = map (Deliver r.consumer) (out_from (applied_by args s) r.consumer (missing r))

abbrev pub is_consumer_of : ℕ → Received → Bool
is_consumer_of session r = same_session r.consumer.session (client session)

-- of each consumer of a session, in the order of its subscriptions; without a server nothing is fetched
abbrev pub fetch : QueueArgs → Option Server → ℕ → List Received → List Effect
fetch args None session all = []
fetch args (Some s) session all = flat_map (fetch_by args s) (filter (is_consumer_of session) all)
