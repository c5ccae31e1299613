-- Queues, exchanges and bindings, and which queues a message comes to (RabbitMQ, "AMQP 0-9-1 Model Explained").
use Rattle.std.specs.Prelude.{ℕ, Bool, true, false, ◌&&◌, List, [], ◌∷◌, ◌++◌, map, filter, nat_eq, Option, Some, None, option_map, is_some, codes, if◌then◌else◌}
use Rattle.std.specs.List.{list_any}
use Rattle.std.specs.Ordering.{nat_cmp}
use Rattle.std.specs.Str.{bytes_eq}
use Rattle.std.specs.BTreeSet.{insert_key}
use Rattle.qq_base.specs.declared.ids.QueueId.{QueueId}
use Rattle.qq_route.specs.declared.exchange.ExchangeKind.{ExchangeKind}
use Rattle.qq_route.specs.declared.exchange.ExchangeKind.TheVariants.{Direct, Fanout, Topic}
use Rattle.qq_route.specs.declared.exchange.Binding.{Binding}
use Rattle.qq_route.specs.Topic.{words, do_match}

-- an exchange, with its bindings in the order in which they were made
pub record ExchangeState : Type 0 where
  pub kind : ExchangeKind
  pub bindings : List Binding

-- exchanges by their names
abbrev pub Exchanges : Type 0
Exchanges = List ℕ → Option ExchangeState

-- the queues' numbers, rising, and the exchanges
pub record Table : Type 0 where
  pub queues : List ℕ
  pub exchanges : Exchanges

-- A direct exchange compares the keys, a fanout exchange ignores them.
abbrev pub takes : ExchangeKind → List ℕ → List ℕ → Bool
takes Direct bound key = bytes_eq key bound
takes Fanout bound key = true
takes Topic bound key = do_match (words bound) (words key)

-- whether a message with this key comes to the queue, by one of the bindings
abbrev pub comes_to : ExchangeState → List ℕ → ℕ → Bool
comes_to e key queue = list_any (λ (b : Binding). nat_eq b.queue.0 queue && takes e.kind b.key key) e.bindings

abbrev pub queue_id : ℕ → QueueId
queue_id number = record { 0 = number }

-- the queues to which a message comes, each once, in the order of their numbers; None where there is no such exchange
abbrev pub targets : Table → List ℕ → List ℕ → Option (List QueueId)
targets t name key =
    option_map (λ (e : ExchangeState). map queue_id (filter (comes_to e key) t.queues)) (t.exchanges name)

-- whether one of the queues has the number
abbrev pub is_named : List QueueId → ℕ → Bool
is_named queues number = list_any (λ (q : QueueId). nat_eq q.0 number) queues

abbrev pub put : Exchanges → List ℕ → ExchangeState → Exchanges
put exchanges name e other = if bytes_eq name other then Some e else exchanges other

-- whether the queue is bound under the key
abbrev pub has_binding : ExchangeState → Binding → Bool
has_binding e b =
    list_any (λ (other : Binding). nat_eq other.queue.0 b.queue.0 && bytes_eq b.key other.key) e.bindings

-- Bindings are a set: one that is there is bound again without an error, and changes nothing (AMQP 0-9-1, reference
-- of queue.bind, on duplicate bindings).
abbrev pub with_binding : ExchangeState → Binding → ExchangeState
with_binding e b = if has_binding e b then e else record e { bindings = e.bindings ++ b ∷ [] }

abbrev pub put_binding : Exchanges → List ℕ → Binding → Option ExchangeState → Exchanges
put_binding exchanges name b None = exchanges
put_binding exchanges name b (Some e) = put exchanges name (with_binding e b)

-- one more binding of the exchange, where it is there
abbrev pub bind_at : Exchanges → List ℕ → Binding → Exchanges
bind_at exchanges name b = put_binding exchanges name b (exchanges name)

-- The default exchange has the empty name. A queue is bound to it under its own name,
abbrev pub add_queue : Table → List ℕ → QueueId → Table
add_queue t name queue =
    record {
      queues = insert_key nat_cmp t.queues queue.0;
      exchanges = bind_at t.exchanges [] (record { queue = queue; key = name });
    }

-- and nothing else is: a binding to it is answered, and changes nothing.
abbrev pub bind : Table → List ℕ → Binding → Table
bind t [] b = t
bind t (c ∷ cs) b = record t { exchanges = bind_at t.exchanges (c ∷ cs) b }

abbrev pub is_bindable : Table → List ℕ → Bool
is_bindable t [] = true
is_bindable t (c ∷ cs) = is_some (t.exchanges (c ∷ cs))

abbrev pub new_exchange : ExchangeKind → ExchangeState
new_exchange kind = record { kind = kind; bindings = [] }

-- An exchange that is there stays as it is.
abbrev pub add_at : Exchanges → List ℕ → ExchangeKind → Exchanges
add_at exchanges name kind = if is_some (exchanges name) then exchanges else put exchanges name (new_exchange kind)

abbrev pub add_exchange : Table → List ℕ → ExchangeKind → Table
add_exchange t name kind = record t { exchanges = add_at t.exchanges name kind }

abbrev pub same_kind : ExchangeKind → ExchangeKind → Bool
same_kind Direct Direct = true
same_kind Fanout Fanout = true
same_kind Topic Topic = true
same_kind _ _ = false

-- no exchange of that name is there with another kind
abbrev pub may_add : ExchangeKind → Option ExchangeState → Bool
may_add kind None = true
may_add kind (Some e) = same_kind e.kind kind

-- the default exchange, and the three that a broker has by itself
abbrev pub first_exchanges : Exchanges
first_exchanges =
    let default = add_at (λ name. None) [] Direct in
    let direct = add_at default (codes "amq.direct") Direct in
    let fanout = add_at direct (codes "amq.fanout") Fanout in
    add_at fanout (codes "amq.topic") Topic

abbrev pub new_table : Table
new_table = record { queues = []; exchanges = first_exchanges }
