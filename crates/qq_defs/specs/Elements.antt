-- The elements of the lists of definitions (RabbitMQ, "Definition Export and Import"), with the first fault of each.
use Rattle.std.specs.Prelude.{ℕ, Bool, true, false, ◌&&◌, List, length, nat_lt, nat_le, codes, Option, Some, None, Result, Ok, Err, option_map, option_and_then, is_some, if◌then◌else◌}
use Rattle.std.specs.Str.{bytes_eq}
use Rattle.serde_json.specs.Data.{Data}
use Rattle.serde_json.specs.Find.{get, as_str}
use Rattle.qq_base.specs.declared.ids.QueueId.{QueueId}
use Rattle.qq_entry.specs.declared.limits.TheConstants.{KEY_LIMIT}
use Rattle.qq_route.specs.declared.exchange.ExchangeKind.{ExchangeKind}
use Rattle.qq_route.specs.declared.exchange.ExchangeKind.TheVariants.{Direct, Fanout, Topic}
use Rattle.qq_route.specs.Routes.{ExchangeState, add_exchange, bind, is_bindable, same_kind}
use Rattle.qq_defs.specs.declared.fault.DefsFault.{DefsFault}
use Rattle.qq_defs.specs.declared.fault.DefsFault.TheVariants.{BadArgument, Unsupported, UnknownTarget}
use Rattle.qq_defs.specs.declared.fields.Place.{Place}
use Rattle.qq_defs.specs.declared.fields.Section.{Section}
use Rattle.qq_defs.specs.declared.fields.Section.TheVariants.{Queues, Exchanges, Bindings}
use Rattle.qq_defs.specs.Arguments.{queue_args}
use Rattle.qq_defs.specs.Reading.{◌>>=◌, required, text_at, flag_at, vhost_at, object_at}
use Rattle.qq_defs.specs.Draft.{DraftState, more, skip, declare, count_other, next_queue}

-- the name of a queue or an exchange
abbrev pub is_name : List ℕ → Bool
is_name name = nat_lt 0 (length name) && nat_le (length name) KEY_LIMIT

abbrev pub quorum_of : List ℕ → Option Bool
quorum_of text =
    if bytes_eq text (codes "quorum") then Some true else if bytes_eq text (codes "classic") then Some false
    else if bytes_eq text (codes "stream") then Some false else None

-- Without a type a queue is a classic one.
unfoldable pub is_quorum : Data → Result Bool DefsFault
is_quorum arguments = by (get (codes "x-queue-type") arguments)
  where
    by : Option Data → Result Bool DefsFault
    by None = Ok false
    by (Some v) = required (BadArgument (codes "x-queue-type")) (option_and_then quorum_of (as_str v))

unfoldable pub quorum_queue : ℕ → List ℕ → Bool → Bool → Data → DraftState → Result DraftState DefsFault
quorum_queue nodes name durable auto arguments s =
    if is_name name then (if durable then (if auto then Err (BadArgument (codes "auto_delete")) else do
      args ← queue_args nodes (next_queue s) arguments
      Ok (declare nodes name args s)) else Err (BadArgument (codes "durable"))) else Err (BadArgument (codes "name"))

-- a queue of another type is passed over
unfoldable pub named_queue : ℕ → List ℕ → Bool → Bool → Data → DraftState → Result DraftState DefsFault
named_queue nodes name durable auto arguments s =
    if is_some (s.names name) then Err (BadArgument (codes "name")) else do
      quorum ← is_quorum arguments
      if quorum then quorum_queue nodes name durable auto arguments s else Ok (skip name s)

unfoldable pub own_queue : ℕ → Place → Data → DraftState → Result DraftState DefsFault
own_queue nodes at d s = do
  name ← text_at at (codes "name") d
  durable ← flag_at at (codes "durable") d
  auto ← flag_at at (codes "auto_delete") d
  arguments ← object_at at (codes "arguments") d
  named_queue nodes name durable auto arguments s

unfoldable pub kind_of : List ℕ → Option ExchangeKind
kind_of text =
    if bytes_eq text (codes "direct") then Some Direct else if bytes_eq text (codes "fanout") then Some Fanout
    else if bytes_eq text (codes "topic") then Some Topic else None

-- An exchange that is there already changes nothing where the type is the same.
abbrev pub add_or_find : List ℕ → ExchangeKind → Option ExchangeKind → DraftState → Result DraftState DefsFault
add_or_find name kind None s =
    Ok (record s {
      table = add_exchange s.table name kind;
      made = record s.made
          { exchanges = more s.made.exchanges };
    })
add_or_find name kind (Some there) s = if same_kind there kind then Ok s else Err (BadArgument (codes "type"))

unfoldable pub named_exchange : List ℕ → ExchangeKind → DraftState → Result DraftState DefsFault
named_exchange name kind s =
    if is_name name then add_or_find name kind (option_map (λ (e : ExchangeState). e.kind) (s.table.exchanges name))
    s else Err (BadArgument (codes "name"))

unfoldable pub own_exchange : Place → Data → DraftState → Result DraftState DefsFault
own_exchange at d s = do
  name ← text_at at (codes "name") d
  type ← text_at at (codes "type") d
  kind ← required (Unsupported type) (kind_of type)
  named_exchange name kind s

abbrev pub bind_queue : List ℕ → List ℕ → List ℕ → Option (Option QueueId) → DraftState → Result DraftState DefsFault
bind_queue source destination key (Some None) s =
    Ok (record s { made = record s.made { skipped_bindings = more s.made.skipped_bindings } })
bind_queue source destination key (Some (Some queue)) s =
    if is_bindable s.table source then Ok
    (record s {
      table = bind s.table source (record { queue = queue; key = key });
      made = record s.made
          { bindings = more s.made.bindings };
    }) else Err (UnknownTarget source)
bind_queue source destination key None s =
    if is_bindable s.table source then Err (UnknownTarget destination) else Err (UnknownTarget source)

-- a binding to a queue of another type is passed over, whatever its source
unfoldable pub named_binding : List ℕ → List ℕ → List ℕ → DraftState → Result DraftState DefsFault
named_binding source destination key s = bind_queue source destination key (s.names destination) s

-- A binding between these two may lead to a queue, and to nothing else.
unfoldable pub keyed_binding : Place → List ℕ → List ℕ → List ℕ → Data → DraftState → Result DraftState DefsFault
keyed_binding at type source destination d s = do
  key ← text_at at (codes "routing_key") d
  if bytes_eq type (codes "queue") then named_binding source destination key s else Err (Unsupported type)

unfoldable pub own_binding : Place → Data → DraftState → Result DraftState DefsFault
own_binding at d s = do
  source ← text_at at (codes "source") d
  destination ← text_at at (codes "destination") d
  type ← text_at at (codes "destination_type") d
  keyed_binding at type source destination d s

abbrev pub own_by : Section → ℕ → Place → Data → DraftState → Result DraftState DefsFault
own_by Queues nodes = own_queue nodes
own_by Exchanges nodes = own_exchange
own_by Bindings nodes = own_binding

-- an element of the default virtual host, by the list that it stands in
unfoldable pub own_element : ℕ → Place → Data → DraftState → Result DraftState DefsFault
own_element nodes at = own_by at.section nodes at

-- Elements of other virtual hosts are counted, and not looked at further.
unfoldable pub element_at : ℕ → Place → Data → DraftState → Result DraftState DefsFault
element_at nodes at d s = do
  vhost ← vhost_at at d
  if bytes_eq vhost (codes "/") then own_element nodes at d s else Ok (count_other s)
