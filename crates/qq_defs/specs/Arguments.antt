-- The arguments of a quorum queue (RabbitMQ, "Quorum Queues", "Queue Length Limit", "Dead Letter Exchanges").
use Rattle.std.specs.Prelude.{ℕ, ℤ, negsuc, ◌^◌, Bool, true, false, ◌&&◌, List, [], length, nat_eq, nat_lt, nat_le, ◌∷◌, codes, min, Option, Some, None, Result, Ok, Err, option_and_then, is_some, if◌then◌else◌}
use Rattle.std.specs.Ordering.{int_eq}
use Rattle.std.specs.Option.{unwrap_or}
use Rattle.std.specs.Str.{bytes_eq}
use Rattle.serde_json.specs.Data.{Data, Members, no_members, member}
use Rattle.serde_json.specs.Find.{get, as_str, as_bool, as_object, as_number, as_u64, as_i64}
use Rattle.qq_base.specs.declared.ids.QueueId.{QueueId}
use Rattle.qq_entry.specs.declared.limits.TheConstants.{KEY_LIMIT}
use Rattle.qq_entry.specs.declared.queue.TheConstants.{DELIVERY_LIMIT, LIVE_LIMIT}
use Rattle.qq_entry.specs.declared.queue.QueueArgs.{QueueArgs}
use Rattle.qq_entry.specs.declared.queue.Overflow.{Overflow}
use Rattle.qq_entry.specs.declared.queue.Overflow.TheVariants.{DropHead, RejectPublish}
use Rattle.qq_entry.specs.declared.queue.Strategy.{Strategy}
use Rattle.qq_entry.specs.declared.queue.Strategy.TheVariants.{Absent, AtMostOnce, AtLeastOnce}
use Rattle.qq_defs.specs.declared.fault.DefsFault.{DefsFault}
use Rattle.qq_defs.specs.declared.fault.DefsFault.TheVariants.{NotObject, BadArgument, Unsupported}
use Rattle.qq_defs.specs.declared.arguments.TheConstants.{GROUP}
use Rattle.qq_defs.specs.declared.arguments.Rule.{Rule}
use Rattle.qq_defs.specs.declared.arguments.Rule.TheVariants.{Group, Returns, Count, Full, ShortText, Letters, Flag, Ignored}
use Rattle.qq_defs.specs.Reading.{◌>>=◌}

abbrev pub number : Data → Option ℕ
number d = option_and_then as_u64 (as_number d)

-- an initial group size
unfoldable pub group_size : Data → Option ℕ
group_size d = option_and_then (λ n. if nat_lt 0 n && nat_lt n 8 then Some n else None) (number d)

-- a length, in messages or bytes
unfoldable pub count : Data → Option ℕ
count d = option_and_then (λ n. if nat_lt n (2 ^ 63) then Some n else None) (number d)

abbrev pub limit_of : Option ℕ → Option ℤ → Option (Option ℕ)
limit_of (Some n) z = Some (Some n)
limit_of None (Some z) = if int_eq z (negsuc 0) then Some None else None
limit_of None None = None

-- a delivery limit; -1 for none
unfoldable pub delivery_limit : Data → Option (Option ℕ)
delivery_limit d = limit_of (number d) (option_and_then as_i64 (as_number d))

unfoldable pub short_text : Data → Option (List ℕ)
short_text d = option_and_then (λ text. if nat_le (length text) KEY_LIMIT then Some text else None) (as_str d)

abbrev pub overflow_of : List ℕ → Option Overflow
overflow_of text =
    if bytes_eq text (codes "drop-head") then Some DropHead else if bytes_eq text (codes "reject-publish") then Some
    RejectPublish else None

unfoldable pub overflow : Data → Option Overflow
overflow d = option_and_then overflow_of (as_str d)

abbrev pub strategy_of : List ℕ → Option Strategy
strategy_of text =
    if bytes_eq text (codes "at-most-once") then Some AtMostOnce else if bytes_eq text (codes "at-least-once")
    then Some AtLeastOnce else None

unfoldable pub strategy : Data → Option Strategy
strategy d = option_and_then strategy_of (as_str d)

-- which rule an argument goes by; None for an argument that no rule knows
unfoldable pub rule_of : List ℕ → Option Rule
rule_of key =
    if bytes_eq key (codes "x-quorum-initial-group-size") then Some Group
    else if bytes_eq key (codes "x-delivery-limit") then Some Returns
    else if bytes_eq key (codes "x-max-length") then Some Count
    else if bytes_eq key (codes "x-max-length-bytes") then Some Count
    else if bytes_eq key (codes "x-overflow") then Some Full
    else if bytes_eq key (codes "x-dead-letter-exchange") then Some ShortText
    else if bytes_eq key (codes "x-dead-letter-routing-key") then Some ShortText
    else if bytes_eq key (codes "x-dead-letter-strategy") then Some Letters
    else if bytes_eq key (codes "x-single-active-consumer") then Some Flag
    else if bytes_eq key (codes "x-queue-type") then Some Ignored
    else if bytes_eq key (codes "x-queue-leader-locator") then Some Ignored
    else if bytes_eq key (codes "x-queue-version") then Some Ignored
    else if bytes_eq key (codes "x-max-in-memory-length") then Some Ignored
    else if bytes_eq key (codes "x-max-in-memory-bytes") then Some Ignored
    else None

unfoldable pub allows : Rule → Data → Bool
allows Group d = is_some (group_size d)
allows Returns d = is_some (delivery_limit d)
allows Count d = is_some (count d)
allows Full d = is_some (overflow d)
allows ShortText d = is_some (short_text d)
allows Letters d = is_some (strategy d)
allows Flag d = is_some (as_bool d)
allows Ignored d = true

-- whether a name begins as those of RabbitMQ's own arguments do, with x and a hyphen
abbrev pub is_own : List ℕ → Bool
is_own [] = false
is_own (a ∷ []) = false
is_own (a ∷ b ∷ rest) = nat_eq a 120 && nat_eq b 45

-- An unknown argument is refused where its name begins as RabbitMQ's own do.
unfoldable pub check_argument : List ℕ → Data → Result (Unit {0}) DefsFault
check_argument key d = check (rule_of key)
  where
    check : Option Rule → Result (Unit {0}) DefsFault
    check (Some rule) = if allows rule d then Ok tt else Err (BadArgument key)
    check None = if is_own key then Err (Unsupported key) else Ok tt

-- The arguments are looked at in the order of their names.
abbrev pub check_arguments : Members → Result (Unit {0}) DefsFault
check_arguments no_members = Ok tt
check_arguments (member key d others) = check_argument key d >>= (λ _. check_arguments others)

-- an argument's value, or what stands where it is absent
abbrev pub value_or : {A : Type 0} → (Data → Option A) → List ℕ → A → Data → A
value_or read key absent d = unwrap_or (option_and_then read (get key d)) absent

-- a value that may be absent
abbrev pub value : {A : Type 0} → (Data → Option A) → List ℕ → Data → Option A
value read key d = option_and_then read (get key d)

-- Without a dead-letter exchange there is no strategy, and at least once needs that publishes are refused.
abbrev pub strategy_with : Option (List ℕ) → Strategy → Overflow → Strategy
strategy_with None asked full = Absent
strategy_with (Some exchange) AtLeastOnce RejectPublish = AtLeastOnce
strategy_with (Some exchange) _ _ = AtMostOnce

-- the arguments of a queue over so many nodes
unfoldable pub args_of : ℕ → QueueId → Data → QueueArgs
args_of nodes queue d =
    let full = value_or overflow (codes "x-overflow") DropHead d in
    let exchange = value short_text (codes "x-dead-letter-exchange") d in
    record {
      queue = queue;
      group = min (value_or group_size (codes "x-quorum-initial-group-size") GROUP d) nodes;
      max_length = value count (codes "x-max-length") d;
      max_bytes = value count (codes "x-max-length-bytes") d;
      overflow = full;
      delivery_limit = value_or delivery_limit (codes "x-delivery-limit") (Some DELIVERY_LIMIT) d;
      single_active = value_or as_bool (codes "x-single-active-consumer") false d;
      strategy = strategy_with exchange (value_or strategy (codes "x-dead-letter-strategy") AtMostOnce d) full;
      dead_exchange = unwrap_or exchange [];
      dead_key = value short_text (codes "x-dead-letter-routing-key") d;
      live = LIVE_LIMIT;
    }

-- the arguments of a queue, where all are allowed
unfoldable pub queue_args : ℕ → QueueId → Data → Result QueueArgs DefsFault
queue_args nodes queue d = all (as_object d)
  where
    all : Option Members → Result QueueArgs DefsFault
    all None = Err NotObject
    all (Some members) = check_arguments members >>= (λ _. Ok (args_of nodes queue d))
