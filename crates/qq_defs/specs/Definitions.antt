-- Exported definitions, as one value (RabbitMQ, "Definition Export and Import").
use Rattle.std.specs.Prelude.{ℕ, ◌+◌, Bool, true, false, ◌||◌, List, [], nat_lt, codes, Option, Some, None, Result, Ok, Err, option_and_then, if◌then◌else◌}
use Rattle.serde_json.specs.Data.{Data, Items, no_items, item, Members}
use Rattle.serde_json.specs.Find.{get, as_array, as_object}
use Rattle.std.specs.Str.{is_utf8}
use Rattle.serde_json.specs.Read.{read}
use Rattle.qq_route.specs.Routes.{new_table}
use Rattle.qq_defs.specs.declared.fault.DefsFault.{DefsFault}
use Rattle.qq_defs.specs.declared.fault.DefsFault.TheVariants.{Json, NotObject, Missing, Policies, Limit}
use Rattle.qq_defs.specs.declared.fields.Section.{Section}
use Rattle.qq_defs.specs.declared.fields.Section.TheVariants.{Queues, Exchanges, Bindings}
use Rattle.qq_defs.specs.declared.fields.Place.{Place}
use Rattle.qq_defs.specs.declared.definitions.TheConstants.{QUEUES_LIMIT}
use Rattle.qq_defs.specs.Reading.{◌>>=◌, required}
use Rattle.qq_defs.specs.Draft.{DraftState}
use Rattle.qq_route.specs.Setup.{SetupState}
use Rattle.qq_defs.specs.Elements.{element_at}

abbrev pub place : Section → ℕ → Place
place section index = record { section = section; index = index }

-- the elements of a list from a place on, until the first fault
abbrev pub elements : ℕ → Section → ℕ → Items → DraftState → Result DraftState DefsFault
elements nodes section n no_items s = Ok s
elements nodes section n (item d ds) s =
    element_at nodes (place section n) d s >>= elements nodes section (n + 1) ds

-- a list that must be there
unfoldable pub list_at : List ℕ → Data → Result Items DefsFault
list_at field d = required (Missing field) (option_and_then as_array (get field d))

-- a list that may be absent
unfoldable pub list_or_none : List ℕ → Data → Result Items DefsFault
list_or_none field d = by (get field d)
  where
    by : Option Data → Result Items DefsFault
    by None = Ok no_items
    by (Some v) = required (Missing field) (as_array v)

-- Queues must be there, even if there are none. The other lists may be absent.
unfoldable pub list_of : Section → Data → Result Items DefsFault
list_of Queues d = list_at (codes "queues") d
list_of Exchanges d = list_or_none (codes "exchanges") d
list_of Bindings d = list_or_none (codes "bindings") d

abbrev pub is_empty : Items → Bool
is_empty no_items = true
is_empty (item d ds) = false

-- Policies change queues in ways that nothing here follows. So they are refused, unless they are to be ignored.
unfoldable pub check_policies : Bool → Data → Result (Unit {0}) DefsFault
check_policies ignore d = do
  policies ← list_or_none (codes "policies") d
  if is_empty policies || ignore then Ok tt else Err Policies

abbrev pub first_state : DraftState
first_state =
    record {
      rows = [];
      names = λ name. None;
      table = new_table;
      made =
          record {
            queues = 0;
            exchanges = 0;
            bindings = 0;
            skipped_queues = 0;
            skipped_bindings = 0;
            other_vhosts = 0;
          };
    }

unfoldable pub with_section : ℕ → Section → Data → DraftState → Result DraftState DefsFault
with_section nodes section d s = do
  list ← list_of section d
  elements nodes section 0 list s

unfoldable pub within_limit : DraftState → Result DraftState DefsFault
within_limit s = if nat_lt QUEUES_LIMIT s.made.queues then Err (Limit s.made.queues) else Ok s

-- the faults in their order: policies, queues, exchanges, bindings, and the number of queues
unfoldable pub object_defs : Bool → ℕ → Data → Result DraftState DefsFault
object_defs ignore nodes d = do
  fine ← check_policies ignore d
  a ← with_section nodes Queues d first_state
  b ← with_section nodes Exchanges d a
  c ← with_section nodes Bindings d b
  within_limit c

abbrev pub is_there : Option Members → Bool
is_there None = false
is_there (Some ms) = true

unfoldable pub definitions : Bool → ℕ → Data → Result DraftState DefsFault
definitions ignore nodes d = if is_there (as_object d) then object_defs ignore nodes d else Err NotObject

-- the setup of what was read
abbrev pub as_setup : ℕ → ℕ → Result DraftState DefsFault → Result SetupState DefsFault
as_setup nodes log_bytes (Ok s) =
    Ok (record { nodes = nodes; queues = s.rows; table = s.table; log_bytes = log_bytes; made = Some s.made })
as_setup nodes log_bytes (Err fault) = Err fault

-- the value of the bytes, where they are UTF-8 and JSON
abbrev pub document : List ℕ → Option Data
document bytes = if is_utf8 bytes then read bytes else None

abbrev pub read_setup : Bool → ℕ → ℕ → Option Data → Result SetupState DefsFault
read_setup ignore nodes log_bytes None = Err Json
read_setup ignore nodes log_bytes (Some d) = as_setup nodes log_bytes (definitions ignore nodes d)
