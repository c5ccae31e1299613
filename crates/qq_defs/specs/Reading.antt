-- Reading the fields of definitions, with the first fault that applies.
use Rattle.std.specs.Prelude.{◌≡◌, ℕ, ◌++◌, Bool, List, Option, Some, None, Result, Ok, Err, option_and_then, option_map, codes}
use Rattle.std.specs.Fmt.{decimal}
use Rattle.qq_base.specs.declared.memory.Memory.TheVariants.{Want}
use Rattle.serde_json.specs.Data.{Data}
use Rattle.serde_json.specs.Find.{get, as_str, as_bool, as_object}
use Rattle.qq_defs.specs.declared.fault.DefsFault.{DefsFault}
use Rattle.qq_defs.specs.declared.fault.DefsFault.TheVariants.{Json, NotObject, Missing, BadArgument, Unsupported, Policies, UnknownTarget, Limit, Memory}
use Rattle.qq_defs.specs.declared.fields.Section.{Section}
use Rattle.qq_defs.specs.declared.fields.Section.TheVariants.{Queues, Exchanges, Bindings}
use Rattle.qq_defs.specs.declared.fields.Place.{Place}

infixl 10 ◌>>=◌
abbrev pub ◌>>=◌ : {A B : Type 0} → Result A DefsFault → (A → Result B DefsFault) → Result B DefsFault
(Ok x) >>= f = f x
(Err e) >>= f = Err e

-- What a call answered is what reading gives, unless memory ran out.
abbrev pub Fails : {Y : Type 0} → DefsFault → Result Y DefsFault → Type 0
Fails (Memory m) read = m ≡ Want
Fails Json read = read ≡ Err Json
Fails NotObject read = read ≡ Err NotObject
Fails (Missing path) read = read ≡ Err (Missing path)
Fails (BadArgument name) read = read ≡ Err (BadArgument name)
Fails (Unsupported name) read = read ≡ Err (Unsupported name)
Fails Policies read = read ≡ Err Policies
Fails (UnknownTarget name) read = read ≡ Err (UnknownTarget name)
Fails (Limit count) read = read ≡ Err (Limit count)

abbrev pub Gives : {X Y : Type 0} → (X → Y) → Result X DefsFault → Result Y DefsFault → Type 0
Gives view (Ok x) read = read ≡ Ok (view x)
Gives view (Err e) read = Fails e read

-- An answer as it is seen, none where there was no memory for it.
abbrev pub with_memory : {X Y : Type 0} → (X → Y) → Result X DefsFault → Option (Result Y DefsFault)
with_memory view (Ok x) = Some (Ok (view x))
with_memory view (Err (Memory m)) = None
with_memory view (Err fault) = Some (Err fault)

abbrev pub required : {A : Type 0} → DefsFault → Option A → Result A DefsFault
required fault None = Err fault
required fault (Some x) = Ok x

abbrev pub section_name : Section → List ℕ
section_name Queues = codes "queues"
section_name Exchanges = codes "exchanges"
section_name Bindings = codes "bindings"

-- a field of an element, such as `queues[0].name`
unfoldable pub path : Place → List ℕ → List ℕ
path at field = section_name at.section ++ codes "[" ++ decimal at.index ++ codes "]." ++ field

unfoldable pub text_at : Place → List ℕ → Data → Result (List ℕ) DefsFault
text_at at field d = required (Missing (path at field)) (option_and_then as_str (get field d))

unfoldable pub flag_at : Place → List ℕ → Data → Result Bool DefsFault
flag_at at field d = required (Missing (path at field)) (option_and_then as_bool (get field d))

-- An absent virtual host is the default one (RabbitMQ, "Virtual Hosts").
unfoldable pub vhost_at : Place → Data → Result (List ℕ) DefsFault
vhost_at at d = vhost (get (codes "vhost") d)
  where
    vhost : Option Data → Result (List ℕ) DefsFault
    vhost None = Ok (codes "/")
    vhost (Some v) = required (Missing (path at (codes "vhost"))) (as_str v)

-- an object field, as the value that it is
unfoldable pub object_at : Place → List ℕ → Data → Result Data DefsFault
object_at at field d =
    required (Missing (path at field)) (option_and_then (λ v. option_map (λ _. v) (as_object v)) (get field d))
