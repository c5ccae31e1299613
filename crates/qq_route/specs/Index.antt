-- Bindings by their keys.
use Rattle.std.specs.Prelude.{◌≡◌, ℕ, List, [], ◌∷◌, ◌++◌, map, filter, if◌then◌else◌}
use Rattle.std.specs.Option.{option_map_or}
use Rattle.std.specs.Str.{bytes_eq}
use Rattle.std.specs.BTreeMap.{BTreeMap, get_by_text}
use Rattle.std.specs.declared.string.String.{String}
use Rattle.std.specs.declared.vec.Vec.{Vec}
use Rattle.qq_base.specs.declared.ids.QueueId.{QueueId}
use Rattle.qq_route.specs.declared.exchange.Binding.{Binding}

-- the queues that are bound under the key, in the order of the bindings
abbrev pub bound_under : List ℕ → List Binding → List QueueId
bound_under key bindings = map (λ (b : Binding). b.queue) (filter (λ (b : Binding). bytes_eq key b.key) bindings)

-- what an index has under a key
abbrev pub index_of : {Y Z : Type 0} → BTreeMap (String Y) (Vec QueueId Z) → List ℕ → List QueueId
index_of index key = option_map_or (λ v. v.items) (get_by_text index key) []

-- it has them
abbrev pub IsIndex : (List ℕ → List QueueId) → List Binding → Type 0
IsIndex index bindings = (key : List ℕ) → index key ≡ bound_under key bindings

-- one more queue under a key
abbrev pub with_queue : (List ℕ → List QueueId) → List ℕ → QueueId → List ℕ → List QueueId
with_queue index name queue key = if bytes_eq key name then index key ++ queue ∷ [] else index key
