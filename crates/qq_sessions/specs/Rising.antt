-- Lists that rise by a key, with a value in the place of its key's.
use Rattle.std.specs.Prelude.{ℕ, ◌<◌, Bool, not, ◌&&◌, ◌||◌, nat_eq, nat_lt, List, [], ◌∷◌, ◌++◌, filter, length, slice_get, false}
use Rattle.std.specs.Option.{option_map_or}
use Rattle.std.specs.List.{AllByRecursion, list_any}
use Rattle.qq_base.specs.declared.ids.SessionId.{SessionId}
use Rattle.qq_model.specs.declared.session.Worker.{Worker}

-- each key is below those behind it
abbrev pub Rises : {A : Type 0} → (A → ℕ) → List A → Type 0
Rises key [] = Unit {0}
Rises key (x ∷ xs) = AllByRecursion (λ y. key x < key y) xs × Rises key xs

-- where a key stands, or would stand
abbrev pub place_of : {A : Type 0} → (A → ℕ) → ℕ → List A → ℕ
place_of key at xs = length (filter (λ x. nat_lt (key x) at) xs)

-- whether a key stands at a place
abbrev pub is_at : {A : Type 0} → (A → ℕ) → ℕ → ℕ → List A → Bool
is_at key at place xs = option_map_or (λ x. nat_eq (key x) at) (slice_get xs place) false

-- a list with this in the place of its key's
abbrev pub put_by : {A : Type 0} → (A → ℕ) → A → List A → List A
put_by key new xs = filter (λ x. nat_lt (key x) (key new)) xs ++ new ∷ filter (λ x. nat_lt (key new) (key x)) xs

abbrev pub number_key : ℕ → ℕ
number_key number = number

abbrev pub owner_key : Worker → ℕ
owner_key worker = worker.owner

-- a rising list, and for how many more there is memory
pub record Numbers : Type 0 where
  pub numbers : List ℕ
  pub room : ℕ

pub record Owners : Type 0 where
  pub workers : List Worker
  pub room : ℕ

-- whether a worker has a later number for the owner of a session, or the session's own where that isn't open
abbrev pub is_superseded : SessionId → Bool → Worker → Bool
is_superseded session still_open worker =
    nat_eq worker.owner session.owner
    && (nat_lt session.number worker.number || (nat_eq session.number worker.number && not still_open))

-- whether a worker of a source queue was seen
abbrev pub has_owner : ℕ → List Worker → Bool
has_owner owner workers = list_any (λ (worker : Worker). nat_eq worker.owner owner) workers
