-- What holds of a consumer at its client at each time.
use Rattle.std.specs.Prelude.{◌≡◌, ℕ, ◌<◌, ◌≤◌, List, [], ◌∷◌, map}
use Rattle.std.specs.List.{AllByRecursion}
use Rattle.qq_base.specs.declared.memory.TheConstants.{NUMBER_END}
use Rattle.qq_entry.specs.declared.answer.Delivery.{Delivery}
use Rattle.qq_consuming.specs.Consuming.{Received}

-- the ids rise
abbrev pub Rise : List Delivery → Type 0
Rise [] = Unit {0}
Rise (one ∷ more) = AllByRecursion (λ (other : Delivery). one.id < other.id) more × Rise more

-- ids count from 1, and what waits rises from the next one on
pub record IsReceived (r : Received) : Type 0 where
  pub positive : 0 < r.next
  pub rise : Rise r.waiting
  pub ahead : AllByRecursion (λ (one : Delivery). r.next ≤ one.id) r.waiting

-- each delivery under its id
abbrev pub keyed : List Delivery → List (ℕ × Delivery)
keyed waiting = map (λ (one : Delivery). (one.id, one)) waiting

-- what waits stands under its ids, and no id has passed the end of numbers
pub record IsKept (r : Received) (entries : List (ℕ × Delivery)) : Type 0 where
  pub received : IsReceived r
  pub under : entries ≡ keyed r.waiting
  pub within : r.next ≤ NUMBER_END
  pub below : AllByRecursion (λ (one : Delivery). one.id < NUMBER_END) r.waiting
