-- The consumers of a queue's clients as their code keeps them, and what a fetch asks for.
use Rattle.std.specs.Prelude.{◌≡◌, List}
use Rattle.std.specs.List.{AllByRecursion}
use Rattle.qq_base.specs.declared.ids.ConsumerId.{ConsumerId}
use Rattle.qq_consuming.specs.Consuming.{Received, missing}
use Rattle.qq_consuming.specs.declared.consumers.Gap.{Gap}

-- each consumer stands under its id
abbrev pub AreOwn : List (ConsumerId × Received) → Type 0
AreOwn rows = AllByRecursion (λ (row : ConsumerId × Received). row.0 ≡ row.1.consumer) rows

abbrev pub gap : Received → Gap
gap r = record { consumer = r.consumer; missing = missing r }
