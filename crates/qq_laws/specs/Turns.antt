-- Which message is served first, and which consumer.
use Rattle.std.specs.Prelude.{◌≡◌, ◌≤◌, List, true, false, All}
use Rattle.qq_model.specs.declared.place.Key.{Key}
use Rattle.qq_model.specs.declared.place.Place.{Place}
use Rattle.qq_model.specs.declared.place.Place.TheVariants.{Ready}
use Rattle.qq_model.specs.declared.place.Row.{Row}
use Rattle.qq_model.specs.declared.consumer.Consumer.{Consumer}
use Rattle.qq_model.specs.Choice.{key_less, may_be_served}
use Rattle.qq_model.specs.Limits.{is_ready}
use Rattle.std.specs.Option.{IfSome}
use Rattle.qq_model.specs.Choice.{longest_waiting}

-- of two places in the queue the first doesn't come before the second
abbrev pub IsNotBefore : Place → Place → Type 0
IsNotBefore first second = (a b : Key) → first ≡ Ready a → second ≡ Ready b → key_less a b ≡ false

-- a message of the queue before which no other comes
pub record IsFirstMessage (rows : List Row) (row : Row) : Type 0 where
  pub ready : is_ready row.place ≡ true
  pub first : All (λ (other : Row). IsNotBefore other.place row.place) rows

-- a consumer that may be served, and has waited the longest of those that may
pub record HasWaitedLongest (rows : List Row) (consumers : List Consumer) (consumer : Consumer) : Type 0 where
  pub served : may_be_served rows consumer ≡ true
  pub longest : All (λ (other : Consumer). may_be_served rows other ≡ true → consumer.turn ≤ other.turn) consumers

-- the consumer that is served next has waited the longest
abbrev pub ServesInTurn : List Row → List Consumer → Type 0
ServesInTurn rows consumers = IfSome (longest_waiting rows consumers) (HasWaitedLongest rows consumers)
